-- The numbers of refusals (docs/RULES.md): what a check that passes gives has the number 0.
use Rattle.std.specs.Prelude.{ℕ, Result, Ok, Err}
use Rattle.base.specs.declared.reasons.Reason.{Reason}
use Rattle.base.specs.declared.reasons.Reason.TheVariants.{CutShort, GoesOn, ManyDevices, NoMoveTime, Powers, ManyTasks, Period, TaskRun, DeviceSet, Horizon, Mixed, ManyJobs, JobWindow, StartCount, NoRoom, Early, Late, Overlap, NoSchedule, Budget, PartNumber, PartTwice, PartLacking, BriefJob, UnlikePowers, LevelCount, StrayQuote, FieldCount, FieldNumber}

abbrev pub number_of : Reason → ℕ
number_of CutShort = 1
number_of GoesOn = 2
number_of ManyDevices = 3
number_of NoMoveTime = 4
number_of Powers = 5
number_of ManyTasks = 6
number_of Period = 7
number_of TaskRun = 8
number_of DeviceSet = 9
number_of Horizon = 10
number_of Mixed = 11
number_of ManyJobs = 12
number_of JobWindow = 13
number_of StartCount = 14
number_of NoRoom = 15
number_of Early = 16
number_of Late = 17
number_of Overlap = 18
number_of NoSchedule = 19
number_of Budget = 20
number_of PartNumber = 21
number_of PartTwice = 22
number_of PartLacking = 23
number_of BriefJob = 24
number_of UnlikePowers = 25
number_of LevelCount = 26
number_of StrayQuote = 27
number_of FieldCount = 28
number_of FieldNumber = 29

abbrev pub number_in : Result (Unit {0}) Reason → ℕ
number_in (Ok u) = 0
number_in (Err e) = number_of e
