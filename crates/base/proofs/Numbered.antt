-- What is refused has a number; what passes has 0.
use Rattle.std.specs.Prelude.{ℕ, ◌≡◌, ◌<◌, Result, Ok, Err, refl}
use Rattle.std.proofs.Common.{arith}
use Rattle.base.specs.Refusals.{or_else}
use Rattle.base.proofs.Paths.{stop, pass}
use Rattle.base.specs.declared.reasons.Reason.{Reason}
use Rattle.base.specs.declared.reasons.Reason.TheVariants.{CutShort, GoesOn, ManyDevices, NoMoveTime, Powers, ManyTasks, Period, TaskRun, DeviceSet, Horizon, Mixed, ManyJobs, JobWindow, StartCount, NoRoom, Early, Late, Overlap, NoSchedule, Budget, PartNumber, PartTwice, PartLacking, BriefJob, UnlikePowers, LevelCount, StrayQuote, FieldCount, FieldNumber}
use Rattle.base.specs.Reasons.{number_of, number_in}

pub some_number : (e : Reason) → 0 < number_of e
some_number CutShort = omega arith
some_number GoesOn = omega arith
some_number ManyDevices = omega arith
some_number NoMoveTime = omega arith
some_number Powers = omega arith
some_number ManyTasks = omega arith
some_number Period = omega arith
some_number TaskRun = omega arith
some_number DeviceSet = omega arith
some_number Horizon = omega arith
some_number Mixed = omega arith
some_number ManyJobs = omega arith
some_number JobWindow = omega arith
some_number StartCount = omega arith
some_number NoRoom = omega arith
some_number Early = omega arith
some_number Late = omega arith
some_number Overlap = omega arith
some_number NoSchedule = omega arith
some_number Budget = omega arith
some_number PartNumber = omega arith
some_number PartTwice = omega arith
some_number PartLacking = omega arith
some_number BriefJob = omega arith
some_number UnlikePowers = omega arith
some_number LevelCount = omega arith
some_number StrayQuote = omega arith
some_number FieldCount = omega arith
some_number FieldNumber = omega arith

pub not_0 : (e : Reason) → number_of e ≡ 0 → ⊥
not_0 e z = omega (arith, some_number e, z)

-- So the number 0 says that all is well.
pub passes_at_0 : (r : Result (Unit {0}) Reason) → number_in r ≡ 0 → r ≡ Ok _
passes_at_0 (Ok u) e = refl
passes_at_0 (Err e) q = absurd (omega (arith, some_number e))

-- A part's refusal that `?` hands on or passes over, in `or_else f rest`.
pub handed : (e : Reason) (f rest : ℕ) → number_of e ≡ f → number_of e ≡ or_else f rest
handed e f rest h = stop f rest (number_of e) h (not_0 e)

pub passed_over : {r : ℕ} (f rest : ℕ) → 0 ≡ f → r ≡ rest → r ≡ or_else f rest
passed_over f rest h k = pass f rest 0 h refl k
