-- What the operations give, as the answer that the promises speak of: figures with the number 0, or a refusal with its number.
use Rattle.std.specs.Prelude.{Result, Ok, Err}
use Rattle.base.specs.declared.reasons.Reason.{Reason}
use Rattle.base.specs.Reasons.{number_of}
use Rattle.schedule.specs.declared.judging.Misplaced.{Misplaced}
use Rattle.tables.specs.declared.Tables.{Tables}
use Rattle.tables.specs.Layout.{no_tables}
use Rattle.visit.specs.declared.Unfound.{Unfound}
use Rattle.planner.specs.declared.Answer.{Answer}
use Rattle.planner.specs.declared.FileTables.{FileTables}
use Rattle.planner.specs.declared.answers.Figures.{Figures}
use Rattle.planner.specs.declared.answers.Refusal.{Refusal}

abbrev pub answered : Result Figures Refusal → Answer
answered (Ok f) = record { number = 0; job = record { 0 = 0 }; horizon = f.horizon; energy = f.energy; count = f.count }
answered (Err e) = record { number = number_of e.reason; job = e.job; horizon = 0; energy = 0; count = e.count }

-- Refusals without a job or a count, with the job at fault, and with the count of a search.
abbrev pub plain : Reason → Refusal
plain e = record { reason = e; job = record { 0 = 0 }; count = 0 }

abbrev pub placed : Misplaced → Refusal
placed m = record { reason = m.reason; job = m.job; count = 0 }

abbrev pub unfound : Unfound → Refusal
unfound u = record { reason = u.reason; job = record { 0 = 0 }; count = u.count }

-- The tables of a file with their answer; none with a refusal.
pub record Listing : Type 0 where
  pub answer : Answer
  pub tables : Tables

abbrev pub listed_as : Result FileTables Refusal → Listing
listed_as (Ok f) = record { answer = answered (Ok (record { horizon = f.horizon; energy = 0; count = 0 })); tables = f.tables }
listed_as (Err e) = record { answer = answered (Err e); tables = no_tables }
