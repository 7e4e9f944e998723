-- What `least_plan` promises: its refusals after the file's, in their order, and what it gives (rules 116 to 118). Its 20 may depend on the memory that is lent, and no
-- other outcome does: proofs/Only says that all others are one for every file and every lent list, whatever the memory and the budget.
use Rattle.std.specs.Prelude.{◌≡◌, List, ◌⊎◌, ℕ, ◌<◌, length}
use Rattle.schedule.specs.declared.Recorder.{Recorder}
use Rattle.schedule.specs.Quantities.{jobs}
use Rattle.schedule.specs.Listing.{Feasible}
use Rattle.schedule.specs.Visiting.{vertices}
use Rattle.planner.specs.declared.Answer.{Answer}
use Rattle.planner.specs.Promises.{refusal, refusal_after, Unless, OfFile, GivesLeast, KeptUnless}
use Rattle.least.specs.Effort.{most_vertices}

-- Where there is a feasible schedule it may be given up, after as many vertices as the budget has, but only if more of them can be needed; else the first that
-- costs least is given, as the search gives it, and no count.
pub data OverOrLeast (budget : ℕ) (lent : List ℕ) (R : Recorder) : Answer → List ℕ → Type 0 where
  over : budget < most_vertices R → OverOrLeast budget lent R (refusal_after 20 budget) lent
  least : {a : Answer} {after : List ℕ} → GivesLeast R 0 lent a after → OverOrLeast budget lent R a after

abbrev pub LeastOf : (budget : ℕ) (lent : List ℕ) → Recorder → Answer → List ℕ → Type 0
LeastOf budget lent R =
    Unless (length lent < jobs R) (refusal 15) lent
    (Unless ((s : List ℕ) → Feasible R s → ⊥) (refusal 19) lent
    (OverOrLeast budget lent R))

abbrev pub LeastPlanned : List ℕ → ℕ → List ℕ → Answer → List ℕ → Type 0
LeastPlanned file budget lent a after = OfFile file lent (LeastOf budget lent) a after

-- ---- and more, which implies it (proofs/Weaker)

-- Where there is a feasible schedule the first that costs least is given, as the search gives it, and no count. It may be given up only where there are jobs and the search
-- has to be too, with a budget below the vertices that the visiting order counts (rule 118).
pub data CountedOrLeast (budget : ℕ) (lent : List ℕ) (R : Recorder) : Answer → List ℕ → Type 0 where
  over : 0 < jobs R → budget < vertices R → CountedOrLeast budget lent R (refusal_after 20 budget) lent
  least : {a : Answer} {after : List ℕ} → GivesLeast R 0 lent a after → CountedOrLeast budget lent R a after

abbrev pub CountedLeastOf : (budget : ℕ) (lent : List ℕ) → Recorder → Answer → List ℕ → Type 0
CountedLeastOf budget lent R =
    Unless (length lent < jobs R) (refusal 15) lent
    (Unless ((s : List ℕ) → Feasible R s → ⊥) (refusal 19) lent
    (CountedOrLeast budget lent R))

abbrev pub CountedLeastPlanned : List ℕ → ℕ → List ℕ → Answer → List ℕ → Type 0
CountedLeastPlanned file budget lent a after = OfFile file lent (CountedLeastOf budget lent) a after

-- A plan was looked for: it is given, or it was given up.
abbrev pub Sought : Answer → Type 0
Sought a = (a.number ≡ 0) ⊎ (a.number ≡ 20)

-- Nowhere else is the lent memory used.
abbrev pub LeastPlannedIn : (file : List ℕ) (budget : ℕ) (memory lent : List ℕ) → Answer → (memory' after : List ℕ) → Type 0
LeastPlannedIn file budget memory lent a memory' after = CountedLeastPlanned file budget lent a after × KeptUnless (Sought a) memory memory'
