-- What the calls of the search come to.
use Rattle.std.specs.Prelude.{List, ℕ, suc, ◌+◌, ◌-◌, ◌/◌, ◌%◌, ◌≤◌, ◌<◌, max, eqb, take, Result, Ok, Err}
use Rattle.std.proofs.Math.Option.{Option}
use Rattle.schedule.specs.declared.Recorder.{Recorder}
use Rattle.base.specs.Lists.{In}
use Rattle.schedule.specs.Quantities.{jobs, run, deadline}
use Rattle.schedule.specs.Listing.{FirstLeast}
use Rattle.schedule.specs.Visiting.{Vertex, earliest, plan_energy}
use Rattle.schedule.proofs.Tree.{Reached}
use Rattle.latest.specs.inside.Latest.{Laid}
use Rattle.value.specs.inside.Options.{Answers, Holds}
use Rattle.value.specs.inside.Leasts.{least_of}
use Rattle.extras.specs.inside.Tabled.{Tabled, cap_at}
use Rattle.stored.specs.declared.Key.{Key}
pub use Rattle.stored.specs.inside.Naming.{of_devices, Named}
use Rattle.flat.specs.inside.Flat.{recorder_of}
use Rattle.least.specs.declared.search.Search.{Search}
use Rattle.least.specs.declared.search.Stop.{Stop}
use Rattle.least.specs.inside.Shown.{Shows}
use Rattle.least.specs.inside.Entries.{Right}
use Rattle.least.specs.Effort.{most_vertices}

-- ---- what is remembered

-- What is known is right for every vertex with the key q: half of it is a bound of the least, and the least itself where it is odd.
unfoldable pub Recalls : Recorder → (ℕ → ℕ) → Key → ℕ → Type 0
Recalls R cap q known =
    (m : ℕ) (v : Vertex) → Reached R (suc m) v → Named R cap q v → Holds (least_of R (suc m) v) (known / 2) (eqb (known % 2) 1)

-- What the search is lent: the table of extras, that of the latest times, and a memory in which every entry is right.
pub record Lent (R : Recorder) (extras latest memory : List ℕ) : Type 0 where
  pub tabled : Tabled R extras
  pub laid : Laid R latest
  pub right : Right (Recalls R (cap_at extras)) memory

-- The recorder that a search goes over; and what it is lent.
abbrev pub recorder : Search → Recorder
recorder s = recorder_of s.r.now

abbrev pub LentTo : Search → List ℕ → Type 0
LentTo s memory = Lent (recorder s) s.extras.now s.latest.now memory

-- Job j may start at s: the numbers show a vertex with it unplaced, which ends by then, and s lies in the job's window.
pub record Offers (R : Recorder) (l : List ℕ) (unplaced j s : ℕ) : Type 0 where
  pub left : ℕ
  pub vertex : Vertex
  pub shows : Shows R l unplaced (suc left) vertex
  pub job : In j vertex.unplaced
  pub early : earliest R vertex.time j ≤ s
  pub late : s + run R j ≤ deadline R j

-- ---- the budget

-- A call came to an answer with P, after at most n vertices more; or the budget is used up, which is less than n more.
abbrev pub Came : {A : Type 0} → ℕ → ℕ → ℕ → ℕ → (A → Type 0) → Result A Stop → Type 0
Came budget before after n P (Ok x) = (after ≤ before + n) × P x
Came budget before after n P (Err s) = budget < before + n

-- A number that is no more than `NEVER`, with P.
abbrev pub Small : (ℕ → Type 0) → ℕ → Type 0
Small P x = (x ≤ 2147483647) × P x

-- ---- one start

-- What is known of a child whose least is o, where its lead is `lead`, no more than `most` is asked for in all, and `ahead` was a bound of o: either that is enough,
-- or the child was entered.
pub data Tried (most lead ahead : ℕ) (o : Option ℕ) : ℕ → Type 0 where
  passed : most ≤ lead + ahead → Tried most lead ahead o ahead
  entered : {x : ℕ} → lead ≤ most → Answers (most - lead) o x → Tried most lead ahead o (max x ahead)

-- ---- all of it

-- The starts of the first of the least-energy schedules, by job number; or the budget was used up.
abbrev pub ReadOff : Recorder → ℕ → Result (List ℕ) Stop → Type 0
ReadOff R budget (Ok l) = FirstLeast R (take (jobs R) l) (plan_energy R (take (jobs R) l))
ReadOff R budget (Err s) = budget < most_vertices R
