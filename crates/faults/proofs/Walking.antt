-- The code's walk, step by step: what `search` closes its returns with, and its number.
use mathlib.Core.Path.{◌≡◌, refl, sym, ap, ◌∙◌}
use mathlib.Core.Bool.{Bool, true, false, cond}
use mathlib.Core.List.{List}
use Prim.Native.Nat.{ℕ, zero, suc, ◌+◌, ◌-◌, ◌<◌, ◌≤◌, min}
use native.Mathlib.Omega.{arith}
use native.Mathlib.Numerals.{sub-one}
use lib.Dec.{eqb}
use borrow.Author.Tests.{eq-eqb, ne_eqb, eqb-true}
use Rattle.base.proofs.Cases.{test_cases}
use Rattle.base.proofs.Numbered.{some_number}
use Rattle.base.specs.Refusals.{or_else, first_of}
use Rattle.tables.specs.declared.Kind.TheVariants.{First, Second, Third}
use Rattle.request.specs.declared.Section.{Section}
use Rattle.request.specs.declared.Section.TheVariants.{DeviceRecords, TaskRecords, JobRecords}
use Rattle.request.specs.Format.{size_of, head_of, record_fault, records_fault}
use Rattle.request.proofs.Alike.{head_least}
use Rattle.faults.specs.declared.PlaceFault.{PlaceFault}
use Rattle.faults.specs.Places.{Judged, place_at, no_fault, at_fault, called_for, record_place}
use Rattle.faults.specs.inside.Walk.{or_next, records_walk, jobs_walk}

-- No record calls for more than 14 bytes.
size_few : (s : List ℕ) (k : Section) (at : ℕ) → size_of s k at ≤ 14
size_few s (DeviceRecords First) at = omega arith
size_few s (DeviceRecords Second) at = omega arith
size_few s (DeviceRecords Third) at = omega arith
size_few s (TaskRecords n) at = omega arith
size_few s (JobRecords n h) at = omega arith

pub called_few : (s : List ℕ) (k : Section) (at number : ℕ) → called_for s k at number ≤ 14
unfolding called_for
called_few s k at number = go (eqb number 4) (eqb number 26)
  where
    go : (a b : Bool) → cond a (head_of k) (cond b (head_of k) (size_of s k at)) ≤ 14
    go true b = omega (arith, head_least s k at, size_few s k at)
    go false true = omega (arith, head_least s k at, size_few s k at)
    go false false = size_few s k at

-- The number of a choice.
pub cond_number : (b : Bool) (f g : Judged) {x y : ℕ} → f.number ≡ x → g.number ≡ y → (cond b f g).number ≡ cond b x y
cond_number true f g e e' = e
cond_number false f g e e' = e'

pub or_number : (f g : Judged) {x y : ℕ} → f.number ≡ x → g.number ≡ y → (or_next f g).number ≡ or_else x y
or_number f g {x} {y} e e' = cond_number (eqb f.number 0) g f e' refl ∙ ap (λ (z : ℕ). or_else z y) e

-- A part that a function walked, with its result u.
module _ (f next u : Judged) where
  pub pass_next : {r : Judged} → u ≡ f → u.number ≡ 0 → r ≡ next → r ≡ cond (eqb f.number 0) next f
  pass_next e h k = rw (← e, eq-eqb u.number 0 h) k

  pub stop_here : u ≡ f → (u.number ≡ 0 → ⊥) → u ≡ cond (eqb f.number 0) next f
  stop_here e h = rw (← e, ne_eqb u.number 0 h)

-- A horizon that is not above the limit is the whole.
pub walk_within :
    {r : Judged} (mark : ℕ) (s : List ℕ) (n tasks from at h whole : ℕ) → h ≡ min whole 4097 → h ≤ 4096 → r ≡ jobs_walk mark s n tasks from at h → r ≡ jobs_walk mark s n tasks from at whole
walk_within mark s n tasks from at h whole e l k =
    let same : h ≡ whole = omega arith in
    k ∙ ap (jobs_walk mark s n tasks from at) same

pub ruleset walks = (pass_next, stop_here, walk_within)

-- ---- the records of a section, one at hand

module _ (mark : ℕ) (s : List ℕ) (k : Section) where
  pub record_number : (i at : ℕ) → (record_place mark s k i at).number ≡ record_fault s k at
  unfolding record_place place_at
  record_number i at = refl

  -- One record at fault, or none.
  pub one_stop : (i at : ℕ) (e : PlaceFault) → at_fault e ≡ or_next (record_place mark s k i at) no_fault → (at_fault e ≡ record_place mark s k i at) × ((at_fault e).number ≡ 0 → ⊥)
  one_stop i at e h =
      let some : (at_fault e).number ≡ 0 → ⊥ = λ z. omega (arith, some_number e.reason) in (
        test_cases (λ t. at_fault e ≡ cond t no_fault (record_place mark s k i at) → at_fault e ≡ record_place mark s k i at) (eqb (record_place mark s k i at).number 0)
            (λ b j. absurd (some (ap (λ (g : Judged). g.number) j))) (λ b j. j) h,
        some,
      )

  pub one_pass : (i at : ℕ) → no_fault ≡ or_next (record_place mark s k i at) no_fault → (record_place mark s k i at).number ≡ 0
  one_pass i at h =
      test_cases (λ t. no_fault ≡ cond t no_fault (record_place mark s k i at) → (record_place mark s k i at).number ≡ 0) (eqb (record_place mark s k i at).number 0)
      (λ b j. eqb-true _ 0 b) (λ b j. sym (ap (λ (g : Judged). g.number) j)) h

  -- no record is left
  pub walk_none : (n i at : ℕ) → n ≤ 0 → no_fault ≡ records_walk mark s k n i at
  unfolding records_walk
  walk_none zero i at h = refl
  walk_none (suc n) i at h = absurd (omega arith)

  -- the record at hand is at fault
  pub walk_stop : (n i at : ℕ) (f : Judged) → 0 < n → f ≡ record_place mark s k i at → (f.number ≡ 0 → ⊥) → f ≡ records_walk mark s k n i at
  unfolding records_walk
  walk_stop zero i at f h e z = absurd (omega arith)
  walk_stop (suc n) i at f h e z = rw (← e, ne_eqb f.number 0 z)

  -- it is not, and the next is at hand
  walk_pass : (n i at : ℕ) → 0 < n → (record_place mark s k i at).number ≡ 0 → records_walk mark s k n i at ≡ records_walk mark s k (n - 1) (suc i) (at + size_of s k at)
  unfolding records_walk
  walk_pass zero i at h e = absurd (omega arith)
  walk_pass (suc n) i at h e = rw (sub-one, eq-eqb (record_place mark s k i at).number 0 e)

  pub walk_next : (count i at : ℕ) → i < count → (record_place mark s k i at).number ≡ 0
      → records_walk mark s k (count - i) i at ≡ records_walk mark s k (count - (i + 1)) (i + 1) (at + size_of s k at)
  walk_next count i at h e =
      let fewer : count - i - 1 ≡ count - (i + 1) = omega arith in
      let more : suc i ≡ i + 1 = omega arith in
      walk_pass (count - i) i at (omega arith) e
      ∙ ap (λ (n : ℕ). records_walk mark s k n (suc i) (at + size_of s k at)) fewer
      ∙ ap (λ (j : ℕ). records_walk mark s k (count - (i + 1)) j (at + size_of s k at)) more

  -- Its number is that of the records.
  pub walk_number : (n i at : ℕ) → (records_walk mark s k n i at).number ≡ records_fault s k n at
  unfolding records_walk first_of
  walk_number zero i at = refl
  walk_number (suc n) i at =
      or_number (record_place mark s k i at) (records_walk mark s k n (suc i) (at + size_of s k at)) (record_number i at) (walk_number n (suc i) (at + size_of s k at))

-- So where it finds none, the section has no fault.
pub clear_records : (mark : ℕ) (s : List ℕ) (k : Section) (n at : ℕ) {f : Judged} → f ≡ records_walk mark s k n 0 at → f.number ≡ 0 → 0 ≡ records_fault s k n at
clear_records mark s k n at e z = sym z ∙ ap (λ (g : Judged). g.number) e ∙ walk_number mark s k n 0 at
