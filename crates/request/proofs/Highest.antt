-- No fault of a file has another number than 0 to 13 and 26.
use mathlib.Core.Path.{◌≡◌, refl}
use mathlib.Core.Bool.{Bool, true, false, cond, ◌||◌}
use mathlib.Core.Logic.{◌⊎◌, inl, inr}
use mathlib.Core.List.{List, [], ◌∷◌}
use Prim.Native.Nat.{ℕ, zero, suc, ◌+◌, ◌-◌, ◌≤◌}
use lib.Dec.{T, leb, ltb, eqb}
use lib.ListN.{length}
use borrow.Author.Tests.{leb-true, eqb-true}
use Rattle.base.specs.Refusals.{Refusal, first_that, or_else, first_of}
use Rattle.base.proofs.Cases.{cond_cases}
use Rattle.tables.specs.declared.Kind.{Kind}
use Rattle.request.specs.declared.Section.{Section}
use Rattle.request.specs.declared.Section.TheVariants.{DeviceRecords, TaskRecords, JobRecords}
use Rattle.request.specs.Format.{size_of, head_of, powers_table, device_table, task_table, job_table, record_table, record_fault, records_fault, job_records, job_section, task_section, fault_as}

-- 0 to 13, or 26.
abbrev Known : ℕ → Type 0
Known n = T (leb n 13 || eqb n 26)

-- One test, and the first of two refusals.
stop_le : (t : Bool) (n rest : ℕ) → Known n → Known rest → Known (cond t n rest)
stop_le t n rest h l = cond_cases Known t (λ _. h) (λ _. l)

else_le : (f rest : ℕ) → Known f → Known rest → Known (or_else f rest)
else_le f rest h l = cond_cases Known (eqb f 0) (λ _. l) (λ _. h)

first_le : (f : ℕ → ℕ) (size : ℕ → ℕ) → ((at : ℕ) → Known (f at)) → (n at : ℕ) → Known (first_of f size n at)
unfolding first_of
first_le f size h zero at = tt
first_le f size h (suc n) at = else_le (f at) _ (h at) (first_le f size h n (at + size at))

-- A table that has only such numbers: at a written-out table `(tt, (tt, .. tt))`.
abbrev all_low : List Refusal → Type 0
all_low [] = Unit {0}
all_low (r ∷ rs) = Known r.number × all_low rs

table_le : (rs : List Refusal) → all_low rs → Known (first_that rs)
table_le [] h = tt
table_le (r ∷ rs) h = stop_le r.test r.number (first_that rs) h.0 (table_le rs h.1)

tables_low : (s : List ℕ) (k : Section) (at : ℕ) → all_low (record_table s k at)
unfolding record_table device_table powers_table task_table job_table
tables_low s (DeviceRecords k) at = (tt, (tt, (tt, (tt, (tt, (tt, (tt, (tt, (tt, (tt, (tt, tt)))))))))))
tables_low s (TaskRecords n) at = (tt, (tt, (tt, (tt, (tt, tt)))))
tables_low s (JobRecords n h) at = (tt, (tt, (tt, (tt, tt))))

records_le : (s : List ℕ) (k : Section) (n at : ℕ) → Known (records_fault s k n at)
unfolding record_fault
records_le s k n at =
    first_le (record_fault s k) (size_of s k) (λ i. stop_le (ltb (length s - i) (head_of k)) 1 _ tt (table_le (record_table s k i) (tables_low s k i))) n at

none_le : Known 0
none_le = tt

ruleset low = (stop_le, else_le, records_le, none_le)

jobs_le : (s : List ℕ) (n tasks from at h : ℕ) → Known (job_records s n tasks from at h)
unfolding job_records
jobs_le s n tasks from at h = search low

section_le : (s : List ℕ) (n tasks from at : ℕ) → Known (job_section s n tasks from at)
unfolding job_section
section_le s n tasks from at = search (low, jobs_le)

tasks_le : (s : List ℕ) (n at : ℕ) → Known (task_section s n at)
unfolding task_section
tasks_le s n at = search (low, section_le)

fault_le : (k : Kind) (s : List ℕ) → Known (fault_as k s)
unfolding fault_as
fault_le k s = search (low, tasks_le)

known : (n : ℕ) → Known n → (n ≤ 13) ⊎ (n ≡ 26)
known n = go (leb n 13) (eqb n 26) refl refl
  where
    go : (a b : Bool) → leb n 13 ≡ a → eqb n 26 ≡ b → T (a || b) → (n ≤ 13) ⊎ (n ≡ 26)
    go true b e f h = inl (leb-true n 13 e)
    go false true e f h = inr (eqb-true n 26 f)
    go false false e f h = absurd h

pub fault_known : (k : Kind) (s : List ℕ) → (fault_as k s ≤ 13) ⊎ (fault_as k s ≡ 26)
fault_known k s = known (fault_as k s) (fault_le k s)
