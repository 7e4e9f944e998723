-- The walk finds what is promised: it is the first of the places that is at fault, and its number is that of the reading.
use mathlib.Core.Path.{◌≡◌, refl, sym, ap, subst, ◌∙◌}
use mathlib.Core.Bool.{Bool, true, false, cond}
use mathlib.Core.List.{List, [], ◌∷◌, ◌++◌}
use mathlib.Core.Logic.{⊎_elim}
use Prim.Native.Nat.{ℕ, zero, suc, ◌+◌, ◌*◌, ◌<◌}
use native.Mathlib.Omega.{arith}
use native.Mathlib.Nat.{eq-zero-or-pos}
use lib.ListN.{length}
use lib.Dec.{T, ltb, leb, eqb}
use borrow.Author.Tests.{ne_eqb, eqb-true, eqb-false, lt-ltb, ltb-true}
use Rattle.base.specs.Bytes.{byte_at, pair_at}
use Rattle.base.specs.Lists.{up_to}
use Rattle.base.specs.Refusals.{Refusal, ◌⇒◌, first_that, or_else, after}
use Rattle.base.proofs.Arrays.{up_to_same}
use Rattle.base.proofs.Cases.{test_cases}
use Rattle.base.proofs.Clear.{numbered}
use Rattle.base.proofs.Records.{after_even}
use Rattle.tables.specs.declared.Kind.{Kind}
use Rattle.tables.specs.Layout.{marker, device_place, tasks_place, task_count, jobs_place}
use Rattle.request.specs.declared.Section.{Section}
use Rattle.request.specs.declared.Section.TheVariants.{DeviceRecords, TaskRecords, JobRecords}
use Rattle.request.specs.Format.{size_of, records_fault, horizon_of, mixed, count_of, job_records, job_section, task_section, fault_as, refused}
use Rattle.request.proofs.Faultless.{read_faultless, read_fault}
use Rattle.faults.specs.declared.Place.TheVariants.{Horizon, DeviceCount, TaskCount, JobCount, End}
use Rattle.faults.specs.Places as P
use Rattle.faults.specs.Places.{Judged, place_at, no_fault, record_place, head_places, device_places, task_count_place, task_places, job_count_place, job_places, end_place, places_as, FaultAs}
use Rattle.faults.specs.inside.Walk.{or_next, records_walk, jobs_walk, job_walk, task_walk, walk}
use Rattle.faults.proofs.Walking.{cond_number, or_number, walk_number}

-- ---- the first of a list that is at fault, or no fault

abbrev first_in : List Judged → Judged
first_in [] = no_fault
first_in (f ∷ l) = or_next f (first_in l)

first_join : (a b : List Judged) → first_in (a ++ b) ≡ or_next (first_in a) (first_in b)
first_join [] b = refl
first_join (f ∷ a) b = test_cases (λ t. cond t (first_in (a ++ b)) f ≡ or_next (cond t (first_in a) f) (first_in b)) (eqb f.number 0) (λ e. first_join a b) (λ e. rw e)

first_in_lem : (l : List Judged) → ((first_in l).number ≡ 0 → ⊥) → P.FirstFault (first_in l) l
first_in_lem [] h = absurd (h refl)
first_in_lem (f ∷ l) h = go (eqb f.number 0) refl (first_in_lem l) h
  where
    go : (t : Bool) → eqb f.number 0 ≡ t → (((first_in l).number ≡ 0 → ⊥) → P.FirstFault (first_in l) l)
        → ((cond t (first_in l) f).number ≡ 0 → ⊥) → P.FirstFault (cond t (first_in l) f) (f ∷ l)
    go true e later k = P.FirstFault.later (eqb-true f.number 0 e) (later k)
    go false e later k = P.FirstFault.here k

none_in : (l : List Judged) → (first_in l).number ≡ 0 → first_in l ≡ no_fault
none_in [] h = refl
none_in (f ∷ l) h = go (eqb f.number 0) refl (none_in l) h
  where
    go : (t : Bool) → eqb f.number 0 ≡ t → ((first_in l).number ≡ 0 → first_in l ≡ no_fault) → (cond t (first_in l) f).number ≡ 0 → cond t (first_in l) f ≡ no_fault
    go true e later k = later k
    go false e later k = absurd (eqb-false f.number 0 e k)

-- ---- a place with a table: its tests in turn

abbrev chain : List Refusal → (ℕ → Judged) → Judged → Judged
chain [] p next = next
chain (r ∷ rs) p next = cond r.test (p r.number) (chain rs p next)

module _ (p : ℕ → Judged) (its : (n : ℕ) → (p n).number ≡ n) (next : Judged) where
  known : (n : ℕ) → T (ltb 0 n) → or_next (p n) next ≡ p n
  known n h = rw (its n, ne_eqb n 0 (λ z. omega (arith, ltb-true 0 n (sure (ltb 0 n) h))))
    where
      sure : (b : Bool) → T b → b ≡ true
      sure true t = refl
      sure false t = absurd t

  table_next : (rs : List Refusal) → numbered rs → or_next (p (first_that rs)) next ≡ chain rs p next
  table_next [] h = rw (its 0)
  table_next (r ∷ rs) h =
      test_cases (λ t. or_next (p (cond t r.number (first_that rs))) next ≡ cond t (p r.number) (chain rs p next)) r.test
      (λ e. known r.number h.0) (λ e. table_next rs h.1)

placed_number : (mark : ℕ) (q : _) (from to n : ℕ) → (place_at mark q from to n).number ≡ n
unfolding place_at
placed_number mark q from to n = refl

-- ---- the records of a section

up_to_front : {A : Type 0} (f : ℕ → A) (n : ℕ) → up_to f (suc n) ≡ f 0 ∷ up_to (λ i. f (suc i)) n
unfolding up_to
up_to_front f zero = refl
up_to_front f (suc n) = ap (λ (l : List _). l ++ (f (suc n) ∷ [])) (up_to_front f n)

module _ (mark : ℕ) (s : List ℕ) (k : Section) where
  abbrev records_at : (n i at : ℕ) → List Judged
  records_at n i at = up_to (λ j. record_place mark s k (i + j) (after (size_of s k) j at)) n

  records_first : (n i at : ℕ) → first_in (records_at n i at) ≡ records_walk mark s k n i at
  unfolding records_walk up_to
  records_first zero i at = refl
  records_first (suc n) i at =
      let none : i + 0 ≡ i = omega arith in
      let later : up_to (λ j. record_place mark s k (i + suc j) (after (size_of s k) (suc j) at)) n ≡ records_at n (suc i) (at + size_of s k at)
      = up_to_same _ _ n (λ j l. let e : i + suc j ≡ suc i + j = omega arith in rw e) in
      ap first_in (up_to_front (λ j. record_place mark s k (i + j) (after (size_of s k) j at)) n)
      ∙ ap (λ (x : ℕ). or_next (record_place mark s k x at) (first_in (up_to (λ j. record_place mark s k (i + suc j) (after (size_of s k) (suc j) at)) n))) none
      ∙ ap (λ (l : List Judged). or_next (record_place mark s k i at) (first_in l)) later
      ∙ ap (or_next (record_place mark s k i at)) (records_first n (suc i) (at + size_of s k at))

  section_first : (start : ℕ → ℕ) (n from : ℕ) → ((i : ℕ) → start i ≡ after (size_of s k) i from) → first_in (up_to (λ i. record_place mark s k i (start i)) n) ≡ records_walk mark s k n 0 from
  section_first start n from e = ap first_in (up_to_same _ _ n (λ i l. let z : 0 + i ≡ i = omega arith in rw (e i, z))) ∙ records_first n 0 from

-- ---- the sections, from the last to the first

module _ (mark : ℕ) (s : List ℕ) where
  end_first : (at : ℕ) → first_in (end_place mark s at ∷ []) ≡ cond (ltb at (length s)) (place_at mark End at (length s) 2) no_fault
  unfolding end_place
  end_first at = table_next (place_at mark End at (length s)) (placed_number mark End at (length s)) no_fault ((ltb at (length s) ⇒ 2) ∷ []) (tt, tt)

  job_first : (n tasks from at : ℕ) (l : List Judged) → first_in l ≡ records_walk mark s (JobRecords n (horizon_of s tasks from)) (byte_at s at) 0 (at + 1)
      → first_in (job_count_place mark s tasks from at (horizon_of s tasks from) ∷ (l ++ (end_place mark s (at + 1 + byte_at s at * 7) ∷ []))) ≡ job_walk mark s n tasks from at
  unfolding job_count_place job_walk jobs_walk
  job_first n tasks from at l e =
      let h = horizon_of s tasks from in
      let place = place_at mark JobCount at (at + 1) in
      let last = end_place mark s (at + 1 + byte_at s at * 7) ∷ [] in
      let table = (leb (length s) at ⇒ 1) ∷ (mixed tasks (pair_at s 0) (byte_at s at) ⇒ 11) ∷ (eqb h 0 ⇒ 10) ∷ (ltb 4096 h ⇒ 10) ∷ (ltb 16 (count_of s tasks from (byte_at s at) h) ⇒ 12) ∷ [] in
      table_next place (placed_number mark JobCount at (at + 1)) (first_in (l ++ last)) table (tt, (tt, (tt, (tt, (tt, tt)))))
      ∙ ap (chain table place)
      (first_join l last ∙ ap (λ (f : Judged). or_next f (first_in last)) e ∙ ap (or_next (records_walk mark s (JobRecords n h) (byte_at s at) 0 (at + 1))) (end_first (at + 1 + byte_at s at * 7)))

  task_first : (n at : ℕ) (l rest : List Judged) → first_in l ≡ records_walk mark s (TaskRecords n) (byte_at s at) 0 (at + 1)
      → first_in rest ≡ job_walk mark s n (byte_at s at) (at + 1) (at + 1 + byte_at s at * 5) → first_in (task_count_place mark s at ∷ (l ++ rest)) ≡ task_walk mark s n at
  unfolding task_count_place task_walk
  task_first n at l rest e e' =
      let place = place_at mark TaskCount at (at + 1) in
      let table = (leb (length s) at ⇒ 1) ∷ (ltb 8 (byte_at s at) ⇒ 6) ∷ [] in
      table_next place (placed_number mark TaskCount at (at + 1)) (first_in (l ++ rest)) table (tt, (tt, tt))
      ∙ ap (chain table place)
      (first_join l rest ∙ ap (λ (f : Judged). or_next f (first_in rest)) e ∙ ap (or_next (records_walk mark s (TaskRecords n) (byte_at s at) 0 (at + 1))) e')

  head_first : (k : Kind) (l rest : List Judged) → first_in l ≡ records_walk mark s (DeviceRecords k) (byte_at s 2) 0 3
      → first_in rest ≡ task_walk mark s (byte_at s 2) (tasks_place k s) → first_in (head_places mark s ++ (l ++ rest)) ≡ walk mark k s
  unfolding head_places walk
  head_first k l rest e e' =
      let field = place_at mark Horizon 0 2 in
      let place = place_at mark DeviceCount 2 3 in
      let table = (ltb (length s) 3 ⇒ 1) ∷ (ltb 8 (byte_at s 2) ⇒ 3) ∷ [] in
      table_next field (placed_number mark Horizon 0 2) (or_next (place (first_that table)) (first_in (l ++ rest))) ((ltb (length s) 2 ⇒ 1) ∷ []) (tt, tt)
      ∙ ap (chain ((ltb (length s) 2 ⇒ 1) ∷ []) field)
      (table_next place (placed_number mark DeviceCount 2 3) (first_in (l ++ rest)) table (tt, (tt, tt))
      ∙ ap (chain table place)
      (first_join l rest ∙ ap (λ (f : Judged). or_next f (first_in rest)) e ∙ ap (or_next (records_walk mark s (DeviceRecords k) (byte_at s 2) 0 3)) e'))

-- The walk is the first of the places that is at fault.
walk_first : (k : Kind) (s : List ℕ) → first_in (places_as k s) ≡ walk (length (marker k)) k s
unfolding places_as
walk_first k s =
    let mark = length (marker k) in
    let n = byte_at s 2 in
    let h = horizon_of s (task_count k s) (tasks_place k s + 1) in
    head_first mark s k (device_places mark k s) _
    (section_first mark s (DeviceRecords k) (device_place k s) n 3 (λ i. refl))
    (task_first mark s n (tasks_place k s) (task_places mark k s) _
    (section_first mark s (TaskRecords n) (λ i. tasks_place k s + 1 + i * 5) (task_count k s) (tasks_place k s + 1) (λ i. sym (after_even 5 i (tasks_place k s + 1))))
    (job_first mark s n (task_count k s) (tasks_place k s + 1) (jobs_place k s) (job_places mark k s)
    (section_first mark s (JobRecords n h) (λ j. jobs_place k s + 1 + j * 7) (byte_at s (jobs_place k s)) (jobs_place k s + 1) (λ i. sym (after_even 7 i (jobs_place k s + 1))))))

-- ---- its number is that of the reading

module _ (mark : ℕ) (s : List ℕ) where
  job_number_lem : (n tasks from at : ℕ) → (job_walk mark s n tasks from at).number ≡ job_section s n tasks from at
  unfolding job_walk jobs_walk job_section job_records
  job_number_lem n tasks from at =
      let h = horizon_of s tasks from in
      let its = placed_number mark JobCount at (at + 1) in
      let end = at + 1 + byte_at s at * 7 in
      cond_number (leb (length s) at) _ _ (its 1)
      (cond_number (mixed tasks (pair_at s 0) (byte_at s at)) _ _ (its 11)
      (cond_number (eqb h 0) _ _ (its 10)
      (cond_number (ltb 4096 h) _ _ (its 10)
      (cond_number (ltb 16 (count_of s tasks from (byte_at s at) h)) _ _ (its 12)
      (or_number (records_walk mark s (JobRecords n h) (byte_at s at) 0 (at + 1)) (cond (ltb end (length s)) (place_at mark End end (length s) 2) no_fault)
      (walk_number mark s (JobRecords n h) (byte_at s at) 0 (at + 1))
      (cond_number (ltb end (length s)) (place_at mark End end (length s) 2) no_fault (placed_number mark End end (length s) 2) refl))))))

  task_number : (n at : ℕ) → (task_walk mark s n at).number ≡ task_section s n at
  unfolding task_walk task_section
  task_number n at =
      let its = placed_number mark TaskCount at (at + 1) in
      let after_tasks = job_walk mark s n (byte_at s at) (at + 1) (at + 1 + byte_at s at * 5) in
      cond_number (leb (length s) at) _ _ (its 1)
      (cond_number (ltb 8 (byte_at s at)) _ _ (its 6)
      (or_number (records_walk mark s (TaskRecords n) (byte_at s at) 0 (at + 1)) after_tasks (walk_number mark s (TaskRecords n) (byte_at s at) 0 (at + 1))
      (job_number_lem n (byte_at s at) (at + 1) (at + 1 + byte_at s at * 5))))

  -- Where the horizon is not there, the device count is not there either.
  called_together : (r : ℕ) → cond (ltb (length s) 2) 1 (cond (ltb (length s) 3) 1 r) ≡ cond (ltb (length s) 3) 1 r
  called_together r =
      test_cases (λ t. cond t 1 (cond (ltb (length s) 3) 1 r) ≡ cond (ltb (length s) 3) 1 r) (ltb (length s) 2)
      (λ e. let few : length s < 3 = omega (arith, ltb-true (length s) 2 e) in rw (lt-ltb (length s) 3 few)) (λ e. refl)

  walk_fault : (k : Kind) → (walk mark k s).number ≡ fault_as k s
  unfolding walk fault_as
  walk_fault k =
      let its = placed_number mark DeviceCount 2 3 in
      let n = byte_at s 2 in
      cond_number (ltb (length s) 2) _ _ (placed_number mark Horizon 0 2 1)
      (cond_number (ltb (length s) 3) _ _ (its 1)
      (cond_number (ltb 8 n) _ _ (its 3)
      (or_number (records_walk mark s (DeviceRecords k) n 0 3) (task_walk mark s n (tasks_place k s)) (walk_number mark s (DeviceRecords k) n 0 3)
      (task_number n (tasks_place k s)))))
      ∙ called_together (cond (ltb 8 n) 3 (or_else (records_fault s (DeviceRecords k) n 3) (task_section s n (tasks_place k s))))

-- So it is what is promised.
pub walk_promised : (k : Kind) (s : List ℕ) → FaultAs k s (walk (length (marker k)) k s)
walk_promised k s =
    let f = walk (length (marker k)) k s in
    let its = walk_fault (length (marker k)) s k in
    let first = walk_first k s in
    let read = ap (λ (g : Judged). g.number) first ∙ its in
    ⊎_elim
    (λ z. subst (FaultAs k s) (sym (none_in (places_as k s) (read ∙ z)) ∙ first) (P.FaultAs.accepted (read_faultless k s (sym z))))
    (λ p.
    let some : fault_as k s ≡ 0 → ⊥ = λ z. omega arith in
    P.FaultAs.refused (read_fault k s some ∙ ap refused (sym its))
    (subst (λ (g : Judged). P.FirstFault g (places_as k s)) first (first_in_lem (places_as k s) (λ z. some (sym read ∙ z)))))
    (eq-zero-or-pos (fault_as k s))
