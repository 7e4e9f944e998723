-- The greedy run gives the first of all feasible schedules, and stands in the lent list as it does.
use mathlib.Core.Path.{◌≡◌, refl, sym, ap, ◌∙◌, subst}
use mathlib.Core.List.{List, [], ◌∷◌, ◌++◌}
use mathlib.Core.Logic.{inl, inr, ⊎_elim, by_cases}
use Prim.Native.Nat.{ℕ, ◌+◌, ◌-◌, ◌^◌, ◌≤◌, ◌<◌}
use native.Mathlib.Decide.{ℕ_discrete}
use native.Mathlib.Omega.{arith}
use lib.ListN.{length, get_or, set, drop, replicate, length-set, length-append, length-replicate, length-drop}
use lib.Seq.{get_or-set_same, get_or-set_other, ext_get_or, set-append_left, get_or-append-add, get_or-drop}
use lib.Pow.{pow_pos}
use Rattle.base.specs.Lists.{In, up_from, remove}
use Rattle.base.proofs.Numbers.{remove_in, in_remove, up_in}
use Rattle.schedule.specs.declared.Recorder.{Recorder}
use Rattle.schedule.specs.Quantities.{jobs, Valid}
use Rattle.schedule.specs.Listing.{Place, running}
use Rattle.schedule.specs.Visiting.{written}
use Rattle.schedule.proofs.Runs.{Run, FullRun, starts_by, all_known, run_feasible, run_running, feasible_run, feasible_starts}
use Rattle.possible.specs.TillFound.{First}
use Rattle.flat.specs.inside.Flat.{recorder_of}
use Rattle.latest.specs.inside.Latest.{latest_of, Laid, Greedy, Led}
use Rattle.latest.proofs.Members.{members_all}
use Rattle.latest.proofs.Feasibility.{feasible_latest}
use Rattle.latest.proofs.Tabled.{power_few}
use Rattle.latest.proofs.Ordering.{greedy_run, greedy_first}
use Rattle.planner.specs.Promises.{success, refusal, stops, gives_such}
use Rattle.planner.proofs.Refusing.{unless_enough, unless_some}
use Rattle.first.specs.Promises.{FirstOf}

-- ---- written over another list

module _ (R : Recorder) where
  -- Two lists that differ only at the jobs of a run are the same once it is written over them.
  written_same :
      (r : List Place) (t : ℕ) (u : List ℕ) → Run R t u r → (s s' : List ℕ) → length s ≡ length s' → ((j : ℕ) → In j u → j < length s)
      → ((j : ℕ) → (In j u → ⊥) → get_or s j 0 ≡ get_or s' j 0) → written r s ≡ written r s'
  unfolding written
  written_same [] t u h s s' e fits same = ext_get_or 0 s s' e (λ j l. same j (λ m. subst (In j) h m))
  written_same (p ∷ r) t u h s s' e fits same =
      written_same r _ (remove p.job u) h.3 (set s p.job p.start) (set s' p.job p.start)
      (length-set s p.job p.start ∙ e ∙ sym (length-set s' p.job p.start))
      (λ j m. rw (length-set s p.job p.start) (fits j (in_remove p.job j u m)))
      (λ j ne. by_cases (ℕ_discrete j p.job)
      (λ q. let l = fits p.job h.0 in
      rw q (get_or-set_same s p.job p.start 0 l ∙ sym (get_or-set_same s' p.job p.start 0 (omega arith))))
      (λ q. get_or-set_other s p.job j p.start 0 q ∙ same j (λ m. ne (remove_in p.job j u m q)) ∙ sym (get_or-set_other s' p.job j p.start 0 q)))

  -- What is lent beyond the jobs stays.
  written_front :
      (r : List Place) (t : ℕ) (u : List ℕ) → Run R t u r → (s l : List ℕ) → ((j : ℕ) → In j u → j < length s) → written r (s ++ l) ≡ written r s ++ l
  unfolding written
  written_front [] t u h s l fits = refl
  written_front (p ∷ r) t u h s l fits =
      rw (set-append_left s l p.job p.start (fits p.job h.0))
      (written_front r _ (remove p.job u) h.3 (set s p.job p.start) l
      (λ j m. rw (length-set s p.job p.start) (fits j (in_remove p.job j u m))))

  pub written_over : (r : List Place) → FullRun R r → (lent : List ℕ) → jobs R ≤ length lent → written r lent ≡ starts_by R r ++ drop (jobs R) lent
  written_over r h lent room =
      let z : List ℕ = replicate (jobs R) 0 in
      let long : length z ≡ jobs R = length-replicate {A = ℕ} (jobs R) 0 in
      let rest = drop (jobs R) lent in
      written_same r 0 (up_from 0 (jobs R)) h lent (z ++ rest) (omega (arith, length-append z rest, length-drop (jobs R) lent))
      (λ j m. omega (arith, all_known R j m))
      (λ j ne. past j (λ l. ne (up_in 0 (jobs R) j (omega arith) (omega arith))) long)
      ∙ written_front r 0 (up_from 0 (jobs R)) h z rest (λ j m. rw long (all_known R j m))
    where
      past : (j : ℕ) → (j < jobs R → ⊥) → length (replicate {A = ℕ} (jobs R) 0) ≡ jobs R → get_or lent j 0 ≡ get_or (replicate (jobs R) 0 ++ drop (jobs R) lent) j 0
      past j ne long =
          let e : length (replicate {A = ℕ} (jobs R) 0) + (j - jobs R) ≡ j = omega arith in
          let f : jobs R + (j - jobs R) ≡ j = omega arith in
          sym (ap (λ (i : ℕ). get_or (replicate (jobs R) 0 ++ drop (jobs R) lent) i 0) (sym e)
          ∙ get_or-append-add (replicate (jobs R) 0) (drop (jobs R) lent) (j - jobs R) 0
          ∙ get_or-drop (jobs R) lent (j - jobs R) 0 ∙ ap (λ (i : ℕ). get_or lent i 0) f)

  -- ---- the first

  module _ (valid : Valid R) where
    pub full_run : (r : List Place) → Greedy R 0 (2 ^ jobs R - 1) r → FullRun R r
    full_run r g = rw (members_all 0 (jobs R)) at (greedy_run R r 0 (2 ^ jobs R - 1) g)

    pub greedy_is_first : (r : List Place) → Greedy R 0 (2 ^ jobs R - 1) r → First R (starts_by R r)
    greedy_is_first r g =
        let h = full_run r g in
        record {
          feasible = run_feasible R r h;
          first = λ s f.
              let w = feasible_run R valid s f in
              ⊎_elim (λ e. inl (ap (starts_by R) e ∙ feasible_starts R valid s f)) (λ b. inr (rw (run_running R valid r h) b))
              (greedy_first R valid r (running R s) 0 (2 ^ jobs R - 1) (omega (arith, pow_pos (jobs R))) g (rw (members_all 0 (jobs R)) w));
        }

-- ---- the cases of `first_plan`, where f is the recorder laid flat, l the table, and m the set of all jobs

module _
    (R : Recorder) (valid : Valid R) (f : List ℕ) (flat : recorder_of f ≡ R) (l : List ℕ) (laid : Laid (recorder_of f) l) (m : ℕ)
    (all : m ≡ 2 ^ jobs (recorder_of f) - 1)
  where
    whole_is : get_or l m 0 ≡ latest_of R (2 ^ jobs R - 1)
    whole_is =
        rw (all, flat) ((subst (λ (x : Recorder). Laid x l) flat laid).laid (2 ^ jobs R - 1) (omega (arith, pow_pos (jobs R))))

    pub whole_known : m < 65536
    whole_known = omega (arith, ap (λ (x : Recorder). 2 ^ jobs x) flat, pow_pos (jobs R), power_few (jobs R) valid.few_jobs)

    module _ (lent : List ℕ) (room : jobs R ≤ length lent) where
      pub is_none : get_or l m 0 ≡ 0 → FirstOf lent R (refusal 19) lent
      is_none e = unless_enough room (stops (λ s w. omega (arith, feasible_latest R valid s w, whole_is)))

      pub is_ready : (get_or l m 0 ≡ 0 → ⊥)
          → Valid (recorder_of f) × (Laid (recorder_of f) l × ((jobs (recorder_of f) ≤ length lent) × (0 < latest_of (recorder_of f) (2 ^ jobs (recorder_of f) - 1))))
      is_ready ne =
          subst (λ (x : Recorder). Valid x × (Laid x l × ((jobs x ≤ length lent) × (0 < latest_of x (2 ^ jobs x - 1))))) (sym flat)
          (valid, (subst (λ (x : Recorder). Laid x l) flat laid, (room, omega (arith, whole_is))))

      pub is_found : (after : List ℕ) → Led (recorder_of f) lent after → FirstOf lent R (success R.horizon 0 0) after
      is_found after led =
          let w = subst (λ (x : Recorder). Led x lent after) flat led in
          let g = w.greedy in
          let s = greedy_is_first R valid w.places g in
          rw (w.is, written_over R w.places (full_run R valid w.places g) lent room) (unless_enough room (unless_some s.feasible (gives_such s)))
