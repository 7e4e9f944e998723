-- Stepping fills places of the door's own, no more than a file can have devices: what is answered is what would be with as many as the lent bytes have room for.
use mathlib.Core.Path.{◌≡◌, refl, sym, ap, subst, ◌∙◌}
use mathlib.Core.List.{List, ◌++◌}
use Prim.Native.Nat.{ℕ, ◌*◌, ◌/◌, ◌≤◌, ◌<◌, min}
use native.Mathlib.Omega.{arith}
use lib.ListN.{length, get_or, drop, length-replicate, length-append, get_or-append}
use Rattle.base.specs.Lists.{up_to}
use Rattle.base.specs.Sums.{sum}
use Rattle.base.proofs.Arrays.{length_up_to}
use Rattle.schedule.specs.declared.Recorder.{Recorder}
use Rattle.schedule.specs.Quantities.{Valid}
use Rattle.schedule.specs.Listing.{Feasible}
use Rattle.steps.specs.Stepping.{spent}
use Rattle.planner.specs.declared.Answer.{Answer}
use Rattle.planner.specs.Promises.{success, passes, feasible, gives, OfFile}
use Rattle.planner.proofs.Refusing.{unless_met, faulty_met, unless_kept, faulty_kept, unless_alike, gives_is}
use Rattle.stepper.specs.Promises.{Unfit, Brief, StepsOf}
use Rattle.stepper.proofs.Fitting.{past}
use Rattle.calls.specs.Calls.{kept, given}
use Rattle.doorway.specs.Doors.{fours}
use Rattle.doorway.specs.inside.Handing.{Handed}
use Rattle.doorway.proofs.Opening.{spelled_all}
use Rattle.doorway.proofs.Fours.{fours_same}
use Rattle.doors.specs.Promises.{empty_energies, StepsSpelled}

module _ (file starts lent : List ℕ) (R : Recorder) (few : R.devices.count ≤ 8) (own : List ℕ) (fits : length own ≡ min (length lent / 4) 8) where
  abbrev n : ℕ
  n = R.devices.count

  abbrev energies : List ℕ
  energies = up_to (λ k. spent R k starts) R.devices.count

  -- What is answered with 0: nothing refuses.
  met : {a : Answer} {after : List ℕ} → a.number ≡ 0 → StepsOf file starts own R a after
      → (n ≤ length own) × Feasible R starts × (Unfit file R → ⊥) × (Brief R → ⊥) × (a ≡ success R.horizon (sum n (λ k. spent R k starts)) 0) × (after ≡ energies ++ drop n own)
  met z t =
      let p = unless_met z (λ q. omega (arith, q)) (unless_met z (λ q. omega (arith, q)) t).1 in
      let f = faulty_met R starts z p.1 in
      let u = unless_met z (λ q. omega (arith, q)) f.1 in
      let b = unless_met z (λ q. omega (arith, q)) u.1 in
      let room = p.0 in
      let is = gives_is b.1 in
      (omega (arith, room), f.0, u.0, b.0, is.0, is.1)

  pub steps_room : {a : Answer} {after : List ℕ} → a.number ≡ 0 → StepsOf file starts own R a after → (n ≤ length own) × (n ≤ length after)
  steps_room z t =
      let m = met z t in
      (m.0, rw m.5 (omega (arith, m.0, length_up_to (λ k. spent R k starts) n, length-append energies (drop n own))))

  pub steps_kept : {a : Answer} {after : List ℕ} → (a.number ≡ 0 → ⊥) → StepsOf file starts own R a after → StepsSpelled file starts lent R a lent
  steps_kept z t =
      kept z
      (unless_kept (λ u. u) (λ u. u)
      (unless_kept (λ s. rw length-replicate (omega (arith, s))) (λ s. let h : length lent / 4 < n = rw length-replicate at s in omega (arith, h))
      (faulty_kept R starts (unless_kept (λ u. u) (λ u. u) (unless_kept (λ u. u) (λ u. u) (λ g. absurd (z (ap (λ (x : Answer). x.number) (gives_is g).0))))))) t)

  pub steps_given : {a : Answer} {after : List ℕ} → a.number ≡ 0 → StepsOf file starts own R a after → StepsSpelled file starts lent R a (fours (λ k. get_or after k 0) n lent)
  steps_given z t =
      let m = met z t in
      let front : (l : List ℕ) (k : ℕ) → k < n → get_or (energies ++ l) k 0 ≡ get_or energies k 0 =
      λ l k i. get_or-append energies l 0 k (omega (arith, i, length_up_to (λ k. spent R k starts) n)) in
      let same = fours_same (λ k. get_or (energies ++ drop n (empty_energies lent)) k 0) (λ k. get_or (energies ++ drop n own) k 0) n
      (λ k i. front (drop n (empty_energies lent)) k i ∙ sym (front (drop n own) k i)) in
      rw (m.4, m.5)
      (subst (λ (x : List ℕ). StepsSpelled file starts lent R (success R.horizon (sum n (λ k. spent R k starts)) 0) (x ++ drop (n * 4) lent)) same
      (given refl (past R starts (empty_energies lent) m.1.one_each (rw length-replicate (omega (arith, m.0))) (feasible m.1 (passes m.2 (passes m.3 gives))))))

-- More start times than a file can have jobs are refused, however many they are.
many_steps : (file lent : List ℕ) (R : Recorder) → Valid R → (s s' : List ℕ) → 16 < length s → 16 < length s' → {a : Answer} {l : List ℕ}
    → StepsOf file s lent R a l → StepsOf file s' lent R a l
many_steps file lent R v s s' h h' = unless_alike (λ e. omega (arith, e, h, v.few_jobs)) (λ e. omega (arith, e, h', v.few_jobs))

pub steps_all : (file lent : List ℕ) {all some : List ℕ} → Handed all some
    → {a : Answer} {l : List ℕ} → OfFile file lent (StepsSpelled file some lent) a l → OfFile file lent (StepsSpelled file all lent) a l
steps_all file lent h p =
    spelled_all file lent (λ R a e. fours (λ k. get_or e k 0) R.devices.count lent) (λ s. StepsOf file s (empty_energies lent))
    (λ R v s s' g g' a m. many_steps file (empty_energies lent) R v s s' g g') h p
