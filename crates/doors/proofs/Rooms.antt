-- The operations fill places of the door's own, no more than a file can need: what they answer is what they would with as many as the lent bytes have room for.
use mathlib.Core.Path.{◌≡◌, refl, sym, ap, subst, ◌∙◌}
use mathlib.Core.List.{List, ◌++◌}
use Prim.Native.Nat.{ℕ, ◌*◌, ◌/◌, ◌≤◌, ◌<◌, min}
use native.Mathlib.Omega.{arith}
use lib.IntN.{ℤ, pos}
use lib.ListN.{length, get_or, take, drop, length-replicate, length-append, get_or-append}
use lib.Seq.{take_at}
use Rattle.base.specs.Lists.{up_to}
use Rattle.base.proofs.Arrays.{length_up_to}
use Rattle.schedule.specs.declared.Recorder.{Recorder}
use Rattle.schedule.specs.Quantities.{jobs}
use Rattle.schedule.specs.Listing.{margin}
use Rattle.planner.specs.declared.Answer.{Answer}
use Rattle.planner.specs.Promises.{stops, passes, gives, gives_such, OfFile, MarginsOf}
use Rattle.planner.proofs.Refusing.{equal, unless_enough}
use Rattle.possible.specs.Promises.{PossibleOf}
use Rattle.calls.specs.Bytes.{spread}
use Rattle.calls.specs.Calls.{kept, given, blank, twos}
use Rattle.doorway.specs.Doors.{fours}
use Rattle.doorway.specs.inside.Handing.{Handed}
use Rattle.doorway.proofs.Opening.{spelled_all, many_margins}
use Rattle.doorway.proofs.Fours.{fours_same}
use Rattle.doors.specs.Promises.{complement, empty_margins, MarginsSpelled, PossibleSpelled}

-- ---- any plan

module _ (budget : ℕ) (lent : List ℕ) (R : Recorder) (few : jobs R ≤ 16) (own : List ℕ) (fits : length own ≡ min (length lent / 2) 16) where
  pub possible_room : {a : Answer} {after : List ℕ} → a.number ≡ 0 → PossibleOf budget own R a after → (jobs R ≤ length own) × (jobs R ≤ length after)
  possible_room z (stops h) = absurd (omega (arith, z))
  possible_room z (passes h (stops b)) = absurd (omega (arith, z))
  possible_room z (passes h (passes b (stops f))) = absurd (omega (arith, z))
  possible_room z (passes h (passes b (passes n (gives_such {x = s} f)))) = (omega (arith, h), omega (arith, h, f.feasible.one_each, length-append s (drop (jobs R) own)))

  pub possible_kept : {a : Answer} {after : List ℕ} → (a.number ≡ 0 → ⊥) → PossibleOf budget own R a after → PossibleSpelled budget lent R a lent
  possible_kept n (stops h) = kept n (stops (rw length-replicate (omega arith)))
  possible_kept n (passes h (stops b)) = kept n (unless_enough (rw length-replicate (omega (arith, h))) (stops b))
  possible_kept n (passes h (passes b (stops f))) = kept n (unless_enough (rw length-replicate (omega (arith, h))) (passes b (stops f)))
  possible_kept n (passes h (passes b (passes f (gives_such g)))) = absurd (n refl)

  pub possible_given : {a : Answer} {after : List ℕ} → a.number ≡ 0 → PossibleOf budget own R a after → PossibleSpelled budget lent R a (twos after (jobs R) lent)
  possible_given z (stops h) = absurd (omega (arith, z))
  possible_given z (passes h (stops b)) = absurd (omega (arith, z))
  possible_given z (passes h (passes b (stops f))) = absurd (omega (arith, z))
  possible_given {a = a} z (passes h (passes b (passes n (gives_such {x = s} f)))) =
      let front : (l : List ℕ) → take (jobs R) (s ++ l) ≡ s = λ l. take_at s l (jobs R) f.feasible.one_each in
      subst (λ (x : List ℕ). PossibleSpelled budget lent R a (spread x ++ drop (jobs R * 2) lent)) (front (drop (jobs R) (blank lent)) ∙ sym (front (drop (jobs R) own)))
      (given z (unless_enough (rw length-replicate (omega (arith, h))) (passes b (passes n (gives_such f)))))

-- ---- margins

module _ (starts lent : List ℕ) (R : Recorder) (few : jobs R ≤ 16) (own : List ℤ) (fits : length own ≡ min (length lent / 4) 16) where
  pub margins_room : {a : Answer} {after : List ℤ} → a.number ≡ 0 → MarginsOf starts own R a after
      → (length starts ≡ jobs R) × (jobs R ≤ length own) × (jobs R ≤ length after)
  margins_room z (stops u) = absurd (omega (arith, z))
  margins_room z (passes e (stops h)) = absurd (omega (arith, z))
  margins_room z (passes e (passes h gives)) =
      (equal (length starts) (jobs R) e, omega (arith, h), omega (arith, h, length_up_to (margin R starts) (jobs R), length-append (up_to (margin R starts) (jobs R)) (drop (jobs R) own)))

  pub margins_kept : {a : Answer} {after : List ℤ} → (a.number ≡ 0 → ⊥) → MarginsOf starts own R a after → MarginsSpelled starts lent R a lent
  margins_kept n (stops u) = kept n (stops u)
  margins_kept n (passes e (stops h)) = kept n (passes e (stops (rw length-replicate (omega arith))))
  margins_kept n (passes e (passes h gives)) = absurd (n refl)

  pub margins_given : {a : Answer} {after : List ℤ} → a.number ≡ 0 → MarginsOf starts own R a after
      → MarginsSpelled starts lent R a (fours (λ j. complement (get_or after j (pos 0))) (jobs R) lent)
  margins_given z (stops u) = absurd (omega (arith, z))
  margins_given z (passes e (stops h)) = absurd (omega (arith, z))
  margins_given {a = a} z (passes e (passes h gives)) =
      let m = up_to (margin R starts) (jobs R) in
      let front : (l : List ℤ) (j : ℕ) → j < jobs R → complement (get_or (m ++ l) j (pos 0)) ≡ complement (get_or m j (pos 0)) =
      λ l j k. ap complement (get_or-append m l (pos 0) j (omega (arith, k, length_up_to (margin R starts) (jobs R)))) in
      let same = fours_same (λ j. complement (get_or (m ++ drop (jobs R) (empty_margins lent)) j (pos 0))) (λ j. complement (get_or (m ++ drop (jobs R) own) j (pos 0))) (jobs R)
      (λ j k. front (drop (jobs R) (empty_margins lent)) j k ∙ sym (front (drop (jobs R) own) j k)) in
      subst (λ (x : List ℕ). MarginsSpelled starts lent R a (x ++ drop (jobs R * 4) lent)) same
      (given z (passes e (unless_enough (rw length-replicate (omega (arith, h))) gives)))

pub margins_all : (file lent : List ℕ) {all some : List ℕ} → Handed all some
    → {a : Answer} {l : List ℕ} → OfFile file lent (MarginsSpelled some lent) a l → OfFile file lent (MarginsSpelled all lent) a l
margins_all file lent h p =
    spelled_all file lent (λ R a m. fours (λ j. complement (get_or m j (pos 0))) (jobs R) lent) (λ s. MarginsOf s (empty_margins lent))
    (λ R v s s' g g' a m. many_margins R v (empty_margins lent) s s' g g') h p
