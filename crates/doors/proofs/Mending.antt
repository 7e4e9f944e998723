-- Mending fills places of the door's own, no more than a file can need: what is answered is what would be with as many as the lent bytes have room for.
use mathlib.Core.Path.{◌≡◌, refl, sym, subst, ◌∙◌}
use mathlib.Core.List.{List, [], ◌∷◌, ◌++◌}
use Prim.Native.Nat.{ℕ, ◌*◌, ◌/◌, ◌≤◌, ◌<◌, min}
use native.Mathlib.Omega.{arith}
use lib.ListN.{length, take, drop, length-replicate, length-append}
use lib.Seq.{take_at}
use Rattle.schedule.specs.declared.Recorder.{Recorder}
use Rattle.schedule.specs.Quantities.{jobs, Valid}
use Rattle.planner.specs.declared.Answer.{Answer}
use Rattle.planner.specs.Promises.{OfFile}
use Rattle.mend.specs.Mending.{Move, moves, numbers}
use Rattle.mend.specs.Promises.{Lent, lending, Room, MendOf}
use Rattle.mend.specs.Promises as M
use Rattle.mend.proofs.Moves.{moves_few}
use Rattle.calls.specs.Bytes.{spread}
use Rattle.calls.specs.Calls.{kept, given, blank, twos}
use Rattle.doorway.specs.inside.Handing.{Handed}
use Rattle.doorway.proofs.Opening.{spelled_all}
use Rattle.doors.specs.Promises.{MendSpelled}

-- Three numbers for each move.
length_numbers : (l : List Move) → length (numbers l) ≡ 3 * length l
length_numbers [] = refl
length_numbers (m ∷ l) = omega (arith, length_numbers l)

module _ (starts : List ℕ) (lent : Lent) (R : Recorder) (few : jobs R ≤ 16) (own : Lent)
    (fits : length own.starts ≡ min (length lent.starts / 2) 16) (fits' : length own.moved ≡ min (length lent.moved / 2) 48) where
  -- There is room in the one where there is in the other.
  there : Room R own → Room R (lending (blank lent.starts) (blank lent.moved))
  there r = record { starts = rw length-replicate (omega (arith, r.starts)); moved = rw length-replicate (omega (arith, r.moved)) }

  back : Room R (lending (blank lent.starts) (blank lent.moved)) → Room R own
  back r =
      record {
        starts = omega (arith, rw length-replicate at r.starts);
        moved = omega (arith, rw length-replicate at r.moved);
      }

  pub mend_room : {a : Answer} {after : Lent} → a.number ≡ 0 → MendOf starts own R a after
      → (length starts ≡ jobs R) × Room R own × (jobs R ≤ length after.starts) × (a.count ≤ jobs R) × (3 * a.count ≤ length after.moved)
  mend_room z (M.MendOf.unequal u) = absurd (omega (arith, z))
  mend_room z (M.MendOf.short e h) = absurd (omega (arith, z))
  mend_room z (M.MendOf.late e h n o f) = absurd (omega (arith, z))
  mend_room z (M.MendOf.mended {s = s} e h m) =
      let c = moves starts s (jobs R) in (
        e,
        h,
        omega (arith, m.such.feasible.one_each, length-append s (drop (jobs R) own.starts)),
        moves_few starts s (jobs R),
        omega (arith, length_numbers c, length-append (numbers c) (drop (3 * length c) own.moved)),
      )

  pub mend_kept : {a : Answer} {after : Lent} → (a.number ≡ 0 → ⊥) → MendOf starts own R a after → MendSpelled starts lent R a lent
  mend_kept n (M.MendOf.unequal u) = kept n (M.MendOf.unequal u)
  mend_kept n (M.MendOf.short e h) = kept n (M.MendOf.short e (λ r. h (back r)))
  mend_kept n (M.MendOf.late e h f o l) = kept n (M.MendOf.late e (there h) f o l)
  mend_kept n (M.MendOf.mended e h m) = absurd (n refl)

  pub mend_given : {a : Answer} {after : Lent} → a.number ≡ 0 → MendOf starts own R a after
      → MendSpelled starts lent R a (lending (twos after.starts (jobs R) lent.starts) (twos after.moved (3 * a.count) lent.moved))
  mend_given z (M.MendOf.unequal u) = absurd (omega (arith, z))
  mend_given z (M.MendOf.short e h) = absurd (omega (arith, z))
  mend_given z (M.MendOf.late e h n o f) = absurd (omega (arith, z))
  mend_given {a = a} z (M.MendOf.mended {s = s} e h m) =
      let c = moves starts s (jobs R) in
      let front : (l : List ℕ) → take (jobs R) (s ++ l) ≡ s = λ l. take_at s l (jobs R) m.such.feasible.one_each in
      let front' : (l : List ℕ) → take (3 * length c) (numbers c ++ l) ≡ numbers c = λ l. take_at (numbers c) l (3 * length c) (length_numbers c) in
      subst (λ (x : List ℕ). MendSpelled starts lent R a
      (lending (spread x ++ drop (jobs R * 2) lent.starts) (twos (numbers c ++ drop (3 * length c) own.moved) (3 * length c) lent.moved)))
      (front (drop (jobs R) (blank lent.starts)) ∙ sym (front (drop (jobs R) own.starts)))
      (subst (λ (x : List ℕ). MendSpelled starts lent R a
      (lending (twos (s ++ drop (jobs R) (blank lent.starts)) (jobs R) lent.starts) (spread x ++ drop (3 * length c * 2) lent.moved)))
      (front' (drop (3 * length c) (blank lent.moved)) ∙ sym (front' (drop (3 * length c) own.moved)))
      (given z (M.MendOf.mended e (there h) m)))

-- More start times than a file can have jobs are refused, however many they are.
many_mend : (R : Recorder) → Valid R → (lent : Lent) (s s' : List ℕ) → 16 < length s → 16 < length s' → {a : Answer} {l : Lent}
    → MendOf s lent R a l → MendOf s' lent R a l
many_mend R v lent s s' h h' (M.MendOf.unequal u) = M.MendOf.unequal (λ e. omega (arith, e, h', v.few_jobs))
many_mend R v lent s s' h h' (M.MendOf.short e r) = absurd (omega (arith, e, h, v.few_jobs))
many_mend R v lent s s' h h' (M.MendOf.late e r n o f) = absurd (omega (arith, e, h, v.few_jobs))
many_mend R v lent s s' h h' (M.MendOf.mended e r m) = absurd (omega (arith, e, h, v.few_jobs))

pub mend_all : (file : List ℕ) (lent : Lent) {all some : List ℕ} → Handed all some
    → {a : Answer} {l : Lent} → OfFile file lent (MendSpelled some lent) a l → OfFile file lent (MendSpelled all lent) a l
mend_all file lent h p =
    spelled_all file lent (λ R a l. lending (twos l.starts (jobs R) lent.starts) (twos l.moved (3 * a.count) lent.moved))
    (λ s. MendOf s (lending (blank lent.starts) (blank lent.moved)))
    (λ R v s s' g g' a m. many_mend R v (lending (blank lent.starts) (blank lent.moved)) s s' g g') h p
