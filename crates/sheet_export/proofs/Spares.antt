-- Start times that the planner's verdict accepts have natural margins, and small ones: what a plan's line can hold.
use mathlib.Core.Path.{◌≡◌, refl, sym, ap, subst, ◌∙◌}
use mathlib.Core.List.{List, [], ◌∷◌, ◌++◌, map}
use Prim.Native.Nat.{ℕ, zero, suc, ◌+◌, ◌<◌, ◌≤◌}
use native.Mathlib.Omega.{arith}
use native.Mathlib.Decide.{dec_lt}
use lib.IntN.{ℤ, pos, negsuc, nat_abs, pos-ne-negsuc}
use lib.ListN.{length, drop, get_or, replicate, length-append, length-drop, get_or-eq_default}
use lib.Dec.{T}
use lib.Signed.{non_neg}
use mir.Syntax.{w16, w32}
use mir.Val.{Fits, SFits, to_z, of_z}
use mir.Facts.{to_z-of_z}
use borrow.Author.Tests.{le-ltb}
use Rattle.base.specs.Lists.{up_to}
use Rattle.base.proofs.Arrays.{length_up_to}
use Rattle.base.proofs.Every.{Every, every_append, every_up_to, every_at}
use Rattle.schedule.specs.declared.Recorder.{Recorder}
use Rattle.schedule.specs.Quantities.{jobs, deadline, run, Valid}
use Rattle.schedule.specs.Listing.{Feasible, start, margin}
use Rattle.request.proofs.Accepted.{accepted_valid, refused_number}
use Rattle.planner.specs.declared.Answer.{Answer}
use Rattle.planner.specs.Promises.{Reads, Judged, Margined}
use Rattle.planner.specs.Promises as P
use Rattle.planner.proofs.Refusing.{faulty_met, unless_equal, unless_enough}
use Rattle.planner.proofs.Only.{only_margined}
use Rattle.sheet_export.specs.inside.Margins.{Spare}

-- The recorder that is read, with feasible starts.
pub record Planned (file starts : List ℕ) : Type 0 where
  pub recorder : Recorder
  pub reads : Reads file recorder
  pub feasible : Feasible recorder starts

pub planned : (file starts : List ℕ) {a : Answer} → Judged file starts a → a.number ≡ 0 → Planned file starts
planned file starts (P.OfFile.refused {n = n} r) e = absurd (omega (arith, refused_number file n r, e))
planned file starts (P.OfFile.read {R = R} r (P.stops u)) e = absurd (omega (arith, e))
planned file starts (P.OfFile.read {R = R} r (P.passes l t)) e = record { recorder = R; reads = r; feasible = (faulty_met R starts e t).0 }

-- ---- margins

spare_zero : Spare (pos 0)
spare_zero = record { natural = refl; small = omega arith }

spare_margin : (R : Recorder) (starts : List ℕ) → Valid R → Feasible R starts → (j : ℕ) → j < jobs R → Spare (margin R starts j)
spare_margin R starts v g j h =
    let t = g.in_time j h in
    rw (le-ltb (deadline R j) (start starts j + run R j) t) (record { natural = refl; small = omega (arith, v.ends j h, v.few_ticks) })

every_drop : (n : ℕ) (l : List ℤ) → Every Spare l → Every Spare (drop n l)
every_drop zero l h = h
every_drop (suc n) [] h = tt
every_drop (suc n) (z ∷ l) h = every_drop n l h.1

every_zero : (n : ℕ) → Every Spare (replicate n (pos 0))
every_zero zero = tt
every_zero (suc n) = (spare_zero, every_zero n)

pub natural_all : (l : List ℤ) → Every Spare l → l ≡ map pos (map nat_abs l)
natural_all [] h = refl
natural_all (z ∷ l) h = let e = h.0.natural in let f = natural_all l h.1 in cc

spare_at : (l : List ℤ) → Every Spare l → (j : ℕ) → Spare (get_or l j (pos 0))
spare_at l h j =
    elim (dec_lt j (length l)) [
      | yes k ↦ every_at Spare l (pos 0) h j k
      | no k ↦ subst Spare (sym (get_or-eq_default l (pos 0) (omega arith))) spare_zero
    ]

pub record Spares (starts : List ℕ) (after : List ℤ) : Type 0 where
  pub few : length starts ≤ 16
  pub long : length after ≡ 16
  pub each : (j : ℕ) → Spare (get_or after j (pos 0))
  pub naturals : after ≡ map pos (map nat_abs after)

pub spares : (file starts : List ℕ) → Planned file starts → {b : Answer} {after : List ℤ} → Margined file starts (replicate 16 (pos 0)) b after → Spares starts after
spares file starts p {b} {after} m =
    let R = p.recorder in
    let v = accepted_valid file R p.reads in
    let n : jobs R ≤ 16 = v.few_jobs in
    let room : jobs R ≤ length (replicate 16 (pos 0)) = n in
    let e : after ≡ up_to (margin R starts) (jobs R) ++ drop (jobs R) (replicate 16 (pos 0)) =
    (only_margined file starts (replicate 16 (pos 0)) m (P.OfFile.read p.reads (unless_equal p.feasible.one_each (unless_enough room P.gives)))).1 in
    let all : Every Spare after =
    subst (Every Spare) (sym e) (every_append Spare (up_to (margin R starts) (jobs R)) (drop (jobs R) (replicate 16 (pos 0)))
    (every_up_to Spare (margin R starts) (jobs R) (spare_margin R starts v p.feasible)) (every_drop (jobs R) (replicate 16 (pos 0)) (every_zero 16))) in
    record {
      few = omega (arith, p.feasible.one_each);
      long = ap length e ∙ rw (length-append (up_to (margin R starts) (jobs R)) (drop (jobs R) (replicate 16 (pos 0))), length_up_to (margin R starts) (jobs R)) (omega (arith, length-drop (jobs R) (replicate 16 (pos 0))));
      each = spare_at after all;
      naturals = natural_all after all;
    }

-- As an unsigned number of 16 bits.
pub spare_fits : (z : ℤ) → Spare z → T (non_neg z) × Fits w16 (nat_abs z)
spare_fits (pos n) s = (tt, record { fits = omega (arith, s.small) })
spare_fits (negsuc n) s = absurd (pos-ne-negsuc (suc n) n (sym s.natural))

-- As the machine reads it.
pub spare_read : (z : ℤ) → Spare z → to_z w32 (of_z w32 z) ≡ z
spare_read (pos n) s = let f : SFits w32 (pos n) = record { sfits = omega (arith, s.small) } in to_z-of_z f
spare_read (negsuc n) s = absurd (pos-ne-negsuc (suc n) n (sym s.natural))
