-- The shape of a device's extras says what it should: from the foot on a longer gap has no less, and before it no less than what a fall leads to.
use mathlib.Core.Path.{◌≡◌, refl, sym, ap, ◌∙◌}
use mathlib.Core.Bool.{Bool, true, false}
use mathlib.Core.Logic.{⊎_elim}
use Prim.Native.Nat.{ℕ, zero, suc, ◌+◌, ◌-◌, ◌≤◌, ◌<◌, max, min}
use native.Mathlib.Nat.{eq-or-lt_of_le}
use native.Mathlib.Numerals.{add-one}
use native.Mathlib.Omega.{arith}
use lib.Dec.{ltb}
use borrow.Author.Tests.{ltb-true, ltb-false}
use Rattle.base.proofs.Cases.{cond_cases}
use Rattle.device.specs.declared.Device.{Device}
use Rattle.keys.specs.inside.Keys.{extra}
use Rattle.keys.proofs.Extras.{extra_none}
use Rattle.extras.specs.declared.shape.Shape.{Shape}
use Rattle.extras.specs.inside.Shapes.{Climbs, Lands, Shaped, shape_with, extra_before, shape_of}

-- ---- gap by gap

module _ (d : Device) where
  pub shape_none : record { cap = 0; rise = 0; fall = 0; foot = 0; low = 4294967295 } ≡ shape_of d 0
  unfolding shape_of
  shape_none = refl

  pub before_none : 0 ≡ extra_before d 0
  unfolding extra_before
  before_none = refl

  module _ (n : ℕ) {y : ℕ} (e : y ≡ extra d n) where
    pub shape_next : {s t : Shape} {g x : ℕ} → s ≡ shape_of d n → g ≡ n → x ≡ extra_before d n → t ≡ shape_with s g x y → t ≡ shape_of d (n + 1)
    unfolding shape_of
    shape_next a b c f = f ∙ rw (a, b, c, e, add-one n)

    pub before_next : y ≡ extra_before d (n + 1)
    unfolding extra_before
    before_next = e ∙ rw (add-one n)

-- ---- what it says

module _ (d : Device) where
  -- From the foot on, a longer gap has no smaller extra.
  pub climbs_on : {h n : ℕ} → Climbs d h n → (g i : ℕ) → n ≤ g → g ≤ i → i ≤ h → extra d g ≤ extra d i
  climbs_on c g zero a b m = let same : g ≡ zero = omega arith in rw same (omega arith)
  climbs_on c g (suc i) a b m =
      ⊎_elim (λ (e : g ≡ suc i). rw e (omega arith))
      (λ q. omega (arith, climbs_on c g i a (omega arith) (omega arith), c i (omega arith) (omega arith))) (eq-or-lt_of_le b)

  -- A longer gap has no smaller extra, or one that a fall led to.
  pub lands_on : {h n : ℕ} → Lands d h n → (g i : ℕ) → g ≤ i → i ≤ h → min (extra d g) n ≤ extra d i
  lands_on c g zero b m = let same : g ≡ zero = omega arith in rw same (omega arith)
  lands_on {n = n} c g (suc i) b m =
      ⊎_elim (λ (e : g ≡ suc i). rw e (omega arith))
      (λ q. go (lands_on c g i (omega arith) (omega arith)) (ltb (extra d (suc i)) (extra d i)) refl) (eq-or-lt_of_le b)
    where
      go : min (extra d g) n ≤ extra d i → (z : Bool) → ltb (extra d (suc i)) (extra d i) ≡ z → min (extra d g) n ≤ extra d (suc i)
      go h true f = omega (arith, c i (omega arith) (ltb-true (extra d (suc i)) (extra d i) f))
      go h false f = omega (arith, h, ltb-false (extra d (suc i)) (extra d i) f)

  module _ (most : ℕ) where
    -- One gap more.
    module _ (h : ℕ) (s : Shape) (b : Shaped d most h s) where
      shaped_up : extra d (suc h) ≤ most → extra d h < extra d (suc h)
          → Shaped d most (suc h) (record { cap = suc h; rise = max s.rise (extra d (suc h) - extra d h); fall = s.fall; foot = s.foot; low = s.low })
      shaped_up few up = record {
        cap = λ g l m. let same : g ≡ suc h = omega arith in ap (extra d) same;
        cap_most = omega arith;
        rise = λ i l m. ⊎_elim (λ (e : i ≡ h). rw e (omega arith)) (λ q. omega (arith, b.rise i l q)) (eq-or-lt_of_le {n = i} {m = h} (omega arith));
        rise_most = omega (arith, b.rise_most);
        fall = λ i m. ⊎_elim (λ (e : i ≡ h). rw e (omega arith)) (λ q. b.fall i q) (eq-or-lt_of_le {n = i} {m = h} (omega arith));
        fall_most = b.fall_most;
        foot = λ i l m. ⊎_elim (λ (e : i ≡ h). rw e (omega arith)) (λ q. b.foot i l q) (eq-or-lt_of_le {n = i} {m = h} (omega arith));
        low = λ i m f. ⊎_elim (λ (e : i ≡ h). absurd (let x = rw e at f in omega arith)) (λ q. b.low i q f) (eq-or-lt_of_le {n = i} {m = h} (omega arith));
      }

      shaped_down : extra d h ≤ most → extra d (suc h) < extra d h
          → Shaped d most (suc h) (record { cap = suc h; rise = s.rise; fall = max s.fall (extra d h - extra d (suc h)); foot = suc h; low = min s.low (extra d (suc h)) })
      shaped_down few down = record {
        cap = λ g l m. let same : g ≡ suc h = omega arith in ap (extra d) same;
        cap_most = omega arith;
        rise = λ i l m. ⊎_elim (λ (e : i ≡ h). rw e (omega arith)) (λ q. b.rise i l q) (eq-or-lt_of_le {n = i} {m = h} (omega arith));
        rise_most = b.rise_most;
        fall = λ i m. ⊎_elim (λ (e : i ≡ h). rw e (omega arith)) (λ q. omega (arith, b.fall i q)) (eq-or-lt_of_le {n = i} {m = h} (omega arith));
        fall_most = omega (arith, b.fall_most);
        foot = λ i l m. absurd (omega arith);
        low = λ i m f. ⊎_elim (λ (e : i ≡ h). rw e (omega arith)) (λ q. omega (arith, b.low i q f)) (eq-or-lt_of_le {n = i} {m = h} (omega arith));
      }

      shaped_level : extra d (suc h) ≡ extra d h → Shaped d most (suc h) s
      shaped_level same = record {
        cap = λ g l m. ⊎_elim (λ (e : g ≡ suc h). ap (extra d) e) (λ q. b.cap g l (omega arith) ∙ sym same) (eq-or-lt_of_le m);
        cap_most = omega (arith, b.cap_most);
        rise = λ i l m. ⊎_elim (λ (e : i ≡ h). rw e (omega arith)) (λ q. b.rise i l q) (eq-or-lt_of_le {n = i} {m = h} (omega arith));
        rise_most = b.rise_most;
        fall = λ i m. ⊎_elim (λ (e : i ≡ h). rw e (omega arith)) (λ q. b.fall i q) (eq-or-lt_of_le {n = i} {m = h} (omega arith));
        fall_most = b.fall_most;
        foot = λ i l m. ⊎_elim (λ (e : i ≡ h). rw e (omega arith)) (λ q. b.foot i l q) (eq-or-lt_of_le {n = i} {m = h} (omega arith));
        low = λ i m f. ⊎_elim (λ (e : i ≡ h). absurd (let x = rw e at f in omega arith)) (λ q. b.low i q f) (eq-or-lt_of_le {n = i} {m = h} (omega arith));
      }

      shaped_next : extra d h ≤ most → extra d (suc h) ≤ most → Shaped d most (suc h) (shape_with s (suc h) (extra d h) (extra d (suc h)))
      unfolding shape_with
      shaped_next few more =
          cond_cases (Shaped d most (suc h)) (ltb (extra d h) (extra d (suc h)))
          (λ q. shaped_up more (ltb-true (extra d h) (extra d (suc h)) q))
          (λ q. cond_cases (Shaped d most (suc h)) (ltb (extra d (suc h)) (extra d h))
          (λ p. shaped_down few (ltb-true (extra d (suc h)) (extra d h) p))
          (λ p. shaped_level (omega (arith, ltb-false (extra d h) (extra d (suc h)) q, ltb-false (extra d (suc h)) (extra d h) p))))

    shaped_first : Shaped d most 0 (shape_of d 1)
    unfolding shape_of shape_with extra_before
    shaped_first = rw (extra_none d) (record {
      cap = λ g l m. let same : g ≡ 0 = omega arith in ap (extra d) same;
      cap_most = omega arith;
      rise = λ i l m. absurd (omega arith);
      rise_most = omega arith;
      fall = λ i m. absurd (omega arith);
      fall_most = omega arith;
      foot = λ i l m. absurd (omega arith);
      low = λ i m f. absurd (omega arith);
    })

    pub shape_of_lem : (h : ℕ) → ((g : ℕ) → g ≤ h → extra d g ≤ most) → Shaped d most h (shape_of d (suc h))
    unfolding shape_of extra_before
    shape_of_lem zero few = shaped_first
    shape_of_lem (suc h) few =
        shaped_next h (shape_of d (suc h)) (shape_of_lem h (λ g l. few g (omega arith))) (few h (omega arith)) (few (suc h) (omega arith))
