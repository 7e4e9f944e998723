-- Euclid's remainders give the greatest common divisor; the least common multiple is a common multiple and divides every other, for two numbers and for the
-- periods of any number of tasks.
use mathlib.Core.Path.{◌≡◌, refl, sym, ap, ◌∙◌}
use mathlib.Core.List.{List}
use Prim.Native.Nat.{ℕ, zero, suc, ◌+◌, ◌-◌, ◌*◌, ◌/◌, ◌%◌, ◌<◌, ◌≤◌, ◌∣◌}
use native.Mathlib.Omega.{arith}
use native.Mathlib.Numerals.{sub-one}
use native.Mathlib.Nat.{mod-lt, zero-lt-suc, dvd_refl, dvd-zero, dvd_trans, one-dvd, dvd-mod_iff, pos_of_dvd_of_pos, le_of_dvd, div-mul_cancel, mul-le-mul_left, le_refl, le_trans, div-add-mod', add-mul, add_comm, mul_assoc, mul_comm, mul_right_comm, add-mul-mod_self_right, mod-eq_of_lt, mul-lt-mul_of_pos_right, zero-mul, mul-dvd-mul_left, dvd_of_mul-dvd-mul_right, dvd-mul_left, dvd-mul_right}
use Rattle.base.specs.Bytes.{pair_at}
use Rattle.request.specs.Euclid.{euclid, gcd_of, lcm_of}
use Rattle.request.specs.Format.{lcm_from}

-- ---- the greatest common divisor

-- Any number of remainders above b is enough.
euclid_fuel : (k m a b : ℕ) → b < k → b < m → euclid k a b ≡ euclid m a b
unfolding euclid
euclid_fuel zero m a b h g = absurd (omega arith)
euclid_fuel (suc k) zero a b h g = absurd (omega arith)
euclid_fuel (suc k) (suc m) a zero h g = refl
euclid_fuel (suc k) (suc m) a (suc b) h g =
    let less : a % suc b < suc b = mod-lt a (zero-lt-suc b) in
    euclid_fuel k m (suc b) (a % suc b) (omega arith) (omega arith)

pub gcd_zero : (a b : ℕ) → b ≡ 0 → a ≡ gcd_of a b
unfolding gcd_of euclid
gcd_zero a b e = rw e

pub gcd_step : (a b : ℕ) → (b ≡ 0 → ⊥) → gcd_of a b ≡ gcd_of b (a % b)
unfolding gcd_of euclid
gcd_step a zero h = absurd (h refl)
gcd_step a (suc b) h =
    let less : a % suc b < suc b = mod-lt a (zero-lt-suc b) in
    euclid_fuel (suc b) (suc (a % suc b)) (suc b) (a % suc b) (omega arith) (omega arith)

euclid_divides : (k a b : ℕ) → b < k → (euclid k a b ∣ a) × (euclid k a b ∣ b)
unfolding euclid
euclid_divides zero a b h = absurd (omega arith)
euclid_divides (suc k) a zero h = (dvd_refl a, dvd-zero a)
euclid_divides (suc k) a (suc b) h =
    let less : a % suc b < suc b = mod-lt a (zero-lt-suc b) in
    let p = euclid_divides k (suc b) (a % suc b) (omega arith) in
    ((dvd-mod_iff _ p.0).0 p.1, p.0)

pub gcd_divides : (a b : ℕ) → (gcd_of a b ∣ a) × (gcd_of a b ∣ b)
unfolding gcd_of
gcd_divides a b = euclid_divides (suc b) a b (omega arith)

euclid_greatest : (k a b d : ℕ) → b < k → d ∣ a → d ∣ b → d ∣ euclid k a b
unfolding euclid
euclid_greatest zero a b d h p q = absurd (omega arith)
euclid_greatest (suc k) a zero d h p q = p
euclid_greatest (suc k) a (suc b) d h p q =
    let less : a % suc b < suc b = mod-lt a (zero-lt-suc b) in
    euclid_greatest k (suc b) (a % suc b) d (omega arith) q ((dvd-mod_iff d q).1 p)

-- Every common divisor divides it.
pub gcd_greatest : (a b d : ℕ) → d ∣ a → d ∣ b → d ∣ gcd_of a b
unfolding gcd_of
gcd_greatest a b d p q = euclid_greatest (suc b) a b d (omega arith) p q

pub gcd_pos : (a b : ℕ) → 0 < b → 0 < gcd_of a b
gcd_pos a b h = pos_of_dvd_of_pos (gcd_divides a b).1 h

-- It grows with a common factor.
mod_scale : (a b n : ℕ) → 0 < b → 0 < n → a * n % (b * n) ≡ a % b * n
mod_scale a b n hb hn =
    let split : a * n ≡ a % b * n + a / b * (b * n) = ap (λ (x : ℕ). x * n) (sym (div-add-mod' a b)) ∙ add-mul (a / b * b) (a % b) n ∙ add_comm _ _ ∙ ap (λ (x : ℕ). a % b * n + x) (mul_assoc (a / b) b n) in
    rw (split, add-mul-mod_self_right) (mod-eq_of_lt (mul-lt-mul_of_pos_right (mod-lt a hb) hn))

scale_step : (a b n : ℕ) → 0 < b → 0 < n → gcd_of (b * n) (a % b * n) ≡ gcd_of b (a % b) * n → gcd_of (a * n) (b * n) ≡ gcd_of a b * n
scale_step a b n hb hn ih =
    let pos : b * n ≡ 0 → ⊥ = λ z. omega (arith, mul-lt-mul_of_pos_right hb hn, zero-mul n) in
    let nz : b ≡ 0 → ⊥ = λ z. omega arith in
    gcd_step (a * n) (b * n) pos ∙ rw (mod_scale a b n hb hn) ih ∙ ap (λ (x : ℕ). x * n) (sym (gcd_step a b nz))

scale : (k a b n : ℕ) → b < k → 0 < n → gcd_of (a * n) (b * n) ≡ gcd_of a b * n
scale zero a b n h hn = absurd (omega arith)
scale (suc k) a zero n h hn = rw zero-mul (sym (gcd_zero (a * n) 0 refl) ∙ ap (λ (x : ℕ). x * n) (gcd_zero a 0 refl))
scale (suc k) a (suc b) n h hn =
    let less : a % suc b < suc b = mod-lt a (zero-lt-suc b) in
    scale_step a (suc b) n (zero-lt-suc b) hn (scale k (suc b) (a % suc b) n (omega arith) hn)

-- ---- the least common multiple of two numbers

pub lcm_left : (a b : ℕ) → a ∣ lcm_of a b
lcm_left a b =
    let g = gcd_of a b in
    let e : a * (b / g) ≡ lcm_of a b = ap (λ (x : ℕ). x * (b / g)) (sym (div-mul_cancel g (gcd_divides a b).0)) ∙ mul_assoc (a / g) g (b / g) ∙ ap (λ (x : ℕ). a / g * x) (mul_comm g (b / g) ∙ div-mul_cancel g (gcd_divides a b).1) in
    rw (← e) (dvd-mul_right a (b / g))

pub lcm_right : (a b : ℕ) → b ∣ lcm_of a b
lcm_right a b = dvd-mul_left b (a / gcd_of a b)

-- It divides every common multiple.
pub lcm_least : (a b m : ℕ) → a ∣ m → b ∣ m → lcm_of a b ∣ m
lcm_least a b zero p q = dvd-zero (lcm_of a b)
lcm_least a b (suc k) p q =
    let m = suc k in
    let g = gcd_of a b in
    let whole : lcm_of a b * g ≡ a * b = mul_right_comm (a / g) b g ∙ ap (λ (x : ℕ). x * b) (div-mul_cancel g (gcd_divides a b).0) in
    let both : a * b ∣ g * m = rw (scale (suc b) a b m (omega arith) (zero-lt-suc k)) at (gcd_greatest (a * m) (b * m) (a * b) (mul-dvd-mul_left b a q) (rw (mul_comm a b) (mul-dvd-mul_left a b p))) in
    dvd_of_mul-dvd-mul_right (lcm_of a b) (gcd_pos a b (pos_of_dvd_of_pos q (zero-lt-suc k))) (rw (whole, mul_comm m g) both)

-- It is not below the first.
le_lcm : (a b : ℕ) → 0 < b → a ≤ lcm_of a b
le_lcm a b h =
    let g : gcd_of a b ≤ b = le_of_dvd h (gcd_divides a b).1 in
    omega (arith, mul-le-mul_left (a / gcd_of a b) g, div-mul_cancel (gcd_of a b) (gcd_divides a b).0)

-- ---- of the periods of n tasks, of which the records begin at a place

-- The places of the first and of the further records.
pub first : (at : ℕ) → at + 0 * 5 ≡ at
first at = omega arith

pub next : (at i : ℕ) → at + suc i * 5 ≡ at + 5 + i * 5
next at i = omega arith

module _ (s : List ℕ) where
  pub lcm_none : (n at h : ℕ) → n ≤ 0 → lcm_from s n at h ≡ h
  unfolding lcm_from
  lcm_none zero at h e = refl
  lcm_none (suc n) at h e = absurd (omega arith)

  pub lcm_more : (n at h : ℕ) → 0 < n → lcm_from s n at h ≡ lcm_from s (n - 1) (at + 5) (lcm_of h (pair_at s at))
  unfolding lcm_from
  lcm_more zero at h e = absurd (omega arith)
  lcm_more (suc n) at h e = rw sub-one

  pub le_lcm_from : (n at h : ℕ) → ((i : ℕ) → i < n → 0 < pair_at s (at + i * 5)) → h ≤ lcm_from s n at h
  unfolding lcm_from
  le_lcm_from zero at h pos = le_refl h
  le_lcm_from (suc n) at h pos =
      le_trans (le_lcm h (pair_at s at) (rw (first at) at (pos 0 (omega arith)))) (le_lcm_from n (at + 5) _ (λ i l. rw (next at i) at (pos (suc i) (omega arith))))

  lcm_start : (n at h : ℕ) → h ∣ lcm_from s n at h
  unfolding lcm_from
  lcm_start zero at h = dvd_refl h
  lcm_start (suc n) at h = dvd_trans h (lcm_left h (pair_at s at)) (lcm_start n (at + 5) _)

  lcm_each : (n at h i : ℕ) → i < n → pair_at s (at + i * 5) ∣ lcm_from s n at h
  unfolding lcm_from
  lcm_each zero at h i l = absurd (omega arith)
  lcm_each (suc n) at h zero l = rw (first at) (dvd_trans (pair_at s at) (lcm_right h (pair_at s at)) (lcm_start n (at + 5) _))
  lcm_each (suc n) at h (suc i) l = rw (next at i) (lcm_each n (at + 5) _ i (omega arith))

  lcm_all : (n at h m : ℕ) → h ∣ m → ((i : ℕ) → i < n → pair_at s (at + i * 5) ∣ m) → lcm_from s n at h ∣ m
  unfolding lcm_from
  lcm_all zero at h m p q = p
  lcm_all (suc n) at h m p q =
      lcm_all n (at + 5) (lcm_of h (pair_at s at)) m (lcm_least h (pair_at s at) m p (rw (first at) at (q 0 (omega arith)))) (λ i l. rw (next at i) at (q (suc i) (omega arith)))

  -- The horizon that n tasks give is a multiple of each period,
  pub horizon_multiple : (n at i : ℕ) → i < n → pair_at s (at + i * 5) ∣ lcm_from s n at 1
  horizon_multiple n at i l = lcm_each n at 1 i l

  -- and the least: it divides every common multiple of them.
  pub horizon_least : (n at m : ℕ) → 0 < m → ((i : ℕ) → i < n → pair_at s (at + i * 5) ∣ m) → (lcm_from s n at 1 ∣ m) × (lcm_from s n at 1 ≤ m)
  horizon_least n at m pos q =
      let d = lcm_all n at 1 m (one-dvd m) q in
      (d, le_of_dvd pos d)
