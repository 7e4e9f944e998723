-- Uses in running order: between two of them no tick is used, in each every tick is. So use by use the pattern, the row and its energy grow by a gap and a use:
-- what the loops over the uses step over.
use mathlib.Core.Path.{◌≡◌, refl, sym, ap, ◌∙◌}
use mathlib.Core.Bool.{Bool, true, false, ◌&&◌, ◌||◌, true≢false}
use mathlib.Core.List.{[], ◌∷◌, ◌++◌}
use mathlib.Core.Logic.{◌⊎◌, inl, inr, ⊎_elim}
use Prim.Native.Nat.{ℕ, zero, suc, ◌+◌, ◌-◌, ◌*◌, ◌≤◌, ◌<◌}
use native.Mathlib.Nat.{eq-or-lt_of_le, add-zero, zero-add, sub_self, sub-zero}
use native.Mathlib.Numerals.{add-one}
use native.Mathlib.Omega.{arith}
use native.Mathlib.Decide.{dec_lt}
use lib.Dec.{leb, ltb, eqb}
use lib.ListN.{take, drop, replicate, drop_of_length-le}
use lib.Seq.{take_all}
use borrow.Author.Tests.{le-leb, lt-leb, lt-ltb, le-ltb, eqb-true, eqb-false}
use Rattle.base.proofs.Additions.{total_replicate}
use Rattle.device.specs.declared.Device.{Device}
use Rattle.device.specs.declared.Uses.{Uses}
use Rattle.device.specs.Row.{W, deep, power, energy, gap_row, gap_cost, row_of, energy_of, pattern}
use Rattle.device.specs.Row as Row
use Rattle.device.specs.inside.Uses.{begin, end, used_before, used_in, after, after_from, front, idle, Spaced}
use Rattle.device.proofs.Pattern.{Ended, fresh, placed, ended_place, pattern_split, pattern_const, pattern_place, pattern_close}
use Rattle.device.proofs.Chosen.{length_gap}
use Rattle.device.proofs.Least.{row_place, row_close, energy_place, round_row, round_never, seam_energy}

module _ (u : Uses) where
  -- A tick that lies in none of the first n uses.
  pub used_none : (t n : ℕ) → ((j : ℕ) → j < n → (t < begin u j) ⊎ (end u j ≤ t)) → used_before u n t ≡ false
  unfolding used_before
  used_none t zero h = refl
  used_none t (suc n) h =
      rw (used_none t n (λ j l. h j (omega arith)))
      (⊎_elim (λ l. rw (lt-leb (begin u n) t l)) (λ l. go (leb (begin u n) t) l) (h n (omega arith)))
    where
      go : (b : Bool) → end u n ≤ t → (b && ltb t (end u n)) ≡ false
      go true l = le-ltb t (end u n) l
      go false l = refl

  -- A tick that lies in use i.
  pub used_one : (t i n : ℕ) → i < n → begin u i ≤ t → t < end u i → used_before u n t ≡ true
  unfolding used_before
  used_one t i zero h a b = absurd (omega arith)
  used_one t i (suc n) h a b =
      ⊎_elim (λ e. here e) (λ l. rw (used_one t i n l a b)) (eq-or-lt_of_le {n = i} {m = n} (omega arith))
    where
      or_true : (x : Bool) → (x || true) ≡ true
      or_true true = refl
      or_true false = refl

      here : i ≡ n → (used_before u n t || (leb (begin u n) t && ltb t (end u n))) ≡ true
      here e = rw (← e, le-leb (begin u i) t a, lt-ltb t (end u i) b) (or_true (used_before u i t))

pub after_next : (u : Uses) (i : ℕ) → end u i ≡ after u (i + 1)
after_next u i = rw (add-one i)

pub from_next : (b : ℕ) (u : Uses) (i : ℕ) → end u i ≡ after_from b u (i + 1)
from_next b u i = rw (add-one i)

module _ (u : Uses) (h : ℕ) (ok : Spaced u h) where
  after_rises : (i j : ℕ) → i ≤ j → j ≤ u.count → after u i ≤ after u j
  after_rises zero zero l m = omega arith
  after_rises (suc i) zero l m = absurd (omega arith)
  after_rises i (suc j) l m =
      ⊎_elim (λ e. omega (arith, ap (after u) e)) (λ k. omega (arith, after_rises i j (omega arith) (omega arith), ok.rising j m, ok.lasting j m)) (eq-or-lt_of_le l)

  pub after_within : (i : ℕ) → i ≤ u.count → after u i ≤ h
  after_within i l = omega (arith, after_rises i u.count l (omega arith), ok.within)

  -- No tick is used from the end of a use up to where the next begins, or from the end of the last one on.
  free : (i t : ℕ) → i ≤ u.count → after u i ≤ t → (i < u.count → t < begin u i) → used_in u t ≡ false
  free i t l a b = used_none u t u.count (λ j m. elim (dec_lt j i) [
    | yes k ↦ inr (omega (arith, after_rises (suc j) i k l))
    | no k ↦ inl (⊎_elim (λ e. omega (arith, ap (begin u) e, b (omega arith)))
        (λ q. omega (arith, b (omega arith), ok.lasting i (omega arith), after_rises (suc i) j q (omega arith), ok.rising j m)) (eq-or-lt_of_le {n = i} {m = j} (omega arith)))
  ])

  busy : (i t : ℕ) → i < u.count → begin u i ≤ t → t < end u i → used_in u t ≡ true
  busy i t l a b = used_one u t i u.count l a b

  -- From tick b on, up to which there is no use.
  module _ (b : ℕ) (hb : b ≤ begin u 0) where
    from_least : (i : ℕ) → after u i ≤ after_from b u i
    from_least zero = omega arith
    from_least (suc i) = omega arith

    -- Use i: where it begins and ends.
    pub use_fits : (i : ℕ) → i < u.count → (after_from b u i ≤ begin u i) × (begin u i < end u i) × (end u i ≤ h)
    use_fits zero l = (hb, ok.lasting 0 l, after_within 1 l)
    use_fits (suc i) l = (ok.rising (suc i) l, ok.lasting (suc i) l, after_within (suc (suc i)) l)

    pub from_by : (i : ℕ) → i ≤ u.count → b ≤ after_from b u i
    from_by zero l = omega arith
    from_by (suc i) l = omega (arith, use_fits 0 (omega arith), after_rises 1 (suc i) (omega arith) l)

    -- The pattern from there on, up to the end of use i, and the rest of it after the last use.
    pattern_use : (i : ℕ) → i < u.count
        → pattern (used_in u) b (end u i - b)
        ≡ pattern (used_in u) b (after_from b u i - b) ++ placed (begin u i - after_from b u i) (end u i - begin u i - 1)
    pattern_use i l =
        let f = use_fits i l in
        let at = after_from b u i in
        let by = from_by i (omega arith) in
        let least = from_least i in
        let e : (at - b) + (begin u i - at + suc (end u i - begin u i - 1)) ≡ end u i - b = omega arith in
        ap (pattern (used_in u) b) (sym e) ∙ pattern_place (used_in u) b (at - b) (begin u i - at) (end u i - begin u i - 1)
        (λ t x y. free i t (omega arith) (omega arith) (λ m. omega arith)) (λ t x y. busy i t l (omega arith) (omega arith))

    ended_from : (i : ℕ) → i ≤ u.count → Ended (pattern (used_in u) b (after_from b u i - b))
    ended_from zero l = rw sub_self fresh
    ended_from (suc i) l = rw (pattern_use i l) (ended_place (pattern (used_in u) b (after_from b u i - b)) (begin u i - after_from b u i) (end u i - begin u i - 1))

    -- Up to `at`, where the uses before use i have ended, and on from there.
    module _ (d : Device) where
      pub row_use : (i at : ℕ) → i < u.count → at ≡ after_from b u i
          → row_of false d (pattern (used_in u) b (end u i - b))
          ≡ row_of false d (pattern (used_in u) b (at - b)) ++ (gap_row d (begin u i - at) ++ replicate (end u i - begin u i) W)
      row_use i at l e =
          let s = ok.lasting i l in
          let c : suc (end u i - begin u i - 1) ≡ end u i - begin u i = omega arith in
          rw e (ap (row_of false d) (pattern_use i l) ∙ row_place d (ended_from i (omega arith)) (begin u i - after_from b u i) (end u i - begin u i - 1)
          ∙ ap (λ (n : ℕ). row_of false d (pattern (used_in u) b (after_from b u i - b)) ++ (gap_row d (begin u i - after_from b u i) ++ replicate n W)) c)

      pub energy_use : (i at : ℕ) → i < u.count → at ≡ after_from b u i
          → energy_of false d (pattern (used_in u) b (end u i - b))
          ≡ energy_of false d (pattern (used_in u) b (at - b)) + (gap_cost d (begin u i - at) + d.pw * (end u i - begin u i))
      energy_use i at l e =
          let s = ok.lasting i l in
          let c : suc (end u i - begin u i - 1) ≡ end u i - begin u i = omega arith in
          rw (e, pattern_use i l, energy_place d (ended_from i (omega arith)) (begin u i - after_from b u i) (end u i - begin u i - 1), c)

  pub front_by : (round : Bool) → front round u ≤ begin u 0
  front_by true = omega arith
  front_by false = omega arith

  -- The end of the last use.
  abbrev last : ℕ
  last = after u u.count

  last_some : (b : ℕ) → 0 < u.count → after_from b u u.count ≡ last
  last_some b l = go u.count l
    where
      go : (n : ℕ) → 0 < n → after_from b u n ≡ after u n
      go zero l = absurd (omega arith)
      go (suc n) l = refl

  from_start : (i : ℕ) → after_from 0 u i ≡ after u i
  from_start zero = refl
  from_start (suc i) = refl

  used_some : (n : ℕ) → eqb n 0 ≡ false → 0 < n
  used_some zero q = absurd (eqb-false 0 0 q refl)
  used_some (suc n) q = omega arith

  pub last_front : (round : Bool) → idle round u ≡ false → after_from (front round u) u u.count ≡ last
  last_front false e = from_start u.count
  last_front true e = last_some (begin u 0) (used_some u.count e)

  -- No tick is used after it.
  close_from : (b : ℕ) → b ≤ last → pattern (used_in u) b (h - b) ≡ pattern (used_in u) b (last - b) ++ replicate (h - last) false
  close_from b l =
      let w = ok.within in
      let e : (last - b) + (h - last) ≡ h - b = omega arith in
      ap (pattern (used_in u) b) (sym e) ∙ pattern_close (used_in u) b (last - b) (h - last)
      (λ t x y. free u.count t (omega arith) (omega arith) (λ m. absurd (omega arith)))

  -- The whole row: what lies between the first use and the end of the last, and before and after it the two parts of one gap. In a list the first has no tick.
  module _ (d : Device) where
    abbrev Whole : Bool → ℕ → Type 0
    Whole round b =
        row_of round d (pattern (used_in u) 0 h)
        ≡ drop (h - last) (gap_row d ((h - last) + b)) ++ (row_of false d (pattern (used_in u) b (last - b)) ++ take (h - last) (gap_row d ((h - last) + b)))

    list_whole : Whole false 0
    list_whole =
        let n = h - last in
        let long = length_gap d n in
        let none : drop n (gap_row d n) ≡ [] = drop_of_length-le (gap_row d n) {i = n} (omega arith) in
        let all : take n (gap_row d n) ≡ gap_row d n = take_all n (gap_row d n) (omega arith) in
        let split : pattern (used_in u) 0 h ≡ pattern (used_in u) 0 last ++ replicate n false = rw (sub-zero, sub-zero) at (close_from 0 (omega arith)) in
        let ends : Ended (pattern (used_in u) 0 last) = rw (sub-zero, from_start u.count) at (ended_from 0 (omega arith) u.count (omega arith)) in
        rw (add-zero, none, all, sub-zero) (ap (row_of false d) split ∙ row_close d ends n)

    round_whole : 0 < u.count → Whole true (begin u 0)
    round_whole l =
        let b = begin u 0 in
        let n = h - last in
        let f = used_in u in
        let first = use_fits 0 (omega arith) 0 l in
        let by : end u 0 ≤ last = after_rises 1 u.count l (omega arith) in
        let rest = pattern f (suc b) (last - suc b) in
        let here : f b ≡ true = busy 0 b l (omega arith) (omega arith) in
        let some : suc (last - suc b) ≡ last - b = omega arith in
        let inner : pattern f b (last - b) ≡ true ∷ rest = ap (pattern f b) (sym some) ∙ rw here in
        let whole : b + (h - b) ≡ h = omega (arith, ok.within) in
        let head : pattern f 0 b ≡ replicate b false = pattern_const f false 0 b (λ t x y. free 0 t (omega arith) (omega arith) (λ m. omega arith)) in
        let split : pattern f 0 h ≡ replicate b false ++ (true ∷ rest ++ replicate n false)
        = ap (pattern f 0) (sym whole) ∙ pattern_split f 0 b (h - b) ∙ rw (zero-add b, head, close_from b (omega arith), inner) in
        let ends : Ended (true ∷ rest) = rw (last_some b l, inner) at (ended_from b (omega arith) u.count (omega arith)) in
        rw inner (ap (row_of true d) split ∙ round_row d rest ends b n)

    pub row_whole : (round : Bool) → idle round u ≡ false → Whole round (front round u)
    row_whole false e = list_whole
    row_whole true e = round_whole (used_some u.count e)

    pub energy_whole : (round : Bool) → idle round u ≡ false
        → energy_of round d (pattern (used_in u) 0 h)
        ≡ energy_of false d (pattern (used_in u) (front round u) (last - front round u)) + gap_cost d ((h - last) + front round u)
    energy_whole round e =
        ap (energy d) (row_whole round e)
        ∙ seam_energy d (row_of false d (pattern (used_in u) (front round u) (last - front round u))) ((h - last) + front round u) (h - last)

    -- A round without a use.
    pub row_idle : (round : Bool) → idle round u ≡ true → row_of round d (pattern (used_in u) 0 h) ≡ replicate h (Row.at d.levels)
    row_idle false e = absurd (true≢false (sym e))
    row_idle true e =
        let none : u.count ≡ 0 = eqb-true u.count 0 e in
        let all : pattern (used_in u) 0 h ≡ replicate h false
        = pattern_const (used_in u) false 0 h (λ t x y. used_none u t u.count (λ j m. absurd (omega arith))) in
        ap (row_of true d) all ∙ round_never d h

    pub energy_idle : (round : Bool) → idle round u ≡ true → energy_of round d (pattern (used_in u) 0 h) ≡ deep d * h
    energy_idle round e = ap (energy d) (row_idle round e) ∙ total_replicate (power d) h (Row.at d.levels)
