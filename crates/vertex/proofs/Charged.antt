-- A job charged to one device after the other: once it is charged to all, the numbers are those with the job placed.
use mathlib.Core.Path.{◌≡◌, refl, ap, ◌∙◌}
use mathlib.Core.Bool.{Bool, true, false, cond}
use mathlib.Core.List.{List}
use Prim.Native.Nat.{ℕ, ◌+◌, ◌-◌, ◌≤◌, ◌<◌}
use native.Mathlib.Decide.{ℕ_discrete}
use native.Mathlib.Omega.{arith}
use lib.ListN.{get_or, set, length, length-set}
use lib.Seq.{get_or-set_same, get_or-set_other}
use Rattle.schedule.specs.declared.Recorder.{Recorder}
use Rattle.schedule.specs.Quantities.{run, uses}
use Rattle.schedule.specs.Visiting.{ticks}
use Rattle.vertex.specs.inside.Shown.{unused, end_at, first_at, ahead_at, load_at, charged, fresh, Placed}

-- Device k has the same numbers in both.
abbrev Kept : List ℕ → List ℕ → ℕ → Type 0
Kept l w k = (end_at w k ≡ end_at l k) × (first_at w k ≡ first_at l k) × (ahead_at w k ≡ ahead_at l k)

-- ---- one device

module _ (round : Bool) (n s c : ℕ) (l : List ℕ) where
  abbrev one : List ℕ
  one = set l n (s + c)

  abbrev two : List ℕ
  two = set one (8 + n) (cond (unused round (end_at l n)) s (first_at l n))

  -- A number that is none of the device's stays.
  charged_cell : (i : ℕ) → (i ≡ n → ⊥) → (i ≡ 8 + n → ⊥) → (i ≡ 16 + n → ⊥) → get_or (charged round n s c l) i 0 ≡ get_or l i 0
  unfolding charged
  charged_cell i a b d = get_or-set_other two (16 + n) i _ 0 d ∙ get_or-set_other one (8 + n) i _ 0 b ∙ get_or-set_other l n i _ 0 a

  charged_other : n < 8 → (k : ℕ) → k < 8 → (k ≡ n → ⊥) → Kept l (charged round n s c l) k
  charged_other m k b ne = (
    charged_cell k ne (λ (e : k ≡ 8 + n). omega (arith, b, e)) (λ (e : k ≡ 16 + n). omega (arith, b, e)),
    charged_cell (8 + k) (λ (e : 8 + k ≡ n). omega (arith, m, e)) (λ (e : 8 + k ≡ 8 + n). ne (omega (arith, e))) (λ (e : 8 + k ≡ 16 + n). omega (arith, b, e)),
    charged_cell (16 + k) (λ (e : 16 + k ≡ n). omega (arith, m, e)) (λ (e : 16 + k ≡ 8 + n). omega (arith, m, e)) (λ (e : 16 + k ≡ 16 + n). ne (omega (arith, e))),
  )

  charged_load : n < 8 → load_at (charged round n s c l) ≡ load_at l
  charged_load m = charged_cell 24 (λ (e : 24 ≡ n). omega (arith, m, e)) (λ (e : 24 ≡ 8 + n). omega (arith, m, e)) (λ (e : 24 ≡ 16 + n). omega (arith, m, e))

  pub charged_as : (round' : Bool) (c' : ℕ) → round ≡ round' → c ≡ c' → charged round n s c l ≡ charged round' n s c' l
  charged_as round' c' e f = rw (e, f)

  module _ (long : length l ≡ 25) where
    one_long : length one ≡ 25
    one_long = rw length-set long

    two_long : length two ≡ 25
    two_long = rw length-set one_long

    charged_long : length (charged round n s c l) ≡ 25
    unfolding charged
    charged_long = rw length-set two_long

    charged_here : n < 8 →
        (end_at (charged round n s c l) n ≡ s + c) × (first_at (charged round n s c l) n ≡ cond (unused round (end_at l n)) s (first_at l n))
        × (ahead_at (charged round n s c l) n ≡ ahead_at l n - c)
    unfolding charged
    charged_here m = (
      get_or-set_other two (16 + n) n _ 0 (λ (e : n ≡ 16 + n). omega (arith, e)) ∙ get_or-set_other one (8 + n) n _ 0 (λ (e : n ≡ 8 + n). omega (arith, e))
          ∙ get_or-set_same l n (s + c) 0 (omega (arith, m, long)),
      get_or-set_other two (16 + n) (8 + n) _ 0 (λ (e : 8 + n ≡ 16 + n). omega (arith, e)) ∙ get_or-set_same one (8 + n) _ 0 (omega (arith, m, one_long)),
      get_or-set_same two (16 + n) _ 0 (omega (arith, m, two_long)),
    )

first_as : (round : Bool) (e e' f f' s : ℕ) → e ≡ e' → f ≡ f' → cond (unused round e) s f ≡ cond (unused round e') s f'
first_as round e e' f f' s p q = rw (p, q)

-- ---- job j at s, from the numbers l on

module _ (R : Recorder) (l : List ℕ) (j s : ℕ) where
  -- Device k has the numbers that it has with the job placed.
  abbrev Done : List ℕ → ℕ → Type 0
  Done w k =
      (end_at w k ≡ cond (uses R k j) (s + run R j) (end_at l k))
      × (first_at w k ≡ cond (uses R k j) (cond (fresh R l k) s (first_at l k)) (first_at l k))
      × (ahead_at w k ≡ ahead_at l k - ticks R k j)

  -- The first n devices have, and the others have the numbers that they had.
  pub record Upto (n : ℕ) (w : List ℕ) : Type 0 where
    pub long : length w ≡ 25
    pub load : load_at w ≡ load_at l
    pub done : (k : ℕ) → k < n → Done w k
    pub kept : (k : ℕ) → n ≤ k → k < 8 → Kept l w k

  pub upto_none : length l ≡ 25 → Upto 0 l
  upto_none e = record { long = e; load = refl; done = λ k b. absurd (omega arith); kept = λ k a b. (refl, refl, refl) }

  module _ (n : ℕ) (w : List ℕ) (b : n < 8) (u : Upto n w) where
    -- There is room for what the job takes off.
    pub may_charge : uses R n j ≡ true → ticks R n j ≤ ahead_at l n → run R j ≤ ahead_at w n
    may_charge q h = let t : run R j ≤ ahead_at l n = rw q at h in omega (arith, t, (u.kept n (omega arith) b).2)

    here_used : uses R n j ≡ true → Done (charged R.round n s (run R j) w) n
    here_used q =
        let k = u.kept n (omega arith) b in
        let h = charged_here R.round n s (run R j) w u.long b in
        rw q
        (h.0, h.1 ∙ first_as R.round (end_at w n) (end_at l n) (first_at w n) (first_at l n) s k.0 k.1, h.2 ∙ ap (λ (x : ℕ). x - run R j) k.2)

    pub upto_used : uses R n j ≡ true → Upto (n + 1) (charged R.round n s (run R j) w)
    upto_used q =
        record {
          long = charged_long R.round n s (run R j) w u.long;
          load = charged_load R.round n s (run R j) w b ∙ u.load;
          done = λ k m. elim (ℕ_discrete k n) [
            | yes e ↦ rw e (here_used q)
            | no ne ↦
                let o = charged_other R.round n s (run R j) w b k (omega arith) ne in
                let d = u.done k (omega (arith, m, ne)) in
                (o.0 ∙ d.0, o.1 ∙ d.1, o.2 ∙ d.2)
          ];
          kept = λ k a m.
              let o = charged_other R.round n s (run R j) w b k m (λ (e : k ≡ n). omega (arith, a, e)) in
              let d = u.kept k (omega arith) m in
              (o.0 ∙ d.0, o.1 ∙ d.1, o.2 ∙ d.2);
        }

    here_unused : uses R n j ≡ false → Done w n
    here_unused q = let k = u.kept n (omega arith) b in rw q (k.0, k.1, omega (arith, k.2))

    pub upto_unused : uses R n j ≡ false → Upto (n + 1) w
    upto_unused q =
        record {
          long = u.long;
          load = u.load;
          done = λ k m. elim (ℕ_discrete k n) [
            | yes e ↦ rw e (here_unused q)
            | no ne ↦ u.done k (omega (arith, m, ne))
          ];
          kept = λ k a m. u.kept k (omega arith) m;
        }

  -- With all devices done, and its ticks off those of the unplaced jobs, the job is placed.
  pub upto_all : R.devices.count ≤ 8 → (w : List ℕ) → Upto R.devices.count w → (c : ℕ) → c ≡ run R j → Placed R l (set w 24 (load_at w - c)) j s
  upto_all few w u c e =
      record {
        long = rw length-set u.long;
        ends = λ k b. beside k (omega arith) ∙ (u.done k b).0;
        firsts = λ k b. beside (8 + k) (omega arith) ∙ (u.done k b).1;
        aheads = λ k b. beside (16 + k) (omega arith) ∙ (u.done k b).2;
        load = get_or-set_same w 24 (load_at w - c) 0 (omega (arith, u.long)) ∙ (omega (arith, u.load, e));
      }
    where
      beside : (i : ℕ) → i < 24 → get_or (set w 24 (load_at w - c)) i 0 ≡ get_or w i 0
      beside i b = get_or-set_other w 24 i (load_at w - c) 0 (λ (q : i ≡ 24). omega (arith, b, q))
