-- The table laid one number after the other: gap by gap, then cap, rise, fall, foot and low of the device, and device by device.
use mathlib.Core.Path.{◌≡◌, refl, sym, ◌∙◌, subst}
use mathlib.Core.Bool.{Bool, true, false, cond}
use mathlib.Core.List.{List}
use mathlib.Core.Logic.{⊎_elim}
use Prim.Native.Nat.{ℕ, suc, ◌+◌, ◌-◌, ◌*◌, ◌<◌, ◌≤◌, min}
use native.Mathlib.Nat.{eq-or-lt_of_le}
use native.Mathlib.Omega.{arith}
use lib.Dec.{ltb}
use lib.ListN.{get_or, set, length, length-set}
use lib.Seq.{get_or-set_same, get_or-set_other}
use borrow.Author.Tests.{ltb-false}
use Rattle.device.specs.declared.Device.{Device}
use Rattle.device.specs.Row.{deep, gap_cost}
use Rattle.schedule.specs.declared.Recorder.{Recorder}
use Rattle.schedule.specs.Quantities.{Valid, device}
use Rattle.keys.specs.inside.Keys.{extra, Capped}
use Rattle.value.specs.inside.Leasts.{Rises, Falls}
use Rattle.extras.specs.declared.shape.Shape.{Shape}
use Rattle.extras.specs.inside.Shapes.{Climbs, Lands, Shaped, shape_of}
use Rattle.extras.specs.inside.Tabled.{extra_at, cap_at, rise_at, fall_at, foot_at, low_at, least_from, Room, Tabled}
use Rattle.extras.specs.inside.Jobs.{OfJob}
use Rattle.extras.specs.inside.Parts.{LaidGaps, Stands, LaidDevice, LaidJobs}
use Rattle.extras.proofs.Bounds.{extra_most}
use Rattle.extras.proofs.Shaping.{climbs_on, lands_on, shape_of_lem}

-- ---- one device: the gaps of fewer than n ticks

pub record Below (d : Device) (k n : ℕ) (l₀ l : List ℕ) : Type 0 where
  pub long : length l ≡ length l₀
  pub laid : (g : ℕ) → g < n → extra_at l k g ≡ extra d g
  pub kept : (i : ℕ) → ((g : ℕ) → i ≡ 200 + 8 * g + k → ⊥) → get_or l i 0 ≡ get_or l₀ i 0

module _ {d : Device} {k : ℕ} {l₀ : List ℕ} where
  pub below_none : Below d k 0 l₀ l₀
  below_none = record { long = refl; laid = λ g h. absurd (omega arith); kept = λ i h. refl }

  pub below_next :
      {n x : ℕ} {l : List ℕ} → Below d k n l₀ l → 200 + 8 * n + k < length l₀ → x ≡ extra d n → Below d k (n + 1) l₀ (set l (200 + 8 * n + k) x)
  unfolding extra_at
  below_next {n} {x} {l} b room e = record {
    long = length-set l (200 + 8 * n + k) x ∙ b.long;
    laid =
        λ g h. ⊎_elim (λ (q : g ≡ n). rw q (here ∙ e)) (λ q. other (200 + 8 * g + k) (λ p. absurd (omega arith)) ∙ b.laid g q) (eq-or-lt_of_le {n = g} {m = n} (omega arith));
    kept = λ i h. other i (h n) ∙ b.kept i h;
  }
    where
      here : get_or (set l (200 + 8 * n + k) x) (200 + 8 * n + k) 0 ≡ x
      here = get_or-set_same l (200 + 8 * n + k) x 0 (omega (arith, b.long))

      other : (i : ℕ) → (i ≡ 200 + 8 * n + k → ⊥) → get_or (set l (200 + 8 * n + k) x) i 0 ≡ get_or l i 0
      other i h = get_or-set_other l (200 + 8 * n + k) i x 0 h

  pub below_all : {n h : ℕ} {l : List ℕ} → Below d k n l₀ l → n ≡ h + 1 → LaidGaps d k h l₀ l
  below_all b m = record { long = b.long; laid = λ g s. b.laid g (omega arith); kept = b.kept }

-- What code works a number of the table out to.
pub extra_is : (d : Device) (g : ℕ) {c s x : ℕ} → c ≡ gap_cost d g → s ≡ deep d → x ≡ g → c - s * x ≡ extra d g
unfolding extra
extra_is d g e f h = rw (e, f, h)

-- ---- all of one device

-- Cap, rise, fall, foot and low stored.
abbrev pub stored : List ℕ → ℕ → Shape → List ℕ
stored l k s = set (set (set (set (set l k s.cap) (8 + k) s.rise) (16 + k) s.fall) (24 + k) s.foot) (32 + k) s.low

module _ (l : List ℕ) (k : ℕ) (s : Shape) where
  -- The first of them stored, and so on.
  abbrev one : List ℕ
  one = set l k s.cap

  abbrev two : List ℕ
  two = set one (8 + k) s.rise

  abbrev three : List ℕ
  three = set two (16 + k) s.fall

  abbrev four : List ℕ
  four = set three (24 + k) s.foot

  stored_other :
      (i : ℕ) → (i ≡ k → ⊥) → (i ≡ 8 + k → ⊥) → (i ≡ 16 + k → ⊥) → (i ≡ 24 + k → ⊥) → (i ≡ 32 + k → ⊥) → get_or (stored l k s) i 0 ≡ get_or l i 0
  stored_other i a b c e f =
      get_or-set_other four (32 + k) i s.low 0 f ∙ get_or-set_other three (24 + k) i s.foot 0 e ∙ get_or-set_other two (16 + k) i s.fall 0 c
      ∙ get_or-set_other one (8 + k) i s.rise 0 b ∙ get_or-set_other l k i s.cap 0 a

  module _ (long : 40 ≤ length l) (few : k < 8) where
    stored_low : low_at (stored l k s) k ≡ s.low
    unfolding low_at
    stored_low = get_or-set_same four (32 + k) s.low 0 (simp length-set (omega arith))

    stored_foot : foot_at (stored l k s) k ≡ s.foot
    unfolding foot_at
    stored_foot =
        get_or-set_other four (32 + k) (24 + k) s.low 0 (λ e. absurd (omega arith))
        ∙ get_or-set_same three (24 + k) s.foot 0 (simp length-set (omega arith))

    stored_fall : fall_at (stored l k s) k ≡ s.fall
    unfolding fall_at
    stored_fall =
        get_or-set_other four (32 + k) (16 + k) s.low 0 (λ e. absurd (omega arith)) ∙ get_or-set_other three (24 + k) (16 + k) s.foot 0 (λ e. absurd (omega arith))
        ∙ get_or-set_same two (16 + k) s.fall 0 (simp length-set (omega arith))

    stored_rise : rise_at (stored l k s) k ≡ s.rise
    unfolding rise_at
    stored_rise =
        get_or-set_other four (32 + k) (8 + k) s.low 0 (λ e. absurd (omega arith)) ∙ get_or-set_other three (24 + k) (8 + k) s.foot 0 (λ e. absurd (omega arith))
        ∙ get_or-set_other two (16 + k) (8 + k) s.fall 0 (λ e. absurd (omega arith)) ∙ get_or-set_same one (8 + k) s.rise 0 (simp length-set (omega arith))

    stored_cap : cap_at (stored l k s) k ≡ s.cap
    unfolding cap_at
    stored_cap =
        get_or-set_other four (32 + k) k s.low 0 (λ e. absurd (omega arith)) ∙ get_or-set_other three (24 + k) k s.foot 0 (λ e. absurd (omega arith))
        ∙ get_or-set_other two (16 + k) k s.fall 0 (λ e. absurd (omega arith)) ∙ get_or-set_other one (8 + k) k s.rise 0 (λ e. absurd (omega arith))
        ∙ get_or-set_same l k s.cap 0 (omega arith)

-- Its gaps were laid, and then what was read off them: what stands of another device stands in other columns.
pub device_laid :
    {d : Device} {k h : ℕ} {s : Shape} {l₀ l : List ℕ} → LaidGaps d k h l₀ l → k < 8 → 40 ≤ length l₀ → d.pw ≤ 65535 → s ≡ shape_of d (suc h)
    → LaidDevice d k h l₀ (stored l k s)
unfolding extra_at cap_at rise_at fall_at foot_at low_at
device_laid {d} {k} {h} {s} {l₀} {l} w few long narrow e = record {
  long = simp length-set w.long;
  narrow = narrow;
  stands =
      record {
        laid = λ g m. stored_other l k s (200 + 8 * g + k) (λ e. absurd (omega arith)) (λ e. absurd (omega arith)) (λ e. absurd (omega arith)) (λ e. absurd (omega arith)) (λ e. absurd (omega arith)) ∙ w.laid g m;
        cap = stored_cap l k s room few ∙ rw e;
        rise = stored_rise l k s room few ∙ rw e;
        fall = stored_fall l k s room few ∙ rw e;
        foot = stored_foot l k s room few ∙ rw e;
        low = stored_low l k s room few ∙ rw e;
      };
  kept =
      λ x i less t.
      record {
        laid = λ g m. still i less (200 + 8 * g + i) (25 + g) (omega arith) ∙ t.laid g m;
        cap = still i less i 0 (omega arith) ∙ t.cap;
        rise = still i less (8 + i) 1 (omega arith) ∙ t.rise;
        fall = still i less (16 + i) 2 (omega arith) ∙ t.fall;
        foot = still i less (24 + i) 3 (omega arith) ∙ t.foot;
        low = still i less (32 + i) 4 (omega arith) ∙ t.low;
      };
}
  where
    room : 40 ≤ length l
    room = omega (arith, w.long)

    -- A place of row m in the column of device i.
    still : (i : ℕ) → i < k → (p m : ℕ) → p ≡ 8 * m + i → get_or (stored l k s) p 0 ≡ get_or l₀ p 0
    still i less p m by =
        stored_other l k s p (λ e. absurd (omega arith)) (λ e. absurd (omega arith)) (λ e. absurd (omega arith)) (λ e. absurd (omega arith)) (λ e. absurd (omega arith))
        ∙ w.kept p (λ g e. absurd (omega arith))

-- ---- the first n devices of a recorder

pub record Devices (R : Recorder) (n : ℕ) (l : List ℕ) : Type 0 where
  pub room : Room R l
  pub narrow : (k : ℕ) → k < n → (device R k).pw ≤ 65535
  pub stands : (k : ℕ) → k < n → Stands (device R k) k R.horizon l

module _ {R : Recorder} where
  same_room : {l l' : List ℕ} → Room R l → length l' ≡ length l → Room R l'
  same_room m e = record { long = omega (arith, m.long); reach = λ q. omega (arith, m.reach q) }

  pub devices_none : {l : List ℕ} → Room R l → Devices R 0 l
  devices_none e = record { room = e; narrow = λ k h. absurd (omega arith); stands = λ k h. absurd (omega arith) }

  pub devices_next : {n : ℕ} {l l' : List ℕ} → Devices R n l → LaidDevice (device R n) n R.horizon l l' → Devices R (n + 1) l'
  devices_next {n} {l} {l'} b w = record {
    room = same_room b.room w.long;
    narrow = λ k h. ⊎_elim (λ (q : k ≡ n). rw q w.narrow) (λ q. b.narrow k q) (eq-or-lt_of_le {n = k} {m = n} (omega arith));
    stands =
        λ k h. ⊎_elim (λ (q : k ≡ n). rw q w.stands) (λ q. w.kept (device R k) k q (b.stands k q)) (eq-or-lt_of_le {n = k} {m = n} (omega arith));
  }

  -- The devices of the jobs listed after them.
  pub devices_listed : {n : ℕ} {l l' : List ℕ} → n ≤ 8 → Devices R n l → LaidJobs R 16 l l' → Devices R n l'
  unfolding extra_at cap_at rise_at fall_at foot_at low_at
  devices_listed {n} {l} {l'} few b w = record {
    room = same_room b.room w.long;
    narrow = b.narrow;
    stands =
        λ k h.
        let t = b.stands k h in
        record {
          laid = λ g m. w.kept (200 + 8 * g + k) (λ p q. absurd (omega arith)) ∙ t.laid g m;
          cap = w.kept k (λ p q. absurd (omega arith)) ∙ t.cap;
          rise = w.kept (8 + k) (λ p q. absurd (omega arith)) ∙ t.rise;
          fall = w.kept (16 + k) (λ p q. absurd (omega arith)) ∙ t.fall;
          foot = w.kept (24 + k) (λ p q. absurd (omega arith)) ∙ t.foot;
          low = w.kept (32 + k) (λ p q. absurd (omega arith)) ∙ t.low;
        };
  }

  pub devices_all : {l : List ℕ} → Valid R → Devices R R.devices.count l → ((j : ℕ) → j < 16 → OfJob R j l) → Tabled R l
  unfolding least_from
  devices_all {l} ok b lists = record {
    valid = ok;
    narrow = b.narrow;
    room = b.room;
    extras = λ k g h m. (b.stands k h).laid g m;
    extra_most = most;
    caps = λ k h. subst (λ (c : ℕ). Capped (device R k) R.horizon c) (sym (b.stands k h).cap) (shaped k h).cap;
    cap_most = λ k h. omega (arith, (b.stands k h).cap, (shaped k h).cap_most, ok.few_ticks);
    rises = λ k h. subst (λ (n : ℕ). Rises (device R k) R.horizon 0 n) (sym (b.stands k h).rise) (shaped k h).rise;
    rise_most = λ k h. omega (arith, (b.stands k h).rise, (shaped k h).rise_most);
    falls = λ k h. subst (λ (n : ℕ). Falls (device R k) R.horizon n) (sym (b.stands k h).fall) (shaped k h).fall;
    fall_most = λ k h. omega (arith, (b.stands k h).fall, (shaped k h).fall_most);
    leasts = least;
    lists = lists;
  }
    where
      most : (k g : ℕ) → k < R.devices.count → g ≤ R.horizon → extra (device R k) g ≤ 268431360
      most k g h m = extra_most (device R k) (b.narrow k h) g (omega (arith, ok.few_ticks))

      shaped : (k : ℕ) → k < R.devices.count → Shaped (device R k) 268431360 R.horizon (shape_of (device R k) (suc R.horizon))
      shaped k h = shape_of_lem (device R k) 268431360 R.horizon (λ g m. most k g h m)

      least : (k g i : ℕ) → k < R.devices.count → g ≤ i → i ≤ R.horizon → least_from l k g ≤ extra (device R k) i
      least k g i h m u =
          let t = b.stands k h in
          let s = shape_of (device R k) (suc R.horizon) in
          rw (t.laid g (omega arith), t.foot, t.low) (go s.foot s.low (shaped k h).foot (shaped k h).low (ltb g s.foot) refl)
        where
          go : (foot low : ℕ) → Climbs (device R k) R.horizon foot → Lands (device R k) R.horizon low → (z : Bool) → ltb g foot ≡ z
              → cond z (min (extra (device R k) g) low) (extra (device R k) g) ≤ extra (device R k) i
          go foot low climbs lands true q = lands_on (device R k) lands g i m u
          go foot low climbs lands false q = climbs_on (device R k) climbs g i (ltb-false g foot q) m u
