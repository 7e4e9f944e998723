-- How the extras of a device run with the length of its gaps: cap, steepest rise, steepest fall, foot and low, read off gap by gap.
use Rattle.std.specs.Prelude.{◌≡◌, cond, ℕ, zero, suc, ◌-◌, ◌≤◌, ◌<◌, max, min, ltb}
use Rattle.device.specs.declared.Device.{Device}
use Rattle.keys.specs.inside.Keys.{extra, Capped}
use Rattle.value.specs.inside.Leasts.{Rises, Falls}
use Rattle.extras.specs.declared.shape.Shape.{Shape}

-- From n ticks on, and up to h, one tick more never lowers the extra.
abbrev pub Climbs : Device → ℕ → ℕ → Type 0
Climbs d h n = (g : ℕ) → n ≤ g → g < h → extra d g ≤ extra d (suc g)

-- Where one tick more lowers the extra, it leads to n or more.
abbrev pub Lands : Device → ℕ → ℕ → Type 0
Lands d h n = (g : ℕ) → g < h → extra d (suc g) < extra d g → n ≤ extra d (suc g)

-- From n ticks on every gap has the extra x.
abbrev pub Stays : Device → ℕ → ℕ → Type 0
Stays d n x = (g : ℕ) → n ≤ g → extra d g ≡ x

-- What a shape says of the gaps of up to h ticks, none of which has more than `most`.
pub record Shaped (d : Device) (most h : ℕ) (s : Shape) : Type 0 where
  pub cap : Capped d h s.cap
  pub cap_most : s.cap ≤ h
  pub rise : Rises d h 0 s.rise
  pub rise_most : s.rise ≤ most
  pub fall : Falls d h s.fall
  pub fall_most : s.fall ≤ most
  pub foot : Climbs d h s.foot
  pub low : Lands d h s.low

-- The gap of g ticks has the extra y, and the one before it x.
unfoldable pub shape_with : Shape → ℕ → ℕ → ℕ → Shape
shape_with s g x y =
    cond (ltb x y) (record { cap = g; rise = max s.rise (y - x); fall = s.fall; foot = s.foot; low = s.low })
    (cond (ltb y x) (record { cap = g; rise = s.rise; fall = max s.fall (x - y); foot = g; low = min s.low y }) s)

-- The extra of the gap before that of n ticks.
unfoldable pub extra_before : Device → ℕ → ℕ
extra_before d zero = 0
extra_before d (suc n) = extra d n

-- The shape of the gaps of fewer than n ticks. While none has fallen, low is more than any extra.
unfoldable pub shape_of : Device → ℕ → Shape
shape_of d zero = record { cap = 0; rise = 0; fall = 0; foot = 0; low = 4294967295 }
shape_of d (suc n) = shape_with (shape_of d n) n (extra_before d n) (extra d n)
