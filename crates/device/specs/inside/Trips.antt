-- What the code keeps of a gap: the trip that is best so far, and its bytes.
use Rattle.std.specs.Prelude.{◌≡◌, false, List, ◌++◌, map, ℕ, ◌+◌, ◌-◌, replicate, take, drop}
use Rattle.device.specs.declared.Device.{Device}
use Rattle.device.specs.declared.Sleeps.{Sleeps}
use Rattle.device.specs.declared.Uses.{Uses}
use Rattle.device.specs.declared.energy.Trip.{Trip}
use Rattle.device.specs.Row.{byte_of, depth, trip_cost, gap_row, row_of, pattern}
use Rattle.device.specs.inside.Uses.{used_in, after_from}

-- The trip that the rule for gaps chooses of the first n levels, in a gap of g ticks, and its cost.
pub record Chosen (d : Device) (n g : ℕ) (t : Trip) : Type 0 where
  pub level : t.level ≡ depth d n g
  pub cost : t.cost ≡ trip_cost d (depth d n g) g

-- D for x ticks, then the byte b for n, then U for y.
abbrev pub trip_bytes : ℕ → ℕ → ℕ → ℕ → List ℕ
trip_bytes x n y b = (replicate x 68 ++ replicate n b) ++ replicate y 85

-- Of the first c places those from x on and before y: how many they are.
unfoldable pub shared : ℕ → ℕ → ℕ → ℕ
shared c x y = (c - x) - (c - y)

-- The bytes of a row from the tick b on, up to which there is no use, to the end of the last use; and before and after them those of one gap, of which n ticks lie at
-- the end of the row and b at its front.
unfoldable pub around : Sleeps → Device → Uses → ℕ → ℕ → List ℕ
around sleeps d u b n =
    let gap = map (byte_of sleeps) (gap_row d (n + b)) in
    let row = map (byte_of sleeps) (row_of false d (pattern (used_in u) b (after_from b u u.count - b))) in
    drop n gap ++ (row ++ take n gap)
