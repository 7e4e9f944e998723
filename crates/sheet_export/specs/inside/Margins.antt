-- What the code knows of a margin that it writes. Nobody need believe this: no promise speaks of it.
use Rattle.std.specs.Prelude.{◌≡◌, ◌≤◌, ℤ, pos, nat_abs}

-- A margin that is a natural number, and a small one.
pub record Spare (z : ℤ) : Type 0 where
  pub natural : z ≡ pos (nat_abs z)
  pub small : nat_abs z ≤ 4096
