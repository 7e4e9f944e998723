-- Places of the door's own, of which n are lent to an operation: they come back as `front`, and the first k of them go to the lent bytes.
use mathlib.Core.Path.{◌≡◌, ◌∙◌}
use mathlib.Core.List.{List, ◌++◌}
use Prim.Native.Nat.{ℕ, ◌≤◌, min}
use native.Mathlib.Omega.{arith}
use lib.ListN.{length, take, drop}
use lib.Seq.{length-take-le}
use Rattle.calls.proofs.Crossing.{front_room}

module _ {A : Type 0} (z : List A) where
  pub own_lent : (n room most : ℕ) → n ≡ min room most → most ≤ length z → length (take n z) ≡ min room most
  own_lent n room most e h = length-take-le n z (omega (arith, e, h)) ∙ e

  pub front_taken : (front : List A) (n k : ℕ) → n ≤ length z → k ≤ n → length front ≡ length (take n z) → length (take k (front ++ drop n z)) ≡ k
  front_taken front n k h l e = length-take-le k (front ++ drop n z) (front_room z front n k h l e)
