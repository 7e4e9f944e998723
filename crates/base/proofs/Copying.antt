-- A lent list of which the first places hold the front of another.
use mathlib.Core.Path.{◌≡◌}
use mathlib.Core.List.{List, ◌++◌, append_assoc}
use Prim.Native.Nat.{ℕ, suc, ◌+◌, ◌<◌, ◌≤◌}
use native.Mathlib.Omega.{arith}
use native.Mathlib.Numerals.{add-one}
use lib.ListN.{length, set, get_or, take, drop, length-append, length-drop}
use lib.Seq.{take-suc, set_at, drop-cons, length-take-le}

module _ (s l : List ℕ) (i : ℕ) where
  pub copied_length : i ≤ length s → length s ≤ length l → length (take i s ++ drop i l) ≡ length l
  copied_length h k = rw (length-append, length-take-le i s h, length-drop) (omega arith)

  pub copied_more : i < length s → i < length l → set (take i s ++ drop i l) i (get_or s i 0) ≡ take (i + 1) s ++ drop (i + 1) l
  copied_more h k =
      rw (drop-cons l i 0 k, set_at (take i s) (get_or l i 0) (drop (suc i) l) (get_or s i 0) i (length-take-le i s (omega arith)), add-one i, take-suc s i 0 h, append_assoc)
