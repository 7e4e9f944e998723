-- `stored::mix` is safe: its sums and products fit.
use Prim.Native.Nat.{ℕ, ◌+◌, ◌*◌, ◌/◌, ◌%◌, ◌^◌, ◌<◌}
use native.Mathlib.Omega.{arith}
use Rattle.stored.proofs.mix.Goals as goal

-- The sum before the last product.
sum_fits : (y x : ℕ) → x < 2 ^ 64 → (y % 4294967296 * 2654435769) / 65536 + x / 4294967296 < 2 ^ 64
sum_fits y x h = small (y % 4294967296 * 2654435769) x h (omega arith)
  where
    small : (a x : ℕ) → x < 2 ^ 64 → a < 2 ^ 64 → a / 65536 + x / 4294967296 < 2 ^ 64
    small a x h k = omega arith

pub overflow_add-result : goal.overflow_add-result
overflow_add-result c = record { fits = sum_fits (c.args.h / 65536 + c.args.x % 4294967296) c.args.x (omega arith) }
