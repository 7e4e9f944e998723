-- The greatest common divisor, by Euclid's remainders, and the least common multiple (rule 9). proofs/Multiples: the horizon of tasks is a multiple of each
-- period (`horizon_multiple`) and divides every other such multiple (`horizon_least`).
use Rattle.std.specs.Prelude.{ℕ, zero, suc, ◌*◌, ◌/◌, ◌%◌}

-- At most k remainders.
unfoldable pub euclid : ℕ → ℕ → ℕ → ℕ
euclid zero a b = a
euclid (suc k) a zero = a
euclid (suc k) a (suc b) = euclid k (suc b) (a % suc b)

unfoldable pub gcd_of : ℕ → ℕ → ℕ
gcd_of a b = euclid (suc b) a b

abbrev pub lcm_of : ℕ → ℕ → ℕ
lcm_of a b = a / gcd_of a b * b
