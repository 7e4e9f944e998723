-- One turn of the loop that lists the moves.
use Rattle.std.specs.Prelude.{cond, List, ℕ, ◌+◌, ◌*◌, eqb, set}

-- The number of moves, and their list, with one job more, which may have moved.
abbrev pub count_with : (given new count : ℕ) → ℕ
count_with given new count = cond (eqb given new) count (count + 1)

unfoldable pub list_with : (job given new count : ℕ) → List ℕ → List ℕ
list_with job given new count l =
    let at = 3 * count in
    cond (eqb given new) l (set (set (set l at job) (at + 1) given) (at + 2) new)
