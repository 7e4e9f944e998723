-- `catalogue::numbers::is_formed` meets its contract.
use Rattle.std.proofs.Common.{arith, ◌∙◌}
use Rattle.catalogue.proofs.Scanning.{front_fits, formed_spaces}
use Rattle.catalogue.proofs.numbers.is_formed.Goals as goal

pub slice_bounds-are_spaces-count : goal.slice_bounds-are_spaces-count
slice_bounds-are_spaces-count c = omega (arith, c.signs_of-signs.ensures, front_fits c.args.number.now)

pub slice_bounds-are_spaces-start : goal.slice_bounds-are_spaces-start
slice_bounds-are_spaces-start c = omega (arith, c.signs_of-signs.ensures, front_fits c.args.number.now)

pub returns-then-signs-gt0 : goal.returns-then-signs-gt0
returns-then-signs-gt0 c =
    let signs = c.signs_of-signs in
    c.are_spaces.ensures ∙ formed_spaces c.args.number.now signs.result (omega arith) signs.ensures (omega arith)
