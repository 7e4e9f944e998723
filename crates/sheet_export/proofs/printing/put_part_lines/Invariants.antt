-- `sheet_export::printing::put_part_lines` meets its contract.
use mathlib.Core.List.{map}
use Prim.Native.Nat.{◌*◌, ◌≤◌}
use lib.ListN.{take}
use Rattle.base.specs.Bytes.{in_row}
use Rattle.catalogue.specs.Parts.{parts_of}
use Rattle.text.specs.inside.Putting.{Put}
use Rattle.sheet_export.specs.inside.Printing.{part_text}
use Rattle.sheet_export.proofs.printing.put_part_lines.Given as goal

abbrev pub invariant-loop-k : goal.invariant-loop-k
invariant-loop-k l = (l.at ≤ l.k * 36) × Put (in_row (map part_text (take l.k (parts_of l.catalogue)))) 0 l.initial.out l.at l.out
