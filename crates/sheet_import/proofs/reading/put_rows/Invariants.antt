-- `sheet_import::reading::put_rows` meets its contract.
use mathlib.Core.Path.{◌≡◌}
use mathlib.Core.List.{map}
use Prim.Native.Nat.{◌*◌}
use lib.ListN.{take}
use Rattle.base.specs.Bytes.{in_row}
use Rattle.text.specs.Grammar.{lines_of}
use Rattle.text.specs.inside.Putting.{Put}
use Rattle.sheet_import.specs.inside.RowBytes.{row_bytes, row_size}
use Rattle.sheet_import.proofs.reading.put_rows.Given as goal

abbrev pub invariant-loop-k : goal.invariant-loop-k
invariant-loop-k l = (l.at ≡ l.k * row_size l.rows) × Put (in_row (map (row_bytes l.rows) (take l.k (lines_of l.text)))) 0 l.initial.out l.at l.out
