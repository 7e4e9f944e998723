-- `sheet_export::printing::put_job_lines` meets its contract.
use mathlib.Core.List.{map}
use Prim.Native.Nat.{◌*◌, ◌≤◌}
use lib.ListN.{take}
use Rattle.base.specs.Bytes.{pieces, in_row}
use Rattle.text.specs.inside.Putting.{Put}
use Rattle.sheet_export.specs.inside.Printing.{record_text}
use Rattle.sheet_export.proofs.printing.put_job_lines.Given as goal

abbrev pub invariant-loop-k : goal.invariant-loop-k
invariant-loop-k l = (l.at ≤ l.k * 25) × Put (in_row (map record_text (take l.k (pieces 7 l.records)))) 0 l.initial.out l.at l.out
