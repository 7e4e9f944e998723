-- `sheet_import::lines::are_numbers` meets its contract.
use mathlib.Core.Path.{◌≡◌}
use Prim.Native.Nat.{◌+◌}
use lib.ListN.{drop}
use Rattle.sheet.specs.Sheets.{columns_of, are_numbers}
use Rattle.sheet_import.specs.inside.Reading.{raw_in}
use Rattle.sheet_import.proofs.lines.are_numbers.Given as goal

abbrev pub invariant-loop-k : goal.invariant-loop-k
invariant-loop-k l = are_numbers (columns_of l.rows).most (drop (columns_of l.rows).texts (raw_in l.line)) ≡ are_numbers (drop l.k (columns_of l.rows).most) (drop ((columns_of l.rows).texts + l.k) (raw_in l.line))
