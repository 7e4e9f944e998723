-- `sheet_export::plans::put_plan_lines` meets its contract.
use mathlib.Core.List.{map}
use Prim.Native.Nat.{◌*◌, ◌≤◌}
use lib.IntN.{nat_abs}
use Rattle.base.specs.Lists.{up_to}
use Rattle.text.specs.Grammar.{text_of}
use Rattle.text.specs.inside.Putting.{Put}
use Rattle.sheet.specs.Sheets.{plan_line}
use Rattle.sheet_export.proofs.plans.put_plan_lines.Given as goal

abbrev pub invariant-loop-j : goal.invariant-loop-j
invariant-loop-j l = (l.at ≤ l.j * 19) × Put (text_of (up_to (plan_line l.starts (map nat_abs l.margins)) l.j)) 0 l.initial.out l.at l.out
