-- `text::fields::cut` meets its contract.
use lib.ListN.{drop}
use Prim.Native.Nat.{◌+◌}
use Rattle.text.specs.inside.Cursors.{cut_from, cut_of}
use Rattle.text.proofs.Cutting.{Reaches}
use Rattle.text.proofs.fields.cut.Given as goal

-- The field reaches as much further as it does from here in this state.
abbrev pub invariant-loop-i : goal.invariant-loop-i
invariant-loop-i l = Reaches (cut_of l.s) (l.i + (cut_from l.state (drop l.i l.s)).size) (cut_from l.state (drop l.i l.s)).whole
