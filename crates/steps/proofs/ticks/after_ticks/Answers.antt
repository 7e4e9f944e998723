-- `steps::ticks::after_ticks` meets its contract.
use mathlib.Core.Path.{sym}
use mathlib.Core.Logic.{inl, inr}
use native.Mathlib.Omega.{arith}
use Rattle.steps.specs.inside.Running.{later}
use Rattle.steps.proofs.Moves.{later_work, later_sleep}
use Rattle.steps.proofs.Passing.{later_down, later_up, down_left, up_left}
use Rattle.steps.proofs.ticks.after_ticks.Goals as goal

pub returns-then-n-eq0 : goal.returns-then-n-eq0
unfolding later
returns-then-n-eq0 c = rw c.if-n-eq0.true

pub returns-in-Working : goal.returns-in-Working
returns-in-Working c = elim c.in-Working.is [ inl e ↦ rw (e, later_work) | inr e ↦ rw (e, later_sleep) ]

pub returns-in-Down : goal.returns-in-Down
returns-in-Down c = rw c.in-Down.is (sym (later_down c.args.n c.in-Down.left (omega (arith, c.if-n-eq0.false)) c.if-left-n.true))

pub returns-in-Down-2 : goal.returns-in-Down-2
returns-in-Down-2 c = grind (arith, down_left)

pub returns-in-Up : goal.returns-in-Up
returns-in-Up c = rw c.in-Up.is (sym (later_up c.args.n c.in-Up.left (omega (arith, c.if-n-eq0.false)) c.if-left-n-2.true))

pub returns-in-Up-2 : goal.returns-in-Up-2
returns-in-Up-2 c = grind (arith, up_left)
