use mathlib.Core.Path.{refl, ap, ◌∙◌}
use Prim.Native.Nat.{ℕ}
use native.Mathlib.Omega.{arith}
use native.Mathlib.Nat.{mod-eq_of_lt}
use lib.ListN.{set, length-set}
use Rattle.base.proofs.Stores.{stored_is}
use Rattle.base.proofs.Turns.{each_start, each_step, each_done}
use Rattle.visit.specs.inside.Lent.{best_at}
use Rattle.visit.proofs.write_starts.Goals as goal

pub loop-j-init : goal.loop-j-init
loop-j-init c = (each_start _ _ _ refl, refl)

pub loop-j-preserved : goal.loop-j-preserved
loop-j-preserved c =
    let l = c.loop-j in
    (each_step _ _ _ _ _ l.invariant.0 (ap (λ (z : ℕ). set l.out l.j z) (mod-eq_of_lt (c.requires.1.1 l.j c.loop-j-test.true))), simp length-set l.invariant.1)

pub shape_of-out : goal.shape_of-out
shape_of-out c = c.loop-j.invariant.1

pub returns : goal.returns
returns c = each_done _ _ _ _ _ c.loop-j.invariant.0 (omega arith) ∙ stored_is (best_at c.args.tally.now) _ _ c.requires.1.0
