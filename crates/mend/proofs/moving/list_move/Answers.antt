-- `mend::moving::list_move` meets its contract.
use native.Mathlib.Omega.{arith}
use lib.ListN.{length-set}
use borrow.Author.Tests.{eq-eqb, ne_eqb}
use Rattle.mend.specs.inside.Moving.{list_with}
use Rattle.mend.proofs.moving.list_move.Goals as goal

pub returns-then-given-new : goal.returns-then-given-new
unfolding list_with
returns-then-given-new c = let e = eq-eqb c.args.given c.args.new c.if-given-new.true in record {
  number = rw e;
  list = rw e;
}

pub bounds-moved-at-2 : goal.bounds-moved-at-2
bounds-moved-at-2 c = simp length-set (omega arith)

pub bounds-moved-at-3 : goal.bounds-moved-at-3
bounds-moved-at-3 c = simp length-set (omega arith)

pub returns : goal.returns
unfolding list_with
returns c = let e = ne_eqb c.args.given c.args.new c.if-given-new.false in record {
  number = rw e;
  list = rw e;
}
