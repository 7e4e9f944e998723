use mathlib.Core.Path.{◌≡◌}
use native.Mathlib.Omega.{arith}
use lib.ListN.{length}
use Rattle.base.proofs.Filling.{filled_length}
use Rattle.mend.proofs.Moves.{listed_none, listed_more, listed_few}
use Rattle.mend.proofs.moving.list_moves.Goals as goal

pub loop-job-init : goal.loop-job-init
loop-job-init c = listed_none _ _ _

pub list_move-count-requires : goal.list_move-count-requires
list_move-count-requires c =
    let l = c.loop-job in
    let g = c.args.given.now in
    let m = c.args.moved.now in (
      omega arith,
      omega (
        arith,
        listed_few g c.args.new m l.job l.count l.moved l.invariant,
        filled_length l.invariant.listed (omega (arith, listed_few g c.args.new m l.job l.count l.moved l.invariant)),
      ),
    )

pub loop-job-preserved : goal.loop-job-preserved
loop-job-preserved c =
    let l = c.loop-job in
    let g = c.args.given.now in
    let m = c.args.moved.now in
    let w = c.list_move-count.ensures in
    rw (w.number, w.list) (listed_more g c.args.new m l.job l.count l.moved l.invariant
    (omega (arith, listed_few g c.args.new m l.job l.count l.moved l.invariant)))

pub shape_of-moved : goal.shape_of-moved
shape_of-moved c =
    let l = c.loop-job in
    let few = listed_few c.args.given.now c.args.new c.args.moved.now l.job l.count l.moved l.invariant in
    filled_length l.invariant.listed (omega arith)

pub returns : goal.returns
returns c =
    let l = c.loop-job in
    let e : l.job ≡ length c.args.given.now = omega arith in
    let h = rw e at l.invariant in
    record {
      number = h.counted;
      list = rw h.counted at h.listed.is;
    }
