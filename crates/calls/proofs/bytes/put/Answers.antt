use Rattle.std.proofs.Common.{◌≡◌, ◌+◌, ◌-◌, ◌++◌, length, drop, refl, arith}
use Rattle.calls.specs.Bytes.{big}
use Rattle.calls.proofs.Digits.{put_none, put_turn, put_done}
use Rattle.calls.proofs.bytes.put.Goals as goal

pub loop-i-init : goal.loop-i-init
loop-i-init c = put_none (length c.args.part.now) c.args.x c.args.part.now refl

pub loop-i-preserved : goal.loop-i-preserved
loop-i-preserved c =
    let l = c.loop-i in
    let whole = big (length c.args.part.now) c.args.x in
    let one : l.i - 1 + 1 ≡ l.i = omega arith in
    let so_far : whole ≡ big (l.i - 1 + 1) l.left ++ drop (l.i - 1 + 1) l.part = rw one l.invariant in
    put_turn whole (l.i - 1) l.left l.part (omega arith) so_far

pub returns : goal.returns
returns c = put_done _ _ _ _ (omega arith) c.loop-i.invariant
