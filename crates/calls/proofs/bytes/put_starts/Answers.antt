use Rattle.std.proofs.Common.{◌≡◌, ◌+◌, ◌-◌, ◌*◌, ◌∙◌, arith}
use Rattle.calls.proofs.Digits.{spread_none, spread_next}
use Rattle.calls.proofs.bytes.put_starts.Goals as goal

pub loop-j-init : goal.loop-j-init
loop-j-init c = spread_none c.args.starts.now c.args.bytes.now

pub loop-j-preserved : goal.loop-j-preserved
loop-j-preserved c =
    let l = c.loop-j in
    let s = c.args.starts.now in
    let two : l.j * 2 + 2 - l.j * 2 ≡ 2 = omega arith in
    rw two
    (spread_next s c.args.bytes.now l.bytes c.copy_from_slice.new.self l.j (omega arith) (omega (arith, c.requires)) (omega (arith, c.type_inv.starts l.j)) l.invariant
    (c.copy_from_slice.ensures.after ∙ c.to_be_bytes.ensures))
