use Rattle.std.proofs.Common.{ℕ, ◌+◌, ◌*◌, arith}
use Rattle.std.proofs.Math.Nat.{sub-zero}
use Rattle.base.specs.Lists.{up_to, padded}
use Rattle.base.proofs.Arrays.{up_to_fill}
use Rattle.tables.proofs.records.table_at.Goals as goal

pub loop-i-init : goal.loop-i-init
unfolding up_to padded
loop-i-init g c = rw (c.blank-list.ensures, sub-zero)

pub loop-i-preserved : goal.loop-i-preserved
loop-i-preserved g c =
    let l = c.loop-i in
    let a = c.args in
    rw (c.read.ensures, c.SIZE.ensures, l.invariant) (up_to_fill g.row.N g.T.Record.blank (λ (x : ℕ). g.T.Record.read_at a.s.now (a.from + x * g.T.Record.SIZE)) l.i (omega arith))
