-- `vertex::gaps::end_with` meets its contract.
use mathlib.Core.Bool.{Bool, true, false, cond}
use Prim.Native.Nat.{ℕ, ◌+◌, ◌≤◌}
use native.Mathlib.Omega.{arith}
use Rattle.vertex.proofs.gaps.end_with.Goals as goal

pub is_used-used-requires : goal.is_used-used-requires
is_used-used-requires c = (omega (arith, c.requires.1.0, c.requires.0.valid.few_devices), c.requires.1.1.0)

pub overflow_add-s : goal.overflow_add-s
overflow_add-s c = omega (arith, c.requires.1.1.1.1.1.0, c.requires.1.1.1.1.1.1, c.requires.0.valid.few_ticks)

-- The first use begins before the last ends, and that by the horizon.
within : (u z : Bool) (s c e f h : ℕ) → f ≤ e → e ≤ s → s + c ≤ h → (cond u (cond z s f) f ≤ cond u (s + c) e) × (cond u (s + c) e ≤ h)
within true true s c e f h a b d = (omega arith, d)
within true false s c e f h a b d = (omega arith, d)
within false z s c e f h a b d = (a, omega arith)

pub close_with-requires : goal.close_with-requires
close_with-requires c =
    let p = c.requires.1.1.1 in
    let w = within c.is_used-used.result c.is_unused.result c.args.s c.args.c c.args.end c.args.first c.args.h p.0 p.1.0 p.1.1.0 in
    rw (c.chosen.ensures, c.chosen-last.ensures, c.chosen-begun.ensures) (c.requires.0, (c.requires.1.0, (w.0, (w.1, p.1.1.1))))

pub returns : goal.returns
returns c =
    (rw (← c.is_used-used.ensures, ← c.is_unused.ensures, ← c.chosen-begun.ensures, ← c.chosen-last.ensures, ← c.chosen.ensures) c.close_with.ensures.0, c.close_with.ensures.1)
