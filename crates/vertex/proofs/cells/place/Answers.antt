use mathlib.Core.Path.{◌≡◌, sym, ◌∙◌, subst}
use Prim.Native.Nat.{ℕ, ◌<◌}
use native.Mathlib.Omega.{arith}
use Rattle.flat.specs.inside.Flat.{recorder_of}
use Rattle.vertex.proofs.Charged.{Upto, upto_none, upto_used, upto_unused, upto_all, may_charge, charged_as}
use Rattle.vertex.proofs.cells.place.Goals as goal
use Rattle.vertex.proofs.cells.place.Goals.{else-is_used, then-is_used}

pub run_of-requires : goal.run_of-requires
run_of-requires c = omega (arith, c.requires.1.1.0)

pub loop-k-init : goal.loop-k-init
loop-k-init c =
    (omega (arith, c.device_count-m.ensures, c.requires.0.few_devices), upto_none _ _ _ _ c.requires.1.0)

pub is_used-requires : goal.is_used-requires
is_used-requires c = (omega arith, c.requires.1.1.0)

pub charge-requires : goal.charge-requires
charge-requires c =
    let l = c.loop-k in
    let few : l.k < (recorder_of c.args.r.now).devices.count = omega (arith, c.loop-k-test.true, c.device_count-m.ensures) in
    let near : l.k < 8 = omega (arith, few, c.requires.0.few_devices) in
    rw (c.from-c.ensures, c.run_of.ensures)
    (near, (l.invariant.1.long, (c.requires.1.1.1.0, may_charge _ _ _ _ _ _ near l.invariant.1 (sym c.is_used.ensures ∙ c.if-is_used.true) (c.requires.1.1.1.1.1 l.k few))))

pub loop-k-preserved : goal.loop-k-preserved
loop-k-preserved c =
    let l = c.loop-k in
    let round = c.is_round-round.ensures in
    let ticks = c.from-c.ensures ∙ c.run_of.ensures in
    elim c.if-is_used.branch [ then-is_used x ↦ (l.invariant.0, subst (Upto _ _ _ _ _) (sym (x.w-is ∙ x.charge.ensures ∙ charged_as _ _ _ _ _ _ _ round ticks)) (upto_used _ _ _ _ _ _ (omega arith) l.invariant.1 (sym c.is_used.ensures ∙ x.if-is_used.true))) | else-is_used x ↦ (l.invariant.0, subst (Upto _ _ _ _ _) (sym x.w-is) (upto_unused _ _ _ _ _ _ (omega arith) l.invariant.1 (sym c.is_used.ensures ∙ x.if-is_used.false))) ]

pub overflow_sub-w : goal.overflow_sub-w
overflow_sub-w c =
    omega (arith, c.loop-k.invariant.1.load, c.requires.1.1.1.1.0, c.from-c.ensures, c.run_of.ensures)

pub returns : goal.returns
returns c =
    let a = c.args in
    let R = recorder_of a.r.now in
    let l = c.loop-k in
    let all : l.k ≡ R.devices.count = omega (arith, c.device_count-m.ensures) in
    upto_all R _ _ _ c.requires.0.few_devices l.w (subst (λ (n : ℕ). Upto R a.w.now a.j a.s n l.w) all l.invariant.1) _
    (c.from-c.ensures ∙ c.run_of.ensures)
