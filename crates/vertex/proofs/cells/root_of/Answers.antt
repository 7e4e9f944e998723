use mathlib.Core.Path.{◌≡◌, subst}
use Prim.Native.Nat.{ℕ}
use native.Mathlib.Omega.{arith}
use Rattle.flat.specs.inside.Flat.{recorder_of}
use Rattle.vertex.proofs.Roots.{Rooted, rooted_none, rooted_more, rooted_shown}
use Rattle.vertex.proofs.cells.root_of.Goals as goal

pub load_of-requires : goal.load_of-requires
load_of-requires c = c.requires.few_jobs

pub loop-k-init : goal.loop-k-init
loop-k-init c = (omega (arith, c.device_count-m.ensures, c.requires.few_devices), rooted_none _ _ c.load_of.ensures)

pub all_ticks_of-requires : goal.all_ticks_of-requires
all_ticks_of-requires c = (c.requires.few_jobs, omega arith)

pub bounds-v-k : goal.bounds-v-k
bounds-v-k c = omega (arith, c.loop-k.invariant.1.long)

pub loop-k-preserved : goal.loop-k-preserved
loop-k-preserved c = let l = c.loop-k in (l.invariant.0, rooted_more _ l.k l.v (omega arith) l.invariant.1 _ c.all_ticks_of.ensures)

pub returns : goal.returns
returns c =
    let R = recorder_of c.args.r.now in
    let l = c.loop-k in
    let all : l.k ≡ R.devices.count = omega (arith, c.device_count-m.ensures) in
    rooted_shown R c.requires l.v (subst (λ (n : ℕ). Rooted R n l.v) all l.invariant.1)
