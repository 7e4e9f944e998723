-- `stored::naming::idle_of` meets its contract.
use mathlib.Core.Path.{◌≡◌}
use Prim.Native.Nat.{ℕ, ◌<◌}
use native.Mathlib.Omega.{arith}
use Rattle.flat.specs.inside.Flat.{recorder_of}
use Rattle.extras.specs.inside.Tabled.{cap_at}
use Rattle.stored.proofs.Idling.{idle_there, idle_none}
use Rattle.stored.proofs.naming.idle_of.Goals as goal

pub cap_of-requires : goal.cap_of-requires
cap_of-requires c = (c.requires.1.1, omega (arith, c.requires.0.room.long))

pub idle_with-requires : goal.idle_with-requires
idle_with-requires c =
    let there : (n : ℕ) → n ≡ (recorder_of c.args.r.now).devices.count → c.args.k < n → c.args.k < (recorder_of c.args.r.now).devices.count = λ n e b. omega arith in
    let d = c.device_count in
    let b = there d.result d.ensures c.if-k-device_count.true in
    let h = c.horizon_of.ensures in
    let w = c.from-h.ensures in
    let o = c.requires.1.0 in
    (o.ends c.args.k b, (omega (arith, h, w, o.by), (omega (arith, h, w, c.requires.0.valid.few_ticks), o.firsts c.args.k b)))

pub returns-then-k-device_count : goal.returns-then-k-device_count
returns-then-k-device_count c =
    let there : (n : ℕ) → n ≡ (recorder_of c.args.r.now).devices.count → c.args.k < n → c.args.k < (recorder_of c.args.r.now).devices.count = λ n e b. omega arith in
    let d = c.device_count in
    let b = there d.result d.ensures c.if-k-device_count.true in
    rw c.from.ensures (idle_there (recorder_of c.args.r.now) (cap_at c.args.extras.now) c.args.v.now c.args.k c.args.time c.idle_with.result b
    (c.requires.0.cap_most c.args.k b)
    (rw (
      c.cap_of.ensures,
      c.is_unused-unused.ensures,
      c.is_round.ensures,
      c.from-h.ensures,
      c.horizon_of.ensures,
    ) at c.idle_with.ensures))

pub returns-else-k-device_count : goal.returns-else-k-device_count
returns-else-k-device_count c =
    idle_none (recorder_of c.args.r.now) (cap_at c.args.extras.now) c.args.v.now c.args.k c.args.time
    (omega (arith, c.if-k-device_count.false, c.device_count.ensures))
