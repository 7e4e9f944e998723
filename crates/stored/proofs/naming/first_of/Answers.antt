-- `stored::naming::first_of` meets its contract.
use mathlib.Core.Path.{◌≡◌}
use Prim.Native.Nat.{ℕ, ◌<◌}
use native.Mathlib.Omega.{arith}
use Rattle.flat.specs.inside.Flat.{recorder_of}
use Rattle.extras.specs.inside.Tabled.{cap_at}
use Rattle.stored.proofs.Idling.{first_there, first_over, first_none}
use Rattle.stored.proofs.naming.first_of.Goals as goal
use Rattle.stored.proofs.naming.first_of.Goals.{else-k-device_count-via-then-k-device_count+else-v-k-gt0, else-k-device_count-via-else-k-device_count}

pub cap_of-requires : goal.cap_of-requires
cap_of-requires c = (c.requires.1, omega (arith, c.requires.0.room.long))

pub returns-then-v-k-gt0 : goal.returns-then-v-k-gt0
returns-then-v-k-gt0 c =
    let there : (n : ℕ) → n ≡ (recorder_of c.args.r.now).devices.count → c.args.k < n → c.args.k < (recorder_of c.args.r.now).devices.count = λ n e b. omega arith in
    let d = c.device_count in
    let b = there d.result d.ensures c.if-k-device_count.true in
    rw c.from.ensures (first_there (recorder_of c.args.r.now) (cap_at c.args.extras.now) c.args.v.now c.args.k c.min.result b
    (c.requires.0.cap_most c.args.k b) c.if-v-k-gt0.true (rw c.cap_of.ensures at c.min.ensures))

pub returns-else-k-device_count : goal.returns-else-k-device_count
returns-else-k-device_count c =
    let R = recorder_of c.args.r.now in
    let cap = cap_at c.args.extras.now in
    elim c.else-k-device_count.branch [
      | else-k-device_count-via-then-k-device_count+else-v-k-gt0 w ↦
          first_over R cap c.args.v.now c.args.k (omega (arith, w.if-k-device_count.true, c.device_count.ensures)) w.if-v-k-gt0.false
      | else-k-device_count-via-else-k-device_count w ↦
          first_none R cap c.args.v.now c.args.k (omega (arith, w.if-k-device_count.false, c.device_count.ensures))
    ]
