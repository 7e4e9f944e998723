-- `cheapest::find` meets its contract.
use Prim.Native.Nat.{ℕ}
use native.Mathlib.Omega.{arith}
use lib.ListN.{length-replicate}
use Rattle.flat.specs.inside.Flat.{recorder_of}
use Rattle.extras.specs.inside.Tabled.{cap_at}
use Rattle.least.specs.inside.Outcome.{Recalls}
use Rattle.stored.specs.inside.Cleared.{no_key}
use Rattle.least.proofs.Kept.{right_clear}
use Rattle.least.proofs.Keyed.{recalls_none}
use Rattle.cheapest.proofs.find.Goals as goal

pub lay_extras-requires : goal.lay_extras-requires
lay_extras-requires c =
    let is = length-replicate {A = ℕ} 32976 0 in
    (c.requires.0, record { long = omega (arith, is); reach = λ q. omega (arith, is, c.requires.0.few_ticks) })

pub least_starts-requires : goal.least_starts-requires
least_starts-requires c =
    let R = recorder_of c.args.r.now in
    let l = c.lay_extras in
    let cap = cap_at l.new.extras in
    let tabled = l.ensures in (
      record {
        tabled = tabled;
        laid = c.requires.1.0;
        right =
            right_clear (Recalls R cap) c.clear.new.memory (recalls_none R c.requires.0 cap tabled.caps tabled.cap_most no_key) c.clear.ensures;
      },
      c.requires.1.1,
    )

pub returns : goal.returns
returns c = c.least_starts.ensures
