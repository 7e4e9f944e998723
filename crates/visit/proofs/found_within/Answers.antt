-- `visit::found_within` meets its contract.
use Prim.Native.Nat.{ℕ}
use native.Mathlib.Omega.{arith}
use lib.ListN.{length-replicate}
use Rattle.visit.proofs.Finding.{finds_whole}
use Rattle.visit.proofs.found_within.Goals as goal

-- There is room for the horizon in the short table,
pub found_by-requires : goal.found_by-requires
found_by-requires c =
    let is = length-replicate {A = ℕ} 1224 0 in
    (c.requires, record { long = omega (arith, is); reach = λ q. omega (arith, is, c.if-r-le127.true) })

pub returns-then-r-le127 : goal.returns-then-r-le127
returns-then-r-le127 c =
    let f = c.found_by.ensures in
    record {
      finds = finds_whole _ _ _ _ _ f.finds;
      within = f.within;
    }

-- and in the long one for any.
pub found_by-requires-2 : goal.found_by-requires-2
found_by-requires-2 c =
    let is = length-replicate {A = ℕ} 32976 0 in
    (c.requires, record { long = omega (arith, is); reach = λ q. omega (arith, is, c.requires.few_ticks) })

pub returns : goal.returns
returns c =
    let f = c.found_by-2.ensures in
    record {
      finds = finds_whole _ _ _ _ _ f.finds;
      within = f.within;
    }
