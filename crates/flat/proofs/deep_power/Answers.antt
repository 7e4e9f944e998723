-- `flat::deep_power` meets its contract.
use mathlib.Core.Path.{ap, ◌∙◌}
use Prim.Native.Nat.{ℕ, ◌+◌, ◌*◌}
use native.Mathlib.Omega.{arith}
use lib.ListN.{get_or}
use Rattle.flat.proofs.Cells.{levels_at, deep_at}
use Rattle.flat.proofs.deep_power.Goals as goal

pub bounds-r-k-2 : goal.bounds-r-k-2
bounds-r-k-2 c =
    let a = c.args in
    omega (arith, c.requires.1.few_levels, levels_at a.r.now a.k (omega arith))

pub returns : goal.returns
returns c =
    let l = c.args.r.now in
    ap (λ (n : ℕ). get_or l (181 + 16 * c.args.k + n) 0) (levels_at l c.args.k (omega arith)) ∙ deep_at l c.args.k (omega arith) c.requires.1
