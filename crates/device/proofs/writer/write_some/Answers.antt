-- `device::write_some` meets its contract.
use mathlib.Core.Path.{◌≡◌, ap, ◌∙◌}
use mathlib.Core.List.{◌++◌}
use Prim.Native.Nat.{ℕ, ◌-◌}
use native.Mathlib.Omega.{arith}
use lib.ListN.{replicate, drop}
use Rattle.device.specs.inside.Trips.{shared}
use Rattle.device.proofs.writer.write_some.Goals as goal

pub write_run-requires : goal.write_run-requires
unfolding shared
write_run-requires c =
    let some : let a = c.args in c.saturating_sub.result - c.saturating_sub-2.result ≡ shared a.c a.x a.y = rw (c.saturating_sub.ensures, c.saturating_sub-2.ensures) in
    omega (arith, some)

pub returns : goal.returns
unfolding shared
returns c =
    let some : let a = c.args in c.saturating_sub.result - c.saturating_sub-2.result ≡ shared a.c a.x a.y = rw (c.saturating_sub.ensures, c.saturating_sub-2.ensures) in
    let a = c.args in
    let n = some in
    (c.write_run.ensures.0 ∙ n, c.write_run.ensures.1 ∙ ap (λ (k : ℕ). replicate k a.letter ++ drop k a.rest.now) n)
