-- `visit::cuts::drops` meets its contract.
use mathlib.Core.Path.{◌≡◌, ◌∙◌, subst}
use Prim.Native.Nat.{ℕ, suc, ◌+◌, ◌-◌}
use native.Mathlib.Omega.{arith}
use Rattle.schedule.specs.Quantities.{deadline, run}
use Rattle.std.specs.Prelude.{is_err}
use Rattle.flat.specs.inside.Flat.{recorder_of}
use Rattle.visit.specs.inside.Lent.{Added}
use Rattle.visit.proofs.cuts.drops.Goals as goal

pub returns : goal.returns
returns c =
    let a = c.args in
    let run_is = c.from-c.ensures ∙ c.run_of.ensures in
    let due-is = c.from-d.ensures ∙ c.deadline_of.ensures in
    let same : c.saturating_sub.result ≡ suc (deadline (recorder_of a.search.r.now) a.j.0) - (a.start + run (recorder_of a.search.r.now) a.j.0) = omega (arith, c.saturating_sub.ensures, run_is, due-is) in
    subst (λ (n : ℕ). Added a.search.budget n a.tally.now c.add_count.new.tally (is_err c.add_count.result)) same c.add_count.ensures
