-- `visit::found_by` meets its contract.
use mathlib.Core.Path.{refl, sym, ap, subst}
use Prim.Native.Nat.{◌≤◌}
use native.Mathlib.Omega.{arith}
use lib.ListN.{length}
use Rattle.std.specs.Prelude.{is_ok}
use Rattle.schedule.specs.declared.Recorder.{Recorder}
use Rattle.schedule.specs.Quantities.{Valid, jobs}
use Rattle.extras.specs.inside.Tabled.{Room}
use Rattle.visit.specs.inside.Lent as Lent
use Rattle.visit.proofs.Finding.{finds_over, finds_none, finds_found, finds_fit, ran_holds, kept_over, kept_counted}
use Rattle.visit.proofs.found_by.Goals as goal

pub returns-then-out-n : goal.returns-then-out-n
returns-then-out-n c = record {
  finds = Lent.Finds.short c.if-out-n.true;
  within = λ few. refl;
}

pub laid_visit-requires : goal.laid_visit-requires
laid_visit-requires c =
    let e = sym c.lay_flat.ensures in
    (subst Valid e c.requires.0, subst (λ (x : Recorder). Room x c.args.extras.now) e c.requires.1)

pub returns-in_default : goal.returns-in_default
returns-in_default c =
    let room : let a = c.args in jobs a.r ≤ length a.out.now = omega (arith, c.if-out-n.false) in
    record {
      finds = finds_over _ _ _ _ c.lay_flat.ensures _ _ c.laid_visit.ensures.ran (ap is_ok c.in_default.is) _ room;
      within = kept_over _ _ _ _ _ c.laid_visit.ensures.within;
    }

pub returns-then-tally : goal.returns-then-tally
returns-then-tally c =
    let room : let a = c.args in jobs a.r ≤ length a.out.now = omega (arith, c.if-out-n.false) in
    record {
      finds = finds_none _ _ _ _ (ran_holds _ _ _ _ c.lay_flat.ensures _ _ c.laid_visit.ensures.ran (ap is_ok c.in-Ok.is)) _ room c.if-tally.true;
      within = kept_counted _ _ _ _ _ c.laid_visit.ensures.within _ _ c.laid_visit.ensures.ran (ap is_ok c.in-Ok.is);
    }

pub write_starts-requires : goal.write_starts-requires
write_starts-requires c =
    let room : let a = c.args in jobs a.r ≤ length a.out.now = omega (arith, c.if-out-n.false) in
    (c.requires.0.few_jobs, (room, finds_fit _ _ _ _ (ran_holds _ _ _ _ c.lay_flat.ensures _ _ c.laid_visit.ensures.ran (ap is_ok c.in-Ok.is)) c.requires.0 c.if-tally.false))

pub returns : goal.returns
returns c =
    let room : let a = c.args in jobs a.r ≤ length a.out.now = omega (arith, c.if-out-n.false) in
    record {
      finds = finds_found _ _ _ _ (ran_holds _ _ _ _ c.lay_flat.ensures _ _ c.laid_visit.ensures.ran (ap is_ok c.in-Ok.is)) _ room c.if-tally.false _ c.write_starts.ensures;
      within = kept_counted _ _ _ _ _ c.laid_visit.ensures.within _ _ c.laid_visit.ensures.ran (ap is_ok c.in-Ok.is);
    }
