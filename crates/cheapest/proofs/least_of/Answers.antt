-- `cheapest::least_of` meets its contract.
use mathlib.Core.Path.{refl, sym, ◌∙◌, subst}
use borrow.Author.Rules.{rules}
use Rattle.schedule.specs.declared.Recorder.{Recorder}
use Rattle.schedule.specs.Quantities.{Valid}
use Rattle.latest.specs.inside.Latest.{Laid}
use Rattle.planner.specs.Promises.{stops}
use Rattle.cheapest.proofs.Ending.{is_possible, is_none, counted_is_none}
use Rattle.cheapest.proofs.Weaker.{weakened}
use Rattle.cheapest.proofs.least_of.Goals as goal

pub returns-then-starts-n : goal.returns-then-starts-n
returns-then-starts-n c = rw c.from.ensures (record { planned = stops c.if-starts-n.true; counted = stops c.if-starts-n.true; lent = λ unsought. refl })

pub lay_latest-requires : goal.lay_latest-requires
lay_latest-requires c = (subst Valid (sym c.flat_of-flat.ensures) c.requires, search rules)

pub returns-then-not-is_possible : goal.returns-then-not-is_possible
returns-then-not-is_possible c =
    let tabled : Laid c.args.r c.lay_latest.new.table = subst (λ (X : Recorder). Laid X c.lay_latest.new.table) c.flat_of-flat.ensures c.lay_latest.ensures in
    let p = c.is_possible in
    rw c.from-then-not-is_possible.ensures (record {
      planned = is_none c.args.r c.requires c.lay_latest.new.table tabled c.args.budget c.args.starts.now c.if-starts-n.false
          (sym p.ensures ∙ c.if-not-is_possible.true);
      counted = counted_is_none c.args.r c.requires c.lay_latest.new.table tabled c.args.budget c.args.starts.now c.if-starts-n.false
          (sym p.ensures ∙ c.if-not-is_possible.true);
      lent = λ unsought. refl;
    })

pub least_with-requires : goal.least_with-requires
least_with-requires c =
    let tabled : Laid c.args.r c.lay_latest.new.table = subst (λ (X : Recorder). Laid X c.lay_latest.new.table) c.flat_of-flat.ensures c.lay_latest.ensures in
    let p = c.is_possible in (
      c.requires,
      (
        c.flat_of-flat.ensures,
        (
          tabled,
          (
            c.if-starts-n.false,
            is_possible c.args.r c.requires c.lay_latest.new.table tabled (sym p.ensures ∙ c.if-not-is_possible.false),
          ),
        ),
      ),
    )

pub returns : goal.returns
returns c =
    let w = c.least_with.ensures in
    record {
      planned = weakened c.args.r c.requires w.counted;
      counted = w.counted;
      lent = λ unsought. absurd (unsought w.sought);
    }
