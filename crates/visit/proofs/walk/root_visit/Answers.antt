-- `visit::walk::root_visit` meets its contract.
use mathlib.Core.Path.{refl, sym, ap, ◌∙◌}
use Prim.Native.Nat.{ℕ, ◌+◌, ◌≤◌, ◌<◌}
use native.Mathlib.Omega.{arith}
use Rattle.schedule.specs.Visiting.{root, counted}
use Rattle.flat.specs.inside.Flat.{recorder_of}
use Rattle.vertex.specs.inside.Shown.{load_at}
use Rattle.vertex.proofs.Showing.{ordered_later, shown_ordered}
use Rattle.visit.proofs.Rooted.{bare, root_tells, root_over, root_cut, root_aheads, root_complete, root_some, root_stands, root_one, root_came}
use Rattle.visit.specs.inside.Lent.{Long}
use Rattle.visit.proofs.Telling.{counted_less, offered_less}
use Rattle.visit.proofs.walk.root_visit.Goals as goal

pub returns-then-budget-eq0 : goal.returns-then-budget-eq0
returns-then-budget-eq0 c = (c.requires.1.0, λ stop e. root_over _ stop _ c.if-budget-eq0.true _ c.requires.1.1.1.0 e)

pub count_one-requires : goal.count_one-requires
count_one-requires c = omega (arith, c.requires.1.1.0)

pub root_of-v-requires : goal.root_of-v-requires
root_of-v-requires c = c.requires.0.tabled.valid

pub returns-then-from-v : goal.returns-then-from-v
returns-then-from-v c =
    let R = recorder_of c.args.r.now in (
      (counted_less c.args.tally.now _ c.requires.1.0 c.count_one.ensures).0,
      λ stop e. root_cut R stop c.args.budget c.requires.0.tabled.valid _ c.root_of-v.ensures
          (omega (arith, c.if-from-v.true, c.from.ensures ∙ c.horizon_of.ensures)) c.args.tally.now _
          (root_tells R stop c.args.budget c.args.tally.now c.requires.1.0 c.requires.1.1.0 c.requires.1.1.1.0 e) (omega (arith, c.if-budget-eq0.false)) c.count_one.ensures,
    )

pub root_floor-floor-requires : goal.root_floor-floor-requires
root_floor-floor-requires c =
    (c.requires.0.tabled, root_aheads (recorder_of c.args.r.now) c.requires.1.1.1.1.0 c.args.budget c.requires.0.tabled.valid _ c.root_of-v.ensures (omega (arith, c.if-from-v.false, c.from.ensures ∙ c.horizon_of.ensures)))

pub close_of-requires : goal.close_of-requires
close_of-requires c =
    let x = c.requires.0.tabled in
    let R = recorder_of c.args.r.now in
    (x, ordered_later R x.valid _ 0 R.horizon (shown_ordered R x.valid _ _ _ _ c.root_of-v.ensures) (omega arith) (omega arith))

pub overflow_add-e : goal.overflow_add-e
overflow_add-e c = omega (arith, c.close_of.ensures.1, c.root_floor-floor.ensures.1)

pub offer-requires : goal.offer-requires
offer-requires c =
    (counted_less c.args.tally.now _ c.requires.1.0 c.count_one.ensures).0

pub returns-then-n-eq0 : goal.returns-then-n-eq0
returns-then-n-eq0 c =
    let offered-long : Long c.offer.new.tally = (offered_less _ _ _ (counted_less c.args.tally.now _ c.requires.1.0 c.count_one.ensures).0 c.offer.ensures).0 in
    let R = recorder_of c.args.r.now in
    let close = c.close_of in
    let f = c.root_floor-floor in (
      offered-long,
      λ stop q.
          root_complete R stop c.args.budget c.requires.0.tabled.valid _ c.root_of-v.ensures (omega (arith, c.if-from-v.false, c.from.ensures ∙ c.horizon_of.ensures)) c.args.tally.now _
          (root_tells R stop c.args.budget c.args.tally.now c.requires.1.0 c.requires.1.1.0 c.requires.1.1.1.0 q) (omega (arith, c.if-budget-eq0.false)) c.count_one.ensures
          (sym c.job_count-n.ensures ∙ c.if-n-eq0.true) f.result _ f.ensures.0 (ap (λ (y : ℕ). f.result + y) close.ensures.0) (omega (arith, close.ensures.1, f.ensures.1)) _ c.offer.ensures
          _ c.go_on.ensures,
    )

pub all_jobs-requires : goal.all_jobs-requires
all_jobs-requires c = c.requires.0.tabled.valid

pub choices-requires : goal.choices-requires
choices-requires c =
    let x = c.requires.0.tabled in
    let R = recorder_of c.args.r.now in
    let f = c.root_floor-floor in
    let shows = c.root_of-v.ensures in
    let room : load_at c.root_of-v.result ≤ R.horizon = omega (arith, c.if-from-v.false, c.from.ensures ∙ c.horizon_of.ensures) in
    let stop = c.requires.1.1.1.1.0 in
    let tells = root_tells R stop c.args.budget c.args.tally.now c.requires.1.0 c.requires.1.1.0 c.requires.1.1.1.0 c.requires.1.1.1.1.1 in
    let less : 0 < c.args.budget = omega (arith, c.if-budget-eq0.false) in
    let n = root_some R stop c.args.budget x.valid _ shows room _ _ tells less c.count_one.ensures (λ z. c.if-n-eq0.false (c.job_count-n.ensures ∙ z)) in (
      c.requires.0,
      record {
        stop = stop;
        left = n.0;
        vertex = root R;
        state = counted bare;
        holds = (root_stands R stop c.args.budget x.valid _ shows room _ _ tells less c.count_one.ensures n.0 n.1 _ _ c.all_jobs.ensures f.ensures.0, refl);
        tells = root_one R stop c.args.budget x.valid _ shows room _ _ tells less c.count_one.ensures;
      },
    )

pub returns : goal.returns
returns c =
    let x = c.requires.0.tabled in
    let R = recorder_of c.args.r.now in
    let f = c.root_floor-floor in
    let shows = c.root_of-v.ensures in
    let room : load_at c.root_of-v.result ≤ R.horizon = omega (arith, c.if-from-v.false, c.from.ensures ∙ c.horizon_of.ensures) in
    let less : 0 < c.args.budget = omega (arith, c.if-budget-eq0.false) in (
      c.choices.ensures.kept.1.0,
      λ stop q.
          let tells = root_tells R stop c.args.budget c.args.tally.now c.requires.1.0 c.requires.1.1.0 c.requires.1.1.1.0 q in
          let n = root_some R stop c.args.budget x.valid _ shows room _ _ tells less c.count_one.ensures (λ z. c.if-n-eq0.false (c.job_count-n.ensures ∙ z)) in
          root_came R stop c.args.budget x.valid _ shows room _ _ tells less c.count_one.ensures n.0 n.1 _ _
          (c.choices.ensures.came stop n.0 (root R) (counted bare) (root_stands R stop c.args.budget x.valid _ shows room _ _ tells less c.count_one.ensures n.0 n.1 _ _ c.all_jobs.ensures f.ensures.0) refl
          (root_one R stop c.args.budget x.valid _ shows room _ _ tells less c.count_one.ensures)),
    )
