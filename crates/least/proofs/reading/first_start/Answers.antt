use mathlib.Core.Path.{ap, ◌∙◌, subst}
use Prim.Native.Nat.{ℕ, ◌<◌, max}
use native.Mathlib.Omega.{arith}
use Rattle.std.proofs.lemmas.Result.{err_from_is_err_and}
use Rattle.vertex.proofs.Showing.{ordered_later}
use Rattle.least.specs.inside.Outcome.{recorder}
use Rattle.least.proofs.Trials.{slot_late}
use Rattle.least.proofs.Going.{held_ordered, held_few, held_offers, starts_slot}
use Rattle.least.proofs.Hitting.{passed_next, start_stopped, start_found, start_nowhere}
use Rattle.least.proofs.reading.first_start.Goals as goal

pub returns-then-branch-clause-answer : goal.returns-then-branch-clause-answer
returns-then-branch-clause-answer c =
    let R = recorder c.args.search.now in
    let valid = c.requires.0.tabled.valid in
    let held = c.requires.1.1.0 in
    let known = c.requires.1.1.1.1.0 in
    let one = c.requires.1.1.1.1.1 in
    let from_is = c.max-from.ensures ∙ ap (max _) (c.from.ensures ∙ c.release_of.ensures) in
    let i = c.loop-s.invariant in
    let late = slot_late _ _ _ _ c.loop-s.s (subst (λ (n : ℕ). c.loop-s.s < n) c.last_of-to.ensures c.loop-s-test.true) in
    λ m u h q.
    start_found R valid _ _ _ _ _ 0 _ _ c.last_of-to.result known one from_is _ _ i.passed late _ c.lead_of-lead.ensures.0 _ (rw c.if-branch.true at c.in_ok-hits.ensures.answer) m u h q

pub last_of-to-requires : goal.last_of-to-requires
last_of-to-requires c =
    let valid = c.requires.0.tabled.valid in
    (omega (arith, c.requires.1.1.1.1.0, valid.few_jobs), omega (arith, (held_few (recorder c.args.search.now) valid c.args.v.now c.args.set c.args.time c.requires.1.1.0).1))

pub lead_of-lead-requires : goal.lead_of-lead-requires
lead_of-lead-requires c =
    let R = recorder c.args.search.now in
    let valid = c.requires.0.tabled.valid in
    let held = c.requires.1.1.0 in
    let known = c.requires.1.1.1.1.0 in
    let one = c.requires.1.1.1.1.1 in
    let from_is = c.max-from.ensures ∙ ap (max _) (c.from.ensures ∙ c.release_of.ensures) in
    let i = c.loop-s.invariant in
    let late = slot_late _ _ _ _ c.loop-s.s (subst (λ (n : ℕ). c.loop-s.s < n) c.last_of-to.ensures c.loop-s-test.true) in
    (c.requires.0.tabled, (omega (arith, known, valid.few_jobs), ordered_later R valid _ _ _ (held_ordered R valid _ _ _ held) (omega (arith, i.passed.low, from_is)) (omega (arith, late, valid.ends c.args.j known))))

pub hits-requires : goal.hits-requires
hits-requires c =
    let R = recorder c.args.search.now in
    let valid = c.requires.0.tabled.valid in
    let held = c.requires.1.1.0 in
    let known = c.requires.1.1.1.1.0 in
    let one = c.requires.1.1.1.1.1 in
    let from_is = c.max-from.ensures ∙ ap (max _) (c.from.ensures ∙ c.release_of.ensures) in
    let i = c.loop-s.invariant in
    let late = slot_late _ _ _ _ c.loop-s.s (subst (λ (n : ℕ). c.loop-s.s < n) c.last_of-to.ensures c.loop-s-test.true) in
    (i.lent, (i.within, (held_offers R valid _ _ _ held _ _ known one (omega (arith, i.passed.low, from_is)) late, c.requires.1.1.1.0)))

pub returns-in_err-hits-clause-answer : goal.returns-in_err-hits-clause-answer
returns-in_err-hits-clause-answer c =
    let R = recorder c.args.search.now in
    let valid = c.requires.0.tabled.valid in
    let held = c.requires.1.1.0 in
    let known = c.requires.1.1.1.1.0 in
    let one = c.requires.1.1.1.1.1 in
    let from_is = c.max-from.ensures ∙ ap (max _) (c.from.ensures ∙ c.release_of.ensures) in
    let i = c.loop-s.invariant in
    let late = slot_late _ _ _ _ c.loop-s.s (subst (λ (n : ℕ). c.loop-s.s < n) c.last_of-to.ensures c.loop-s-test.true) in
    λ m u h q.
    rw (err_from_is_err_and c.from_residual.result c.from_residual.ensures.1).1
    (start_stopped R valid _ _ _ _ _ _ _ _ c.last_of-to.result known one from_is _ _ i.passed late _ c.lead_of-lead.ensures.0 c.in_err-hits.ensures.answer m u h q)

pub loop-s-preserved : goal.loop-s-preserved
loop-s-preserved c =
    let R = recorder c.args.search.now in
    let valid = c.requires.0.tabled.valid in
    let held = c.requires.1.1.0 in
    let known = c.requires.1.1.1.1.0 in
    let one = c.requires.1.1.1.1.1 in
    let from_is = c.max-from.ensures ∙ ap (max _) (c.from.ensures ∙ c.release_of.ensures) in
    let i = c.loop-s.invariant in
    let late = slot_late _ _ _ _ c.loop-s.s (subst (λ (n : ℕ). c.loop-s.s < n) c.last_of-to.ensures c.loop-s-test.true) in
    let e = c.in_ok-hits.ensures in
    record {
      lent = e.lent.0;
      within = e.lent.1;
      passed = passed_next R valid _ _ _ _ _ 0 _ _ c.last_of-to.result known one from_is _ _ i.passed late _ c.lead_of-lead.ensures.0 _ (rw c.if-branch.false at e.answer);
    }

pub returns-clause-answer : goal.returns-clause-answer
returns-clause-answer c =
    let R = recorder c.args.search.now in
    let valid = c.requires.0.tabled.valid in
    let held = c.requires.1.1.0 in
    let known = c.requires.1.1.1.1.0 in
    let one = c.requires.1.1.1.1.1 in
    let from_is = c.max-from.ensures ∙ ap (max _) (c.from.ensures ∙ c.release_of.ensures) in
    λ m u h q.
    start_nowhere R valid _ _ _ _ _ 0 _ _ _ known one from_is _ _ c.loop-s.invariant.passed (starts_slot R _ c.requires.0.laid _ _ _ _ (held_few R valid _ _ _ held).0 c.power.ensures c.last_of-to.ensures) (omega (arith, c.loop-s-test.false)) m u h q
