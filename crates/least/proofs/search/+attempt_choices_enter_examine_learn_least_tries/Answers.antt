use mathlib.Core.Path.{refl, sym, ap, ◌∙◌, subst}
use Prim.Native.Nat.{ℕ, suc, ◌+◌, ◌/◌, ◌≤◌, ◌<◌, max}
use native.Mathlib.Omega.{arith}
use lib.Pow.{pow_pos}
use Rattle.std.specs.Prelude.{Ok}
use Rattle.std.proofs.lemmas.Result.{err_from_is_err_and}
use Rattle.latest.proofs.Members.{has_le}
use Rattle.schedule.specs.Visiting.{child}
use Rattle.value.specs.inside.Leasts.{waited}
use Rattle.extras.specs.inside.Tabled.{cap_at}
use Rattle.vertex.proofs.Showing.{ordered_later, ticks_shown, load_shown}
use Rattle.stored.specs.declared.Key.{Key}
use Rattle.least.specs.inside.Entries.{Looked}
use Rattle.least.specs.inside.Outcome.{recorder, passed}
use Rattle.least.proofs.Falling.{waited_shown}
use Rattle.least.proofs.Counting.{came_more, most_less, most_near, most_own}
use Rattle.least.proofs.Choosing.{held_open, chosen_none, chosen_passed, chosen_tried, chosen_stopped, chosen_all}
use Rattle.least.proofs.Trials.{trial_start, trial_next, trial_stopped, trial_end}
use Rattle.least.proofs.Going.{held_by, held_ordered, held_few, held_later, held_offers, some_left, offers_known, offers_end, offers_bit, child_shows, child_held, complete_answers, known_answers, head_few, learnt, learnt_kept, kept_lent, tried_entered, alive_early, near_comes, far_stops, far_comes, waits, starts_late, starts_to_lem}
use Rattle.least.proofs.search.+attempt_choices_enter_examine_learn_least_tries.Goals as goal
use Rattle.least.proofs.search.+attempt_choices_enter_examine_learn_least_tries.Goals.{choices-then-has+in_ok-best, choices-else-has}

pub attempt-returns-then-most-lead-clause-answer : goal.attempt-returns-then-most-lead-clause-answer
attempt-returns-then-most-lead-clause-answer t c = λ m u h q. (omega arith, (c.requires.1.1.1.1.1, passed c.if-most-lead.true))

pub attempt-returns-clause-answer : goal.attempt-returns-clause-answer
attempt-returns-clause-answer t c =
    λ m u h q.
    let w = c.in_ok-x.ensures.answer m u h q in
    (w.0, tried_entered _ _ _ _ _ _ c.max.ensures (omega arith) w.1.0 c.requires.1.1.1.1.1 w.1.1)

pub choices-loop-j-init : goal.choices-loop-j-init
choices-loop-j-init t c = record { lent = c.requires.0; within = c.requires.1.0; chosen = chosen_none _ _ _ _ _ _ _ _ c.requires.1.1.1.0 }

pub choices-returns-in_err-best-clause-answer : goal.choices-returns-in_err-best-clause-answer
choices-returns-in_err-best-clause-answer t c =
    let R = recorder c.args.search.now in
    let valid = c.requires.0.tabled.valid in
    λ m u h q.
    rw (err_from_is_err_and c.from_residual.result c.from_residual.ensures.1).1
    (chosen_stopped R valid _ _ _ _ _ _ _ _ _ _ c.loop-j.invariant.chosen c.in_err-best.ensures.answer (omega (arith, c.job_count-j-end.ensures)) m u h q)

pub choices-loop-j-preserved : goal.choices-loop-j-preserved
choices-loop-j-preserved t c =
    let R = recorder c.args.search.now in
    let valid = c.requires.0.tabled.valid in
    let i = c.loop-j.invariant in
    elim c.if-has.branch [
      | choices-then-has+in_ok-best w ↦
          let e = w.in_ok-best.ensures in
          rw (w.memory-is, w.entered-is, w.best-is)
          (record {
            lent = e.lent.0;
            within = e.lent.1;
            chosen = chosen_tried R valid _ _ _ _ _ _ _ _ _ _ i.chosen _ _ e.answer c.requires.1.1.0 (sym w.if-has.ensures);
          })
      | choices-else-has w ↦
          rw (w.memory-is, w.entered-is, w.best-is)
          (record { lent = i.lent; within = i.within; chosen = chosen_passed R valid _ _ _ _ _ _ _ _ _ _ i.chosen (sym w.if-has.ensures) })
    ]

pub choices-returns-clause-answer : goal.choices-returns-clause-answer
choices-returns-clause-answer t c =
    let R = recorder c.args.search.now in
    let valid = c.requires.0.tabled.valid in
    λ m u h q. chosen_all R valid _ _ _ _ _ _ _ _ _ _ c.loop-j.invariant.chosen (omega (arith, c.job_count-j-end.ensures)) m u h q

pub enter-place-requires : goal.enter-place-requires
enter-place-requires t c =
    let R = recorder c.args.search.now in
    let valid = c.requires.0.tabled.valid in
    let o = c.requires.1.1.0 in
    (valid, (o.shows.long, ((offers_known R valid _ _ _ _ o).1, (omega (arith, offers_end R valid c.args.v.now c.args.set c.args.j c.args.s o), (load_shown R valid _ _ _ _ o.shows _ o.job, ticks_shown R valid _ _ _ _ o.shows _ o.job)))))

pub enter-run_of-requires : goal.enter-run_of-requires
enter-run_of-requires t c = (offers_known (recorder c.args.search.now) c.requires.0.tabled.valid _ _ _ _ c.requires.1.1.0).1

pub enter-overflow_add-end : goal.enter-overflow_add-end
enter-overflow_add-end t c =
    omega (arith, offers_end (recorder c.args.search.now) c.requires.0.tabled.valid c.args.v.now c.args.set c.args.j c.args.s c.requires.1.1.0, c.from.ensures, c.run_of.ensures)

pub enter-power-requires : goal.enter-power-requires
enter-power-requires t c =
    omega (arith, (offers_known (recorder c.args.search.now) c.requires.0.tabled.valid c.args.v.now c.args.set c.args.j c.args.s c.requires.1.1.0).1)

pub enter-overflow_sub-set : goal.enter-overflow_sub-set
enter-overflow_sub-set t c =
    (offers_bit (recorder c.args.search.now) c.requires.0.tabled.valid c.args.v.now c.args.set c.args.j c.args.s c.requires.1.1.0 c.power.result c.power.ensures).1

pub enter-least-requires : goal.enter-least-requires
enter-least-requires t c =
    let R = recorder c.args.search.now in
    let valid = c.requires.0.tabled.valid in
    let o = c.requires.1.1.0 in
    let end_is = ap (λ (n : ℕ). c.args.s + n) (c.from.ensures ∙ c.run_of.ensures) in
    (omega (arith, offers_bit R valid c.args.v.now c.args.set c.args.j c.args.s o c.power.result c.power.ensures), (c.requires.0, (c.requires.1.0, (child_held R valid _ _ _ _ o _ _ c.power.ensures end_is _ c.place.ensures, c.requires.1.1.1))))

pub enter-returns-clause-answer : goal.enter-returns-clause-answer
enter-returns-clause-answer t c =
    let R = recorder c.args.search.now in
    let valid = c.requires.0.tabled.valid in
    let o = c.requires.1.1.0 in
    let end_is = ap (λ (n : ℕ). c.args.s + n) (c.from.ensures ∙ c.run_of.ensures) in
    λ m u h q.
    came_more _ _ _ _ _ _ (most_less R m _) c.least.result (c.least.ensures.answer m (child R u c.args.j c.args.s) (child_shows R valid _ _ _ _ o _ _ c.power.ensures end_is _ c.place.ensures m u h q) (sym end_is))

pub examine-wait_of-until-requires : goal.examine-wait_of-until-requires
examine-wait_of-until-requires t c = (c.requires.0.tabled, held_ordered (recorder c.args.search.now) c.requires.0.tabled.valid _ _ _ c.requires.1.1.0)

pub examine-returns-in_err-near-clause-answer : goal.examine-returns-in_err-near-clause-answer
examine-returns-in_err-near-clause-answer t c =
    let R = recorder c.args.search.now in
    let valid = c.requires.0.tabled.valid in
    let wait = c.wait_of-until.ensures in
    let order = waits _ _ _ wait.1 wait.0 (held_by R valid _ _ _ c.requires.1.1.0) in
    λ m u h q. rw (err_from_is_err_and c.from_residual.result c.from_residual.ensures.1).1 (omega (arith, c.in_err-near.ensures.answer m u h q, most_near R m c.args.time c.wait_of-until.result order wait.0))

pub examine-offset_bounds-search-set : goal.examine-offset_bounds-search-set
examine-offset_bounds-search-set t c = omega (arith, (held_few (recorder c.args.search.now) c.requires.0.tabled.valid c.args.v.now c.args.set c.args.time c.requires.1.1.0).1)

pub examine-bounds-search-set : goal.examine-bounds-search-set
examine-bounds-search-set t c = omega (arith, (held_few (recorder c.args.search.now) c.requires.0.tabled.valid c.args.v.now c.args.set c.args.time c.requires.1.1.0).1)

pub examine-returns-then-from-until-clause-answer : goal.examine-returns-then-from-until-clause-answer
examine-returns-then-from-until-clause-answer t c =
    let R = recorder c.args.search.now in
    let valid = c.requires.0.tabled.valid in
    let held = c.requires.1.1.0 in
    let wait = c.wait_of-until.ensures in
    let order = waits _ _ _ wait.1 wait.0 (held_by R valid _ _ _ held) in
    let last = c.requires.0.laid.laid c.args.set (held_few R valid c.args.v.now c.args.set c.args.time held).0 in
    λ m u h q. near_comes R valid _ _ m u h _ wait.0 _ q order 0 _ _ _ _ (c.in_ok-near.ensures.answer m u h q) (omega (arith, c.if-from-until.true, c.from.ensures, last))

pub examine-least-requires : goal.examine-least-requires
examine-least-requires t c =
    let R = recorder c.args.search.now in
    let valid = c.requires.0.tabled.valid in
    let held = c.requires.1.1.0 in
    let wait = c.wait_of-until.ensures in
    let order = waits _ _ _ wait.1 wait.0 (held_by R valid _ _ _ held) in
    let e = c.in_ok-near.ensures in
    let last = c.requires.0.laid.laid c.args.set (held_few R valid c.args.v.now c.args.set c.args.time held).0 in
    let early = alive_early R valid c.args.set c.wait_of-until.result c.requires.1.1.1.1 (omega (arith, c.if-from-until.false, c.from.ensures, last)) in
    let later = wait.1 early in
    (omega (arith, later, wait.0, valid.few_ticks), (e.lent.0, (e.lent.1, (held_later R valid _ _ _ held _ order wait.0, omega (arith, c.min.ensures, c.requires.1.1.1.0)))))

pub examine-returns-in_err-far-clause-answer : goal.examine-returns-in_err-far-clause-answer
examine-returns-in_err-far-clause-answer t c =
    let R = recorder c.args.search.now in
    let valid = c.requires.0.tabled.valid in
    let held = c.requires.1.1.0 in
    let wait = c.wait_of-until.ensures in
    let order = waits _ _ _ wait.1 wait.0 (held_by R valid _ _ _ held) in
    let last = c.requires.0.laid.laid c.args.set (held_few R valid c.args.v.now c.args.set c.args.time held).0 in
    let early = alive_early R valid c.args.set c.wait_of-until.result c.requires.1.1.1.1 (omega (arith, c.if-from-until.false, c.from.ensures, last)) in
    λ m u h q.
    rw (err_from_is_err_and c.from_residual-in_err-far.result c.from_residual-in_err-far.ensures.1).1
    (far_stops R valid _ _ m u h _ wait.0 _ q order _ _ _ _ _ (c.in_ok-near.ensures.answer m u h q) (wait.1 early) 0 0 0
    (c.in_err-far.ensures.answer (suc m) (waited R u c.wait_of-until.result) (waited_shown R valid _ _ _ u h _ (omega (arith, q, order)) wait.0) refl))

pub examine-returns-clause-answer : goal.examine-returns-clause-answer
examine-returns-clause-answer t c =
    let R = recorder c.args.search.now in
    let valid = c.requires.0.tabled.valid in
    let held = c.requires.1.1.0 in
    let wait = c.wait_of-until.ensures in
    let order = waits _ _ _ wait.1 wait.0 (held_by R valid _ _ _ held) in
    let last = c.requires.0.laid.laid c.args.set (held_few R valid c.args.v.now c.args.set c.args.time held).0 in
    let early = alive_early R valid c.args.set c.wait_of-until.result c.requires.1.1.1.1 (omega (arith, c.if-from-until.false, c.from.ensures, last)) in
    λ m u h q.
    rw c.min-2.ensures
    (far_comes R valid _ _ m u h _ wait.0 _ q order 0 _ _ _ _ (c.in_ok-near.ensures.answer m u h q) (wait.1 early) _ _ _ c.min.ensures
    (c.in_ok-far.ensures.answer (suc m) (waited R u c.wait_of-until.result) (waited_shown R valid _ _ _ u h _ (omega (arith, q, order)) wait.0) refl))

pub learn-returns-then-before-search-clause-answer : goal.learn-returns-then-before-search-clause-answer
learn-returns-then-before-search-clause-answer t c = λ m u h q. omega (arith, most_own (recorder c.args.search.now) m c.args.time, c.if-before-search.true)

pub learn-returns-in_err-found-clause-answer : goal.learn-returns-in_err-found-clause-answer
learn-returns-in_err-found-clause-answer t c =
    λ m u h q. rw (err_from_is_err_and c.from_residual.result c.from_residual.ensures.1).1 (omega (arith, most_own (recorder c.args.search.now) m c.args.time, c.in_err-found.ensures.answer m u h q))

pub learn-remember-requires : goal.learn-remember-requires
learn-remember-requires t c =
    let R = recorder c.args.search.now in
    let valid = c.requires.0.tabled.valid in
    let held = c.requires.1.1.0 in
    let key-is = c.requires.1.1.1.1.1.0 in
    let o = held_open R valid _ _ _ held c.requires.1.1.1.1.0 in
    let few = held_few R valid c.args.v.now c.args.set c.args.time held in (
      subst (λ (k : Key). k.head < 536870912) (sym key-is) (head_few R (cap_at c.args.search.now.extras.now) c.args.v.now c.args.set c.args.time few.1 (omega (arith, held_by R valid c.args.v.now c.args.set c.args.time held, valid.few_ticks))),
      omega (arith, c.max-best.ensures, (c.in_ok-found.ensures.answer o.left o.vertex o.shows o.time).1.0, c.struct_known-1.given),
    )

pub learn-returns-clause-lent : goal.learn-returns-clause-lent
learn-returns-clause-lent t c =
    let R = recorder c.args.search.now in
    let valid = c.requires.0.tabled.valid in
    let held = c.requires.1.1.0 in
    let key-is = c.requires.1.1.1.1.1.0 in
    let o = held_open R valid _ _ _ held c.requires.1.1.1.1.0 in
    let few = held_few R valid c.args.v.now c.args.set c.args.time held in
    let looked = subst (λ (k : Key). Looked c.args.memory.now k c.args.spot) key-is c.requires.1.1.1.1.1.1 in
    let e = c.in_ok-found.ensures in
    let keeps = c.remember.ensures in
    let early : c.args.time ≤ 4096 = omega (arith, held_by R valid c.args.v.now c.args.set c.args.time held, valid.few_ticks) in
    let w = learnt_kept R c.args.search.now.extras.now c.args.search.now.latest.now c.args.memory.now c.args.v.now c.requires.0 c.args.set c.args.time c.args.spot looked _ _ _ c.max-best.ensures o.left o.vertex o.shows o.time (e.answer o.left o.vertex o.shows o.time).1.1 in
    (kept_lent R _ _ _ _ e.lent.0 _ _ few.1 early _ key-is o.left o.vertex o.shows o.time _ _ w _ keeps.0 keeps.1 _ keeps.2, e.lent.1)

pub learn-returns-clause-answer : goal.learn-returns-clause-answer
learn-returns-clause-answer t c =
    let R = recorder c.args.search.now in
    let valid = c.requires.0.tabled.valid in
    let looked = subst (λ (k : Key). Looked c.args.memory.now k c.args.spot) c.requires.1.1.1.1.1.0 c.requires.1.1.1.1.1.1 in
    λ m u h q.
    learnt R c.args.search.now.extras.now c.args.search.now.latest.now c.args.memory.now c.args.v.now c.requires.0 c.args.set c.args.time c.args.spot looked c.args.slack c.raised-limit.result c.args.entered.now _ _ _ c.raised-limit.ensures.0 (omega (arith, c.struct_known-1.given)) c.max-best.ensures m u h q (c.in_ok-found.ensures.answer m u h q)

pub least-close_of-requires : goal.least-close_of-requires
least-close_of-requires t c =
    let R = recorder c.args.search.now in
    let valid = c.requires.0.tabled.valid in
    let held = c.requires.1.1.0 in
    (c.requires.0.tabled, ordered_later R valid _ _ _ (held_ordered R valid _ _ _ held) (held_by R valid _ _ _ held) (omega arith))

pub least-returns-then-set-eq0-clause-answer : goal.least-returns-then-set-eq0-clause-answer
least-returns-then-set-eq0-clause-answer t c =
    λ m u h q. (omega arith, (omega (arith, c.close_of.ensures.1), complete_answers (recorder c.args.search.now) c.requires.0.tabled.valid _ _ m u h c.if-set-eq0.true _ _ c.close_of.ensures.0))

pub least-key_of-key-requires : goal.least-key_of-key-requires
least-key_of-key-requires t c =
    let R = recorder c.args.search.now in
    let valid = c.requires.0.tabled.valid in
    let held = c.requires.1.1.0 in
    (c.requires.0.tabled, (held_ordered R valid _ _ _ held, (held_few R valid _ _ _ held).1))

pub least-returns-then-is_enough-clause-answer : goal.least-returns-then-is_enough-clause-answer
least-returns-then-is_enough-clause-answer t c =
    let R = recorder c.args.search.now in
    let valid = c.requires.0.tabled.valid in
    let looked = subst (λ (k : Key). Looked c.args.memory.now k c.look-spot.result) c.key_of-key.ensures c.look-spot.ensures in
    λ m u h q.
    some_left R valid _ _ m u h (omega (arith, c.if-set-eq0.false)) c.args.time 0 _ _ _ (Ok (c.look-spot.result.known / 2)) (λ n h'. (
      omega arith,
      (
        omega (arith, c.struct_known-1.given),
        known_answers R c.args.search.now.extras.now c.args.search.now.latest.now c.args.memory.now c.args.v.now c.requires.0 c.args.set c.args.time c.look-spot.result looked _ (sym c.is_enough.ensures ∙ c.if-is_enough.true) n u h' q,
      ),
    ))

pub least-returns-clause-answer : goal.least-returns-clause-answer
least-returns-clause-answer t c =
    λ m u h q.
    some_left (recorder c.args.search.now) c.requires.0.tabled.valid _ _ m u h (omega (arith, c.if-set-eq0.false)) c.args.time _ _ _ _ c.learn.result (λ n h'. c.learn.ensures.answer n u h' q)

pub tries-last_of-requires : goal.tries-last_of-requires
tries-last_of-requires t c =
    let R = recorder c.args.search.now in
    let valid = c.requires.0.tabled.valid in
    (omega (arith, c.requires.1.1.1.1.1.0, valid.few_jobs), omega (arith, (held_few R valid c.args.v.now c.args.set c.args.time c.requires.1.1.0).1))

pub tries-loop-s-init : goal.tries-loop-s-init
tries-loop-s-init t c = record { lent = c.requires.0; within = c.requires.1.0; trial = trial_start _ _ _ _ _ _ _ _ _ _ _ _ c.requires.1.1.1.1.0 }

pub tries-lead_of-lead-requires : goal.tries-lead_of-lead-requires
tries-lead_of-lead-requires t c =
    let R = recorder c.args.search.now in
    let valid = c.requires.0.tabled.valid in
    let held = c.requires.1.1.0 in
    let known = c.requires.1.1.1.1.1.0 in
    let one = c.requires.1.1.1.1.1.1 in
    let from_is = c.max-from.ensures ∙ ap (max _) (c.from.ensures ∙ c.release_of.ensures) in
    let i = c.loop-s.invariant in
    let by : c.args.time ≤ c.loop-s.s = omega (arith, i.trial.low, from_is) in
    let late = starts_late R c.args.j _ _ _ _ c.min-to.ensures c.last_of.ensures in
    (c.requires.0.tabled, (omega (arith, known, valid.few_jobs), ordered_later R valid _ _ _ (held_ordered R valid _ _ _ held) by (omega (arith, late c.loop-s.s c.loop-s-test.true, valid.ends c.args.j known))))

pub tries-attempt-requires : goal.tries-attempt-requires
tries-attempt-requires t c =
    let R = recorder c.args.search.now in
    let valid = c.requires.0.tabled.valid in
    let held = c.requires.1.1.0 in
    let known = c.requires.1.1.1.1.1.0 in
    let one = c.requires.1.1.1.1.1.1 in
    let from_is = c.max-from.ensures ∙ ap (max _) (c.from.ensures ∙ c.release_of.ensures) in
    let i = c.loop-s.invariant in
    let by : c.args.time ≤ c.loop-s.s = omega (arith, i.trial.low, from_is) in
    let late = starts_late R c.args.j _ _ _ _ c.min-to.ensures c.last_of.ensures in
    let offers = held_offers R valid _ _ _ held _ _ known one (omega (arith, i.trial.low, from_is)) (late c.loop-s.s c.loop-s-test.true) in
    (omega arith, (i.lent, (i.within, (offers, (omega (arith, c.min-most.ensures, c.requires.1.1.1.0), (c.lead_of-lead.ensures.1, i.trial.small_ahead))))))

pub tries-returns-in_err-x-clause-answer : goal.tries-returns-in_err-x-clause-answer
tries-returns-in_err-x-clause-answer t c =
    let R = recorder c.args.search.now in
    let valid = c.requires.0.tabled.valid in
    let held = c.requires.1.1.0 in
    let known = c.requires.1.1.1.1.1.0 in
    let one = c.requires.1.1.1.1.1.1 in
    let from_is = c.max-from.ensures ∙ ap (max _) (c.from.ensures ∙ c.release_of.ensures) in
    let i = c.loop-s.invariant in
    let by : c.args.time ≤ c.loop-s.s = omega (arith, i.trial.low, from_is) in
    let late = starts_late R c.args.j _ _ _ _ c.min-to.ensures c.last_of.ensures in
    λ m u o h q w.
    rw (err_from_is_err_and c.from_residual.result c.from_residual.ensures.1).1
    (trial_stopped R valid _ _ _ _ _ _ _ _ _ _ _ _ _ _ _ i.trial c.loop-s-test.true by c.in_err-x.ensures.answer _ (omega (arith, from_is, c.min-to.ensures)) m u o h q w)

pub tries-overflow_add-lead : goal.tries-overflow_add-lead
tries-overflow_add-lead t c =
    let R = recorder c.args.search.now in
    let valid = c.requires.0.tabled.valid in
    let held = c.requires.1.1.0 in
    let known = c.requires.1.1.1.1.1.0 in
    let one = c.requires.1.1.1.1.1.1 in
    let from_is = c.max-from.ensures ∙ ap (max _) (c.from.ensures ∙ c.release_of.ensures) in
    let i = c.loop-s.invariant in
    let by : c.args.time ≤ c.loop-s.s = omega (arith, i.trial.low, from_is) in
    let late = starts_late R c.args.j _ _ _ _ c.min-to.ensures c.last_of.ensures in
    let o = held_open R valid _ _ _ held (omega (arith, has_le c.args.set c.args.j one, pow_pos c.args.j)) in
    omega (arith, c.lead_of-lead.ensures.1, (c.in_ok-x.ensures.answer o.left o.vertex o.shows (omega (arith, o.time, by))).1.0)

pub tries-loop-s-preserved : goal.tries-loop-s-preserved
tries-loop-s-preserved t c =
    let R = recorder c.args.search.now in
    let valid = c.requires.0.tabled.valid in
    let held = c.requires.1.1.0 in
    let known = c.requires.1.1.1.1.1.0 in
    let one = c.requires.1.1.1.1.1.1 in
    let from_is = c.max-from.ensures ∙ ap (max _) (c.from.ensures ∙ c.release_of.ensures) in
    let i = c.loop-s.invariant in
    let by : c.args.time ≤ c.loop-s.s = omega (arith, i.trial.low, from_is) in
    let late = starts_late R c.args.j _ _ _ _ c.min-to.ensures c.last_of.ensures in
    let e = c.in_ok-x.ensures in
    record {
      lent = e.lent.0;
      within = e.lent.1;
      trial =
          rw (c.min-best.ensures, c.saturating_sub-ahead.ensures)
          (trial_next R valid _ _ _ _ _ _ _ _ _ _ _ _ _ _ _ i.trial c.loop-s-test.true by _ _ _ (rw c.min-most.ensures at e.answer) _ c.requires.0.tabled held known one (omega (arith, from_is)) late c.falls_of-fall.ensures c.lead_of-lead.ensures.0);
    }

pub tries-returns-clause-answer : goal.tries-returns-clause-answer
tries-returns-clause-answer t c =
    let R = recorder c.args.search.now in
    let valid = c.requires.0.tabled.valid in
    let held = c.requires.1.1.0 in
    let known = c.requires.1.1.1.1.1.0 in
    let one = c.requires.1.1.1.1.1.1 in
    let from_is = c.max-from.ensures ∙ ap (max _) (c.from.ensures ∙ c.release_of.ensures) in
    λ m u o h q w.
    trial_end R valid _ _ _ _ _ _ _ _ _ _ _ _ known one from_is (starts_to_lem R _ c.requires.0.laid _ _ _ _ _ _ (held_few R valid _ _ _ held).0 c.power.ensures c.min-to.ensures c.last_of.ensures) _ _ _ _ c.loop-s.invariant.trial (omega (arith, c.loop-s-test.false)) m u o h q w
