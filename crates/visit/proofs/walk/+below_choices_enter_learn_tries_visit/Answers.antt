use mathlib.Core.Path.{◌≡◌, refl, sym, ap, ◌∙◌, subst}
use Prim.Native.Nat.{ℕ, suc, ◌+◌, ◌-◌, ◌≤◌, ◌<◌, ◌/◌, max}
use native.Mathlib.Omega.{arith}
use Rattle.std.specs.Prelude.{is_err}
use Rattle.flat.specs.inside.Flat.{recorder_of}
use Rattle.extras.specs.inside.Tabled.{cap_at}
use Rattle.recall.specs.inside.Asks.{Asks}
use Rattle.visit.proofs.Remembering.{added_comes, added_kept, seen_lends, asked_comes}
use mathlib.Core.Bool.{Bool, false}
use mathlib.Core.Logic.{inl, inr}
use mathlib.Core.List.{◌∷◌}
use native.Mathlib.Nat.{le_refl}
use native.Mathlib.Numerals.{add-one}
use lib.ListN.{length}
use Rattle.base.specs.Lists.{up_from}
use Rattle.schedule.specs.Quantities.{jobs, release, deadline, run}
use Rattle.schedule.specs.Visiting.{Vertex, Visited, counted, child, starts, earliest}
use Rattle.schedule.specs.Visiting as order
use Rattle.visit.specs.declared.tally.Tally.{Tally}
use Rattle.visit.specs.inside.Stops.{visit_by}
use Rattle.latest.specs.inside.Sets.{members}
use Rattle.latest.proofs.Tabled.{power_next}
use Rattle.vertex.proofs.Lasting.{bit_is}
use Rattle.vertex.proofs.Showing.{jobs_shown, job_in_lem, load_shown, ticks_shown}
use Rattle.visit.specs.inside.Lent.{Long, count_at, energy_at, Tells, Stands, Starts, Tries}
use Rattle.visit.proofs.Visits.{job_walk, choices_grow}
use Rattle.visit.proofs.Telling.{counted_less, noted_less, offered_less}
use Rattle.visit.proofs.Going.{came_done, start_steady, job_steady, Going, going_from, going_as, going_end, going_next, going_over, up_next, members_one, members_not, members_over, going_rest}
use Rattle.visit.proofs.Entering.{Cuts, starts_of_lem, starts_known, starts_end, starts_ordered, cuts_less, cuts_at, from_small, load_room, tries_of, visit_over, tells_more, visit_drops, visit_enters, bit_room, size_room, enters_of, left_some, enters_small, enters_noted, enters_complete, stands_child, enters_came, starts_dropped}
use Rattle.base.proofs.Numbers.{halved}
use Rattle.visit.proofs.walk.+below_choices_enter_learn_tries_visit.Goals as goal
use Rattle.visit.proofs.walk.+below_choices_enter_learn_tries_visit.Goals.{choices-then-rest-eq1+in_ok-tries, choices-else-rest-eq1}

pub below-choices-requires : goal.below-choices-requires
below-choices-requires t c =
    (omega arith, (c.requires.0, c.requires.1.1))

pub below-returns-then-not-is_many : goal.below-returns-then-not-is_many
below-returns-then-not-is_many t c = c.choices.ensures

pub below-slack_of-slack-requires : goal.below-slack_of-slack-requires
below-slack_of-slack-requires t c = c.requires.1.0

pub below-ask-asked-requires : goal.below-ask-asked-requires
below-ask-asked-requires t c =
    let w = c.requires.1.1 in
    (c.requires.0.tabled, (record { left = suc w.left; vertex = w.vertex; shows = w.holds.0.shows; time = w.holds.1 }, c.requires.0.right))

pub below-add_count-requires : goal.below-add_count-requires
below-add_count-requires t c =
    let w = c.requires.1.1.tells in
    omega (arith, w.count, w.within)

pub below-returns-in-Some : goal.below-returns-in-Some
below-returns-in-Some t c =
    let R = recorder_of c.args.search.r.now in
    let asks = subst (λ (x : ℕ). Asks R (cap_at c.args.search.extras.now) c.args.place.v.now c.args.place.set c.args.place.time x c.ask-asked.result) c.slack_of-slack.ensures c.ask-asked.ensures in record {
      kept = (c.requires.0, added_kept R c.requires.1.1.stop c.args.search.budget _ _ _ _ c.requires.1.1.tells.long c.add_count.ensures);
      came = λ stop m u st h q w. added_comes R stop c.args.search.budget _ _ _ _ c.add_count.ensures u st _
          (asked_comes R stop c.args.search.budget c.args.search.extras.now c.args.place.v.now c.args.place.set c.args.place.from c.args.place.time c.ask-asked.result c.args.tally.now asks
          c.requires.1.0 _ c.in-Some.is m u h q st w) w;
    }

pub below-learn-requires : goal.below-learn-requires
below-learn-requires t c =
    let R = recorder_of c.args.search.r.now in
    let asks = subst (λ (x : ℕ). Asks R (cap_at c.args.search.extras.now) c.args.place.v.now c.args.place.set c.args.place.time x c.ask-asked.result) c.slack_of-slack.ensures c.ask-asked.ensures in
    (omega arith, (c.requires.0, (c.requires.1.0, (asks, c.requires.1.1))))

pub below-returns-in-None : goal.below-returns-in-None
below-returns-in-None t c = c.learn.ensures

pub choices-dues_in-dues-requires : goal.choices-dues_in-dues-requires
choices-dues_in-dues-requires t c = c.requires.0.tabled

pub choices-loop-j-init : goal.choices-loop-j-init
unfolding order.choices
choices-loop-j-init t c =
    let R = recorder_of c.args.search.r.now in
    let all : jobs R ≡ c.job_count-n.result - 0 = omega (arith, c.job_count-n.ensures) in (
      refl,
      omega arith,
      c.requires.1.tells.long,
      le_refl _,
      (λ stop m u st stands time tells.
          going_as R stop c.args.search.budget u (job_walk R stop m u) c.args.tally.now u.unplaced _ _ (sym (jobs_shown R c.requires.0.tabled.valid _ _ _ u stands.shows) ∙ ap (λ (n : ℕ). members 0 n c.args.place.set) all)
          (going_from R stop c.args.search.budget u (job_walk R stop m u) c.args.tally.now u.unplaced st tells)),
      c.requires.0,
      refl,
    )

pub choices-tries-requires : goal.choices-tries-requires
choices-tries-requires t c =
    let l = c.loop-j in
    let o = c.requires.1 in
    let g = l.invariant.4 o.stop o.left o.vertex o.state o.holds.0 o.holds.1 o.tells in
    (omega arith, (l.invariant.5, (omega (arith, c.loop-j-test.true, c.job_count-n.ensures), (bit_is _ _ _ l.invariant.1 c.if-rest-eq1.true, (l.invariant.0, (c.dues_in-dues.ensures, record { stop = o.stop; left = o.left; vertex = o.vertex; state = g.state; holds = o.holds; tells = g.tells }))))))

pub choices-returns-in_err-tries : goal.choices-returns-in_err-tries
choices-returns-in_err-tries t c =
    let R = recorder_of c.args.search.r.now in
    let l = c.loop-j in
    let e = c.tries in
    let first : (stop : Bool) (m : ℕ) (u : Vertex) (st : Visited) → Stands R c.args.place.v.now c.args.place.set c.args.place.from m u → u.time ≡ c.args.place.time → Tells R stop c.args.search.budget c.args.tally.now u st
    → Going R stop c.args.search.budget u (job_walk R stop m u) l.tally (l.j ∷ members (l.j + 1) (c.job_count-n.result - (l.j + 1)) (l.rest / 2)) (order.choices R (visit_by R stop m) u st)
    = λ stop m u st a b d. going_as R stop _ u _ _ _ _ _ (members_one l.j _ l.rest c.loop-j-test.true c.if-rest-eq1.true) (l.invariant.4 stop m u st a b d) in record {
      kept = (e.ensures.kept.0, (e.ensures.kept.1.0, omega (arith, e.ensures.kept.1.1, l.invariant.3)));
      came = λ stop m u st stands time tells.
          let g = first stop m u st stands time tells in
          rw c.from_residual.ensures.0 (going_over R stop _ u (job_walk R stop m u) _ _ _ _ g _ _ (e.ensures.came stop m u g.state stands time g.tells) (job_steady R stop _ m u) (ap is_err c.in_err-tries.was));
    }

pub choices-overflow_mul-p : goal.choices-overflow_mul-p
choices-overflow_mul-p t c =
    let l = c.loop-j in
    omega (arith, l.invariant.0, power_next l.j (omega (arith, c.loop-j-test.true, c.job_count-n.ensures, c.requires.0.tabled.valid.few_jobs)))

pub choices-loop-j-preserved : goal.choices-loop-j-preserved
choices-loop-j-preserved t c =
    let R = recorder_of c.args.search.r.now in
    let l = c.loop-j in
    let n = c.job_count-n.result in
    let test = c.loop-j-test.true in
    elim c.if-rest-eq1.branch [
      | choices-then-rest-eq1+in_ok-tries w ↦ (
        rw (add-one l.j) (omega (arith, l.invariant.0)),
        rw l.invariant.1 (halved _ _),
        ap (λ (x : Tally). length x.placed) w.tally-is ∙ w.tries.ensures.kept.1.0,
        omega (arith, ap energy_at w.tally-is, w.tries.ensures.kept.1.1, l.invariant.3),
        (λ stop m u st stands time tells.
            let g = going_as R stop c.args.search.budget u (job_walk R stop m u) l.tally _ _ _ (members_one l.j n l.rest test w.if-rest-eq1.true) (l.invariant.4 stop m u st stands time tells) in
            subst (λ (x : Tally). Going R stop c.args.search.budget u (job_walk R stop m u) x (members (l.j + 1) (n - (l.j + 1)) (l.rest / 2)) (order.choices R (visit_by R stop m) u st)) (sym w.tally-is)
            (going_next R stop c.args.search.budget u (job_walk R stop m u) l.tally _ _ _ g _ _ (w.tries.ensures.came stop m u g.state stands time g.tells) (ap is_err w.in_ok-tries.was))),
        rw w.memory-is w.tries.ensures.kept.0,
        omega (arith, ap length w.memory-is, l.invariant.6),
      )
      | choices-else-rest-eq1 w ↦ (
        rw (add-one l.j) (omega (arith, l.invariant.0)),
        rw l.invariant.1 (halved _ _),
        ap (λ (x : Tally). length x.placed) w.tally-is ∙ l.invariant.2,
        omega (arith, ap energy_at w.tally-is, l.invariant.3),
        (λ stop m u st stands time tells.
            subst (λ (x : Tally). Going R stop c.args.search.budget u (job_walk R stop m u) x (members (l.j + 1) (n - (l.j + 1)) (l.rest / 2)) (order.choices R (visit_by R stop m) u st)) (sym w.tally-is)
            (going_as R stop c.args.search.budget u (job_walk R stop m u) l.tally _ _ _ (members_not l.j n l.rest test w.if-rest-eq1.false) (l.invariant.4 stop m u st stands time tells))),
        rw w.memory-is l.invariant.5,
        omega (arith, ap length w.memory-is, l.invariant.6),
      )
    ]

pub choices-returns : goal.choices-returns
choices-returns t c =
    let R = recorder_of c.args.search.r.now in
    let l = c.loop-j in record {
      kept = (l.invariant.5, (l.invariant.2, l.invariant.3));
      came = λ stop m u st stands time tells.
          going_end R stop c.args.search.budget u (job_walk R stop m u) l.tally _ (going_as R stop c.args.search.budget u (job_walk R stop m u) l.tally _ _ _ (members_over l.j _ l.rest (omega (arith, c.loop-j-test.false))) (l.invariant.4 stop m u st stands time tells));
    }

pub enter-note-requires : goal.enter-note-requires
enter-note-requires t c =
    let o = c.requires.1.1 in
    let x = c.requires.0.tabled in
    (starts_known (recorder_of c.args.search.r.now) x.valid x.narrow _ _ _ _ o.holds.starts o.holds.shows.reached).1

pub enter-end_of-requires : goal.enter-end_of-requires
enter-end_of-requires t c =
    let o = c.requires.1.1 in
    let x = c.requires.0.tabled in
    let R = recorder_of c.args.search.r.now in
    (x, ((starts_known R x.valid x.narrow _ _ _ _ o.holds.starts o.holds.shows.reached).1, (starts_ordered R x.valid x.narrow _ _ _ _ _ _ o.holds.shows o.holds.starts, starts_end R x.valid x.narrow _ _ _ _ o.holds.starts o.holds.shows.reached)))

pub enter-overflow_add-e : goal.enter-overflow_add-e
enter-overflow_add-e t c =
    let x = c.requires.0.tabled in
    omega (arith, c.end_of.ensures.1, enters_small (recorder_of c.args.search.r.now) x.valid x.narrow false 0 _ _ _ _ _ _ _ c.requires.1.1.holds)

pub enter-offer-requires : goal.enter-offer-requires
enter-offer-requires t c =
    (noted_less c.args.tally.now _ c.args.child.j.0 c.args.child.s c.requires.1.1.tells.long c.note.ensures).0

pub enter-returns-then-left-eq0 : goal.enter-returns-then-left-eq0
enter-returns-then-left-eq0 t c =
    let enter-offered : (Long c.offer.new.tally) × (energy_at c.offer.new.tally ≤ energy_at c.args.tally.now) = let q = noted_less c.args.tally.now _ c.args.child.j.0 c.args.child.s c.requires.1.1.tells.long c.note.ensures in
    let k = offered_less _ _ _ q.0 c.offer.ensures in
    (k.0, omega (arith, k.1, q.1)) in
    let R = recorder_of c.args.search.r.now in
    let x = c.requires.0.tabled in
    let e = c.end_of in
    let few = enters_small R x.valid x.narrow false 0 _ _ _ _ _ _ _ c.requires.1.1.holds in record {
      kept = (c.requires.0, enter-offered);
      came = λ stop m u st enters tells.
          enters_complete R x.valid x.narrow _ _ _ _ _ _ _ _ _ enters c.if-left-eq0.true _ _ _ st (enters_noted R x.valid x.narrow _ _ _ _ _ _ _ _ _ enters _ st tells _ c.note.ensures) (ap (λ (y : ℕ). c.args.child.floor + y) e.ensures.0) (omega (arith, e.ensures.1, few)) c.offer.ensures _ c.go_on.ensures;
    }

pub enter-place-requires : goal.enter-place-requires
enter-place-requires t c =
    let o = c.requires.1.1 in
    let x = c.requires.0.tabled in
    let R = recorder_of c.args.search.r.now in
    let h = o.holds.shows in
    let i = o.holds.starts.job in
    (x.valid, (h.long, ((starts_known R x.valid x.narrow _ _ _ _ o.holds.starts h.reached).1, (omega (arith, starts_end R x.valid x.narrow _ _ _ _ o.holds.starts h.reached, x.valid.few_ticks), (load_shown R x.valid _ _ _ _ h _ i, ticks_shown R x.valid _ _ _ _ h _ i)))))

pub enter-run_of-requires : goal.enter-run_of-requires
enter-run_of-requires t c =
    let o = c.requires.1.1 in
    let x = c.requires.0.tabled in
    (starts_known (recorder_of c.args.search.r.now) x.valid x.narrow _ _ _ _ o.holds.starts o.holds.shows.reached).1

pub enter-overflow_add-time : goal.enter-overflow_add-time
enter-overflow_add-time t c =
    let o = c.requires.1.1 in
    let x = c.requires.0.tabled in
    omega (arith, c.from.ensures ∙ c.run_of.ensures, starts_end (recorder_of c.args.search.r.now) x.valid x.narrow _ _ _ _ o.holds.starts o.holds.shows.reached, x.valid.few_ticks)

pub enter-below-requires : goal.enter-below-requires
enter-below-requires t c =
    let o = c.requires.1.1 in
    let x = c.requires.0.tabled in
    let R = recorder_of c.args.search.r.now in
    let k = left_some R x.valid x.narrow false 0 _ _ _ _ _ _ _ o.holds c.if-left-eq0.false in (
      omega arith,
      (
        c.requires.0,
        (
          omega (arith, c.requires.1.0, (noted_less c.args.tally.now _ c.args.child.j.0 c.args.child.s o.tells.long c.note.ensures).1),
          record {
            stop = o.stop;
            left = k.0;
            vertex = child R o.vertex c.args.child.j.0 c.args.child.s;
            state = o.state;
            holds = (stands_child R x.valid x.narrow false 0 _ _ _ _ _ _ _ o.holds _ c.place.ensures k.0 k.1, ap (λ (y : ℕ). c.args.child.s + y) (sym (c.from.ensures ∙ c.run_of.ensures)));
            tells = enters_noted R x.valid x.narrow _ _ _ _ _ _ _ _ _ o.holds _ _ o.tells _ c.note.ensures;
          },
        ),
      ),
    )

pub enter-returns : goal.enter-returns
enter-returns t c =
    let x = c.requires.0.tabled in
    let R = recorder_of c.args.search.r.now in
    let e = c.below in
    let q = noted_less c.args.tally.now _ c.args.child.j.0 c.args.child.s c.requires.1.1.tells.long c.note.ensures in record {
      kept = (e.ensures.kept.0, (e.ensures.kept.1.0, omega (arith, e.ensures.kept.1.1, q.1)));
      came = λ stop m u st enters tells.
          let k = left_some R x.valid x.narrow false 0 _ _ _ _ _ _ _ enters c.if-left-eq0.false in
          enters_came R x.valid x.narrow _ _ _ _ _ _ _ _ _ enters k.0 k.1 _ st _
          (e.ensures.came stop k.0 (child R u c.args.child.j.0 c.args.child.s) st (stands_child R x.valid x.narrow false 0 _ _ _ _ _ _ _ enters _ c.place.ensures k.0 k.1)
          (ap (λ (y : ℕ). c.args.child.s + y) (sym (c.from.ensures ∙ c.run_of.ensures)))
          (enters_noted R x.valid x.narrow _ _ _ _ _ _ _ _ _ enters _ st tells _ c.note.ensures));
    }

pub learn-choices-ended-requires : goal.learn-choices-ended-requires
learn-choices-ended-requires t c =
    (omega arith, (c.requires.0, c.requires.1.1.1))

pub learn-overflow_sub-tally : goal.learn-overflow_sub-tally
learn-overflow_sub-tally t c =
    let learn-tells : Tells (recorder_of c.args.search.r.now) c.requires.1.1.1.stop c.args.search.budget c.choices-ended.new.tally c.requires.1.1.1.vertex (order.choices (recorder_of c.args.search.r.now) (visit_by (recorder_of c.args.search.r.now) c.requires.1.1.1.stop c.requires.1.1.1.left) c.requires.1.1.1.vertex c.requires.1.1.1.state) = let w = c.requires.1.1.1 in
    came_done _ _ _ _ _ _ _ (c.choices-ended.ensures.came w.stop w.left w.vertex w.state w.holds.0 w.holds.1 w.tells) (c.is_whole.ensures c.if-is_whole.true).0 in
    let w = c.requires.1.1.1 in
    omega (arith, w.tells.count, learn-tells.count, choices_grow (recorder_of c.args.search.r.now) w.stop w.left w.vertex w.state)

pub learn-returns-then-is_whole : goal.learn-returns-then-is_whole
learn-returns-then-is_whole t c =
    let learn-tells : Tells (recorder_of c.args.search.r.now) c.requires.1.1.1.stop c.args.search.budget c.choices-ended.new.tally c.requires.1.1.1.vertex (order.choices (recorder_of c.args.search.r.now) (visit_by (recorder_of c.args.search.r.now) c.requires.1.1.1.stop c.requires.1.1.1.left) c.requires.1.1.1.vertex c.requires.1.1.1.state) = let w = c.requires.1.1.1 in
    came_done _ _ _ _ _ _ _ (c.choices-ended.ensures.came w.stop w.left w.vertex w.state w.holds.0 w.holds.1 w.tells) (c.is_whole.ensures c.if-is_whole.true).0 in
    let R = recorder_of c.args.search.r.now in
    let w = c.requires.1.1.1 in record {
      kept = (
        seen_lends R w.stop c.args.search.budget c.args.search.extras.now _ c.args.place.v.now c.choices-ended.ensures.kept.0 c.args.place.set c.args.place.from c.args.place.time c.args.asked c.args.tally.now _
            c.requires.1.1.0 c.requires.1.0 w.left w.vertex w.holds.0 w.holds.1 w.state w.tells learn-tells (c.is_whole.ensures c.if-is_whole.true).1 _ refl (omega (arith, learn-tells.count, c.keep.ensures.few)) _
            c.keep.ensures.written,
        c.choices-ended.ensures.kept.1,
      );
      came = c.choices-ended.ensures.came;
    }

pub learn-returns-else-is_whole : goal.learn-returns-else-is_whole
learn-returns-else-is_whole t c = c.choices-ended.ensures

pub tries-first_cut-cut-requires : goal.tries-first_cut-cut-requires
tries-first_cut-cut-requires t c =
    let x = c.requires.0.tabled in
    let R = recorder_of c.args.search.r.now in
    let o = c.requires.1.1.1.1.1 in
    let stands = o.holds.0 in
    (x.valid, (omega (arith, c.requires.1.0, x.valid.few_jobs), (load_shown R x.valid _ _ _ _ stands.shows _ (job_in_lem R x.valid _ _ _ _ stands.shows _ c.requires.1.0 c.requires.1.1.0), load_room R x.valid x.narrow _ _ _ _ _ stands)))

pub tries-release_of-requires : goal.tries-release_of-requires
tries-release_of-requires t c = omega (arith, c.requires.1.0, c.requires.0.tabled.valid.few_jobs)

pub tries-loop-s-init : goal.tries-loop-s-init
unfolding starts
tries-loop-s-init t c =
    let tries-from : c.max-s.result ≡ max c.args.place.time (release (recorder_of c.args.search.r.now) c.args.j.0) = c.max-s.ensures ∙ ap (max _) (c.from.ensures ∙ c.release_of.ensures) in
    let R = recorder_of c.args.search.r.now in
    let j = c.args.j.0 in
    let o = c.requires.1.1.1.1.1 in (
      le_refl _,
      o.tells.long,
      le_refl _,
      (λ t a b. inl a),
      le_refl _,
      (λ stop m u st stands time tells.
          going_as R stop c.args.search.budget u (λ (x : ℕ). visit_by R stop m (child R u j x)) c.args.tally.now (starts R u.time j) _ _
          (rw (time, ← tries-from))
          (going_from R stop c.args.search.budget u (λ (x : ℕ). visit_by R stop m (child R u j x)) c.args.tally.now (starts R u.time j) st tells)),
      omega (arith, c.max-s.ensures, c.from.ensures, o.holds.1, o.holds.0.shows.reached.time, c.requires.0.tabled.valid.few_ticks),
      c.requires.0,
      refl,
    )

pub tries-lead_of-requires : goal.tries-lead_of-requires
tries-lead_of-requires t c =
    let tries-from : c.max-s.result ≡ max c.args.place.time (release (recorder_of c.args.search.r.now) c.args.j.0) = c.max-s.ensures ∙ ap (max _) (c.from.ensures ∙ c.release_of.ensures) in
    let tries-due : c.loop-s.s + run (recorder_of c.args.search.r.now) c.args.j.0 ≤ deadline (recorder_of c.args.search.r.now) c.args.j.0 = omega (arith, c.loop-s-test.true, c.loop-s.invariant.4, c.first_cut-cut.ensures) in
    let tries-starts : (m : ℕ) (u : Vertex) → Stands (recorder_of c.args.search.r.now) c.args.place.v.now c.args.place.set c.args.place.from m u → u.time ≡ c.args.place.time → Starts (recorder_of c.args.search.r.now) u c.args.j.0 c.loop-s.s = λ m u stands time. let x = c.requires.0.tabled in
    starts_of_lem (recorder_of c.args.search.r.now) x.valid x.narrow _ _ _ m u _ _ _ _ _ _ stands time c.requires.1.0 c.requires.1.1.0 tries-from c.loop-s.invariant.0 refl refl tries-due in
    let x = c.requires.0.tabled in
    let R = recorder_of c.args.search.r.now in
    let o = c.requires.1.1.1.1.1 in
    (x, (omega (arith, c.requires.1.0, x.valid.few_jobs), starts_ordered R x.valid x.narrow _ _ _ _ _ _ o.holds.0.shows (tries-starts _ _ o.holds.0 o.holds.1)))

pub tries-overflow_add-floor : goal.tries-overflow_add-floor
tries-overflow_add-floor t c =
    let x = c.requires.0.tabled in
    omega (arith, c.lead_of.ensures.1, from_small (recorder_of c.args.search.r.now) x.valid x.narrow _ _ _ _ _ c.requires.1.1.1.1.1.holds.0)

pub tries-cut_at-cut-requires : goal.tries-cut_at-cut-requires
tries-cut_at-cut-requires t c =
    let tries-from : c.max-s.result ≡ max c.args.place.time (release (recorder_of c.args.search.r.now) c.args.j.0) = c.max-s.ensures ∙ ap (max _) (c.from.ensures ∙ c.release_of.ensures) in
    let tries-due : c.loop-s.s + run (recorder_of c.args.search.r.now) c.args.j.0 ≤ deadline (recorder_of c.args.search.r.now) c.args.j.0 = omega (arith, c.loop-s-test.true, c.loop-s.invariant.4, c.first_cut-cut.ensures) in
    let tries-starts : (m : ℕ) (u : Vertex) → Stands (recorder_of c.args.search.r.now) c.args.place.v.now c.args.place.set c.args.place.from m u → u.time ≡ c.args.place.time → Starts (recorder_of c.args.search.r.now) u c.args.j.0 c.loop-s.s = λ m u stands time. let x = c.requires.0.tabled in
    starts_of_lem (recorder_of c.args.search.r.now) x.valid x.narrow _ _ _ m u _ _ _ _ _ _ stands time c.requires.1.0 c.requires.1.1.0 tries-from c.loop-s.invariant.0 refl refl tries-due in
    let x = c.requires.0.tabled in
    let R = recorder_of c.args.search.r.now in
    let o = c.requires.1.1.1.1.1 in
    (x, (from_small R x.valid x.narrow _ _ _ _ _ o.holds.0, (omega (arith, c.requires.1.0, x.valid.few_jobs), starts_ordered R x.valid x.narrow _ _ _ _ _ _ o.holds.0.shows (tries-starts _ _ o.holds.0 o.holds.1))))

pub tries-visit-requires : goal.tries-visit-requires
tries-visit-requires t c =
    let tries-from : c.max-s.result ≡ max c.args.place.time (release (recorder_of c.args.search.r.now) c.args.j.0) = c.max-s.ensures ∙ ap (max _) (c.from.ensures ∙ c.release_of.ensures) in
    let tries-due : c.loop-s.s + run (recorder_of c.args.search.r.now) c.args.j.0 ≤ deadline (recorder_of c.args.search.r.now) c.args.j.0 = omega (arith, c.loop-s-test.true, c.loop-s.invariant.4, c.first_cut-cut.ensures) in
    let tries-starts : (m : ℕ) (u : Vertex) → Stands (recorder_of c.args.search.r.now) c.args.place.v.now c.args.place.set c.args.place.from m u → u.time ≡ c.args.place.time → Starts (recorder_of c.args.search.r.now) u c.args.j.0 c.loop-s.s = λ m u stands time. let x = c.requires.0.tabled in
    starts_of_lem (recorder_of c.args.search.r.now) x.valid x.narrow _ _ _ m u _ _ _ _ _ _ stands time c.requires.1.0 c.requires.1.1.0 tries-from c.loop-s.invariant.0 refl refl tries-due in
    let tries-cuts : Cuts (recorder_of c.args.search.r.now) c.args.place.v.now (energy_at c.loop-s.tally) c.args.place.from c.args.j.0 c.first_cut-cut.result c.cut_at-cut.result × (c.cut_at-cut.result ≤ c.first_cut-cut.result) = let x = c.requires.0.tabled in
    cuts_at (recorder_of c.args.search.r.now) x.valid x.narrow _ _ _ _ _ _ _ _ c.requires.1.0 c.loop-s.invariant.3 c.loop-s-test.true c.loop-s.invariant.4 c.cut_at-cut.ensures in
    let tries-tries : (m : ℕ) (u : Vertex) → Stands (recorder_of c.args.search.r.now) c.args.place.v.now c.args.place.set c.args.place.from m u → u.time ≡ c.args.place.time → Tries (recorder_of c.args.search.r.now) c.args.place.v.now (energy_at c.loop-s.tally) c.args.place.set c.args.place.from c.cut_at-cut.result (c.args.place.from + c.lead_of.result) c.args.j.0 c.loop-s.s m u = λ m u stands time. let x = c.requires.0.tabled in
    let R = recorder_of c.args.search.r.now in
    let o = tries-starts m u stands time in
    let k = tries-cuts in
    tries_of R x.valid x.narrow _ _ _ m u stands _ o.job _ c.requires.1.1.1.1.0 _ c.first_cut-cut.ensures _ o _ _ _ k.0 k.1
    (ap (λ (y : ℕ). c.args.place.from + y) c.lead_of.ensures.0) in
    let o = c.requires.1.1.1.1.1 in
    let g = c.loop-s.invariant.5 o.stop o.left o.vertex o.state o.holds.0 o.holds.1 o.tells in
    (omega arith, (c.loop-s.invariant.7, (c.requires.1.1.1.0, record { stop = o.stop; left = o.left; vertex = o.vertex; state = g.state; holds = tries-tries o.left o.vertex o.holds.0 o.holds.1; tells = g.tells })))

pub tries-returns-in_err-visit : goal.tries-returns-in_err-visit
tries-returns-in_err-visit t c =
    let tries-from : c.max-s.result ≡ max c.args.place.time (release (recorder_of c.args.search.r.now) c.args.j.0) = c.max-s.ensures ∙ ap (max _) (c.from.ensures ∙ c.release_of.ensures) in
    let tries-due : c.loop-s.s + run (recorder_of c.args.search.r.now) c.args.j.0 ≤ deadline (recorder_of c.args.search.r.now) c.args.j.0 = omega (arith, c.loop-s-test.true, c.loop-s.invariant.4, c.first_cut-cut.ensures) in
    let tries-starts : (m : ℕ) (u : Vertex) → Stands (recorder_of c.args.search.r.now) c.args.place.v.now c.args.place.set c.args.place.from m u → u.time ≡ c.args.place.time → Starts (recorder_of c.args.search.r.now) u c.args.j.0 c.loop-s.s = λ m u stands time. let x = c.requires.0.tabled in
    starts_of_lem (recorder_of c.args.search.r.now) x.valid x.narrow _ _ _ m u _ _ _ _ _ _ stands time c.requires.1.0 c.requires.1.1.0 tries-from c.loop-s.invariant.0 refl refl tries-due in
    let tries-cuts : Cuts (recorder_of c.args.search.r.now) c.args.place.v.now (energy_at c.loop-s.tally) c.args.place.from c.args.j.0 c.first_cut-cut.result c.cut_at-cut.result × (c.cut_at-cut.result ≤ c.first_cut-cut.result) = let x = c.requires.0.tabled in
    cuts_at (recorder_of c.args.search.r.now) x.valid x.narrow _ _ _ _ _ _ _ _ c.requires.1.0 c.loop-s.invariant.3 c.loop-s-test.true c.loop-s.invariant.4 c.cut_at-cut.ensures in
    let tries-tries : (m : ℕ) (u : Vertex) → Stands (recorder_of c.args.search.r.now) c.args.place.v.now c.args.place.set c.args.place.from m u → u.time ≡ c.args.place.time → Tries (recorder_of c.args.search.r.now) c.args.place.v.now (energy_at c.loop-s.tally) c.args.place.set c.args.place.from c.cut_at-cut.result (c.args.place.from + c.lead_of.result) c.args.j.0 c.loop-s.s m u = λ m u stands time. let x = c.requires.0.tabled in
    let R = recorder_of c.args.search.r.now in
    let o = tries-starts m u stands time in
    let k = tries-cuts in
    tries_of R x.valid x.narrow _ _ _ m u stands _ o.job _ c.requires.1.1.1.1.0 _ c.first_cut-cut.ensures _ o _ _ _ k.0 k.1
    (ap (λ (y : ℕ). c.args.place.from + y) c.lead_of.ensures.0) in
    let tries-first : (stop : Bool) (m : ℕ) (u : Vertex) (st : Visited) → Stands (recorder_of c.args.search.r.now) c.args.place.v.now c.args.place.set c.args.place.from m u → u.time ≡ c.args.place.time → Tells (recorder_of c.args.search.r.now) stop c.args.search.budget c.args.tally.now u st → Going (recorder_of c.args.search.r.now) stop c.args.search.budget u (λ (x : ℕ). visit_by (recorder_of c.args.search.r.now) stop m (child (recorder_of c.args.search.r.now) u c.args.j.0 x)) c.loop-s.tally (c.loop-s.s ∷ up_from (c.loop-s.s + 1) (suc (deadline (recorder_of c.args.search.r.now) c.args.j.0) - (c.loop-s.s + 1 + run (recorder_of c.args.search.r.now) c.args.j.0))) (job_walk (recorder_of c.args.search.r.now) stop m u c.args.j.0 st) = λ stop m u st stands time tells. let a = c.args in
    going_as (recorder_of a.search.r.now) stop a.search.budget u _ c.loop-s.tally _ _ _ (up_next c.loop-s.s _ _ tries-due) (c.loop-s.invariant.5 stop m u st stands time tells) in
    let a = c.args in
    let R = recorder_of a.search.r.now in
    let e = c.visit in record {
      kept = (e.ensures.kept.0, (e.ensures.kept.1.0, omega (arith, e.ensures.kept.1.1, c.loop-s.invariant.2)));
      came = λ stop m u st stands time tells.
          let g = tries-first stop m u st stands time tells in
          rw c.from_residual.ensures.0 (going_over R stop a.search.budget u (λ (x : ℕ). visit_by R stop m (child R u a.j.0 x)) c.loop-s.tally _ _ _ g _ _ (e.ensures.came stop m u g.state (tries-tries m u stands time) g.tells) (start_steady R stop _ m u a.j.0) (ap is_err c.in_err-visit.was));
    }

pub tries-overflow_add-s : goal.tries-overflow_add-s
tries-overflow_add-s t c =
    omega (arith, c.loop-s.invariant.6)

pub tries-loop-s-smaller : goal.tries-loop-s-smaller
tries-loop-s-smaller t c =
    let tries-due : c.loop-s.s + run (recorder_of c.args.search.r.now) c.args.j.0 ≤ deadline (recorder_of c.args.search.r.now) c.args.j.0 = omega (arith, c.loop-s-test.true, c.loop-s.invariant.4, c.first_cut-cut.ensures) in
    let tries-early : c.loop-s.s < 65536 = let x = c.requires.0.tabled in
    omega (arith, tries-due, x.valid.ends c.args.j.0 c.requires.1.0, x.valid.few_ticks) in
    omega (arith, tries-early)

pub tries-loop-s-preserved : goal.tries-loop-s-preserved
tries-loop-s-preserved t c =
    let tries-from : c.max-s.result ≡ max c.args.place.time (release (recorder_of c.args.search.r.now) c.args.j.0) = c.max-s.ensures ∙ ap (max _) (c.from.ensures ∙ c.release_of.ensures) in
    let tries-due : c.loop-s.s + run (recorder_of c.args.search.r.now) c.args.j.0 ≤ deadline (recorder_of c.args.search.r.now) c.args.j.0 = omega (arith, c.loop-s-test.true, c.loop-s.invariant.4, c.first_cut-cut.ensures) in
    let tries-starts : (m : ℕ) (u : Vertex) → Stands (recorder_of c.args.search.r.now) c.args.place.v.now c.args.place.set c.args.place.from m u → u.time ≡ c.args.place.time → Starts (recorder_of c.args.search.r.now) u c.args.j.0 c.loop-s.s = λ m u stands time. let x = c.requires.0.tabled in
    starts_of_lem (recorder_of c.args.search.r.now) x.valid x.narrow _ _ _ m u _ _ _ _ _ _ stands time c.requires.1.0 c.requires.1.1.0 tries-from c.loop-s.invariant.0 refl refl tries-due in
    let tries-cuts : Cuts (recorder_of c.args.search.r.now) c.args.place.v.now (energy_at c.loop-s.tally) c.args.place.from c.args.j.0 c.first_cut-cut.result c.cut_at-cut.result × (c.cut_at-cut.result ≤ c.first_cut-cut.result) = let x = c.requires.0.tabled in
    cuts_at (recorder_of c.args.search.r.now) x.valid x.narrow _ _ _ _ _ _ _ _ c.requires.1.0 c.loop-s.invariant.3 c.loop-s-test.true c.loop-s.invariant.4 c.cut_at-cut.ensures in
    let tries-tries : (m : ℕ) (u : Vertex) → Stands (recorder_of c.args.search.r.now) c.args.place.v.now c.args.place.set c.args.place.from m u → u.time ≡ c.args.place.time → Tries (recorder_of c.args.search.r.now) c.args.place.v.now (energy_at c.loop-s.tally) c.args.place.set c.args.place.from c.cut_at-cut.result (c.args.place.from + c.lead_of.result) c.args.j.0 c.loop-s.s m u = λ m u stands time. let x = c.requires.0.tabled in
    let R = recorder_of c.args.search.r.now in
    let o = tries-starts m u stands time in
    let k = tries-cuts in
    tries_of R x.valid x.narrow _ _ _ m u stands _ o.job _ c.requires.1.1.1.1.0 _ c.first_cut-cut.ensures _ o _ _ _ k.0 k.1
    (ap (λ (y : ℕ). c.args.place.from + y) c.lead_of.ensures.0) in
    let tries-first : (stop : Bool) (m : ℕ) (u : Vertex) (st : Visited) → Stands (recorder_of c.args.search.r.now) c.args.place.v.now c.args.place.set c.args.place.from m u → u.time ≡ c.args.place.time → Tells (recorder_of c.args.search.r.now) stop c.args.search.budget c.args.tally.now u st → Going (recorder_of c.args.search.r.now) stop c.args.search.budget u (λ (x : ℕ). visit_by (recorder_of c.args.search.r.now) stop m (child (recorder_of c.args.search.r.now) u c.args.j.0 x)) c.loop-s.tally (c.loop-s.s ∷ up_from (c.loop-s.s + 1) (suc (deadline (recorder_of c.args.search.r.now) c.args.j.0) - (c.loop-s.s + 1 + run (recorder_of c.args.search.r.now) c.args.j.0))) (job_walk (recorder_of c.args.search.r.now) stop m u c.args.j.0 st) = λ stop m u st stands time tells. let a = c.args in
    going_as (recorder_of a.search.r.now) stop a.search.budget u _ c.loop-s.tally _ _ _ (up_next c.loop-s.s _ _ tries-due) (c.loop-s.invariant.5 stop m u st stands time tells) in
    let tries-early : c.loop-s.s < 65536 = let x = c.requires.0.tabled in
    omega (arith, tries-due, x.valid.ends c.args.j.0 c.requires.1.0, x.valid.few_ticks) in
    let a = c.args in
    let x = c.requires.0.tabled in
    let R = recorder_of a.search.r.now in
    let e = c.visit in
    let q = tries-cuts in (
      omega (arith, c.loop-s.invariant.0),
      e.ensures.kept.1.0,
      omega (arith, e.ensures.kept.1.1, c.loop-s.invariant.2),
      cuts_less R x.valid x.narrow _ _ _ _ _ _ _ e.ensures.kept.1.1 q.0,
      q.1,
      (λ stop m u st stands time tells.
          let g = tries-first stop m u st stands time tells in
          going_next R stop a.search.budget u (λ (x : ℕ). visit_by R stop m (child R u a.j.0 x)) c.loop-s.tally _ _ _ g _ _ (e.ensures.came stop m u g.state (tries-tries m u stands time) g.tells) (ap is_err c.in_ok-visit.was)),
      omega (arith, tries-early),
      e.ensures.kept.0,
      omega arith,
    )

pub tries-drops-requires : goal.tries-drops-requires
tries-drops-requires t c =
    let o = c.requires.1.1.1.1.1 in
    let g = c.loop-s.invariant.5 o.stop o.left o.vertex o.state o.holds.0 o.holds.1 o.tells in
    (omega (arith, c.requires.1.0, c.requires.0.tabled.valid.few_jobs), (c.loop-s.invariant.6, omega (arith, g.tells.count, g.tells.within)))

pub tries-returns : goal.tries-returns
tries-returns t c =
    let tries-from : c.max-s.result ≡ max c.args.place.time (release (recorder_of c.args.search.r.now) c.args.j.0) = c.max-s.ensures ∙ ap (max _) (c.from.ensures ∙ c.release_of.ensures) in
    let tries-after : (u : Vertex) → u.time ≡ c.args.place.time → earliest (recorder_of c.args.search.r.now) u.time c.args.j.0 ≤ c.loop-s.s = λ u time. omega (arith, time, tries-from, c.loop-s.invariant.0) in
    let e = c.drops in
    let a = c.args in
    let x = c.requires.0.tabled in
    let R = recorder_of a.search.r.now in
    let kept = added_kept R false a.search.budget _ _ _ _ c.loop-s.invariant.1 e.ensures in record {
      kept = (c.loop-s.invariant.7, (kept.0, omega (arith, kept.1, c.loop-s.invariant.2)));
      came = λ stop m u st stands time tells.
          let g = c.loop-s.invariant.5 stop m u st stands time tells in
          going_rest R stop a.search.budget u (λ (y : ℕ). visit_by R stop m (child R u a.j.0 y)) c.loop-s.tally _ _ g _ _
          (added_comes R stop a.search.budget _ _ _ _ e.ensures u g.state _
          (starts_dropped R x.valid x.narrow _ _ _ m u stands _ (job_in_lem R x.valid _ _ _ u stands.shows _ c.requires.1.0 c.requires.1.1.0) _ c.requires.1.1.1.1.0 _ c.first_cut-cut.ensures
          stop a.search.budget _ _ _ g.state c.loop-s.invariant.3 (omega (arith, c.loop-s-test.false)) (tries-after u time) g.tells)
          g.tells);
    }

pub visit-returns-then-tally-search : goal.visit-returns-then-tally-search
visit-returns-then-tally-search t c =
    let x = c.requires.0.tabled in
    record {
      kept = (c.requires.0, (c.requires.1.1.tells.long, le_refl _));
      came = λ stop m u st tries tells. visit_over (recorder_of c.args.search.r.now) x.valid x.narrow _ _ _ _ _ _ _ _ _ _ _ _ _ tries tells c.if-tally-search.true;
    }

pub visit-count_one-requires : goal.visit-count_one-requires
visit-count_one-requires t c =
    let visit-less : count_at c.args.tally.now < c.args.search.budget = let o = c.requires.1.1 in omega (arith, o.tells.count, o.tells.within, c.if-tally-search.false) in
    omega (arith, visit-less)

pub visit-returns-then-cut-child : goal.visit-returns-then-cut-child
visit-returns-then-cut-child t c =
    let visit-less : count_at c.args.tally.now < c.args.search.budget = let o = c.requires.1.1 in omega (arith, o.tells.count, o.tells.within, c.if-tally-search.false) in
    let x = c.requires.0.tabled in
    let q = counted_less c.args.tally.now _ c.requires.1.1.tells.long c.count_one.ensures in
    record {
      kept = (c.requires.0, (q.0, omega (arith, q.1)));
      came = λ stop m u st tries tells. visit_drops (recorder_of c.args.search.r.now) x.valid x.narrow _ _ _ _ _ _ _ _ _ _ _ _ _ tries tells visit-less _ c.count_one.ensures (tries.dropped c.if-cut-child.true);
    }

pub visit-returns-then-tally-child : goal.visit-returns-then-tally-child
visit-returns-then-tally-child t c =
    let visit-less : count_at c.args.tally.now < c.args.search.budget = let o = c.requires.1.1 in omega (arith, o.tells.count, o.tells.within, c.if-tally-search.false) in
    let x = c.requires.0.tabled in
    let q = counted_less c.args.tally.now _ c.requires.1.1.tells.long c.count_one.ensures in record {
      kept = (c.requires.0, (q.0, omega (arith, q.1)));
      came = λ stop m u st tries tells.
          visit_drops (recorder_of c.args.search.r.now) x.valid x.narrow _ _ _ _ _ _ _ _ _ _ _ _ _ tries tells visit-less _ c.count_one.ensures
          (inr (omega (arith, q.1, c.if-tally-child.true, (tries.spared (omega (arith, c.if-cut-child.false))).1)));
    }

pub visit-overflow_sub-place : goal.visit-overflow_sub-place
visit-overflow_sub-place t c =
    let x = c.requires.0.tabled in
    let o = c.requires.1.1 in
    omega (arith, bit_room (recorder_of c.args.search.r.now) x.valid x.narrow _ _ _ _ _ _ o.holds.stands.shows o.holds.starts.job c.requires.1.0)

pub visit-enter-requires : goal.visit-enter-requires
visit-enter-requires t c =
    let visit-less : count_at c.args.tally.now < c.args.search.budget = let o = c.requires.1.1 in omega (arith, o.tells.count, o.tells.within, c.if-tally-search.false) in
    let x = c.requires.0.tabled in
    let o = c.requires.1.1 in
    let R = recorder_of c.args.search.r.now in
    let fewer = size_room R x.valid x.narrow _ _ _ _ _ _ o.holds.stands.shows o.holds.starts.job c.requires.1.0 in
    let q = counted_less c.args.tally.now c.count_one.new.tally c.requires.1.1.tells.long c.count_one.ensures in (
      omega (arith, fewer),
      (
        c.requires.0,
        (
          omega (arith, q.1, c.if-tally-child.false),
          record {
            stop = o.stop;
            left = o.left;
            vertex = o.vertex;
            state = counted o.state;
            holds = enters_of R x.valid x.narrow _ _ _ _ _ _ _ _ _ _ _ o.holds c.requires.1.0 (omega (arith, c.if-cut-child.false));
            tells = tells_more R x.valid x.narrow _ _ _ _ _ _ _ _ _ _ _ _ _ o.holds o.tells visit-less _ c.count_one.ensures;
          },
        ),
      ),
    )

pub visit-returns : goal.visit-returns
visit-returns t c =
    let visit-less : count_at c.args.tally.now < c.args.search.budget = let o = c.requires.1.1 in omega (arith, o.tells.count, o.tells.within, c.if-tally-search.false) in
    let x = c.requires.0.tabled in
    let R = recorder_of c.args.search.r.now in
    let e = c.enter in
    let q = counted_less c.args.tally.now _ c.requires.1.1.tells.long c.count_one.ensures in
    let early : c.args.child.s < c.args.cut = omega (arith, c.if-cut-child.false) in record {
      kept = (e.ensures.kept.0, (e.ensures.kept.1.0, omega (arith, e.ensures.kept.1.1, q.1)));
      came = λ stop m u st tries tells.
          visit_enters R x.valid x.narrow _ _ _ _ _ _ _ _ _ _ _ _ _ tries tells early (omega (arith, q.1, c.if-tally-child.false)) _ _
          (e.ensures.came stop m u (counted st) (enters_of R x.valid x.narrow _ _ _ _ _ _ _ _ _ _ _ tries c.requires.1.0 early)
          (tells_more R x.valid x.narrow _ _ _ _ _ _ _ _ _ _ _ _ _ tries tells visit-less _ c.count_one.ensures));
    }
