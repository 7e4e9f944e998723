use mathlib.Core.Path.{◌≡◌, ap, ◌∙◌}
use Prim.Native.Nat.{ℕ, ◌+◌, ◌-◌, ◌%◌}
use native.Mathlib.Omega.{arith}
use Rattle.std.proofs.lemmas.Result.{err_from_is_err_and}
use Rattle.vertex.proofs.Showing.{ticks_shown, load_shown}
use Rattle.least.specs.inside.Outcome.{recorder}
use Rattle.least.proofs.Going.{offers_known, offers_end, offers_ordered, offers_bit}
use Rattle.least.proofs.Settling.{reads_held, reads_small, next_stopped, next_offers, next_lead, next_reads, reads_end}
use Rattle.least.proofs.reading.read_off.Goals as goal

pub first_child-requires : goal.first_child-requires
first_child-requires c =
    let i = c.loop-set.invariant in
    (i.lent, (i.within, (reads_held _ _ _ _ _ _ _ i.reads, reads_small _ _ _ _ _ _ _ i.reads _ c.requires.0.tabled)))

pub returns-in_err-c : goal.returns-in_err-c
returns-in_err-c c =
    rw (err_from_is_err_and c.from_residual.result c.from_residual.ensures.1).1
    (next_stopped _ _ _ _ _ _ _ c.loop-set.invariant.reads c.loop-set-test.true _ c.in_err-c.ensures.answer)

pub lead_of-goal-requires : goal.lead_of-goal-requires
lead_of-goal-requires c =
    let R = recorder c.args.search.now in
    let valid = c.requires.0.tabled.valid in
    let l = c.loop-set in
    let d = c.in_ok-c.c in
    let o = next_offers R l.v l.starts l.set l.time l.goal l.entered l.invariant.reads c.loop-set-test.true _ d.job d.start c.in_ok-c.ensures.answer in
    (c.requires.0.tabled, ((offers_known R valid l.v l.set d.job d.start o).1, offers_ordered R valid l.v l.set d.job d.start o))

pub overflow_sub-goal : goal.overflow_sub-goal
overflow_sub-goal c =
    let l = c.loop-set in
    let d = c.in_ok-c.c in
    omega (arith, c.lead_of-goal.ensures.0, next_lead (recorder c.args.search.now) l.v l.starts l.set l.time l.goal l.entered l.invariant.reads c.loop-set-test.true _ d.job d.start c.in_ok-c.ensures.answer)

pub offset_bounds-starts-j : goal.offset_bounds-starts-j
offset_bounds-starts-j c =
    let R = recorder c.args.search.now in
    let valid = c.requires.0.tabled.valid in
    let l = c.loop-set in
    let d = c.in_ok-c.c in
    let o = next_offers R l.v l.starts l.set l.time l.goal l.entered l.invariant.reads c.loop-set-test.true _ d.job d.start c.in_ok-c.ensures.answer in
    omega (arith, (offers_known R valid l.v l.set d.job d.start o).1)

pub bounds-starts-j : goal.bounds-starts-j
bounds-starts-j c =
    let R = recorder c.args.search.now in
    let valid = c.requires.0.tabled.valid in
    let l = c.loop-set in
    let d = c.in_ok-c.c in
    let o = next_offers R l.v l.starts l.set l.time l.goal l.entered l.invariant.reads c.loop-set-test.true _ d.job d.start c.in_ok-c.ensures.answer in
    omega (arith, (offers_known R valid l.v l.set d.job d.start o).1, l.invariant.reads.long)

pub place-requires : goal.place-requires
place-requires c =
    let R = recorder c.args.search.now in
    let valid = c.requires.0.tabled.valid in
    let l = c.loop-set in
    let d = c.in_ok-c.c in
    let o = next_offers R l.v l.starts l.set l.time l.goal l.entered l.invariant.reads c.loop-set-test.true _ d.job d.start c.in_ok-c.ensures.answer in
    (valid, (o.shows.long, ((offers_known R valid l.v l.set d.job d.start o).1, (omega (arith, offers_end R valid l.v l.set d.job d.start o), (load_shown R valid _ _ _ _ o.shows _ o.job, ticks_shown R valid _ _ _ _ o.shows _ o.job)))))

pub run_of-requires : goal.run_of-requires
run_of-requires c =
    let R = recorder c.args.search.now in
    let valid = c.requires.0.tabled.valid in
    let l = c.loop-set in
    let d = c.in_ok-c.c in
    let o = next_offers R l.v l.starts l.set l.time l.goal l.entered l.invariant.reads c.loop-set-test.true _ d.job d.start c.in_ok-c.ensures.answer in
    (offers_known R valid l.v l.set d.job d.start o).1

pub overflow_add-time : goal.overflow_add-time
overflow_add-time c =
    let R = recorder c.args.search.now in
    let valid = c.requires.0.tabled.valid in
    let l = c.loop-set in
    let d = c.in_ok-c.c in
    let o = next_offers R l.v l.starts l.set l.time l.goal l.entered l.invariant.reads c.loop-set-test.true _ d.job d.start c.in_ok-c.ensures.answer in
    omega (arith, offers_end R valid l.v l.set d.job d.start o, c.from.ensures, c.run_of.ensures)

pub power-set-requires : goal.power-set-requires
power-set-requires c =
    let R = recorder c.args.search.now in
    let valid = c.requires.0.tabled.valid in
    let l = c.loop-set in
    let d = c.in_ok-c.c in
    let o = next_offers R l.v l.starts l.set l.time l.goal l.entered l.invariant.reads c.loop-set-test.true _ d.job d.start c.in_ok-c.ensures.answer in
    omega (arith, (offers_known R valid l.v l.set d.job d.start o).1)

pub overflow_sub-set : goal.overflow_sub-set
overflow_sub-set c =
    let R = recorder c.args.search.now in
    let valid = c.requires.0.tabled.valid in
    let l = c.loop-set in
    let d = c.in_ok-c.c in
    let o = next_offers R l.v l.starts l.set l.time l.goal l.entered l.invariant.reads c.loop-set-test.true _ d.job d.start c.in_ok-c.ensures.answer in
    (offers_bit R valid l.v l.set d.job d.start o _ c.power-set.ensures).1

pub loop-set-smaller : goal.loop-set-smaller
loop-set-smaller c =
    let R = recorder c.args.search.now in
    let valid = c.requires.0.tabled.valid in
    let l = c.loop-set in
    let d = c.in_ok-c.c in
    let o = next_offers R l.v l.starts l.set l.time l.goal l.entered l.invariant.reads c.loop-set-test.true _ d.job d.start c.in_ok-c.ensures.answer in
    let bit = offers_bit R valid l.v l.set d.job d.start o c.power-set.result c.power-set.ensures in
    omega (arith, bit.0, bit.1)

pub loop-set-preserved : goal.loop-set-preserved
loop-set-preserved c =
    let R = recorder c.args.search.now in
    let valid = c.requires.0.tabled.valid in
    let l = c.loop-set in
    let d = c.in_ok-c.c in
    let o = next_offers R l.v l.starts l.set l.time l.goal l.entered l.invariant.reads c.loop-set-test.true _ d.job d.start c.in_ok-c.ensures.answer in
    let e = c.in_ok-c.ensures in
    let end_is = ap (λ (n : ℕ). d.start + n) (c.from.ensures ∙ c.run_of.ensures) in
    let small : d.start % 65536 ≡ d.start = omega (arith, offers_end R valid l.v l.set d.job d.start o) in
    record {
      lent = e.lent.0;
      within = e.lent.1;
      reads = next_reads R l.v l.starts l.set l.time l.goal l.entered l.invariant.reads c.loop-set-test.true _ d.job d.start e.answer _ c.place.ensures _ _ _ c.power-set.ensures end_is
          (ap (λ (n : ℕ). l.goal - n) c.lead_of-goal.ensures.0) _ small;
    }

pub returns : goal.returns
returns c = reads_end _ _ _ _ _ _ _ c.loop-set.invariant.reads (omega (arith, c.loop-set-test.false))
