use mathlib.Core.Path.{ap, ◌∙◌}
use Prim.Native.Nat.{ℕ, max}
use native.Mathlib.Omega.{arith}
use Rattle.flat.specs.inside.Flat.{recorder_of}
use Rattle.latest.proofs.Laying.{going_start, going_next, going_end, leads_ends, leads_bit}
use Rattle.latest.proofs.leading.lay_starts.Goals as goal

pub all_jobs-m-requires : goal.all_jobs-m-requires
all_jobs-m-requires c = c.requires.0

pub loop-m-init : goal.loop-m-init
loop-m-init c =
    going_start (recorder_of c.args.r.now) c.args.starts.now _ c.all_jobs-m.ensures c.requires.1.1.1

pub first_job-j-requires : goal.first_job-j-requires
first_job-j-requires c =
    let g = c.loop-m.invariant in
    (c.requires.0, (c.requires.1.0, (c.loop-m-test.true, (g.few, g.able))))

pub release_of-requires : goal.release_of-requires
release_of-requires c = omega (arith, c.first_job-j.ensures.opens.known, c.requires.0.few_jobs)

pub bounds-starts-j : goal.bounds-starts-j
bounds-starts-j c = omega (arith, c.first_job-j.ensures.opens.known, c.loop-m.invariant.long, c.requires.1.1.0)

pub run_of-requires : goal.run_of-requires
run_of-requires c = omega (arith, c.first_job-j.ensures.opens.known, c.requires.0.few_jobs)

pub overflow_add-t : goal.overflow_add-t
overflow_add-t c =
    omega (arith, c.run_of.ensures, c.max-s.ensures, c.release_of.ensures, leads_ends (recorder_of c.args.r.now) c.requires.0 _ _ _ c.first_job-j.ensures)

pub power-m-requires : goal.power-m-requires
power-m-requires c = omega (arith, c.first_job-j.ensures.opens.known, c.requires.0.few_jobs)

pub overflow_sub-m : goal.overflow_sub-m
overflow_sub-m c =
    omega (arith, c.power-m.ensures, leads_bit _ _ _ _ c.first_job-j.ensures)

pub loop-m-smaller : goal.loop-m-smaller
loop-m-smaller c =
    omega (arith, c.power-m.ensures, leads_bit _ _ _ _ c.first_job-j.ensures)

pub loop-m-preserved : goal.loop-m-preserved
loop-m-preserved c =
    let j = c.first_job-j.result in
    let t = c.loop-m.t in
    rw (c.power-m.ensures, c.run_of.ensures)
    (going_next (recorder_of c.args.r.now) c.args.starts.now c.loop-m.invariant j c.max-s.result c.first_job-j.ensures
    (c.max-s.ensures ∙ ap (λ (x : ℕ). max t x) c.release_of.ensures))

pub shape_of-starts : goal.shape_of-starts
shape_of-starts c = c.loop-m.invariant.long

pub returns : goal.returns
returns c = going_end _ _ c.loop-m.invariant (omega arith)
