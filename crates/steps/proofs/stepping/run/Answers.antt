use mathlib.Core.Path.{◌≡◌, refl}
use Prim.Native.Nat.{ℕ, ◌*◌, ◌≤◌}
use native.Mathlib.Numerals.{add-one}
use native.Mathlib.Omega.{arith}
use Rattle.base.proofs.Turns.{each_start, each_step}
use Rattle.base.specs.Loops.{each}
use Rattle.steps.specs.declared.Stepped.{Stepped}
use Rattle.steps.specs.inside.Running.{after, fresh, turn, stepped}
use Rattle.steps.proofs.Bounds.{Most, sound_most, after_within, end_within, end_next, jobs_most, stepped_most, turn_is}
use Rattle.steps.proofs.stepping.run.Goals as goal
use Rattle.steps.proofs.stepping.run.Goals.{Start}

small : (c : Start) → Most c.args.d 65535
small c = sound_most c.args.d c.requires.0 (omega (arith, c.well_formed.0)) (omega (arith, c.well_formed.0)) (omega (arith, c.well_formed.0))

-- What the jobs passed have cost.
most : (s : Start) (i : ℕ) (x : Stepped) → i ≤ s.args.o.count → x ≡ each (turn s.args.d s.args.h s.args.o) i fresh → x.energy ≤ 65535 * after s.args.o i
most s i x l e = rw e (jobs_most s.args.o s.args.h s.requires.1 s.args.d (small s) i l)

pub loop-i-init : goal.loop-i-init
loop-i-init c = (refl, each_start (turn c.args.d c.args.h c.args.o) 0 fresh refl)

pub next_begin-next-requires : goal.next_begin-next-requires
next_begin-next-requires c = c.requires.1.few

pub next_use-requires : goal.next_use-requires
next_use-requires c = c.requires.1.few

pub overflow_sub-begin : goal.overflow_sub-begin
overflow_sub-begin c = omega (arith, c.loop-i.invariant.0, c.requires.1.rising c.loop-i.i c.loop-i-test.true)

pub overflow_sub-end : goal.overflow_sub-end
overflow_sub-end c = omega (arith, c.requires.1.lasting c.loop-i.i c.loop-i-test.true)

pub overflow_sub-next : goal.overflow_sub-next
overflow_sub-next c =
    rw c.next_begin-next.ensures (end_next c.args.o c.args.h c.requires.1 c.loop-i.i c.loop-i-test.true)

pub job_over-x-requires : goal.job_over-x-requires
job_over-x-requires c =
    let paid = most (goal.at.job_over-x-requires c).Start c.loop-i.i c.loop-i.x c.loop-i.auto.i-end c.loop-i.invariant.1 in
    let rising = c.requires.1.rising c.loop-i.i c.loop-i-test.true in
    let lasting = c.requires.1.lasting c.loop-i.i c.loop-i-test.true in
    (c.requires.0, omega (arith, c.loop-i.invariant.0, rising, lasting, paid, c.ranges, end_within c.args.o c.args.h c.requires.1 c.loop-i.i c.loop-i-test.true))

pub loop-i-preserved : goal.loop-i-preserved
loop-i-preserved c =
    let i = c.loop-i.i in (
      rw (add-one i),
      each_step (turn c.args.d c.args.h c.args.o) i fresh c.loop-i.x c.job_over-x.result c.loop-i.invariant.1
          (turn_is c.args.d c.args.h c.args.o i c.loop-i.x c.job_over-x.result c.loop-i.at c.next_begin-next.result c.next_use.result
          c.loop-i.invariant.0 c.next_begin-next.ensures c.next_use.ensures c.job_over-x.ensures),
    )

pub overflow_sub-h : goal.overflow_sub-h
overflow_sub-h c =
    omega (arith, c.loop-i.invariant.0, after_within c.args.o c.args.h c.requires.1 c.loop-i.i c.loop-i.auto.i-end)

pub pass-requires : goal.pass-requires
pass-requires c =
    let s = (goal.at.pass-requires c).Start in
    let paid = most s c.loop-i.i c.loop-i.x c.loop-i.auto.i-end c.loop-i.invariant.1 in
    (c.requires.0, omega (arith, c.loop-i.invariant.0, paid, c.ranges, after_within c.args.o c.args.h c.requires.1 c.loop-i.i c.loop-i.auto.i-end))

pub returns : goal.returns
unfolding stepped
returns c =
    let over : c.loop-i.i ≡ c.args.o.count = omega (arith, c.loop-i-test.false, c.loop-i.auto.i-end) in
    let made : c.pass.result ≡ stepped c.args.d c.args.h c.args.o = rw (c.pass.ensures, c.loop-i.invariant.1, c.loop-i.invariant.0, over) in
    (made, rw made (stepped_most c.args.o c.args.h c.requires.1 c.args.d (small (goal.at.returns c).Start)))
