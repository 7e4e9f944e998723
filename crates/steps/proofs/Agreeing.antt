-- The code's steps are the ticks of the round: what `stepped` gives for the running order of feasible starts is the energy of the row, and the state at H.
use mathlib.Core.Path.{◌≡◌, refl, sym, ◌∙◌}
use mathlib.Core.List.{List, [], ◌∷◌, ◌++◌}
use Prim.Native.Nat.{ℕ, suc, ◌+◌, ◌-◌}
use native.Mathlib.Numerals.{add-one}
use native.Mathlib.Omega.{arith}
use borrow.Author.Tests.{lt-ltb, le-ltb}
use Rattle.base.specs.Loops.{each}
use Rattle.base.proofs.Additions.{total_append}
use Rattle.device.specs.Row.{power, energy}
use Rattle.schedule.specs.declared.Recorder.{Recorder}
use Rattle.schedule.specs.Quantities.{device, run, Valid}
use Rattle.schedule.specs.Listing.{Feasible, Place, running}
use Rattle.steps.specs.declared.State.{State}
use Rattle.steps.specs.declared.Stepped.{Stepped}
use Rattle.steps.specs.declared.Order.{Order}
use Rattle.steps.specs.Stepping.{at_start, at_end, end_of, next_uses, next_start, spent, finally}
use Rattle.steps.specs.inside.Running.{alone, later, end, after, next_begin, next_use, fresh, turn, stepped, Shows, stepped_by}
use Rattle.steps.proofs.ByJobs.{jobs_row, jobs_last, begun, ended}
use Rattle.steps.proofs.Laws.{row_is, finally_is}

module _ (R : Recorder) (k : ℕ) (o : Order) where
  -- The next job, where there is one and where there is none.
  shows_use : (i : ℕ) (r : List Place) → Shows R k o i r → next_use o i ≡ next_uses R k r
  shows_use i [] h = rw (le-ltb i o.count (omega arith))
  shows_use i (q ∷ r) h = rw (lt-ltb i o.count h.0) h.3

  shows_begin : (i : ℕ) (r : List Place) → Shows R k o i r → next_begin R.horizon o i ≡ next_start R k r
  shows_begin i [] h = rw (le-ltb i o.count (omega arith))
  shows_begin i (q ∷ r) h = rw (lt-ltb i o.count h.0) h.1

  abbrev sofar : ℕ → Stepped
  sofar i = each (turn (device R k) R.horizon o) i fresh

  -- What the steps from job i on add.
  abbrev Adds : ℕ → List Place → Type 0
  Adds i r =
      ((stepped (device R k) R.horizon o).state ≡ jobs_last R k at_start at_end (after o i) r (sofar i).state)
      × ((stepped (device R k) R.horizon o).energy ≡ (sofar i).energy + energy (device R k) (jobs_row R k at_start at_end (after o i) r (sofar i).state))

  -- One job more.
  turn_state : (i : ℕ) (p : Place) (r : List Place) → Shows R k o i (p ∷ r)
      → (sofar (suc i)).state ≡ ended R k at_start at_end p r (later (p.start - after o i) (sofar i).state)
  unfolding each turn
  turn_state i p r h =
      let c : end_of R k p - p.start ≡ run R p.job = omega arith in
      rw (add-one i, shows_use (suc i) r h.4, shows_begin (suc i) r h.4, h.1, h.2, h.3, c)

  turn_energy : (i : ℕ) (p : Place) (r : List Place) → Shows R k o i (p ∷ r)
      → (sofar (suc i)).energy
      ≡ (sofar i).energy + energy (device R k) (alone (p.start - after o i) (sofar i).state)
      + energy (device R k) (alone (run R p.job) (begun R k at_start at_end p r (later (p.start - after o i) (sofar i).state)))
  unfolding each turn
  turn_energy i p r h =
      let c : end_of R k p - p.start ≡ run R p.job = omega arith in
      rw (add-one i, shows_use (suc i) r h.4, shows_begin (suc i) r h.4, h.1, h.2, h.3, c)

  adds : (r : List Place) (i : ℕ) → Shows R k o i r → Adds i r
  unfolding stepped jobs_row jobs_last
  adds [] i h = rw h (refl, refl)
  adds (p ∷ r) i h =
      let x = later (p.start - after o i) (sofar i).state in
      let e = turn_state i p r h in
      let at : end o i ≡ end_of R k p = h.2 in
      let rest = adds r (suc i) h.4 in
      let st : (stepped (device R k) R.horizon o).state ≡ jobs_last R k at_start at_end (end_of R k p) r (ended R k at_start at_end p r x) = rw (at, e) at rest.0 in
      let en : (stepped (device R k) R.horizon o).energy ≡ (sofar (suc i)).energy + energy (device R k) (jobs_row R k at_start at_end (end_of R k p) r (ended R k at_start at_end p r x))
      = rw (at, e) at rest.1 in (
        st,
        omega (
          arith,
          en,
          turn_energy i p r h,
          total_append (power (device R k)) (alone (p.start - after o i) (sofar i).state)
              (alone (run R p.job) (begun R k at_start at_end p r x) ++ jobs_row R k at_start at_end (end_of R k p) r (ended R k at_start at_end p r x)),
          total_append (power (device R k)) (alone (run R p.job) (begun R k at_start at_end p r x))
              (jobs_row R k at_start at_end (end_of R k p) r (ended R k at_start at_end p r x)),
        ),
      )

-- For feasible starts whose running order o shows.
stepped_is : (R : Recorder) → Valid R → (s : List ℕ) → Feasible R s → (k : ℕ) (o : Order) → Shows R k o 0 (running R s)
    → ((stepped (device R k) R.horizon o).state ≡ finally R k s) × ((stepped (device R k) R.horizon o).energy ≡ spent R k s)
unfolding each spent
stepped_is R valid s f k o h =
    let x = adds R k o (running R s) 0 h in
    (x.0 ∙ sym (finally_is R valid s f k), rw (row_is R valid s f k) (omega (arith, x.1)))

both : (x : Stepped) (st : State) (e : ℕ) → x.state ≡ st → x.energy ≡ e → x ≡ record { state = st; energy = e }
both x st e p q = rw (← p, ← q)

pub stepped_by_lem : (R : Recorder) → Valid R → (s : List ℕ) → Feasible R s → (k : ℕ) (o : Order) → Shows R k o 0 (running R s)
    → stepped (device R k) R.horizon o ≡ stepped_by R s k
stepped_by_lem R valid s f k o h =
    let x = stepped_is R valid s f k o h in
    both (stepped (device R k) R.horizon o) (finally R k s) (spent R k s) x.0 x.1
