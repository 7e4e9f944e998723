-- The row job by job: between two events a device goes on as it does. The ticks of the round come to the same, whatever the two rules are.
use mathlib.Core.Path.{◌≡◌, refl, ap, ◌∙◌}
use mathlib.Core.List.{List, [], ◌∷◌, ◌++◌}
use Prim.Native.Nat.{ℕ, zero, suc, ◌+◌, ◌-◌, ◌≤◌, ◌<◌}
use native.Mathlib.Nat.{add-zero, add-suc, suc-add, zero-add}
use native.Mathlib.Omega.{arith}
use lib.ListN.{length}
use borrow.Author.Tests.{ne_eqb, eq-eqb}
use Rattle.device.specs.Row.{Letter}
use Rattle.schedule.specs.declared.Recorder.{Recorder}
use Rattle.schedule.specs.Quantities.{run}
use Rattle.schedule.specs.Listing.{Place}
use Rattle.schedule.proofs.Runs.{InTurn, turn_front}
use Rattle.steps.specs.declared.State.{State}
use Rattle.steps.specs.Stepping.{passed, Rule, Events, row_by, state_by, end_of, ruled, starts, ends, events}
use Rattle.steps.specs.inside.Running.{alone, later}

-- ---- any events

module _ (ev : Events) where
  pub length_row_by : (t n : ℕ) (st : State) → length (row_by ev t n st) ≡ n
  unfolding row_by
  length_row_by t zero st = refl
  length_row_by t (suc n) st = ap suc (length_row_by (suc t) n (passed (ev t st)))

  row_split : (t n m : ℕ) (st : State) → row_by ev t (n + m) st ≡ row_by ev t n st ++ row_by ev (t + n) m (state_by ev t n st)
  unfolding row_by state_by
  row_split t zero m st = rw (zero-add, add-zero)
  row_split t (suc n) m st = rw (suc-add, add-suc, row_split (suc t) n m (passed (ev t st)), suc-add)

  state_split : (t n m : ℕ) (st : State) → state_by ev t (n + m) st ≡ state_by ev (t + n) m (state_by ev t n st)
  unfolding state_by
  state_split t zero m st = rw (zero-add, add-zero)
  state_split t (suc n) m st = rw (suc-add, add-suc, state_split (suc t) n m (passed (ev t st)), suc-add)

  -- Ticks without an event.
  abbrev pub Quiet : ℕ → ℕ → Type 0
  Quiet t n = (x : ℕ) → t ≤ x → x < t + n → (st : State) → ev x st ≡ st

  pub row_quiet : (t n : ℕ) (st : State) → Quiet t n → row_by ev t n st ≡ alone n st
  unfolding row_by alone
  row_quiet t zero st q = refl
  row_quiet t (suc n) st q = rw (q t (omega arith) (omega arith) st, row_quiet (suc t) n (passed st) (λ x l m. q x (omega arith) (omega arith)))

  pub state_quiet : (t n : ℕ) (st : State) → Quiet t n → state_by ev t n st ≡ later n st
  unfolding state_by later
  state_quiet t zero st q = refl
  state_quiet t (suc n) st q = rw (q t (omega arith) (omega arith) st, state_quiet (suc t) n (passed st) (λ x l m. q x (omega arith) (omega arith)))

  -- Ticks with an event in the first only.
  row_first : (t n : ℕ) (st : State) → 1 ≤ n → ((x : ℕ) → t < x → x < t + n → (z : State) → ev x z ≡ z) → row_by ev t n st ≡ alone n (ev t st)
  unfolding row_by alone
  row_first t zero st h q = absurd (omega arith)
  row_first t (suc n) st h q = rw (row_quiet (suc t) n (passed (ev t st)) (λ x l m. q x (omega arith) (omega arith)))

  state_first : (t n : ℕ) (st : State) → 1 ≤ n → ((x : ℕ) → t < x → x < t + n → (z : State) → ev x z ≡ z) → state_by ev t n st ≡ later n (ev t st)
  unfolding state_by later
  state_first t zero st h q = absurd (omega arith)
  state_first t (suc n) st h q = rw (state_quiet (suc t) n (passed (ev t st)) (λ x l m. q x (omega arith) (omega arith)))

-- Two kinds of events that do the same from tick t on.
module _ (ev ev' : Events) where
  row_same : (t n : ℕ) (st : State) → ((x : ℕ) (z : State) → t ≤ x → ev x z ≡ ev' x z) → row_by ev t n st ≡ row_by ev' t n st
  unfolding row_by
  row_same t zero st h = refl
  row_same t (suc n) st h = rw (h t st (omega arith), row_same (suc t) n (passed (ev' t st)) (λ x z l. h x z (omega arith)))

  -- The same from the next tick on, and st' before this tick for st.
  row_after : (t n : ℕ) (st st' : State) → ev t st ≡ ev' t st' → ((x : ℕ) (z : State) → t < x → ev x z ≡ ev' x z) → row_by ev t n st ≡ row_by ev' t n st'
  unfolding row_by
  row_after t zero st st' e h = refl
  row_after t (suc n) st st' e h = rw (e, row_same (suc t) n (passed (ev' t st')) (λ x z l. h x z (omega arith)))

  -- The state after n ticks and what happens then.
  last_same : (t n : ℕ) (st : State) → ((x : ℕ) (z : State) → t ≤ x → ev x z ≡ ev' x z) → ev (t + n) (state_by ev t n st) ≡ ev' (t + n) (state_by ev' t n st)
  unfolding state_by
  last_same t zero st h = h (t + 0) st (omega arith)
  last_same t (suc n) st h = rw (add-suc t n, ← suc-add t n, h t st (omega arith)) (last_same (suc t) n (passed (ev' t st)) (λ x z l. h x z (omega arith)))

  last_after : (t n : ℕ) (st st' : State) → ev t st ≡ ev' t st' → ((x : ℕ) (z : State) → t < x → ev x z ≡ ev' x z)
      → ev (t + n) (state_by ev t n st) ≡ ev' (t + n) (state_by ev' t n st')
  unfolding state_by
  last_after t zero st st' e h = rw (add-zero t) e
  last_after t (suc n) st st' e h = rw (add-suc t n, ← suc-add t n, e) (last_same (suc t) n (passed (ev' t st')) (λ x z l. h x z (omega arith)))

-- ---- starts and completions

-- The other order of what happens at one tick: starts, and then completions.
unfoldable pub starts_first : Recorder → ℕ → Rule → Rule → List Place → Events
starts_first R k starting ending r t st = ends R k ending r t (starts R k starting r t st)

module _ (R : Recorder) (k : ℕ) (starting ending : Rule) where
  -- The state with which the job p begins to run, and that after its completion, where st is that before its start.
  abbrev pub begun : Place → List Place → State → State
  begun p r st = ruled R k starting p r st

  abbrev pub ran : Place → List Place → State → State
  ran p r st = later (run R p.job) (begun p r st)

  abbrev pub ended : Place → List Place → State → State
  ended p r st = ruled R k ending p r (ran p r st)

  -- Job by job from tick a on, where st is the state after the completions at a.
  unfoldable pub jobs_row : ℕ → List Place → State → List Letter
  jobs_row a [] st = alone (R.horizon - a) st
  jobs_row a (p ∷ r) st =
      let before = later (p.start - a) st in
      alone (p.start - a) st ++ (alone (run R p.job) (begun p r before) ++ jobs_row (end_of R k p) r (ended p r before))

  unfoldable pub jobs_last : ℕ → List Place → State → State
  jobs_last a [] st = later (R.horizon - a) st
  jobs_last a (p ∷ r) st = jobs_last (end_of R k p) r (ended p r (later (p.start - a) st))

  -- What holds before each completion.
  unfoldable pub Along : (Place → List Place → State → Type 0) → ℕ → List Place → State → Type 0
  Along P a [] st = Unit {0}
  Along P a (p ∷ r) st = let before = later (p.start - a) st in P p r (ran p r before) × Along P (end_of R k p) r (ended p r before)

  -- Events that are the starts and completions of places in turn, where P holds before each completion.
  pub record Acts (P : Place → List Place → State → Type 0) (ev : List Place → Events) : Type 0 where
    pub none : (x : ℕ) (st : State) → ev [] x st ≡ st
    pub early : (p : Place) (r : List Place) (a h : ℕ) → InTurn R a h (p ∷ r) → (x : ℕ) → x < p.start → (st : State) → ev (p ∷ r) x st ≡ st
    pub begins : (p : Place) (r : List Place) (a h : ℕ) → InTurn R a h (p ∷ r) → (st : State) → ev (p ∷ r) p.start st ≡ begun p r st
    pub within : (p : Place) (r : List Place) (a h : ℕ) → InTurn R a h (p ∷ r) → (x : ℕ) → p.start < x → x < end_of R k p → (st : State) → ev (p ∷ r) x st ≡ st
    pub ends : (p : Place) (r : List Place) (a h : ℕ) → InTurn R a h (p ∷ r) → (st : State) → P p r st
        → ev (p ∷ r) (end_of R k p) st ≡ ev r (end_of R k p) (ruled R k ending p r st)
    pub after : (p : Place) (r : List Place) (a h : ℕ) → InTurn R a h (p ∷ r) → (x : ℕ) (st : State) → end_of R k p < x → ev (p ∷ r) x st ≡ ev r x st

  module _ (P : Place → List Place → State → Type 0) (ev : List Place → Events) (A : Acts P ev) where
    -- Before the job p, and while it runs.
    module _ (p : Place) (r : List Place) (a : ℕ) (st : State) (w : InTurn R a R.horizon (p ∷ r)) where
      abbrev before : State
      before = later (p.start - a) st

      to_start : a + (p.start - a) ≡ p.start
      to_start = omega (arith, w.0)

      quiet_before : Quiet (ev (p ∷ r)) a (p.start - a)
      quiet_before x l m = A.early p r a R.horizon w x (omega (arith, w.0))

      quiet_within : (x : ℕ) → p.start < x → x < p.start + run R p.job → (z : State) → ev (p ∷ r) x z ≡ z
      quiet_within x l m = A.within p r a R.horizon w x l m

      row_job : P p r (ran p r before) → (n : ℕ)
          → row_by (ev (p ∷ r)) a (p.start - a + (run R p.job + n)) st
          ≡ alone (p.start - a) st ++ (alone (run R p.job) (begun p r before) ++ row_by (ev r) (end_of R k p) n (ended p r before))
      row_job h n =
          rw (
            row_split (ev (p ∷ r)) a (p.start - a) (run R p.job + n) st,
            row_quiet (ev (p ∷ r)) a (p.start - a) st quiet_before,
            state_quiet (ev (p ∷ r)) a (p.start - a) st quiet_before,
            to_start,
            row_split (ev (p ∷ r)) p.start (run R p.job) n before,
            row_first (ev (p ∷ r)) p.start (run R p.job) before w.1 quiet_within,
            state_first (ev (p ∷ r)) p.start (run R p.job) before w.1 quiet_within,
            A.begins p r a R.horizon w before,
            row_after (ev (p ∷ r)) (ev r) (end_of R k p) n (ran p r before) (ended p r before)
                (A.ends p r a R.horizon w (ran p r before) h) (A.after p r a R.horizon w),
          )

      last_job : P p r (ran p r before) → (n : ℕ)
          → ev (p ∷ r) (end_of R k p + n) (state_by (ev (p ∷ r)) a (p.start - a + (run R p.job + n)) st)
          ≡ ev r (end_of R k p + n) (state_by (ev r) (end_of R k p) n (ended p r before))
      last_job h n =
          rw (
            state_split (ev (p ∷ r)) a (p.start - a) (run R p.job + n) st,
            state_quiet (ev (p ∷ r)) a (p.start - a) st quiet_before,
            to_start,
            state_split (ev (p ∷ r)) p.start (run R p.job) n before,
            state_first (ev (p ∷ r)) p.start (run R p.job) before w.1 quiet_within,
            A.begins p r a R.horizon w before,
          )
          (last_after (ev (p ∷ r)) (ev r) (end_of R k p) n (ran p r before) (ended p r before)
          (A.ends p r a R.horizon w (ran p r before) h) (A.after p r a R.horizon w))

    -- The ticks of the round, and job by job.
    pub row_jobs : (r : List Place) (a : ℕ) (st : State) → InTurn R a R.horizon r → Along P a r st
        → row_by (ev r) a (R.horizon - a) st ≡ jobs_row a r st
    unfolding jobs_row Along
    row_jobs [] a st w h = row_quiet (ev []) a (R.horizon - a) st (λ x l m. A.none x)
    row_jobs (p ∷ r) a st w h =
        let e : R.horizon - a ≡ p.start - a + (run R p.job + (R.horizon - end_of R k p)) = omega (arith, w.0, turn_front R [] r (end_of R k p) R.horizon w.2) in
        rw (e, row_job p r a st w h.0 (R.horizon - end_of R k p), row_jobs r (end_of R k p) (ended p r (later (p.start - a) st)) w.2 h.1)

    pub last_jobs : (r : List Place) (a : ℕ) (st : State) → InTurn R a R.horizon r → Along P a r st
        → ev r R.horizon (state_by (ev r) a (R.horizon - a) st) ≡ jobs_last a r st
    unfolding jobs_last Along
    last_jobs [] a st w h = A.none R.horizon _ ∙ state_quiet (ev []) a (R.horizon - a) st (λ x l m. A.none x)
    last_jobs (p ∷ r) a st w h =
        let by = turn_front R [] r (end_of R k p) R.horizon w.2 in
        let e : R.horizon - a ≡ p.start - a + (run R p.job + (R.horizon - end_of R k p)) = omega (arith, w.0) in
        let to : end_of R k p + (R.horizon - end_of R k p) ≡ R.horizon = omega arith in
        let one = last_job p r a st w h.0 (R.horizon - end_of R k p) in
        rw e (rw to at one) ∙ last_jobs r (end_of R k p) (ended p r (later (p.start - a) st)) w.2 h.1

  -- ---- the two orders

  -- Before the places nothing starts, and up to their beginning nothing completes.
  pub starts_before : (r : List Place) (a h x : ℕ) (st : State) → InTurn R a h r → x < a → starts R k starting r x st ≡ st
  unfolding starts
  starts_before [] a h x st w l = refl
  starts_before (p ∷ r) a h x st w l =
      rw (ne_eqb p.start x (λ e. omega (arith, w.0))) (starts_before r (end_of R k p) h x st w.2 (omega (arith, w.0)))

  pub ends_before : (r : List Place) (a h x : ℕ) (st : State) → InTurn R a h r → x ≤ a → ends R k ending r x st ≡ st
  unfolding ends
  ends_before [] a h x st w l = refl
  ends_before (p ∷ r) a h x st w l =
      rw (ne_eqb (end_of R k p) x (λ e. omega (arith, w.0, w.1))) (ends_before r (end_of R k p) h x st w.2 (omega (arith, w.0, w.1)))

  -- A place that has not come to its start, is in its run, or is past its end.
  pub starts_at : (p : Place) (r : List Place) (st : State) → starts R k starting (p ∷ r) p.start st ≡ starts R k starting r p.start (begun p r st)
  unfolding starts
  starts_at p r st = rw (eq-eqb p.start p.start refl)

  starts_off : (p : Place) (r : List Place) (x : ℕ) (st : State) → (p.start ≡ x → ⊥) → starts R k starting (p ∷ r) x st ≡ starts R k starting r x st
  unfolding starts
  starts_off p r x st ne = rw (ne_eqb p.start x ne)

  ends_at : (p : Place) (r : List Place) (st : State) → ends R k ending (p ∷ r) (end_of R k p) st ≡ ends R k ending r (end_of R k p) (ruled R k ending p r st)
  unfolding ends
  ends_at p r st = rw (eq-eqb (end_of R k p) (end_of R k p) refl)

  ends_off : (p : Place) (r : List Place) (x : ℕ) (st : State) → (end_of R k p ≡ x → ⊥) → ends R k ending (p ∷ r) x st ≡ ends R k ending r x st
  unfolding ends
  ends_off p r x st ne = rw (ne_eqb (end_of R k p) x ne)

  nothing_first : (x : ℕ) (st : State) → starts R k starting [] x (ends R k ending [] x st) ≡ st
  unfolding starts ends
  nothing_first x st = refl

  nothing_last : (x : ℕ) (st : State) → ends R k ending [] x (starts R k starting [] x st) ≡ st
  unfolding starts ends
  nothing_last x st = refl

  -- Completions first: nothing is asked.
  pub ends_first : Acts (λ p r st. Unit {0}) (events R k starting ending)
  unfolding events
  ends_first =
      record {
        none = nothing_first;
        early = λ p r a h w x l st.
            let v : InTurn R p.start h (p ∷ r) = (omega arith, w.1, w.2) in
            rw (ends_before (p ∷ r) p.start h x st v (omega arith)) (starts_before (p ∷ r) p.start h x st v l);
        begins = λ p r a h w st.
            let v : InTurn R p.start h (p ∷ r) = (omega arith, w.1, w.2) in
            rw (ends_before (p ∷ r) p.start h p.start st v (omega arith), starts_at p r st)
            (starts_before r (end_of R k p) h p.start (begun p r st) w.2 (omega (arith, w.1)));
        within = λ p r a h w x l m st.
            rw (
              ends_off p r x st (λ e. omega arith),
              ends_before r (end_of R k p) h x st w.2 (omega arith),
              starts_off p r x st (λ e. omega arith),
            )
            (starts_before r (end_of R k p) h x st w.2 m);
        ends = λ p r a h w st u. rw (ends_at p r st, starts_off p r (end_of R k p) (ends R k ending r (end_of R k p) (ruled R k ending p r st)) (λ e. omega (arith, w.1)));
        after = λ p r a h w x st l. rw (ends_off p r x st (λ e. omega arith), starts_off p r x (ends R k ending r x st) (λ e. omega arith));
      }

  pub along_any : (r : List Place) (a : ℕ) (st : State) → Along (λ p q x. Unit {0}) a r st
  unfolding Along
  along_any [] a st = tt
  along_any (p ∷ r) a st = (tt, along_any r (end_of R k p) (ended p r (later (p.start - a) st)))

  -- Starts first: what is asked is that the completion does not mind a start at its tick.
  pub starts_first_lem :
      Acts (λ p r st. ruled R k ending p r (starts R k starting r (end_of R k p) st) ≡ starts R k starting r (end_of R k p) (ruled R k ending p r st))
      (starts_first R k starting ending)
  unfolding starts_first
  starts_first_lem =
      record {
        none = nothing_last;
        early = λ p r a h w x l st.
            let v : InTurn R p.start h (p ∷ r) = (omega arith, w.1, w.2) in
            rw (starts_before (p ∷ r) p.start h x st v l) (ends_before (p ∷ r) p.start h x st v (omega arith));
        begins = λ p r a h w st.
            rw (starts_at p r st, starts_before r (end_of R k p) h p.start (begun p r st) w.2 (omega (arith, w.1)))
            (ends_before (p ∷ r) p.start h p.start (begun p r st) (omega arith, w.1, w.2) (omega arith));
        within = λ p r a h w x l m st.
            rw (
              starts_off p r x st (λ e. omega arith),
              starts_before r (end_of R k p) h x st w.2 m,
              ends_off p r x st (λ e. omega arith),
            )
            (ends_before r (end_of R k p) h x st w.2 (omega arith));
        ends = λ p r a h w st u.
            rw (
              starts_off p r (end_of R k p) st (λ e. omega (arith, w.1)),
              ends_at p r (starts R k starting r (end_of R k p) st),
              u,
            );
        after = λ p r a h w x st l. rw (starts_off p r x st (λ e. omega arith), ends_off p r x (starts R k starting r x st) (λ e. omega arith));
      }
