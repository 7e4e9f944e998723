-- The laws of rules 91 to 95: for feasible starts of a valid recorder, and a device whose moves take no longer than any job.
use mathlib.Core.Path.{◌≡◌, refl, sym, ap, ◌∙◌}
use mathlib.Core.Bool.{Bool, true, false, true≢false}
use mathlib.Core.List.{List, [], ◌∷◌, ◌++◌, append-nil}
use mathlib.Core.Logic.{◌⊎◌, inl, inr}
use Prim.Native.Nat.{ℕ, zero, suc, ◌+◌, ◌-◌, ◌*◌, ◌≤◌, ◌<◌}
use native.Mathlib.Nat.{zero-add}
use native.Mathlib.Omega.{arith}
use lib.ListN.{length, get_or}
use Rattle.base.specs.Lists.{In, up_from, remove}
use Rattle.base.proofs.Numbers.{in_remove}
use Rattle.device.specs.declared.Device.{Device}
use Rattle.device.specs.Row.{Letter, W, level, Rests, Ends, at_work, woken, Goes, over, used, free, pattern}
use Rattle.device.specs.Row as Row
use Rattle.schedule.specs.declared.Recorder.{Recorder}
use Rattle.schedule.specs.Quantities.{device, jobs, run, uses, Valid}
use Rattle.schedule.specs.Listing.{Feasible, Place, places, uses_of, running, Runs}
use Rattle.schedule.specs.Listing as L
use Rattle.schedule.proofs.Runs.{InTurn, Run, all_known, full_in_turn, feasible_run}
use Rattle.schedule.proofs.Gaps.{uses_running}
use Rattle.schedule.proofs.Usage.{tick_used}
use Rattle.steps.specs.inside.Running.{alone, later}
use Rattle.steps.specs.declared.State.{State}
use Rattle.steps.specs.declared.State.TheVariants.{Working, Asleep, Down, Up}
use Rattle.steps.specs.Stepping.{move_time, S, at_start, at_end, row_by, next_start, events, row, spent, finally}
use Rattle.steps.proofs.ByJobs.{starts_first, length_row_by, jobs_row, jobs_last, row_jobs, last_jobs, ends_first, along_any, starts_first_lem}
use Rattle.steps.proofs.Moves.{Ready, ready_work, ready_woken, ready_sleep, ended_work}
use Rattle.steps.proofs.Keeps.{Long, Settled, Kept, kept, row_alike, along_map}
use Rattle.steps.proofs.Clauses.{at_any_end, settled_any, settled_first}
use Rattle.steps.proofs.Passing.{later_down, later_up, down_left, up_left}
use Rattle.steps.proofs.Bounds.{Most, row_most}

-- A used tick is W.
goes_works : {d : Device} {s z : Row.State} {u : List Bool} {r : List Letter} → Goes d s u r z → (t : ℕ) → get_or u t false ≡ true → get_or r t S ≡ W
goes_works over t e = absurd (true≢false (sym e))
goes_works (used h g) zero e = refl
goes_works (used h g) (suc t) e = goes_works g t e
goes_works (free h g) zero e = absurd (true≢false (sym e))
goes_works (free h g) (suc t) e = goes_works g t e

-- The pattern at tick a + t.
pattern_at : (f : ℕ → Bool) (a n t : ℕ) → t < n → get_or (pattern f a n) t false ≡ f (a + t)
pattern_at f a zero t l = absurd (omega arith)
pattern_at f a (suc n) zero l = let e : a ≡ a + 0 = omega arith in ap f e
pattern_at f a (suc n) (suc t) l = let e : suc a + t ≡ a + suc t = omega arith in pattern_at f (suc a) n t (omega arith) ∙ ap f e

-- No move is under way where the device works, or has come up, or sleeps, or has gone down.
abbrev pub Still : Row.State → Type 0
Still z = Ends z ⊎ Rests z 1

-- A row that is legal by rules 32 to 35 from work on, but need not end at work: at its end the device is not moving.
pub record LegalButEnd (d : Device) (u : List Bool) (r : List Letter) : Type 0 where
  pub last : Row.State
  pub goes : Goes d (level 0) u r last
  pub still : Still last

-- A device that is ready for a job which does not use it is still.
ready_still : {st : State} {z : Row.State} → Ready false st z → Still z × ((st ≡ Working) ⊎ (st ≡ Asleep))
ready_still ready_work = (inl at_work, inl refl)
ready_still (ready_woken e) = (inl woken, inl refl)
ready_still (ready_sleep e h) = (inr h, inr refl)

-- A move takes T ticks and no fewer: till then the device moves (rule 94).
pub down_over : (T : ℕ) → 1 ≤ T → (later T (Down T) ≡ Asleep) × ((n : ℕ) → n < T → later n (Down T) ≡ Down (T - n))
down_over T h = (later_down T T h (omega arith), λ n l. sym (down_left n T l))

pub up_over : (T : ℕ) → 1 ≤ T → (later T (Up T) ≡ Working) × ((n : ℕ) → n < T → later n (Up T) ≡ Up (T - n))
up_over T h = (later_up T T h (omega arith), λ n l. sym (up_left n T l))

-- Ticks in which a working device works on.
alone_works : (n t : ℕ) → t < n → (l : List Letter) → get_or (alone n Working ++ l) t S ≡ W
unfolding alone
alone_works zero t h l = absurd (omega arith)
alone_works (suc n) zero h l = refl
alone_works (suc n) (suc t) h l = alone_works n t (omega arith) l

jobs_begin : (R : Recorder) (k : ℕ) (r : List Place) (t : ℕ) → t < next_start R k r → get_or (jobs_row R k at_start at_end 0 r Working) t S ≡ W
unfolding jobs_row
jobs_begin R k [] t h = rw (append-nil (alone (R.horizon - 0) Working)) at (alone_works (R.horizon - 0) t (omega arith) [])
jobs_begin R k (p ∷ r) t h = alone_works (p.start - 0) t (omega arith) _

module _ (R : Recorder) (k : ℕ) where
  run_long : (T : ℕ) → ((j : ℕ) → j < jobs R → T ≤ run R j) → (r : List Place) (t : ℕ) (u : List ℕ) → Run R t u r → ((j : ℕ) → In j u → j < jobs R) → Long R T r
  run_long T long [] t u h known = tt
  run_long T long (p ∷ r) t u h known =
      (long p.job (known p.job h.0), run_long T long r _ (remove p.job u) h.3 (λ j m. known j (in_remove p.job j u m)))

  -- The row has one letter for each tick: for any starts.
  pub row_length : (s : List ℕ) → length (row R k s) ≡ R.horizon
  unfolding row
  row_length s = length_row_by (events R k at_start at_end (running R s)) 0 R.horizon Working

  -- A device spends at most Pw × H (rule 95): for any starts.
  pub spent_most : Most (device R k) (device R k).pw → (s : List ℕ) → spent R k s ≤ (device R k).pw * R.horizon
  unfolding spent row
  spent_most h s = row_most (device R k) (device R k).pw h (events R k at_start at_end (running R s)) 0 R.horizon Working

module _ (R : Recorder) (valid : Valid R) (s : List ℕ) (f : Feasible R s) (k : ℕ) where
  abbrev r : List Place
  r = running R s

  turn : InTurn R 0 R.horizon r
  turn = full_in_turn R valid r (feasible_run R valid s f)

  -- The row and the state at H, job by job.
  whole : R.horizon - 0 ≡ R.horizon
  whole = omega arith

  pub row_is : row R k s ≡ jobs_row R k at_start at_end 0 r Working
  unfolding row
  row_is =
      rw whole at (row_jobs R k at_start at_end (λ p q x. Unit {0}) (events R k at_start at_end) (ends_first R k at_start at_end) r 0 Working turn (along_any R k at_start at_end r 0 Working))

  pub finally_is : finally R k s ≡ jobs_last R k at_start at_end 0 r Working
  unfolding finally
  finally_is =
      rw whole at (last_jobs R k at_start at_end (λ p q x. Unit {0}) (events R k at_start at_end) (ends_first R k at_start at_end) r 0 Working turn (along_any R k at_start at_end r 0 Working))

  -- Before the first start, and in the whole round where there is no job, nothing happens: the device works.
  pub row_begins : (t : ℕ) → t < next_start R k r → get_or (row R k s) t S ≡ W
  row_begins t h = rw row_is (jobs_begin R k r t h)

  module _ (known : k < R.devices.count) (alike : move_time (device R k) ≡ (device R k).wake) (long : (j : ℕ) → j < jobs R → move_time (device R k) ≤ run R j) where
    moves : 1 ≤ move_time (device R k)
    moves = (valid.sound k known).shuts

    keeps : Kept R k 0 r Working (level 0)
    keeps = kept R k (valid.sound k known).some_level moves alike r 0 Working (level 0) turn (run_long R k (move_time (device R k)) long r 0 (up_from 0 (jobs R)) (feasible_run R valid s f) (all_known R)) ended_work

    -- The row is legal but for its end: D and U come in blocks of exactly T ticks, as rules 32 to 34 have them, and none is under way at H (rule 94).
    pub row_legal : LegalButEnd (device R k) (uses_of R s k) (row R k s)
    row_legal =
        record {
          last = keeps.last;
          goes = rw (uses_running R k s, row_is) (rw whole at keeps.goes);
          still = (ready_still keeps.ready).0;
        }

    -- In every tick of a job the devices that it uses are at work (rule 95).
    pub row_works : (j t : ℕ) → j < jobs R → uses R k j ≡ true → Runs R s j t → get_or (row R k s) t S ≡ W
    row_works j t l u b =
        let in-round : t < R.horizon = omega (arith, b, f.in_time j l, valid.ends j l) in
        goes_works row_legal.goes t (pattern_at (L.used R k (places R s)) 0 R.horizon t in-round ∙ ap (L.used R k (places R s)) (zero-add t) ∙ tick_used R s k t j l u b)

    -- At H no device is moving.
    pub finally_still : (finally R k s ≡ Working) ⊎ (finally R k s ≡ Asleep)
    finally_still = rw finally_is (ready_still keeps.ready).1

    -- That a device goes down at a completion only if this job used it changes nothing.
    pub any_end_row : row_by (events R k at_start at_any_end r) 0 R.horizon Working ≡ row R k s
    any_end_row =
        rw whole at (row_jobs R k at_start at_any_end (λ p q x. Unit {0}) (events R k at_start at_any_end) (ends_first R k at_start at_any_end) r 0 Working turn (along_any R k at_start at_any_end r 0 Working))
        ∙ row_alike R k at_any_end (Settled R k) (settled_any R k moves) r 0 Working keeps.along ∙ sym row_is

    -- Which of a completion and a start at one tick is first changes nothing.
    pub starts_first_row : row_by (starts_first R k at_start at_end r) 0 R.horizon Working ≡ row R k s
    starts_first_row =
        rw whole at (row_jobs R k at_start at_end _ (starts_first R k at_start at_end) (starts_first_lem R k at_start at_end) r 0 Working turn
        (along_map R k (Settled R k) _ (settled_first R k moves) r 0 Working turn keeps.along))
        ∙ sym row_is
