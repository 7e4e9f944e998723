-- The laws of rules 91 to 95 for a file: what `step_through` steps, it steps as they say.
use mathlib.Core.Path.{◌≡◌, refl, sym, subst, ◌∙◌}
use mathlib.Core.Bool.{true}
use mathlib.Core.List.{List}
use mathlib.Core.Logic.{◌⊎◌, by_cases}
use Prim.Native.Nat.{ℕ, ◌*◌, ◌≤◌, ◌<◌}
use native.Mathlib.Decide.{dec_lt}
use native.Mathlib.Omega.{arith}
use lib.ListN.{get_or}
use borrow.Author.Tests.{ne_eqb}
use Rattle.base.specs.Bytes.{byte_at}
use Rattle.base.proofs.Arrays.{get_d_held}
use Rattle.base.proofs.Every.{Every, every_up_to, every_at}
use Rattle.device.specs.declared.Device.{Device}
use Rattle.device.specs.Row.{W, no_device}
use Rattle.schedule.specs.declared.Recorder.{Recorder}
use Rattle.schedule.specs.Quantities.{device, jobs, run, uses, Valid}
use Rattle.schedule.specs.Listing.{Feasible, Runs, uses_of, running}
use Rattle.tables.specs.declared.Kind.TheVariants.{First}
use Rattle.tables.specs.Layout.{kind_of}
use Rattle.request.specs.Format.{devices_in, vacant_device, recorder_as}
use Rattle.request.proofs.Accepted.{accepted_as, accepted_valid}
use Rattle.request.proofs.Marks.{read_first}
use Rattle.planner.specs.Promises.{Reads}
use Rattle.steps.specs.declared.State.TheVariants.{Working, Asleep}
use Rattle.steps.specs.Stepping.{move_time, S, at_start, at_end, row_by, events, row, spent, finally}
use Rattle.steps.proofs.ByJobs.{starts_first}
use Rattle.steps.proofs.Clauses.{at_any_end}
use Rattle.steps.proofs.Laws.{LegalButEnd, row_legal, row_works, spent_most, finally_still, any_end_row, starts_first_row}
use Rattle.stepper.specs.Promises.{Between, Unfit, marked, unlike, Brief, shorter}

-- A device of which both moves take the same time at the same power, and which has one sleep level.
abbrev pub Alike : Device → Type 0
Alike d = (d.shut ≡ d.wake) × (d.pd ≡ d.pu) × (d.levels ≡ 1)

-- Such are the devices of a file of the first kind, and so of every file that does not begin with FF.
first_alike : (s : List ℕ) → Every Alike (devices_in First s)
first_alike s = every_up_to Alike _ (byte_at s 2) (λ i l. (refl, refl, refl))

held_alike : (s : List ℕ) (k : ℕ) → k < (recorder_as First s).devices.count → Alike (device (recorder_as First s) k)
unfolding recorder_as
held_alike s k l = rw (get_d_held 8 vacant_device (devices_in First s) k no_device l) (every_at Alike (devices_in First s) no_device (first_alike s) k l)

unmarked_first : (s : List ℕ) → (byte_at s 0 ≡ 255 → ⊥) → kind_of s ≡ First
unfolding kind_of
unmarked_first s h = rw (ne_eqb (byte_at s 0) 255 h)

-- A file that is stepped.
module _ (file : List ℕ) (R : Recorder) (reads : Reads file R) (fit : Unfit file R → ⊥) where
  valid : Valid R
  valid = accepted_valid file R reads

  pub devices_alike : (k : ℕ) → k < R.devices.count → Alike (device R k)
  devices_alike =
      subst (λ (X : Recorder). (k : ℕ) → k < X.devices.count → Alike (device X k))
      (accepted_as First file R (sym (read_first file (unmarked_first file (λ e. fit (marked e)))) ∙ reads)).1 (held_alike file)

  pub devices_between : (k : ℕ) → k < R.devices.count → Between (device R k)
  devices_between k l =
      let dear = (valid.sound k l).shuts_dearer in
      by_cases (dec_lt (device R k).pd (device R k).pw) (λ h. (dear, h)) (λ n. absurd (fit (unlike l (λ b. n b.1))))

  -- A device spends at most Pw × H.
  pub spends_at_most : (s : List ℕ) (k : ℕ) → k < R.devices.count → spent R k s ≤ (device R k).pw * R.horizon
  spends_at_most s k l =
      let b = devices_between k l in
      let a = devices_alike k l in
      spent_most R k (omega arith, omega (arith, b), omega (arith, b), omega (arith, b, a.1)) s

  module _ (s : List ℕ) (f : Feasible R s) (long : Brief R → ⊥) (k : ℕ) (l : k < R.devices.count) where
    jobs_long : (j : ℕ) → j < jobs R → move_time (device R k) ≤ run R j
    jobs_long j h = by_cases (dec_lt (run R j) (move_time (device R k))) (λ b. absurd (long (shorter h l b))) (λ n. omega arith)

    -- In every tick of a job the devices that it uses are at work.
    pub finds_working : (j t : ℕ) → j < jobs R → uses R k j ≡ true → Runs R s j t → get_or (row R k s) t S ≡ W
    finds_working = row_works R valid s f k l (devices_alike k l).0 jobs_long

    -- Moves take exactly T ticks, and the row is legal but for its end;
    pub legal_but_end : LegalButEnd (device R k) (uses_of R s k) (row R k s)
    legal_but_end = row_legal R valid s f k l (devices_alike k l).0 jobs_long

    -- where the device is not moving.
    pub still_at_end : (finally R k s ≡ Working) ⊎ (finally R k s ≡ Asleep)
    still_at_end = finally_still R valid s f k l (devices_alike k l).0 jobs_long

    -- Two clauses change nothing: that only what this job used goes down at its completion, and that of a completion and a start at one tick the completion is first.
    pub whoever_used : row_by (events R k at_start at_any_end (running R s)) 0 R.horizon Working ≡ row R k s
    whoever_used = any_end_row R valid s f k l (devices_alike k l).0 jobs_long

    pub whichever_first : row_by (starts_first R k at_start at_end (running R s)) 0 R.horizon Working ≡ row R k s
    whichever_first = starts_first_row R valid s f k l (devices_alike k l).0 jobs_long
