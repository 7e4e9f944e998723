-- Figures: rows of small requests and of the I/O paper's Table 2, and some whole outcomes, computed by the checker from the definitions. Device A has T 1, Pw 5,
-- Ps 1, P0 3.
use mathlib.Core.Path.{◌≡◌, refl}
use mathlib.Core.List.{List, [], ◌∷◌, ◌++◌}
use mathlib.Core.Logic.{inl}
use Prim.Native.Nat.{ℕ, zero, suc}
use native.Mathlib.Omega.{arith}
use lib.ListN.{replicate}
use Rattle.base.specs.Lists.{up_to, padded, remove}
use Rattle.base.specs.Refusals.{first_of}
use Rattle.device.specs.Row.{Letter, W, D, U}
use Rattle.schedule.specs.Listing.{place, soonest, ordered}
use Rattle.schedule.proofs.Runs.{run_feasible}
use Rattle.request.specs.Format.{recorder_in}
use Rattle.request.specs.Format as Format
use Rattle.tables.specs.Layout as Layout
use Rattle.schedule.specs.Visiting.{written}
use Rattle.planner.specs.Promises.{success, refusal, stops, passes, feasible, gives}
use Rattle.planner.specs.Promises as Frame
use Rattle.steps.specs.declared.State.{State}
use Rattle.steps.specs.declared.State.TheVariants.{Working, Asleep}
use Rattle.steps.specs.Stepping.{S, row_by, state_by, starts, ends, events, row, spent, finally}
use Rattle.stepper.specs.Promises.{Unfit, marked, unlike, Brief, shorter, SteppedThrough}
use Rattle.stepper.proofs.Fitting.{past}

-- What a file's device k does at given starts: its row, what it spends, and its state at H.
abbrev On : ℕ → List ℕ → List ℕ → List Letter → ℕ → State → Type 0
On k file s letters e st = (row (recorder_in file) k s ≡ letters) × (spent (recorder_in file) k s ≡ e) × (finally (recorder_in file) k s ≡ st)

abbrev two : ℕ → List ℕ
two n = 0 ∷ n ∷ []

abbrev device_file : ℕ → List ℕ
device_file t = t ∷ two 5 ++ two 1 ++ two 3

abbrev job_file : ℕ → ℕ → ℕ → ℕ → List ℕ
job_file a d c set = two a ++ two d ++ two c ++ set ∷ []

-- One job that uses A; no job; and three jobs of which the second lets a device of T 2 wait.
abbrev single : List ℕ
single = two 5 ++ 1 ∷ device_file 1 ++ 0 ∷ 1 ∷ job_file 0 5 2 1

abbrev idle : List ℕ
idle = two 5 ++ 1 ∷ device_file 1 ++ 0 ∷ 0 ∷ []

abbrev waiting : List ℕ
waiting = two 12 ++ 1 ∷ device_file 2 ++ 0 ∷ 3 ∷ job_file 0 3 2 1 ++ job_file 2 6 3 0 ++ job_file 6 12 2 1

-- The jobs of the I/O paper's Table 2, at the starts of the plan of least energy.
abbrev table2 : List ℕ
table2 =
    two 45 ++ 5 ∷ device_file 1 ++ device_file 1 ++ device_file 1 ++ device_file 1 ++ device_file 1
    ++ 0 ∷ 8 ∷ job_file 0 5 3 4 ++ job_file 2 10 7 2 ++ job_file 11 20 6 17 ++ job_file 20 25 4 8 ++ job_file 20 30 5 21 ++ job_file 30 35 3 0 ++ job_file 31 38 4 19 ++ job_file 40 45 2 0

abbrev planned : List ℕ
planned = 0 ∷ 3 ∷ 11 ∷ 20 ∷ 24 ∷ 30 ∷ 33 ∷ 40 ∷ []

-- Devices 0 and 4, which the same jobs use, do the same.
abbrev twice : List Letter
twice =
    replicate 1 D ++ replicate 9 S ++ replicate 1 U ++ replicate 6 W ++ replicate 1 D ++ replicate 2 S ++ replicate 1 U ++ replicate 8 W ++ replicate 1 D
    ++ replicate 1 U ++ replicate 6 W ++ replicate 1 D ++ replicate 7 S

pub figures_hold :
    On 0 single (0 ∷ []) (W ∷ W ∷ D ∷ S ∷ S ∷ []) 15 Asleep
    × On 0 single (1 ∷ []) (W ∷ W ∷ W ∷ D ∷ S ∷ []) 19 Asleep
    × On 0 single (3 ∷ []) (replicate 5 W) 25 Working
    × On 0 idle [] (replicate 5 W) 25 Working
    × On 0 waiting (0 ∷ 2 ∷ 6 ∷ []) (replicate 8 W ++ D ∷ D ∷ S ∷ S ∷ []) 48 Asleep
    × On 0 table2 planned twice 139 Asleep
    × On 1 table2 planned (replicate 10 W ++ replicate 1 D ++ replicate 19 S ++ replicate 1 U ++ replicate 6 W ++ replicate 1 D ++ replicate 7 S) 115 Asleep
    × On 2 table2 planned (replicate 3 W ++ replicate 1 D ++ replicate 16 S ++ replicate 1 U ++ replicate 8 W ++ replicate 1 D ++ replicate 15 S) 95 Asleep
    × On 3 table2 planned (replicate 1 D ++ replicate 16 S ++ replicate 1 U ++ replicate 6 W ++ replicate 1 D ++ replicate 20 S) 75 Asleep
    × On 4 table2 planned twice 139 Asleep
unfolding row spent finally row_by state_by events starts ends soonest ordered remove up_to padded Layout.kind_of Format.recorder_as Format.jobs_of Format.horizon_of
figures_hold = (
  (refl, refl, refl),
  (refl, refl, refl),
  (refl, refl, refl),
  (refl, refl, refl),
  (refl, refl, refl),
  (refl, refl, refl),
  (refl, refl, refl),
  (refl, refl, refl),
  (refl, refl, refl),
  (refl, refl, refl),
)

-- ---- whole outcomes: stepped, a job that is too short, and a file of the second kind

abbrev short : List ℕ
short = two 12 ++ 1 ∷ device_file 2 ++ 0 ∷ 2 ∷ job_file 0 3 1 1 ++ job_file 8 12 2 1

abbrev second : List ℕ
second = 255 ∷ 2 ∷ two 12 ++ 0 ∷ 0 ∷ 1 ∷ job_file 0 12 2 0

single_fit : Unfit single (recorder_in single) → ⊥
unfolding up_to padded Layout.kind_of Format.recorder_as Format.jobs_of Format.horizon_of
single_fit (marked e) = omega arith
single_fit (unlike {k = zero} l n) = n (omega arith, omega arith)
single_fit (unlike {k = suc k} l n) = omega arith

single_long : Brief (recorder_in single) → ⊥
unfolding up_to padded Layout.kind_of Format.recorder_as Format.jobs_of Format.horizon_of
single_long (shorter {j = zero} {k = zero} l m b) = omega arith
single_long (shorter {j = zero} {k = suc k} l m b) = omega arith
single_long (shorter {j = suc j} l m b) = omega arith

short_fit : Unfit short (recorder_in short) → ⊥
unfolding up_to padded Layout.kind_of Format.recorder_as Format.jobs_of Format.horizon_of
short_fit (marked e) = omega arith
short_fit (unlike {k = zero} l n) = n (omega arith, omega arith)
short_fit (unlike {k = suc k} l n) = omega arith

pub outcomes_hold :
    SteppedThrough single (0 ∷ []) (7 ∷ 7 ∷ []) (success 5 15 0) (15 ∷ 7 ∷ [])
    × SteppedThrough short (0 ∷ 8 ∷ []) (7 ∷ []) (refusal 24) (7 ∷ [])
    × SteppedThrough second (0 ∷ []) [] (refusal 25) []
unfolding Format.read_of Format.read_as Format.fault_as Layout.kind_of Format.task_section Format.job_section Format.job_records Format.count_of Format.mixed Format.record_fault Format.record_table Format.device_table Format.powers_table Format.no_lower Format.task_table Format.job_table Format.lacks first_of Format.horizon_of Format.jobs_of Format.recorder_as up_to padded remove soonest ordered row spent row_by events starts ends written
outcomes_hold = (
  Frame.OfFile.read {R = recorder_in single} refl
      (past (recorder_in single) (0 ∷ []) (7 ∷ 7 ∷ []) refl (omega arith)
      (feasible (run_feasible (recorder_in single) (place 0 0 ∷ []) (inl refl, omega arith, omega arith, refl)) (passes single_fit (passes single_long gives)))),
  Frame.OfFile.read {R = recorder_in short} refl
      (past (recorder_in short) (0 ∷ 8 ∷ []) (7 ∷ []) refl (omega arith)
      (feasible (run_feasible (recorder_in short) (place 0 0 ∷ place 1 8 ∷ []) (inl refl, omega arith, omega arith, (inl refl, omega arith, omega arith, refl)))
      (passes short_fit (stops (shorter {j = 0} {k = 0} (omega arith) (omega arith) (omega arith)))))),
  Frame.OfFile.read {R = recorder_in second} refl
      (past (recorder_in second) (0 ∷ []) [] refl (omega arith)
      (feasible (run_feasible (recorder_in second) (place 0 0 ∷ []) (inl refl, omega arith, omega arith, refl)) (stops (marked refl)))),
)
