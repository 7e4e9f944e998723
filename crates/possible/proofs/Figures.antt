-- Figures: whole outcomes of small requests, computed by the checker from the definitions.
use mathlib.Core.Path.{◌≡◌, refl, ap}
use mathlib.Core.Option.{none, some}
use mathlib.Core.List.{List, [], ◌∷◌, ◌++◌}
use Prim.Native.Nat.{ℕ, ◌≤◌, ◌<◌}
use native.Mathlib.Omega.{arith}
use lib.ListN.{length, drop}
use Rattle.base.specs.Lists.{up_to, padded, remove}
use Rattle.base.specs.Refusals.{first_of}
use Rattle.schedule.specs.declared.Recorder.{Recorder}
use Rattle.schedule.specs.Quantities.{jobs}
use Rattle.schedule.specs.Visiting.{Visited, written, starts, choices, late, cut_a}
use Rattle.request.specs.Format.{recorder_in}
use Rattle.request.specs.Format as Format
use Rattle.tables.specs.Layout as Layout
use Rattle.request.proofs.Accepted.{accepted_valid}
use Rattle.planner.specs.Promises.{success, refusal_after, Reads}
use Rattle.planner.specs.Promises as Frame
use Rattle.possible.specs.TillFound.{unless_found, enter, visit_till_found, visited_till_found}
use Rattle.possible.specs.Promises.{Possible}
use Rattle.possible.proofs.Cases as Cases
use Rattle.possible.proofs.Found.{found_first, found_none}

-- ---- from the visit to the outcome

module _ (file : List ℕ) (b : ℕ) (lent : List ℕ) (R : Recorder) (reads : Reads file R) (roomy : jobs R ≤ length lent) (c : ℕ) where
  yes_with :
      (s : List ℕ) → visited_till_found R ≡ record { count = c; best = some s } → c ≤ b
      → Possible file b lent (success R.horizon 0 c) (s ++ drop (jobs R) lent)
  yes_with s e h =
      let count : (visited_till_found R).count ≡ c = ap (λ (w : Visited). w.count) e in
      rw (← count)
      (Frame.OfFile.read reads (Cases.cases_possible b lent R
      (Cases.PossibleCases.found roomy (omega (arith, count)) (found_first R (accepted_valid file R reads) s (ap (λ (w : Visited). w.best) e)))))

  no_with : visited_till_found R ≡ record { count = c; best = none } → c ≤ b → Possible file b lent (refusal_after 19 c) lent
  no_with e h =
      let count : (visited_till_found R).count ≡ c = ap (λ (w : Visited). w.count) e in
      rw (← count)
      (Frame.OfFile.read reads (Cases.cases_possible b lent R
      (Cases.PossibleCases.none roomy (omega (arith, count)) (found_none R (accepted_valid file R reads) (ap (λ (w : Visited). w.best) e)))))

  too_small : (visited_till_found R).count ≡ c → b < c → Possible file b lent (refusal_after 20 b) lent
  too_small e h = Frame.OfFile.read reads (Cases.cases_possible b lent R (Cases.PossibleCases.over roomy (omega (arith, e))))

-- ---- files

abbrev two : ℕ → List ℕ
two n = 0 ∷ n ∷ []

abbrev job_file : ℕ → ℕ → ℕ → ℕ → List ℕ
job_file a d c k = two a ++ two d ++ two c ++ k ∷ []

-- T 1, Pw 5, Ps 1, P0 3.
abbrev device_file : List ℕ
device_file = 1 ∷ two 5 ++ two 1 ++ two 3

-- One job in a round of 5 ticks; three in one of 6; and two that want the same two ticks.
abbrev one : List ℕ
one = two 5 ++ 1 ∷ device_file ++ 0 ∷ 1 ∷ job_file 0 5 2 1

abbrev three : List ℕ
three = two 6 ++ 1 ∷ device_file ++ 0 ∷ 3 ∷ job_file 0 6 1 1 ++ job_file 0 6 1 0 ++ job_file 0 6 1 1

abbrev rivals : List ℕ
rivals = two 4 ++ 0 ∷ 0 ∷ 2 ∷ job_file 0 2 2 0 ++ job_file 0 2 2 0

-- ---- the figures

pub figures_hold :
    Possible one 1000000 (7 ∷ []) (success 5 0 2) (0 ∷ [])
    × Possible one 2 (7 ∷ []) (success 5 0 2) (0 ∷ [])
    × Possible one 1 (7 ∷ []) (refusal_after 20 1) (7 ∷ [])
    × Possible three 1000000 (7 ∷ 7 ∷ 7 ∷ 7 ∷ []) (success 6 0 4) (0 ∷ 1 ∷ 2 ∷ 7 ∷ [])
    × Possible rivals 1000000 (7 ∷ 7 ∷ []) (refusal_after 19 3) (7 ∷ 7 ∷ [])
unfolding Format.read_of Format.read_as Format.fault_as Layout.kind_of Format.task_section Format.job_section Format.job_records Format.count_of Format.mixed Format.record_fault Format.record_table Format.device_table Format.powers_table Format.no_lower Format.task_table Format.job_table Format.lacks first_of Format.horizon_of Format.jobs_of Format.recorder_as up_to padded remove written starts choices late cut_a unless_found enter visit_till_found visited_till_found
figures_hold = (
  yes_with one 1000000 (7 ∷ []) (recorder_in one) refl (omega arith) 2 (0 ∷ []) refl (omega arith),
  yes_with one 2 (7 ∷ []) (recorder_in one) refl (omega arith) 2 (0 ∷ []) refl (omega arith),
  too_small one 1 (7 ∷ []) (recorder_in one) refl (omega arith) 2 refl (omega arith),
  yes_with three 1000000 (7 ∷ 7 ∷ 7 ∷ 7 ∷ []) (recorder_in three) refl (omega arith) 4 (0 ∷ 1 ∷ 2 ∷ []) refl (omega arith),
  no_with rivals 1000000 (7 ∷ 7 ∷ []) (recorder_in rivals) refl (omega arith) 3 refl (omega arith),
)
