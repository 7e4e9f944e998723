-- Figures: whole outcomes of small requests, computed by the checker from the definitions. Jobs are written (a, d, c); there is no device.
use mathlib.Core.Path.{◌≡◌, refl}
use mathlib.Core.Option.{none, some}
use mathlib.Core.List.{List, [], ◌∷◌, ◌++◌}
use Prim.Native.Nat.{ℕ, ◌*◌}
use native.Mathlib.Omega.{arith}
use lib.ListN.{length, drop}
use Rattle.base.specs.Lists.{up_to, padded, remove}
use Rattle.base.specs.Refusals.{first_of}
use Rattle.schedule.specs.declared.Recorder.{Recorder}
use Rattle.schedule.specs.Quantities.{jobs}
use Rattle.schedule.specs.Listing.{soonest}
use Rattle.request.specs.Format.{recorder_in}
use Rattle.request.specs.Format as Format
use Rattle.tables.specs.Layout as Layout
use Rattle.request.proofs.Accepted.{accepted_valid}
use Rattle.planner.specs.Promises.{success, refusal_at, Reads}
use Rattle.planner.specs.Promises as Frame
use Rattle.mend.specs.Mending.{moves, numbers}
use Rattle.mend.specs.inside.Settling.{settle, late_of, mended, first_late}
use Rattle.mend.specs.Promises as P
use Rattle.mend.specs.Promises.{Lent, lending, Room, Mended}
use Rattle.mend.proofs.Outcome.{mended_comes_out, late_none, none_late, some_late}

-- ---- from the construction to the outcome

module _ (file given : List ℕ) (lent : Lent) (R : Recorder) (reads : Reads file R) (e : length given ≡ jobs R) (room : Room R lent) where
  in_time :
      first_late R given ≡ none
      → Mended file given lent (success R.horizon 0 (length (moves given (mended R given) (jobs R))))
      (lending (mended R given ++ drop (jobs R) lent.starts)
      (numbers (moves given (mended R given) (jobs R)) ++ drop (3 * length (moves given (mended R given) (jobs R))) lent.moved))
  in_time q = Frame.OfFile.read reads (P.MendOf.mended e room (none_late R given (accepted_valid file R reads) q))

  too_late : (j : ℕ) → first_late R given ≡ some j → Mended file given lent (refusal_at 17 j) lent
  too_late j q =
      let v = accepted_valid file R reads in
      let out = mended_comes_out R given v in
      let f = some_late R given v j q in
      Frame.OfFile.read reads (P.MendOf.late e room (late_none R given out f) out f)

-- ---- files

abbrev two : ℕ → List ℕ
two n = 0 ∷ n ∷ []

abbrev job_file : ℕ → ℕ → ℕ → List ℕ
job_file a d c = two a ++ two d ++ two c ++ 0 ∷ []

-- Two jobs with releases of their own; three of which the last is released at 4; two of which the first is late unless it starts at 0.
abbrev released : List ℕ
released = two 9 ++ 0 ∷ 0 ∷ 2 ∷ job_file 1 4 2 ++ job_file 5 8 2

abbrev three : List ℕ
three = two 10 ++ 0 ∷ 0 ∷ 3 ∷ job_file 0 10 3 ++ job_file 0 10 2 ++ job_file 4 10 2

abbrev tight : List ℕ
tight = two 10 ++ 0 ∷ 0 ∷ 2 ∷ job_file 0 3 3 ++ job_file 0 5 3

-- Lists one place longer than needed for two jobs, and for three.
abbrev for_two : Lent
for_two = lending (7 ∷ 7 ∷ 7 ∷ []) (7 ∷ 7 ∷ 7 ∷ 7 ∷ 7 ∷ 7 ∷ 7 ∷ [])

abbrev for_three : Lent
for_three = lending (7 ∷ 7 ∷ 7 ∷ 7 ∷ []) (7 ∷ 7 ∷ 7 ∷ 7 ∷ 7 ∷ 7 ∷ 7 ∷ 7 ∷ 7 ∷ 7 ∷ [])

-- ---- the figures

pub figures_hold :
    Mended released (0 ∷ 0 ∷ []) for_two (success 9 0 2) (lending (1 ∷ 5 ∷ 7 ∷ []) (0 ∷ 0 ∷ 1 ∷ 1 ∷ 0 ∷ 5 ∷ 7 ∷ []))
    × Mended three (2 ∷ 2 ∷ 2 ∷ []) for_three (success 10 0 2) (lending (2 ∷ 5 ∷ 7 ∷ 7 ∷ []) (1 ∷ 2 ∷ 5 ∷ 2 ∷ 2 ∷ 7 ∷ 7 ∷ 7 ∷ 7 ∷ 7 ∷ []))
    × Mended three (4 ∷ 0 ∷ 8 ∷ []) for_three (success 10 0 0) (lending (4 ∷ 0 ∷ 8 ∷ 7 ∷ []) for_three.moved)
    × Mended tight (1 ∷ 1 ∷ []) for_two (refusal_at 17 0) for_two
    × Mended tight (65535 ∷ 2 ∷ []) for_two (refusal_at 17 0) for_two
unfolding Format.read_of Format.read_as Format.fault_as Layout.kind_of Format.task_section Format.job_section Format.job_records Format.count_of Format.mixed Format.record_fault Format.record_table Format.device_table Format.task_table Format.job_table Format.lacks first_of Format.horizon_of Format.jobs_of Format.recorder_as up_to padded remove soonest settle late_of mended moves
figures_hold = (
  in_time released (0 ∷ 0 ∷ []) for_two (recorder_in released) refl refl (record { starts = omega arith; moved = omega arith }) refl,
  in_time three (2 ∷ 2 ∷ 2 ∷ []) for_three (recorder_in three) refl refl (record { starts = omega arith; moved = omega arith }) refl,
  in_time three (4 ∷ 0 ∷ 8 ∷ []) for_three (recorder_in three) refl refl (record { starts = omega arith; moved = omega arith }) refl,
  too_late tight (1 ∷ 1 ∷ []) for_two (recorder_in tight) refl refl (record { starts = omega arith; moved = omega arith }) 0 refl,
  too_late tight (65535 ∷ 2 ∷ []) for_two (recorder_in tight) refl refl (record { starts = omega arith; moved = omega arith }) 0 refl,
)
