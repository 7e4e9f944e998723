-- What looser windows do not promise, by figures: the number of vertices moves either way, and a plan for the looser windows is none for the others.
-- Each is two complete outcomes, computed by the checker from the definitions.
use mathlib.Core.Path.{◌≡◌, refl}
use mathlib.Core.List.{List, [], ◌∷◌, ◌++◌}
use mathlib.Core.Option.{some}
use Prim.Native.Nat.{ℕ, zero, suc, ◌≤◌, ◌<◌}
use native.Mathlib.Omega.{arith}
use Rattle.base.specs.Lists.{up_to, padded, remove}
use Rattle.base.specs.Refusals.{first_of}
use Rattle.device.specs.Row.{trip}
use Rattle.schedule.specs.Listing.{used}
use Rattle.schedule.specs.Visiting.{written, starts, choices, late, cut_a, plan_energy, better, last_end, first_start, since, device_floor, floor, cut_b, complete, examine, visit, visited}
use Rattle.tables.specs.Layout.{kind_of, job_in, tables_as, tables_of}
use Rattle.request.specs.Format.{device_table, powers_table, no_lower, lacks, job_table, record_table, record_fault, horizon_of, jobs_of, mixed, count_of, job_records, job_section, task_section, fault_as, recorder_as, read_as, read_of}
use Rattle.planner.specs.declared.Answer.{Answer}
use Rattle.planner.specs.Promises.{success, refusal_after, Searched}
use Rattle.figures.proofs.Computed.{outcome, found, ended, searched, searched_by}
use Rattle.looser.specs.Windows.{Wider, Looser}

-- ---- files

-- A job (a, d) of one tick, with its device set.
abbrev job_file : ℕ → ℕ → ℕ → List ℕ
job_file a d set = 0 ∷ a ∷ 0 ∷ d ∷ 0 ∷ 1 ∷ set ∷ []

-- Two jobs in h ticks, with device A (T 1, Pw 5, Ps 1, P0 3).
abbrev list_file : ℕ → List ℕ → List ℕ → List ℕ
list_file h j j' = 0 ∷ h ∷ 1 ∷ 1 ∷ 0 ∷ 5 ∷ 0 ∷ 1 ∷ 0 ∷ 3 ∷ 0 ∷ 2 ∷ (j ++ j')

-- Of both the windows are (a, d) and (b, e), and wider in the second.
looser :
    (h a d u b e v a' d' b' e' : ℕ) → a' ≤ a → d ≤ d' → b' ≤ b → e ≤ e'
    → Looser (tables_of (list_file h (job_file a d u) (job_file b e v))) (tables_of (list_file h (job_file a' d' u) (job_file b' e' v)))
unfolding kind_of tables_as up_to padded
looser h a d u b e v a' d' b' e' i k l m =
    record { no_tasks = (refl, refl); same_kind = refl; same_horizon = refl; same_devices = refl; as_many_jobs = refl; wider = wider }
  where
    wider : (j : ℕ) → j < 2 → Wider (job_in (tables_of (list_file h (job_file a d u) (job_file b e v))) j) (job_in (tables_of (list_file h (job_file a' d' u) (job_file b' e' v))) j)
    wider zero n = record { same_run = refl; same_set = refl; no_later_release = omega arith; no_earlier_deadline = omega arith }
    wider (suc zero) n = record { same_run = refl; same_set = refl; no_later_release = omega arith; no_earlier_deadline = omega arith }
    wider (suc (suc j)) n = absurd (omega arith)

-- ---- what their searches give, where what is lent holds nines and has a place more than is needed

abbrev nines : List ℕ
nines = 9 ∷ 9 ∷ 9 ∷ []

-- A file and one with looser windows: their answers, and what is lent after each.
pub record Give (f f' : List ℕ) (a : Answer) (after : List ℕ) (a' : Answer) (after' : List ℕ) : Type 0 where
  pub windows : Looser (tables_of f) (tables_of f')
  pub first : Searched f 1000 nines a after
  pub second : Searched f' 1000 nines a' after'

computed : (f f' : List ℕ) {a a' : Answer} {after after' : List ℕ} → Looser (tables_of f) (tables_of f')
    → outcome nines (searched 1000 nines) (read_of f) ≡ some (a, after) → outcome nines (searched 1000 nines) (read_of f') ≡ some (a', after')
    → Give f f' a after a' after'
computed f f' l e e' = record { windows = l; first = searched_by 1000 nines f e; second = searched_by 1000 nines f' e' }

-- M1 and M2: the second job is released 2 ticks earlier. The plan costs the same, another is the first, and more vertices are visited.
abbrev MoreVertices : Type 0
MoreVertices =
    Give (list_file 6 (job_file 0 2 1) (job_file 3 6 1)) (list_file 6 (job_file 0 2 1) (job_file 1 6 1))
    (success 6 18 9) (0 ∷ 5 ∷ 9 ∷ []) (success 6 18 13) (0 ∷ 1 ∷ 9 ∷ [])

-- The second job is due a tick later: it costs less, and fewer vertices are visited.
abbrev FewerVertices : Type 0
FewerVertices =
    Give (list_file 4 (job_file 2 4 0) (job_file 1 3 1)) (list_file 4 (job_file 2 4 0) (job_file 1 4 1))
    (success 4 16 8) (2 ∷ 1 ∷ 9 ∷ []) (success 4 12 7) (2 ∷ 3 ∷ 9 ∷ [])

-- Two jobs have the first tick alone; with the second due a tick later there is a plan.
abbrev NotConversely : Type 0
NotConversely =
    Give (list_file 2 (job_file 0 1 0) (job_file 0 1 0)) (list_file 2 (job_file 0 1 0) (job_file 0 2 0))
    (refusal_after 19 3) nines (success 2 6 5) (0 ∷ 1 ∷ 9 ∷ [])

pub shown : MoreVertices × FewerVertices × NotConversely
unfolding read_of read_as fault_as kind_of task_section job_section job_records count_of mixed record_fault record_table device_table powers_table no_lower job_table lacks first_of horizon_of jobs_of recorder_as up_to padded remove trip used written starts choices late cut_a plan_energy better last_end first_start since device_floor floor cut_b complete examine visit visited outcome found ended searched
shown = (
  computed _ _ (looser 6 0 2 1 3 6 1 0 2 1 6 (omega arith) (omega arith) (omega arith) (omega arith)) refl refl,
  computed _ _ (looser 4 2 4 0 1 3 1 2 4 1 4 (omega arith) (omega arith) (omega arith) (omega arith)) refl refl,
  computed _ _ (looser 2 0 1 0 0 1 0 0 1 0 2 (omega arith) (omega arith) (omega arith) (omega arith)) refl refl,
)
