-- The kinds of files and their marks: a file without a mark reads as it did before there were any, one with a mark was refused then, and equal figures make the
-- same recorder whatever the kind.
use mathlib.Core.Path.{◌≡◌, refl, ap, ◌∙◌}
use mathlib.Core.Bool.{Bool, true, false, cond}
use mathlib.Core.List.{List, [], ◌∷◌}
use mathlib.Core.Logic.{⊎_elim}
use Prim.Native.Nat.{ℕ, ◌+◌, ◌-◌, ◌*◌, ◌<◌, ◌≤◌}
use native.Mathlib.Omega.{arith}
use native.Mathlib.Nat.{eq-zero-or-pos}
use lib.Dec.{eqb, leb, ltb}
use lib.ListN.{length}
use borrow.Author.Tests.{eq-eqb, eqb-true}
use Rattle.base.specs.Bytes.{byte_at, pair_at}
use Rattle.base.specs.Lists.{up_to}
use Rattle.base.specs.Refusals.{◌⇒◌, first_that}
use Rattle.base.proofs.Arrays.{up_to_same}
use Rattle.base.proofs.Cases.{cond_cases}
use Rattle.device.proofs.Rules.{first}
use Rattle.schedule.specs.declared.Recorder.{Recorder}
use Rattle.schedule.proofs.Letters.{lettered}
use Rattle.tables.specs.declared.Kind.{Kind}
use Rattle.tables.specs.declared.Kind.TheVariants.{First, Second}
use Rattle.tables.specs.Records.{averaged, first_at, second_at, device_at, job_at}
use Rattle.tables.specs.Layout.{kind_of, body_of, device_place, tasks_place, task_count, jobs_place}
use Rattle.request.specs.declared.Section.TheVariants.{DeviceRecords}
use Rattle.request.specs.Format.{accepted, device_of, listed_job, no_lower, powers_table, device_table, record_table, record_fault, sleeps_in, horizon_of, horizon_in, devices_in, unfolded, jobs_of, jobs_in, listed, recorder_as, read_as, read_of, round_in}
use Rattle.request.proofs.Faultless.{faultless, tasks_alone}
use Rattle.request.proofs.Accepted.{accepted_as}
use Rattle.request.proofs.Beyond.{SameTasks, horizon_same, unfolded_same}

-- ---- the mark

-- By the kind and by what follows the mark; so the reading of whatever does not begin with FF 02 or FF 03 is that of the first kind.
pub read_marked : (s : List ℕ) {k : Kind} {l : List ℕ} → kind_of s ≡ k → body_of s ≡ l → read_of s ≡ read_as k l
unfolding read_of
read_marked s e f = cc (e, f)

pub read_first : (s : List ℕ) → kind_of s ≡ First → read_of s ≡ read_as First s
unfolding read_of
read_first s e = rw e

-- The horizon field of what is accepted is low, of whatever kind it is read as;
field_low : (k : Kind) (s : List ℕ) (R : Recorder) → read_as k s ≡ accepted R → pair_at s 0 ≤ 4096
unfolding horizon_of
field_low k s R e =
    let ok = faultless k s (accepted_as k s R e).0 in
    ⊎_elim
    (λ z. rw (eq-eqb (task_count k s) 0 z) at ok.jobs.few_ticks)
    (λ p. omega (arith, tasks_alone (task_count k s) (pair_at s 0) (byte_at s (jobs_place k s)) ok.jobs.apart (λ z. omega arith)))
    (eq-zero-or-pos (task_count k s))

-- so what the first kind's reading accepts has no mark: it refuses every file that begins with FF 02 or FF 03.
pub first_plain : (s : List ℕ) (R : Recorder) → read_as First s ≡ accepted R → kind_of s ≡ First
unfolding kind_of
first_plain s R e =
    cond_cases (λ k. k ≡ First) (eqb (byte_at s 0) 255)
    (λ z. let never : pair_at s 0 ≤ 4096 → ⊥ = λ l. omega (arith, l, eqb-true (byte_at s 0) 255 z) in absurd (never (field_low First s R e)))
    (λ _. refl)

-- ---- the records of the first and of the second kind are refused as they were

module _ (s : List ℕ) (at : ℕ) where
  pub first_refusals : let d = first_at s at in
      record_fault s (DeviceRecords First) at
      ≡ cond (ltb (length s - at) 7) 1 (first_that ((eqb d.wake 0 ⇒ 4) ∷ (leb d.pwake d.ps ⇒ 5) ∷ (leb d.pw d.ps ⇒ 5) ∷ []))
  unfolding record_fault record_table device_table powers_table no_lower
  first_refusals = let d = first_at s at in go (ltb (length s - at) 7) (eqb d.wake 0) (leb d.pwake d.ps) (leb d.pw d.ps)
    where
      go : (o a b c : Bool) → ◌≡◌ {A = ℕ} (cond o 1 (cond a 4 (cond a 4 (cond o 1 (cond b 5 (cond b 5 (cond c 5 0))))))) (cond o 1 (cond a 4 (cond b 5 (cond c 5 0))))
      go true a b c = refl
      go false true b c = refl
      go false false true c = refl
      go false false false c = refl

  pub second_refusals : let d = second_at s at in
      record_fault s (DeviceRecords Second) at
      ≡ cond (ltb (length s - at) 10) 1
      (first_that ((eqb d.wake 0 ⇒ 4) ∷ (eqb d.shut 0 ⇒ 4) ∷ (leb d.pwake d.ps ⇒ 5) ∷ (leb d.pshut d.ps ⇒ 5) ∷ (leb d.pw d.ps ⇒ 5) ∷ []))
  unfolding record_fault record_table device_table powers_table no_lower
  second_refusals =
      let d = second_at s at in go (ltb (length s - at) 10) (eqb d.wake 0) (eqb d.shut 0) (cond (leb d.pwake d.ps) 5 (cond (leb d.pshut d.ps) 5 (cond (leb d.pw d.ps) 5 0)))
    where
      go : (o a b : Bool) (n : ℕ) → ◌≡◌ {A = ℕ} (cond o 1 (cond a 4 (cond b 4 (cond o 1 n)))) (cond o 1 (cond a 4 (cond b 4 n)))
      go true a b n = refl
      go false a b n = refl

-- ---- equal figures

-- Where both moves are alike and there is one level, all kinds give one device: that of rule 3.
pub one_device : (k : Kind) (s : List ℕ) (at T Pw Ps P0 : ℕ) → device_at k s at ≡ averaged T Pw Ps P0 → device_of (device_at k s at) ≡ first T Pw Ps P0
one_device k s at T Pw Ps P0 e = ap device_of e

-- Two files, of whatever kinds, that give the same figures.
pub record Equal (k : Kind) (s : List ℕ) (k' : Kind) (s' : List ℕ) : Type 0 where
  pub field : pair_at s 0 ≡ pair_at s' 0
  pub devices : byte_at s 2 ≡ byte_at s' 2
  pub same_devices : (i : ℕ) → i < byte_at s 2 → device_at k s (device_place k s i) ≡ device_at k' s' (device_place k' s' i)
  pub tasks : task_count k s ≡ task_count k' s'
  pub same_tasks : SameTasks s s' (tasks_place k s + 1) (tasks_place k' s' + 1) (task_count k s)
  pub jobs : byte_at s (jobs_place k s) ≡ byte_at s' (jobs_place k' s')
  pub same_jobs : (j : ℕ) → j < byte_at s (jobs_place k s) → job_at s (jobs_place k s + 1 + j * 7) ≡ job_at s' (jobs_place k' s' + 1 + j * 7)

-- They make one recorder, but for how a sleep is written.
module _ (k : Kind) (s : List ℕ) (k' : Kind) (s' : List ℕ) (e : Equal k s k' s') where
  one_horizon : horizon_in k s ≡ horizon_in k' s'
  one_horizon =
      horizon_same s s' (task_count k s) (tasks_place k s + 1) (tasks_place k' s' + 1) e.field e.same_tasks
      ∙ ap (λ (n : ℕ). horizon_of s' n (tasks_place k' s' + 1)) e.tasks

  one_round : round_in k s ≡ round_in k' s'
  one_round = ap (ltb 0) e.tasks

  one_list : devices_in k s ≡ devices_in k' s'
  one_list =
      up_to_same _ (λ i. device_of (device_at k' s' (device_place k' s' i))) (byte_at s 2) (λ i l. ap device_of (e.same_devices i l))
      ∙ ap (up_to (λ i. device_of (device_at k' s' (device_place k' s' i)))) e.devices

  one_listed : listed s (byte_at s (jobs_place k s)) (jobs_place k s + 1) ≡ listed s' (byte_at s' (jobs_place k' s')) (jobs_place k' s' + 1)
  one_listed =
      up_to_same _ (λ j. listed_job (job_at s' (jobs_place k' s' + 1 + j * 7))) (byte_at s (jobs_place k s)) (λ j l. ap listed_job (e.same_jobs j l))
      ∙ ap (up_to (λ j. listed_job (job_at s' (jobs_place k' s' + 1 + j * 7)))) e.jobs

  one_unfolded : unfolded s (task_count k s) (tasks_place k s + 1) (horizon_in k s) ≡ unfolded s' (task_count k' s') (tasks_place k' s' + 1) (horizon_in k' s')
  one_unfolded =
      unfolded_same s s' (task_count k s) (tasks_place k s + 1) (tasks_place k' s' + 1) (horizon_in k s) e.same_tasks
      ∙ ap (λ (n : ℕ). unfolded s' n (tasks_place k' s' + 1) (horizon_in k s)) e.tasks
      ∙ ap (unfolded s' (task_count k' s') (tasks_place k' s' + 1)) one_horizon

  one_jobs : jobs_in k s ≡ jobs_in k' s'
  unfolding jobs_of
  one_jobs = rw (one_listed, one_unfolded, e.tasks)

  pub but_for_letters : recorder_as k s ≡ lettered (sleeps_in k) (recorder_as k' s')
  unfolding recorder_as
  but_for_letters = rw (one_horizon, one_round, one_list, one_jobs)

  -- So in kinds that write it alike they make one recorder, and one plan.
  pub one_recorder : sleeps_in k ≡ sleeps_in k' → recorder_as k s ≡ recorder_as k' s'
  unfolding recorder_as
  one_recorder e = but_for_letters ∙ rw e
