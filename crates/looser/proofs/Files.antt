-- From the tables of a job list to the recorder that its file is read as: so the recorder of a file with looser windows has the wider windows.
use mathlib.Core.Path.{◌≡◌, sym, ap, ◌∙◌, subst}
use mathlib.Core.Bool.{false}
use mathlib.Core.List.{List}
use Prim.Native.Nat.{ℕ, ◌<◌}
use native.Mathlib.Omega.{arith}
use lib.Dec.{ltb}
use lib.ListN.{get_or}
use borrow.Author.Tests.{eq-eqb}
use Rattle.base.specs.Bytes.{byte_at}
use Rattle.base.proofs.Arrays.{length_up_to, get_d_padded, get_d_held, get_d_up_to}
use Rattle.schedule.specs.declared.Job.{Job}
use Rattle.schedule.specs.declared.Recorder.{Recorder}
use Rattle.schedule.specs.Quantities.{no_device, device, no_job, job, jobs}
use Rattle.tables.specs.declared.Kind.{Kind}
use Rattle.tables.specs.declared.Table.{Table}
use Rattle.tables.specs.declared.DeviceRecord.{DeviceRecord}
use Rattle.tables.specs.Records.{blank_device, blank_job}
use Rattle.tables.specs.Layout.{kind_of, body_of, task_count, jobs_place, device_in, job_in, tables_as, tables_of}
use Rattle.request.specs.Format.{device_of, listed_job, horizon_of, devices_in, jobs_of, vacant_device, vacant_job, recorder_as, read_of}
use Rattle.request.proofs.Accepted.{accepted_as}
use Rattle.planner.specs.Promises.{Reads}
use Rattle.looser.specs.Windows.{Wider, Looser}
use Rattle.looser.proofs.Helps.{Widened}

-- ---- what the recorder of a job list is, by its tables

module _ (k : Kind) (s : List ℕ) where
  devices_told : (recorder_as k s).devices.count ≡ (tables_as k s).devices.count
  unfolding recorder_as tables_as
  devices_told = length_up_to _ (byte_at s 2)

  device_told : (i : ℕ) → i < (tables_as k s).devices.count → device (recorder_as k s) i ≡ device_of (device_in (tables_as k s) i)
  unfolding recorder_as tables_as
  device_told i l =
      get_d_held 8 vacant_device (devices_in k s) i no_device (rw length_up_to l)
      ∙ get_d_up_to _ (byte_at s 2) i no_device l
      ∙ ap device_of (sym (get_d_padded 8 blank_device _ i ∙ get_d_up_to _ (byte_at s 2) i blank_device l))

  module _ (list : (tables_as k s).tasks.count ≡ 0) where
    no_tasks : task_count k s ≡ 0
    unfolding tables_as
    no_tasks = list

    horizon_told : (recorder_as k s).horizon ≡ (tables_as k s).horizon
    unfolding recorder_as tables_as horizon_of
    horizon_told = rw (eq-eqb (task_count k s) 0 no_tasks)

    round_told : (recorder_as k s).round ≡ false
    unfolding recorder_as
    round_told = ap (ltb 0) no_tasks

    jobs_told : jobs (recorder_as k s) ≡ (tables_as k s).jobs.count
    unfolding recorder_as tables_as jobs_of
    jobs_told = rw (eq-eqb (task_count k s) 0 no_tasks, length_up_to)

    job_told : (j : ℕ) → j < (tables_as k s).jobs.count → job (recorder_as k s) j ≡ listed_job (job_in (tables_as k s) j)
    unfolding recorder_as tables_as jobs_of
    job_told j l =
        let n = byte_at s (jobs_place k s) in
        rw (eq-eqb (task_count k s) 0 no_tasks)
        (get_d_held 16 vacant_job _ j no_job (rw length_up_to l)
        ∙ get_d_up_to _ n j no_job l
        ∙ ap listed_job (sym (get_d_padded 16 blank_job _ j ∙ get_d_up_to _ n j blank_job l)))

-- ---- two of them

module _ (k k' : Kind) (s s' : List ℕ) (h : Looser (tables_as k s) (tables_as k' s')) where
  -- Of two jobs of the same number.
  pair : (j : ℕ) → j < jobs (recorder_as k s) → Wider (job_in (tables_as k s) j) (job_in (tables_as k' s') j)
      × (job (recorder_as k s) j ≡ listed_job (job_in (tables_as k s) j)) × (job (recorder_as k' s') j ≡ listed_job (job_in (tables_as k' s') j))
  pair j l =
      let m : j < (tables_as k s).jobs.count = omega (arith, jobs_told k s h.no_tasks.0) in
      (h.wider j m, job_told k s h.no_tasks.0 j m, job_told k' s' h.no_tasks.1 j (omega (arith, h.as_many_jobs)))

  widened_as : Widened (recorder_as k s) (recorder_as k' s')
  widened_as =
      let list = h.no_tasks.0 in
      let list' = h.no_tasks.1 in
      record {
        same_horizon = omega (arith, horizon_told k s list, h.same_horizon, horizon_told k' s' list');
        same_round = round_told k s list ∙ sym (round_told k' s' list');
        as_many_devices = devices_told k s ∙ ap (λ (t : Table DeviceRecord 8). t.count) h.same_devices ∙ sym (devices_told k' s');
        same_device = λ i l.
            let m : i < (tables_as k s).devices.count = omega (arith, devices_told k s) in
            let m' : i < (tables_as k' s').devices.count = omega (arith, ap (λ (t : Table DeviceRecord 8). t.count) h.same_devices) in
            device_told k s i m ∙ ap (λ (t : Table DeviceRecord 8). device_of (get_or t.list i blank_device)) h.same_devices ∙ sym (device_told k' s' i m');
        as_many_jobs = jobs_told k s list ∙ h.as_many_jobs ∙ sym (jobs_told k' s' list');
        same_run = λ j l. let p = pair j l in omega (arith, p.0.same_run, ap (λ (x : Job). x.run) p.1, ap (λ (x : Job). x.run) p.2);
        same_uses = λ j i l. let p = pair j l in rw (p.1, p.2, p.0.same_set);
        no_later_release = λ j l. let p = pair j l in omega (arith, p.0.no_later_release, ap (λ (x : Job). x.release) p.1, ap (λ (x : Job). x.release) p.2);
        no_earlier_deadline = λ j l. let p = pair j l in omega (arith, p.0.no_earlier_deadline, ap (λ (x : Job). x.deadline) p.1, ap (λ (x : Job). x.deadline) p.2);
      }

pub widened : (file file' : List ℕ) → Looser (tables_of file) (tables_of file') → {R R' : Recorder} → Reads file R → Reads file' R' → Widened R R'
unfolding read_of
widened file file' h {R} {R'} r r' =
    subst (λ (X : Recorder). Widened X R') (accepted_as (kind_of file) (body_of file) R r).1
    (subst (Widened (recorder_as (kind_of file) (body_of file))) (accepted_as (kind_of file') (body_of file') R' r').1
    (widened_as (kind_of file) (kind_of file') (body_of file) (body_of file') h))
