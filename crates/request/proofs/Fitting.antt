-- Every job of a file without a fault fits: the listed ones by their table, the unfolded ones because each period divides the horizon.
use mathlib.Core.Path.{◌≡◌}
use mathlib.Core.Bool.{false}
use mathlib.Core.List.{List}
use Prim.Native.Nat.{ℕ, zero, suc, ◌+◌, ◌-◌, ◌*◌, ◌%◌, ◌<◌, ◌≤◌, ◌∣◌}
use native.Mathlib.Omega.{arith}
use native.Mathlib.Nat.{pos_of_ne-zero, dvd_of_mod-eq-zero, dvd-sub, le_of_dvd}
use lib.ListN.{get_or}
use lib.Dec.{eqb}
use borrow.Author.Tests.{ltb-false, eqb-true, eqb-false}
use Rattle.base.specs.Bytes.{byte_at, pair_at}
use Rattle.base.proofs.Cases.{cond_cases}
use Rattle.base.proofs.Every.{Every, every_append, every_up_to}
use Rattle.base.proofs.Records.{first_even}
use Rattle.schedule.specs.declared.Job.{Job}
use Rattle.request.specs.declared.Section.TheVariants.{TaskRecords, JobRecords}
use Rattle.tables.specs.Records.{task_at, job_at}
use Rattle.request.specs.Format.{task_table, job_table, record_table, record_fault, records_fault, listed_job, job_of, released, released_at, unfolded, listed}
use Rattle.request.proofs.Bits.{known_bits}
use Rattle.request.proofs.Checked.{record_clear}

-- A job within the horizon h, of a file with n devices.
pub record Fits (h n : ℕ) (j : Job) : Type 0 where
  pub runs : 1 ≤ j.run
  pub fits : j.release + j.run ≤ j.deadline
  pub ends : j.deadline ≤ h
  pub known : (k : ℕ) → n ≤ k → get_or j.uses k false ≡ false

-- ---- listed jobs

job_fits : (s : List ℕ) (n h at : ℕ) → 0 ≡ record_fault s (JobRecords n h) at → Fits h n (listed_job (job_at s at))
unfolding record_table job_table
job_fits s n h at e =
    let j = job_at s at in
    let f = record_clear s (JobRecords n h) at (tt, (tt, (tt, (tt, tt)))) e in
    record {
      runs = pos_of_ne-zero (eqb-false j.run 0 f.1.0);
      fits = ltb-false j.deadline (j.release + j.run) f.1.1.0;
      ends = ltb-false h j.deadline f.1.1.1.0;
      known = λ k l. known_bits n (byte_at s (at + 6)) k f.0 l;
    }

pub listed_fit : (s : List ℕ) (n h count at : ℕ) → 0 ≡ records_fault s (JobRecords n h) count at → Every (Fits h n) (listed s count at)
listed_fit s n h count at e =
    every_up_to (Fits h n) (λ (j : ℕ). listed_job (job_at s (at + j * 7))) count (λ j l. job_fits s n h (at + j * 7) (first_even (record_fault s (JobRecords n h)) 7 count at j l e))

-- ---- unfolded jobs

-- A multiple of p below another is at least p below it.
room : (p t h : ℕ) → p ∣ t → p ∣ h → t < h → t + p ≤ h
room p t h d e l =
    let less : p ≤ h - t = le_of_dvd {n = h - t} (omega arith) (dvd-sub p e d) in
    omega arith

module _ (s : List ℕ) (n h : ℕ) where
  release_fits :
      (at t : ℕ) → 0 ≡ record_fault s (TaskRecords n) at → pair_at s at ∣ h → t < h → t % pair_at s at ≡ 0 → Fits h n (job_of (task_at s at) t)
  unfolding record_table task_table
  release_fits at t e d l z =
      let k = task_at s at in
      let f = record_clear s (TaskRecords n) at (tt, (tt, (tt, (tt, (tt, tt))))) e in
      record {
        runs = pos_of_ne-zero (eqb-false k.run 0 f.1.1.0);
        fits = omega (arith, ltb-false k.period k.run f.1.1.1.0);
        ends = room k.period t h (dvd_of_mod-eq-zero k.period z) d l;
        known = λ i m. known_bits n (byte_at s (at + 4)) i f.1.1.1.1.0 m;
      }

  -- Tasks that are not refused, of which each period divides h.
  module _ (tasks from : ℕ) (ok : 0 ≡ records_fault s (TaskRecords n) tasks from) (each : (i : ℕ) → i < tasks → pair_at s (from + i * 5) ∣ h) where
    released_fit : (i t : ℕ) → i ≤ tasks → t < h → Every (Fits h n) (released_at s i from t)
    unfolding released_at
    released_fit zero t b l = tt
    released_fit (suc i) t b l =
        let at = from + i * 5 in
        let e = first_even (record_fault s (TaskRecords n)) 5 tasks from i (omega arith) ok in
        every_append (Fits h n) (released_at s i from t) (released (task_at s at) t)
        (released_fit i t (omega arith) l)
        (cond_cases (Every (Fits h n)) (eqb (t % pair_at s at) 0) (λ z. (release_fits at t e (each i (omega arith)) l (eqb-true _ 0 z), tt)) (λ z. tt))

    pub unfolded_fit : (t : ℕ) → t ≤ h → Every (Fits h n) (unfolded s tasks from t)
    unfolding unfolded
    unfolded_fit zero l = tt
    unfolded_fit (suc t) l =
        every_append (Fits h n) (unfolded s tasks from t) (released_at s tasks from t)
        (unfolded_fit t (omega arith))
        (released_fit tasks t (omega arith) (omega arith))
