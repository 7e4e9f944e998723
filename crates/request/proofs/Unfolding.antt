-- TaskRecord i gives H / p jobs, released at 0, p, 2p and so on: the unfolded jobs are those of the tasks, whatever is counted or summed over them.
use mathlib.Core.Path.{◌≡◌, refl, sym, ap, ◌∙◌}
use mathlib.Core.List.{List, [], ◌∷◌, ◌++◌, append-nil}
use Prim.Native.Nat.{ℕ, zero, suc, ◌+◌, ◌-◌, ◌*◌, ◌/◌, ◌%◌, ◌<◌, ◌∣◌}
use native.Mathlib.Omega.{arith}
use native.Mathlib.Nat.{add-zero, add-suc, zero-mul, suc-mul, div-mul_cancel, mul-mod_left, mul-add-mod_self_right, mod-eq_of_lt}
use lib.ListN.{length}
use borrow.Author.Tests.{eq-eqb, ne_eqb}
use Rattle.base.specs.Bytes.{pair_at}
use Rattle.base.specs.Lists.{up_to}
use Rattle.base.specs.Sums.{total, sum}
use Rattle.base.proofs.Additions.{total_append, total_ones, sum_same, sum_none, sum_plus}
use Rattle.base.proofs.Arrays.{length_up_to}
use Rattle.schedule.specs.declared.Job.{Job}
use Rattle.tables.specs.declared.Kind.{Kind}
use Rattle.tables.specs.declared.TaskRecord.{TaskRecord}
use Rattle.tables.specs.Records.{task_at}
use Rattle.tables.specs.Layout.{task_count, tasks_place}
use Rattle.request.specs.Format.{job_of, released, released_at, unfolded, horizon_of, jobs_of, fault_as, horizon_in, jobs_in}
use Rattle.request.proofs.Checked.{tasks_sound}
use Rattle.request.proofs.Faultless.{faultless}
use Rattle.request.proofs.Multiples.{horizon_multiple}

-- The jobs of one task: H / p of them, job m released at m p.
abbrev pub jobs_of_task : TaskRecord → ℕ → List Job
jobs_of_task k h = up_to (λ m. job_of k (m * k.period)) (h / k.period)

-- ---- one task, tick by tick

unfoldable before : TaskRecord → ℕ → List Job
before k zero = []
before k (suc t) = before k t ++ released k t

module _ (k : TaskRecord) where
  -- A period's first tick releases a job, and its other ticks none.
  at_multiple : (m : ℕ) → released k (m * k.period) ≡ job_of k (m * k.period) ∷ []
  at_multiple m = rw (eq-eqb (m * k.period % k.period) 0 (mul-mod_left m k.period))

  between : (m r : ℕ) → suc r < k.period → released k (m * k.period + suc r) ≡ []
  between m r h =
      let rest : (m * k.period + suc r) % k.period ≡ suc r = mul-add-mod_self_right m k.period (suc r) ∙ mod-eq_of_lt h in
      rw (ne_eqb ((m * k.period + suc r) % k.period) 0 (λ z. omega arith))

  one_period : (m r : ℕ) → r < k.period → before k (m * k.period + suc r) ≡ before k (m * k.period) ++ (job_of k (m * k.period) ∷ [])
  unfolding before
  one_period m zero h = rw (add-suc, add-zero) (ap (λ (l : List Job). before k (m * k.period) ++ l) (at_multiple m))
  one_period m (suc r) h =
      rw (add-suc (m * k.period) (suc r))
      (ap (λ (l : List Job). before k (m * k.period + suc r) ++ l) (between m r h) ∙ append-nil _ ∙ one_period m r (omega arith))

  periods : 0 < k.period → (m : ℕ) → before k (m * k.period) ≡ up_to (λ i. job_of k (i * k.period)) m
  unfolding up_to before
  periods pos zero = ap (before k) (zero-mul k.period)
  periods pos (suc m) =
      let next : suc m * k.period ≡ m * k.period + suc (k.period - 1) = omega (arith, suc-mul m k.period) in
      rw (next, one_period m (k.period - 1) (omega arith), periods pos m)

  -- A task releases these jobs before h, which its period divides.
  before_is : (h : ℕ) → 0 < k.period → k.period ∣ h → before k h ≡ jobs_of_task k h
  before_is h pos d = ap (before k) (sym (div-mul_cancel k.period d)) ∙ periods pos (h / k.period)

-- ---- all tasks: f is whatever is counted or summed over the jobs

module _ (f : Job → ℕ) (s : List ℕ) (from : ℕ) where
  abbrev task : ℕ → TaskRecord
  task i = task_at s (from + i * 5)

  tick_total : (n t : ℕ) → total f (released_at s n from t) ≡ sum n (λ i. total f (released (task i) t))
  unfolding released_at
  tick_total zero t = refl
  tick_total (suc n) t = rw (total_append f, tick_total n t)

  unfolded_total : (n t : ℕ) → total f (unfolded s n from t) ≡ sum n (λ i. total f (before (task i) t))
  unfolding unfolded before
  unfolded_total n zero = sum_none n
  unfolded_total n (suc t) =
      rw (total_append f, unfolded_total n t, tick_total n t, ← sum_plus n (λ i. total f (before (task i) t)) (λ i. total f (released (task i) t)))
      (sum_same n _ _ (λ i l. sym (total_append f (before (task i) t) (released (task i) t))))

-- The jobs of a file with tasks are those of its tasks,
pub jobs_by_task :
    (k : Kind) (s : List ℕ) → 0 ≡ fault_as k s → (task_count k s ≡ 0 → ⊥) → (f : Job → ℕ) →
    total f (jobs_in k s) ≡ sum (task_count k s) (λ i. total f (jobs_of_task (task_at s (tasks_place k s + 1 + i * 5)) (horizon_in k s)))
unfolding jobs_of horizon_of
jobs_by_task k s e some f =
    let ok = faultless k s e in
    let from = tasks_place k s + 1 in
    let sound = tasks_sound s _ (task_count k s) from (omega (arith, ok.tasks_there)) ok.task_records in
    rw (ne_eqb (task_count k s) 0 some)
    (unfolded_total f s from (task_count k s) _ ∙
    sum_same (task_count k s) _ _ (λ i l. ap (total f) (before_is (task_at s (from + i * 5)) _ (sound.periods i l).0 (horizon_multiple s (task_count k s) from i l))))

-- of which task i gives H / p;
pub jobs_of_task_lem : (k : TaskRecord) (h : ℕ) → length (jobs_of_task k h) ≡ h / k.period
jobs_of_task_lem k h = length_up_to _ (h / k.period)

-- so many there are.
pub count_by_task :
    (k : Kind) (s : List ℕ) → 0 ≡ fault_as k s → (task_count k s ≡ 0 → ⊥) →
    length (jobs_in k s) ≡ sum (task_count k s) (λ i. horizon_in k s / pair_at s (tasks_place k s + 1 + i * 5))
count_by_task k s e some =
    sym (total_ones (jobs_in k s)) ∙ jobs_by_task k s e some (λ j. 1) ∙
    sum_same (task_count k s) _ _ (λ i l. let t = task_at s (tasks_place k s + 1 + i * 5) in total_ones (jobs_of_task t (horizon_in k s)) ∙ jobs_of_task_lem t (horizon_in k s))
