-- The recorder laid flat: which cell holds what, and that the recorder read back is the one that was laid.
use mathlib.Core.Path.{◌≡◌, refl, sym, ap, ◌∙◌}
use mathlib.Core.Bool.{Bool, true, false, cond}
use mathlib.Core.List.{List, [], ◌∷◌}
use Prim.Native.Nat.{ℕ, zero, suc, ◌+◌, ◌-◌, ◌*◌, ◌/◌, ◌%◌, ◌<◌, ◌≤◌}
use native.Mathlib.Omega.{arith}
use native.Mathlib.Nat.{zero-add, add-zero, mod-eq_of_lt}
use lib.Arith.{digits_div, digits_mod}
use lib.Dec.{eqb}
use lib.ListN.{get_or}
use mir.Val.{bool_byte}
use borrow.Author.Tests.{lt-ltb, le-ltb, ne_eqb}
use Rattle.base.specs.Lists.{up_to}
use Rattle.base.proofs.Arrays.{get_d_up_to, up_to_whole}
use Rattle.device.specs.declared.Device.{Device}
use Rattle.device.specs.declared.Sleeps.{Sleeps}
use Rattle.device.specs.declared.Sleeps.TheVariants.{Plain, Numbered}
use Rattle.device.specs.Row.{Sound, deep, power_at}
use Rattle.schedule.specs.declared.Job.{Job}
use Rattle.schedule.specs.declared.Recorder.{Recorder}
use Rattle.schedule.specs.Quantities.{job, device, release, deadline, run, uses, no_job, no_device}
use Rattle.flat.specs.inside.Flat.{cell, job_column, device_row, recorder_of, numbered, sleeps_by, job_number, device_number, own_number, number_of}
use Rattle.flat.proofs.Shapes.{Shaped}

-- ---- a flag as a number

pub flag_number : (b : Bool) → bool_byte b ≡ cond b 1 0
flag_number true = refl
flag_number false = refl

number_sleeps : (s : Sleeps) → sleeps_by (numbered s) ≡ s
unfolding sleeps_by numbered
number_sleeps Plain = refl
number_sleeps Numbered = refl

number_flag : (b : Bool) → eqb (cond b 1 0) 1 ≡ b
number_flag true = refl
number_flag false = refl

-- ---- the recorder in any list

module _ (l : List ℕ) where
  job_at_lem : (j : ℕ) → j < 16 → job_column l j ≡ job (recorder_of l) j
  unfolding recorder_of
  job_at_lem j h = sym (get_d_up_to (job_column l) 16 j no_job h)

  pub release_at : (j : ℕ) → j < 16 → get_or l j 0 ≡ release (recorder_of l) j
  unfolding job_column
  release_at j h = ap (λ (i : ℕ). get_or l i 0) (sym (zero-add j)) ∙ ap (λ (x : Job). x.release) (job_at_lem j h)

  pub deadline_at : (j : ℕ) → j < 16 → get_or l (16 + j) 0 ≡ deadline (recorder_of l) j
  unfolding job_column
  deadline_at j h = ap (λ (x : Job). x.deadline) (job_at_lem j h)

  pub run_at : (j : ℕ) → j < 16 → get_or l (32 + j) 0 ≡ run (recorder_of l) j
  unfolding job_column
  run_at j h = ap (λ (x : Job). x.run) (job_at_lem j h)

  pub uses_at_lem : (k j : ℕ) → k < 8 → j < 16 → eqb (get_or l (48 + 16 * k + j) 0) 1 ≡ uses (recorder_of l) k j
  unfolding job_column
  uses_at_lem k j h g =
      let place : 16 * (3 + k) + j ≡ 48 + 16 * k + j = omega arith in
      rw (← job_at_lem j g, get_d_up_to (λ i. eqb (cell l (3 + i) j) 1) 8 k false h, place)

  pub device_at_lem : (k : ℕ) → k < 8 → device_row l k ≡ device (recorder_of l) k
  unfolding recorder_of
  device_at_lem k h = sym (get_d_up_to (device_row l) 8 k no_device h)

  -- All figures of device k, where its row begins at the place a.
  pub figures_at : (k a : ℕ) → k < 8 → a ≡ 176 + 16 * k
      → record {
        shut = get_or l a 0 % 256;
        wake = get_or l (a + 1) 0 % 256;
        pw = get_or l (a + 2) 0;
        pd = get_or l (a + 3) 0;
        pu = get_or l (a + 4) 0;
        levels = get_or l (a + 5) 0 % 256;
        powers = get_or l (a + 6) 0 ∷ get_or l (a + 7) 0 ∷ get_or l (a + 8) 0 ∷ get_or l (a + 9) 0 ∷ [];
      }
      ≡ device (recorder_of l) k
  unfolding device_row up_to
  figures_at k a h e =
      let row : a ≡ 16 * (11 + k) = omega arith in
      rw row (rw (add-zero (16 * (11 + k))) at (device_at_lem k h))

  -- Its power at work, its number of levels, and its power in the deepest sleep.
  pub work_at : (k : ℕ) → k < 8 → get_or l (178 + 16 * k) 0 ≡ (device (recorder_of l) k).pw
  unfolding device_row
  work_at k h =
      let place : 178 + 16 * k ≡ 16 * (11 + k) + 2 = omega arith in
      rw place (ap (λ (d : Device). d.pw) (device_at_lem k h))

  pub levels_at : (k : ℕ) → k < 8 → get_or l (181 + 16 * k) 0 % 256 ≡ (device (recorder_of l) k).levels
  unfolding device_row
  levels_at k h =
      let place : 181 + 16 * k ≡ 16 * (11 + k) + 5 = omega arith in
      rw place (ap (λ (d : Device). d.levels) (device_at_lem k h))

  pub deep_at : (k : ℕ) → k < 8 → Sound (device (recorder_of l) k) → get_or l (181 + 16 * k + (device (recorder_of l) k).levels) 0 ≡ deep (device (recorder_of l) k)
  unfolding device_row
  deep_at k h ok = go (device (recorder_of l) k).levels ok.some_level ok.few_levels
    where
      go : (n : ℕ) → 1 ≤ n → n ≤ 4 → get_or l (181 + 16 * k + n) 0 ≡ power_at (device (recorder_of l) k) n
      go zero a b = absurd (omega arith)
      go (suc n) a b =
          let place : 181 + 16 * k + suc n ≡ 16 * (11 + k) + (6 + n) = omega arith in
          rw place (sym (get_d_up_to (λ i. cell l (11 + k) (6 + i)) 4 n 0 (omega arith)) ∙ ap (λ (d : Device). get_or d.powers n 0) (device_at_lem k h))

-- ---- twenty rows of sixteen

abbrev pub grid : (ℕ → ℕ → ℕ) → List ℕ
grid f = up_to (λ n. f (n / 16) (n % 16)) 320

pub cell_grid : (f : ℕ → ℕ → ℕ) (i k : ℕ) → i < 20 → k < 16 → cell (grid f) i k ≡ f i k
cell_grid f i k h g =
    let place : 16 * i + k ≡ i * 16 + k = omega arith in
    get_d_up_to (λ n. f (n / 16) (n % 16)) 320 (16 * i + k) 0 (omega arith) ∙ rw (place, digits_div i g, digits_mod i g)

-- ---- the recorder read back

module _ (R : Recorder) (s : Shaped R) where
  abbrev held : ℕ → ℕ → ℕ
  held i k = cell (grid (number_of R)) i k

  number_used : (k j : ℕ) → k < 8 → number_of R (3 + k) j ≡ cond (uses R k j) 1 0
  unfolding number_of job_number
  number_used k j h =
      let flag : 3 + k - 3 ≡ k = omega arith in
      let past : (i : ℕ) → i < 3 → eqb (3 + k) i ≡ false = λ i l. ne_eqb (3 + k) i (λ e. omega (arith, l, e)) in
      simp (lt-ltb (3 + k) 11 (omega arith), past 0 (omega arith), past 1 (omega arith), past 2 (omega arith), flag)

  used_kept : (k j : ℕ) → k < 8 → j < 16 → eqb (held (3 + k) j) 1 ≡ uses R k j
  used_kept k j h g = ap (λ (x : ℕ). eqb x 1) (cell_grid (number_of R) (3 + k) j (omega arith) g ∙ number_used k j h) ∙ number_flag (uses R k j)

  job_kept : (j : ℕ) → j < 16 → job_column (grid (number_of R)) j ≡ job R j
  unfolding job_column number_of job_number
  job_kept j h =
      let a : held 0 j ≡ release R j = cell_grid (number_of R) 0 j (omega arith) h in
      let d : held 1 j ≡ deadline R j = cell_grid (number_of R) 1 j (omega arith) h in
      let c : held 2 j ≡ run R j = cell_grid (number_of R) 2 j (omega arith) h in
      let u : up_to (λ k. eqb (held (3 + k) j) 1) 8 ≡ (job R j).uses = up_to_whole _ (job R j).uses false 8 (s.uses_long j h) (λ k l. used_kept k j l h) in
      rw (a, d, c, u)

  -- Number i of device k.
  number_kept : (k i : ℕ) → k < 8 → i < 10 → held (11 + k) i ≡ device_number (device R k) i
  unfolding number_of
  number_kept k i h g =
      let row : 11 + k - 11 ≡ k = omega arith in
      cell_grid (number_of R) (11 + k) i (omega arith) (omega arith)
      ∙ simp (le-ltb (11 + k) 11 (omega arith), lt-ltb (11 + k) 19 (omega arith), lt-ltb i 10 g, row)

  power_kept : (k i : ℕ) → k < 8 → i < 4 → held (11 + k) (6 + i) ≡ get_or (device R k).powers i 0
  unfolding device_number
  power_kept k i h g =
      let place : 6 + i - 6 ≡ i = omega arith in
      let past : (j : ℕ) → j < 6 → eqb (6 + i) j ≡ false = λ j l. ne_eqb (6 + i) j (λ e. omega (arith, l, e)) in
      number_kept k (6 + i) h (omega arith)
      ∙ simp (past 0 (omega arith), past 1 (omega arith), past 2 (omega arith), past 3 (omega arith), past 4 (omega arith), past 5 (omega arith), place)

  device_kept : (k : ℕ) → k < 8 → device_row (grid (number_of R)) k ≡ device R k
  unfolding device_row device_number
  device_kept k h =
      let f = s.figures k h in
      let ps : up_to (λ i. held (11 + k) (6 + i)) 4 ≡ (device R k).powers = up_to_whole _ (device R k).powers 0 4 f.powers_long (λ i l. power_kept k i h l) in
      rw (
        number_kept k 0 h (omega arith),
        number_kept k 1 h (omega arith),
        number_kept k 2 h (omega arith),
        number_kept k 3 h (omega arith),
        number_kept k 4 h (omega arith),
        number_kept k 5 h (omega arith),
        mod-eq_of_lt f.shut_byte,
        mod-eq_of_lt f.wake_byte,
        mod-eq_of_lt f.levels_byte,
        ps,
      )

  pub recorder_kept : recorder_of (grid (number_of R)) ≡ R
  unfolding recorder_of number_of own_number
  recorder_kept =
      let h : held 19 0 ≡ R.horizon = cell_grid (number_of R) 19 0 (omega arith) (omega arith) in
      let n : held 19 1 ≡ R.jobs.count = cell_grid (number_of R) 19 1 (omega arith) (omega arith) in
      let m : held 19 2 ≡ R.devices.count = cell_grid (number_of R) 19 2 (omega arith) (omega arith) in
      let js : up_to (job_column (grid (number_of R))) 16 ≡ R.jobs.list = up_to_whole _ R.jobs.list no_job 16 s.jobs_long job_kept in
      let ds : up_to (device_row (grid (number_of R))) 8 ≡ R.devices.list = up_to_whole _ R.devices.list no_device 8 s.devices_long device_kept in
      let r : eqb (held 19 3) 1 ≡ R.round = ap (λ (x : ℕ). eqb x 1) (cell_grid (number_of R) 19 3 (omega arith) (omega arith)) ∙ number_flag R.round in
      let g : sleeps_by (eqb (held 19 4) 1) ≡ R.sleeps
      = ap (λ (x : ℕ). sleeps_by (eqb x 1)) (cell_grid (number_of R) 19 4 (omega arith) (omega arith)) ∙ ap sleeps_by (number_flag (numbered R.sleeps)) ∙ number_sleeps R.sleeps in
      rw (h, n, m, r, g, js, ds)
