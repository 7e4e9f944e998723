-- Rows laid out one after the other.
use mathlib.Core.Path.{◌≡◌, sym, ap, subst, ◌∙◌}
use mathlib.Core.List.{List, ◌++◌, map}
use Prim.Native.Nat.{ℕ, ◌+◌, ◌-◌, ◌*◌, ◌≤◌}
use native.Mathlib.Nat.{add-mul, one-mul, zero-mul}
use native.Mathlib.Numerals.{add-one}
use native.Mathlib.Omega.{arith}
use lib.ListN.{length, take, drop, length-map}
use borrow.Rule.Slice.PartMut.{put_mid}
use Rattle.base.proofs.Filling.{Filled, filled_tail}
use Rattle.device.specs.declared.Sleeps.{Sleeps}
use Rattle.device.specs.Row.{Letter, byte_of}
use Rattle.device.proofs.Least.{length_row}
use Rattle.device.proofs.Pattern.{length_pattern}
use Rattle.schedule.specs.declared.Recorder.{Recorder}
use Rattle.schedule.specs.Quantities.{device}
use Rattle.schedule.specs.Listing.{laid, used, uses_of, places}
use Rattle.schedule.specs.Visiting.{plan_row}

pub laid_more : (sleeps : Sleeps) (rows : ℕ → List Letter) (k : ℕ) → laid sleeps rows (k + 1) ≡ laid sleeps rows k ++ map (byte_of sleeps) (rows k)
unfolding laid
laid_more sleeps rows k = rw (add-one k)

module _ (R : Recorder) (s : List ℕ) where
  -- A row has one letter for each tick.
  row_bytes_lem : (k : ℕ) → length (map (byte_of R.sleeps) (plan_row R s k)) ≡ R.horizon
  row_bytes_lem k = length-map (plan_row R s k) (byte_of R.sleeps) ∙ length_row (device R k) R.round (uses_of R s k) ∙ length_pattern (used R k (places R s)) 0 R.horizon

  pub laid_none : (l : List ℕ) → Filled l (0 * R.horizon) (laid R.sleeps (plan_row R s) 0) l
  unfolding laid
  laid_none l = record { long = omega (arith, zero-mul R.horizon); is = rw (zero-mul R.horizon) }

  -- The row of device k goes to place k × H.
  pub laid_row : {l₀ l : List ℕ} (k : ℕ) → Filled l₀ (k * R.horizon) (laid R.sleeps (plan_row R s) k) l → (k + 1) * R.horizon ≤ length l₀ → (m : List ℕ)
      → m ≡ map (byte_of R.sleeps) (plan_row R s k) ++ drop R.horizon (take (length l - k * R.horizon) (drop (k * R.horizon) l))
      → Filled l₀ ((k + 1) * R.horizon) (laid R.sleeps (plan_row R s) (k + 1)) (put_mid (k * R.horizon) (length l - k * R.horizon) l m)
  laid_row {l₀} {l} k w h m e =
      let to : k * R.horizon + length (map (byte_of R.sleeps) (plan_row R s k)) ≡ (k + 1) * R.horizon = omega (arith, row_bytes_lem k, add-mul k 1 R.horizon, one-mul R.horizon) in
      subst (λ (f : List ℕ). Filled l₀ ((k + 1) * R.horizon) f (put_mid (k * R.horizon) (length l - k * R.horizon) l m)) (sym (laid_more R.sleeps (plan_row R s) k))
      (filled_tail w (map (byte_of R.sleeps) (plan_row R s k)) ((k + 1) * R.horizon) to h m
      (e ∙ ap (λ (n : ℕ). map (byte_of R.sleeps) (plan_row R s k) ++ drop n (take (length l - k * R.horizon) (drop (k * R.horizon) l))) (sym (row_bytes_lem k))))
