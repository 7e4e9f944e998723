-- What is right for a vertex is right for every vertex with its key in words.
use mathlib.Core.Path.{◌≡◌, sym, subst}
use mathlib.Core.Option.{Option}
use Prim.Native.Nat.{ℕ, suc, ◌/◌, ◌%◌, ◌≤◌, ◌<◌}
use lib.Dec.{eqb}
use Rattle.schedule.specs.declared.Recorder.{Recorder}
use Rattle.schedule.specs.Quantities.{Valid}
use Rattle.schedule.specs.Visiting.{Vertex}
use Rattle.schedule.proofs.Tree.{Reached}
use Rattle.keys.specs.inside.Keys.{Caps}
use Rattle.value.specs.inside.Options.{Holds}
use Rattle.value.specs.inside.Leasts.{least_of}
use Rattle.value.proofs.Leasts.{key_least}
use Rattle.value.proofs.Limits.{bound_entry}
use Rattle.value.proofs.Tries.{most_zero}
use Rattle.stored.specs.declared.Key.{Key}
use Rattle.stored.specs.inside.Naming.{Named}
use Rattle.stored.proofs.Keyed.{named_same}
use Rattle.least.specs.inside.Outcome.{Recalls}

module _ (R : Recorder) (valid : Valid R) (cap : ℕ → ℕ) (caps : Caps R cap) (low : (k : ℕ) → k < R.devices.count → cap k ≤ 4096) where
  -- Two vertices with one key have one least.
  pub named_least : (m n : ℕ) (v w : Vertex) → Reached R (suc m) v → Reached R (suc n) w → (q : Key) → Named R cap q v → Named R cap q w → least_of R (suc m) v ≡ least_of R (suc n) w
  named_least m n v w h h' q e e' =
      let same = named_same R valid cap caps low (suc m) (suc n) v w h h' q e e' in
      subst (λ (i : ℕ). least_of R (suc m) v ≡ least_of R i w) same.0
      (key_least R valid cap caps (suc m) v w h (subst (λ (i : ℕ). Reached R i w) (sym same.0) h') same.1)

  pub named_recalls :
      (m : ℕ) (v : Vertex) → Reached R (suc m) v → (q : Key) → Named R cap q v → (known : ℕ)
      → Holds (least_of R (suc m) v) (known / 2) (eqb (known % 2) 1) → Recalls R cap q known
  unfolding Recalls
  named_recalls m v h q e known right n w h' e' =
      subst (λ (o : Option ℕ). Holds o (known / 2) (eqb (known % 2) 1)) (named_least m n v w h h' q e e') right

  -- Where nothing is known, that is right for all.
  pub recalls_none : (q : Key) → Recalls R cap q 0
  unfolding Recalls
  recalls_none q m v h e = bound_entry 0 (least_of R (suc m) v) (most_zero (least_of R (suc m) v))
