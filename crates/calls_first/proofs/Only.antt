-- No second outcome satisfies what `floe_first` promises: for every input one number, and one state of both buffers.
use mathlib.Core.Path.{◌≡◌}
use mathlib.Core.List.{List}
use Prim.Native.Nat.{ℕ}
use Rattle.first.specs.Promises.{FirstOf}
use Rattle.first.proofs.Only.{one_plan}
use Rattle.calls.proofs.Only.{only_starts_called}
use Rattle.calls_first.specs.FirstCall.{FirstCalled}

pub only_first_called : (file lent result : List ℕ) {n n' : ℕ} {l l' r r' : List ℕ}
    → FirstCalled file lent result n l r → FirstCalled file lent result n' l' r' → (n ≡ n') × (r ≡ r') × (l ≡ l')
only_first_called = only_starts_called FirstOf (λ lent R v. one_plan lent R)
