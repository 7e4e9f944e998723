-- No second outcome satisfies the promise: for every input one answer, and one state of the lent list.
use mathlib.Core.Path.{◌≡◌}
use mathlib.Core.List.{List}
use Prim.Native.Nat.{ℕ}
use Rattle.planner.specs.declared.Answer.{Answer}
use Rattle.planner.proofs.Refusing.{one_unless, one_unless_faulty, one_gives}
use Rattle.planner.proofs.Only.{only_of_file}
use Rattle.stepper.specs.Promises.{StepsOf, SteppedThrough}

pub only_stepped_through : (file starts lent : List ℕ) {a a' : Answer} {l l' : List ℕ}
    → SteppedThrough file starts lent a l → SteppedThrough file starts lent a' l' → (a ≡ a') × (l ≡ l')
only_stepped_through file starts lent =
    only_of_file file lent (StepsOf file starts lent) (λ R v. one_unless (one_unless (one_unless_faulty R starts (one_unless (one_unless one_gives)))))
