-- No second outcome satisfies the promise: for every input one answer, and one state of the lent list.
use mathlib.Core.Path.{◌≡◌, refl, ap}
use mathlib.Core.List.{List, ◌++◌}
use Prim.Native.Nat.{ℕ}
use lib.ListN.{drop}
use Rattle.schedule.specs.declared.Recorder.{Recorder}
use Rattle.schedule.specs.Quantities.{jobs}
use Rattle.planner.specs.declared.Answer.{Answer}
use Rattle.planner.proofs.Refusing.{One, one_unless, one_such}
use Rattle.planner.proofs.Only.{only_of_file}
use Rattle.possible.specs.TillFound.{vertices_till_found}
use Rattle.possible.specs.Promises.{GivesFirst, PossibleOf, Possible}
use Rattle.possible.proofs.Found.{one_first}

-- There is one first schedule.
pub one_given : (R : Recorder) (count : ℕ) (lent : List ℕ) → One (GivesFirst R count lent)
one_given R count lent = one_such (λ s s' f f'. (refl, ap (λ (x : List ℕ). x ++ drop (jobs R) lent) (one_first R f f')))

pub only_possible : (file : List ℕ) (budget : ℕ) (lent : List ℕ) {a a' : Answer} {l l' : List ℕ}
    → Possible file budget lent a l → Possible file budget lent a' l' → (a ≡ a') × (l ≡ l')
only_possible file budget lent =
    only_of_file file lent (PossibleOf budget lent) (λ R v. one_unless (one_unless (one_unless (one_given R (vertices_till_found R) lent))))
