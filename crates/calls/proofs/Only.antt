-- No second outcome satisfies what a call promises: for every input each of the five relations has one number, and one state of every buffer, but for a memory that was
-- used.
use mathlib.Core.Path.{◌≡◌, refl, sym, ap, subst, ◌∙◌}
use mathlib.Core.List.{List}
use Prim.Native.Nat.{ℕ, ◌<◌}
use Rattle.schedule.specs.declared.Recorder.{Recorder}
use Rattle.schedule.specs.Quantities.{jobs, Valid}
use Rattle.tables.specs.Layout.{tables_of}
use Rattle.planner.specs.declared.Answer.{Answer}
use Rattle.planner.specs.Promises.{OfFile, refused, read, stops, passes, SizesOf, SearchOf, KeptUnless}
use Rattle.planner.proofs.Refusing.{One, one_unless}
use Rattle.planner.proofs.Lent.{none_told}
use native.Mathlib.Omega.{arith}
use Rattle.planner.proofs.Only.{only_of_file, only_kept, one_check, one_sizes, one_rows, one_search}
use Rattle.calls.specs.Bytes.{starts_in}
use Rattle.calls.specs.Calls.{told, Roomed, Called, called, CalledIn, called_in, CheckCallOf, CheckCalled, SizesCalled, Spelled, kept, given, blank, twos, StartsOf, StartsCalled, SearchCalled, SearchInCalled}
use Rattle.calls.specs.Calls.{RowsCallOf, RowsCalled}

-- The law of every call: what has one outcome for each valid recorder has one for each file and result buffer.
pub only_called : {L : Type 0} (file result : List ℕ) (lent : L) (Then : Recorder → Answer → L → Type 0)
    → ((R : Recorder) → Valid R → One (Then R)) → {n n' : ℕ} {r r' : List ℕ} {l l' : L} → Called file result lent Then n r l → Called file result lent Then n' r' l' → (n ≡ n') × (r ≡ r') × (l ≡ l')
only_called file result lent Then one (called p) (called p') =
    let e = only_of_file file lent Then one p p' in
    (ap (λ (a : Answer). a.number) e.0, ap (λ (a : Answer). told a result) e.0, e.1)

-- With a lent memory: number and buffers are those of a call without one,
pub called_of : {L : Type 0} {Used : Answer → Type 0} {file result memory : List ℕ} {lent : L} {Then : Recorder → Answer → L → Type 0} {n : ℕ} {r m : List ℕ} {l : L}
    → CalledIn Used file result memory lent Then n r m l → Called file result lent Then n r l
called_of (called_in p k) = called p

-- and the memory is one too, unless it was used with the answer that the promise gives.
pub only_called_in : {L : Type 0} (Used : Answer → Type 0) (file result memory : List ℕ) (lent : L) (Then : Recorder → Answer → L → Type 0)
    → ((R : Recorder) → Valid R → One (Then R)) → {n n' : ℕ} {r r' m m' : List ℕ} {l l' : L}
    → CalledIn Used file result memory lent Then n r m l → CalledIn Used file result memory lent Then n' r' m' l'
    → (a : Answer) → OfFile file lent Then a l → KeptUnless (Used a) m m'
only_called_in Used file result memory lent Then one {m = m} {m' = m'} (called_in p k) (called_in p' k') a q =
    subst (λ (b : Answer). KeptUnless (Used b) m m') (only_of_file file lent Then one p q).0 (only_kept Used (only_of_file file lent Then one p p').0 k k')

pub only_check_called : (file result : List ℕ) {n n' : ℕ} {r r' : List ℕ}
    → CheckCalled file result n r → CheckCalled file result n' r' → (n ≡ n') × (r ≡ r')
only_check_called file result p p' =
    let e = only_called {L = Unit {0}} file result tt (CheckCallOf result)
    (λ R v. one_unless {L = Unit {0}} (λ b b' w w' x x'. (one_check R x x', refl))) p p' in
    (e.0, e.1)

pub only_sizes_called : (file lent result : List ℕ) {n n' : ℕ} {l l' r r' : List ℕ}
    → SizesCalled file lent result n l r → SizesCalled file lent result n' l' r' → (n ≡ n') × (r ≡ r') × (l ≡ l')
only_sizes_called file lent result =
    let tasks = (tables_of file).tasks.count in
    only_called file result lent (λ R a l. Roomed result lent (SizesOf tasks lent R) a l)
    (λ R v. one_unless (one_sizes tasks lent R))

-- What is given or kept goes by the number of the answer.
pub one_spelled : {P L : Type 0} (lent : L) (written : Answer → P → L) (Then : Answer → P → Type 0) → One Then → One (Spelled lent written Then)
one_spelled lent written Then one a a' l l' (kept {places = p} n t) (kept {places = p'} n' t') = ((one a a' p p' t t').0, refl)
one_spelled lent written Then one a a' l l' (kept {places = p} n t) (given {places = p'} z' t') =
    absurd (n (ap (λ (b : Answer). b.number) (one a a' p p' t t').0 ∙ z'))
one_spelled lent written Then one a a' l l' (given {places = p} z t) (kept {places = p'} n' t') =
    absurd (n' (sym (ap (λ (b : Answer). b.number) (one a a' p p' t t').0) ∙ z))
one_spelled lent written Then one a a' l l' (given {places = p} z t) (given {places = p'} z' t') =
    let e = one a a' p p' t t' in
    let b = e.0 in
    let q = e.1 in
    (b, cc)

-- The law of every call that gives a plan's start times.
pub only_starts_called : (Plans : List ℕ → Recorder → Answer → List ℕ → Type 0)
    → ((lent : List ℕ) (R : Recorder) → Valid R → One (Plans lent R)) → (file lent result : List ℕ) {n n' : ℕ} {l l' r r' : List ℕ}
    → StartsCalled Plans file lent result n l r → StartsCalled Plans file lent result n' l' r' → (n ≡ n') × (r ≡ r') × (l ≡ l')
unfolding StartsOf
only_starts_called Plans one file lent result =
    only_called file result lent (λ R a l. Roomed result lent (StartsOf Plans lent R) a l)
    (λ R v. one_unless (one_spelled lent (λ a s. twos s (jobs R) lent) (Plans (blank lent) R) (one (blank lent) R v)))

-- `floe_search`, and `floe_search_in` but for its memory.
pub only_search_called : (file : List ℕ) (budget : ℕ) (lent result : List ℕ) {n n' : ℕ} {l l' r r' : List ℕ}
    → SearchCalled file budget lent result n l r → SearchCalled file budget lent result n' l' r' → (n ≡ n') × (r ≡ r') × (l ≡ l')
only_search_called file budget = only_starts_called (SearchOf budget) (one_search budget) file

pub only_search_in_called : (file : List ℕ) (budget : ℕ) (memory lent result : List ℕ) {n n' : ℕ} {m m' l l' r r' : List ℕ}
    → SearchInCalled file budget memory lent result n m l r → SearchInCalled file budget memory lent result n' m' l' r' → (n ≡ n') × (r ≡ r') × (l ≡ l')
only_search_in_called file budget memory lent result p p' = only_search_called file budget lent result (called_of p) (called_of p')

-- Its memory is kept with every number but 0, 19 and 20, since with these alone vertices are counted.
few_of : (budget : ℕ) (lent result : List ℕ) (R : Recorder) {a : Answer} {l : List ℕ} → Roomed result lent (StartsOf (SearchOf budget) lent R) a l
    → (a.number ≡ 0 → ⊥) → (a.number ≡ 19 → ⊥) → (a.number ≡ 20 → ⊥) → 256 < a.count → ⊥
unfolding StartsOf
few_of budget lent result R (stops h) z n o more = omega arith
few_of budget lent result R (passes h (kept f t)) z n o more = omega (arith, more, none_told budget (blank lent) R t z n o)
few_of budget lent result R (passes h (given e t)) z n o more = absurd (z e)

pub search_call_kept : (file : List ℕ) (budget : ℕ) (memory lent result : List ℕ) {n : ℕ} {m l r : List ℕ} → SearchInCalled file budget memory lent result n m l r
    → (n ≡ 0 → ⊥) → (n ≡ 19 → ⊥) → (n ≡ 20 → ⊥) → m ≡ memory
search_call_kept file budget memory lent result (called_in (refused r) k) z n o = k (λ more. omega arith)
search_call_kept file budget memory lent result (called_in (read {R = R} r t) k) z n o = k (λ more. few_of budget lent result R t z n o more)

pub only_rows_called : (file starts lent result : List ℕ) {n n' : ℕ} {l l' r r' : List ℕ}
    → RowsCalled file starts lent result n l r → RowsCalled file starts lent result n' l' r' → (n ≡ n') × (r ≡ r') × (l ≡ l')
only_rows_called file starts lent result =
    only_called file result lent (RowsCallOf starts lent result) (λ R v. one_unless (one_unless (one_rows (starts_in starts (jobs R)) lent R v)))
