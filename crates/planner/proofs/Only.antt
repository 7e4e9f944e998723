-- No second outcome satisfies a promise: for every input each of the nine relations has one answer, and one state of the lent memory, but for one that was used. `only_of_file` says it
-- of every promise over a file that has one outcome for each valid recorder; so each operation shows it of a recorder only, by the laws of the order of refusals.
use mathlib.Core.Path.{◌≡◌, refl, sym, ap, subst, ◌∙◌}
use mathlib.Core.List.{List, ◌++◌}
use Prim.Native.Nat.{ℕ, zero, suc, ◌*◌, ◌<◌}
use native.Mathlib.Omega.{arith}
use lib.IntN.{ℤ}
use lib.ListN.{drop}
use Rattle.base.specs.Sums.{sum}
use Rattle.base.proofs.Additions.{sum_same}
use Rattle.device.specs.declared.Sleeps.{Sleeps}
use Rattle.device.specs.Row.{Letter, energy}
use Rattle.schedule.specs.declared.Recorder.{Recorder}
use Rattle.schedule.specs.Quantities.{device, Valid}
use Rattle.schedule.specs.Listing.{Rows, Costs, laid}
use Rattle.schedule.specs.Visiting.{vertices}
use Rattle.schedule.proofs.Outcome.{costs_only, rows_only, one_first_least}
use Rattle.tables.specs.declared.Tables.{Tables}
use Rattle.tables.specs.Layout.{tables_of, no_tables}
use Rattle.planner.specs.declared.Answer.{Answer}
use Rattle.planner.specs.Answers.{Listing}
use Rattle.planner.specs.Promises.{success, OfFile, Answered}
use Rattle.planner.specs.Promises.{CheckOf, accepted, Checked, SizesOf, Sized, MarginsOf, Margined, VerdictOf, Judged, RowsOf, Rowed, GivesLeast, found, SearchOf, Searched, KeptUnless, SearchedIn, WriteOf, Written, TablesOf, listed, TablesGiven}
use Rattle.planner.specs.Promises as P
use Rattle.planner.proofs.Reading.{two_of_file}
use Rattle.planner.proofs.Refusing.{One, one_unless, one_unless_faulty, one_gives, one_such}

-- ---- the file

-- The law of the frame: what has one outcome for each valid recorder has one for each file.
pub only_of_file : {L : Type 0} (file : List ℕ) (lent : L) (Then : Recorder → Answer → L → Type 0)
    → ((R : Recorder) → Valid R → One (Then R))
    → {a a' : Answer} {l l' : L} → OfFile file lent Then a l → OfFile file lent Then a' l' → (a ≡ a') × (l ≡ l')
only_of_file file lent Then one = two_of_file file lent lent Then Then (λ a l a' l'. (a ≡ a') × (l ≡ l')) (λ n. (refl, refl)) one

-- The same where nothing is lent.
pub only_answered : (file : List ℕ) (Then : Recorder → Answer → Type 0)
    → ((R : Recorder) → Valid R → (a a' : Answer) → Then R a → Then R a' → a ≡ a')
    → {a a' : Answer} → Answered file Then a → Answered file Then a' → a ≡ a'
only_answered file Then one p p' = (only_of_file file tt (λ R a u. Then R a) (λ R v a a' u u' t t'. (one R v a a' t t', refl)) p p').0

-- ---- `check`

pub one_check : (R : Recorder) {a a' : Answer} → CheckOf R a → CheckOf R a' → a ≡ a'
one_check R accepted accepted = refl

pub only_checked : (file : List ℕ) {a a' : Answer} → Checked file a → Checked file a' → a ≡ a'
only_checked file = only_answered file CheckOf (λ R v a a'. one_check R)

-- ---- `sizes`

pub one_sizes : (tasks : ℕ) (lent : List ℕ) (R : Recorder) → One (SizesOf tasks lent R)
one_sizes tasks lent R = one_unless one_gives

pub only_sized : (file lent : List ℕ) {a a' : Answer} {l l' : List ℕ} → Sized file lent a l → Sized file lent a' l' → (a ≡ a') × (l ≡ l')
only_sized file lent = only_of_file file lent (SizesOf (tables_of file).tasks.count lent) (λ R v. one_sizes (tables_of file).tasks.count lent R)

-- ---- `margins`

pub only_margined : (file starts : List ℕ) (lent : List ℤ) {a a' : Answer} {l l' : List ℤ}
    → Margined file starts lent a l → Margined file starts lent a' l' → (a ≡ a') × (l ≡ l')
only_margined file starts lent = only_of_file file lent (MarginsOf starts lent) (λ R v. one_unless (one_unless one_gives))

-- ---- `verdict`

-- A schedule costs one thing.
same_cost : (R : Recorder) → Valid R → (starts : List ℕ) (e e' : ℕ) → Costs R starts e → Costs R starts e'
    → (success R.horizon e 0 ≡ success R.horizon e' 0) × (◌≡◌ {A = Unit {0}} tt tt)
same_cost R v starts e e' c c' = (ap (λ (x : ℕ). success R.horizon x 0) (costs_only R v c ∙ sym (costs_only R v c')), refl)

pub only_judged : (file starts : List ℕ) {a a' : Answer} → Judged file starts a → Judged file starts a' → a ≡ a'
only_judged file starts =
    only_answered file (VerdictOf starts) (λ R v a a' t t'. (one_unless (one_unless_faulty R starts (one_such (same_cost R v starts))) a a' tt tt t t').0)

-- ---- `rows`

-- Rows that are the same device by device are laid out the same,
laid_same : (sleeps : Sleeps) (n : ℕ) (rows rows' : ℕ → List Letter) → ((k : ℕ) → k < n → rows k ≡ rows' k) → laid sleeps rows n ≡ laid sleeps rows' n
unfolding laid
laid_same sleeps zero rows rows' h = refl
laid_same sleeps (suc n) rows rows' h =
    let e = laid_same sleeps n rows rows' (λ k l. h k (omega arith)) in
    let f = h n (omega arith) in
    cc

-- and cost the same; so what is given for rows that are least is one thing.
given_one : (lent : List ℕ) (R : Recorder) → Valid R → {starts : List ℕ} {rows rows' : ℕ → List Letter} → Rows R starts rows → Rows R starts rows'
    → (success R.horizon (sum R.devices.count (λ k. energy (device R k) (rows k))) 0
    ≡ success R.horizon (sum R.devices.count (λ k. energy (device R k) (rows' k))) 0)
    × (laid R.sleeps rows R.devices.count ++ drop (R.devices.count * R.horizon) lent ≡ laid R.sleeps rows' R.devices.count ++ drop (R.devices.count * R.horizon) lent)
given_one lent R v {starts} {rows} {rows'} p p' =
    let same : (k : ℕ) → k < R.devices.count → rows k ≡ rows' k = λ k l. rows_only R v p k l ∙ sym (rows_only R v p' k l) in
    let e = sum_same R.devices.count (λ k. energy (device R k) (rows k)) (λ k. energy (device R k) (rows' k)) (λ k l. ap (energy (device R k)) (same k l)) in
    let f = laid_same R.sleeps R.devices.count rows rows' same in
    (cc, cc)

pub one_rows : (starts lent : List ℕ) (R : Recorder) → Valid R → One (RowsOf starts lent R)
one_rows starts lent R v = one_unless (one_unless (one_unless_faulty R starts (one_such (λ rows rows'. given_one lent R v))))

pub only_rowed : (file starts lent : List ℕ) {a a' : Answer} {l l' : List ℕ}
    → Rowed file starts lent a l → Rowed file starts lent a' l' → (a ≡ a') × (l ≡ l')
only_rowed file starts lent = only_of_file file lent (RowsOf starts lent) (one_rows starts lent)

-- ---- `search`

-- There is one first schedule of the least.
pub one_least : (R : Recorder) → Valid R → (count : ℕ) (lent : List ℕ) → One (GivesLeast R count lent)
one_least R v count lent a a' l l' (found f) (found f') =
    let p = one_first_least R v f f' in
    let s = p.0 in
    let e = p.1 in
    (cc, cc)

pub one_search : (budget : ℕ) (lent : List ℕ) (R : Recorder) → Valid R → One (SearchOf budget lent R)
one_search budget lent R v = one_unless (one_unless (one_unless (one_least R v (vertices R) lent)))

pub only_searched : (file : List ℕ) (budget : ℕ) (lent : List ℕ) {a a' : Answer} {l l' : List ℕ}
    → Searched file budget lent a l → Searched file budget lent a' l' → (a ≡ a') × (l ≡ l')
only_searched file budget lent = only_of_file file lent (SearchOf budget lent) (one_search budget lent)

-- ---- `search_in`

-- What two calls that used none of it leave is one thing.
pub only_kept : (Used : Answer → Type 0) {a a' : Answer} {memory m m' : List ℕ} → a ≡ a' → KeptUnless (Used a) memory m → KeptUnless (Used a') memory m' → KeptUnless (Used a) m m'
only_kept Used e k k' unused = k' (subst (λ (b : Answer). Used b → ⊥) e unused) ∙ sym (k unused)

pub only_searched_in : (file : List ℕ) (budget : ℕ) (memory lent : List ℕ) {a a' : Answer} {m m' l l' : List ℕ}
    → SearchedIn file budget memory lent a m l → SearchedIn file budget memory lent a' m' l' → (a ≡ a') × (l ≡ l') × KeptUnless (256 < a.count) m m'
only_searched_in file budget memory lent p p' =
    let e = only_searched file budget lent p.0 p'.0 in
    (e.0, e.1, only_kept (λ a. 256 < a.count) e.0 p.1 p'.1)

-- ---- `write`

pub only_written : (T : Tables) (lent : List ℕ) {a a' : Answer} {l l' : List ℕ} → Written T lent a l → Written T lent a' l' → (a ≡ a') × (l ≡ l')
only_written T lent (P.Written.refused r) (P.Written.refused r') = let e = sym r ∙ r' in (cc, refl)
only_written T lent (P.Written.refused r) (P.Written.read r' t') = let e = sym r ∙ r' in let z : ◌≡◌ {A = ℕ} 0 1 = cc in absurd (omega arith)
only_written T lent (P.Written.read r t) (P.Written.refused r') = let e = sym r ∙ r' in let z : ◌≡◌ {A = ℕ} 0 1 = cc in absurd (omega arith)
only_written T lent (P.Written.read {R = R} {a = a} {after = l} r t) (P.Written.read {R = R'} {a = a'} {after = l'} r' t') =
    let e = sym r' ∙ r in
    let same : R' ≡ R = cc in
    one_unless one_gives a a' l l' t (subst (λ (X : Recorder). WriteOf T lent X a' l') same t')

-- ---- `tables_of`

one_list : (file : List ℕ) (R : Recorder) {a a' : Answer} {T T' : Tables} → TablesOf file R a T → TablesOf file R a' T' → (a ≡ a') × (T ≡ T')
one_list file R listed listed = (refl, refl)

pub only_listed : (file : List ℕ) {r r' : Listing} → TablesGiven file r → TablesGiven file r' → r ≡ r'
only_listed file p p' =
    let e = only_of_file file no_tables (TablesOf file) (λ R v a a' T T'. one_list file R) p p' in
    let a = e.0 in
    let b = e.1 in
    rw (a, b)
