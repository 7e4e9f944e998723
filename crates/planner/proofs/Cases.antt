-- What the promises say case by case, a case for each refusal and one for success, each with all that holds there; and that this is what they say, there and back.
use mathlib.Core.Path.{◌≡◌}
use mathlib.Core.List.{List, ◌∷◌, ◌++◌}
use Prim.Native.Nat.{ℕ, ◌*◌, ◌≤◌, ◌<◌}
use native.Mathlib.Omega.{arith}
use lib.IntN.{ℤ}
use lib.ListN.{length, drop}
use Rattle.base.specs.Lists.{up_to}
use Rattle.base.specs.Sums.{sum}
use Rattle.device.specs.Row.{Letter, energy}
use Rattle.schedule.specs.declared.Recorder.{Recorder}
use Rattle.schedule.specs.Quantities.{device, jobs}
use Rattle.schedule.specs.Listing.{Feasible, Fault, Rows, Costs, FirstLeast, laid, margin}
use Rattle.schedule.specs.Visiting.{vertices}
use Rattle.tables.specs.declared.Tables.{Tables}
use Rattle.tables.specs.Layout.{layout_of, bytes_of}
use Rattle.request.specs.Format.{read_as}
use Rattle.request.specs.Format as Format
use Rattle.planner.specs.declared.Answer.{Answer}
use Rattle.planner.specs.Promises.{success, refusal, refusal_at, refusal_after, stops, passes, gives, gives_such, SizesOf, MarginsOf, VerdictOf, RowsOf, SearchOf, Written}
use Rattle.planner.specs.Promises as P
use Rattle.planner.proofs.Refusing.{equal, unless_equal, unless_enough, unless_some}

-- ---- `sizes`

pub data SizesCases (tasks : ℕ) (lent : List ℕ) (R : Recorder) : Answer → List ℕ → Type 0 where
  short : length lent < 3 → SizesCases tasks lent R (refusal 15) lent
  given : 3 ≤ length lent → SizesCases tasks lent R (success R.horizon 0 0) (R.devices.count ∷ tasks ∷ jobs R ∷ drop 3 lent)

module _ (tasks : ℕ) (lent : List ℕ) (R : Recorder) where
  pub sizes_cases : {a : Answer} {l : List ℕ} → SizesOf tasks lent R a l → SizesCases tasks lent R a l
  sizes_cases (stops h) = SizesCases.short h
  sizes_cases (passes h gives) = SizesCases.given (omega arith)

  pub cases_sizes : {a : Answer} {l : List ℕ} → SizesCases tasks lent R a l → SizesOf tasks lent R a l
  cases_sizes (SizesCases.short h) = stops h
  cases_sizes (SizesCases.given h) = unless_enough h gives

-- ---- `margins`

pub data MarginsCases (starts : List ℕ) (lent : List ℤ) (R : Recorder) : Answer → List ℤ → Type 0 where
  unequal : (length starts ≡ jobs R → ⊥) → MarginsCases starts lent R (refusal 14) lent
  short : length starts ≡ jobs R → length lent < jobs R → MarginsCases starts lent R (refusal 15) lent
  given : length starts ≡ jobs R → jobs R ≤ length lent
      → MarginsCases starts lent R (success R.horizon 0 0) (up_to (margin R starts) (jobs R) ++ drop (jobs R) lent)

module _ (starts : List ℕ) (lent : List ℤ) (R : Recorder) where
  pub margins_cases : {a : Answer} {l : List ℤ} → MarginsOf starts lent R a l → MarginsCases starts lent R a l
  margins_cases (stops u) = MarginsCases.unequal u
  margins_cases (passes e (stops h)) = MarginsCases.short (equal (length starts) (jobs R) e) h
  margins_cases (passes e (passes h gives)) = MarginsCases.given (equal (length starts) (jobs R) e) (omega arith)

  pub cases_margins : {a : Answer} {l : List ℤ} → MarginsCases starts lent R a l → MarginsOf starts lent R a l
  cases_margins (MarginsCases.unequal u) = stops u
  cases_margins (MarginsCases.short e h) = unless_equal e (stops h)
  cases_margins (MarginsCases.given e h) = unless_equal e (unless_enough h gives)

-- ---- `verdict`

pub data VerdictCases (starts : List ℕ) (R : Recorder) : Answer → Type 0 where
  unequal : (length starts ≡ jobs R → ⊥) → VerdictCases starts R (refusal 14)
  faulty : {n j : ℕ} → length starts ≡ jobs R → Fault R starts n j → VerdictCases starts R (refusal_at n j)
  feasible : {e : ℕ} → Feasible R starts → Costs R starts e → VerdictCases starts R (success R.horizon e 0)

module _ (starts : List ℕ) (R : Recorder) where
  pub verdict_cases : {a : Answer} → VerdictOf starts R a → VerdictCases starts R a
  verdict_cases (stops u) = VerdictCases.unequal u
  verdict_cases (passes e (P.UnlessFaulty.faulty f)) = VerdictCases.faulty (equal (length starts) (jobs R) e) f
  verdict_cases (passes e (P.UnlessFaulty.feasible g (gives_such c))) = VerdictCases.feasible g c

  pub cases_verdict : {a : Answer} → VerdictCases starts R a → VerdictOf starts R a
  cases_verdict (VerdictCases.unequal u) = stops u
  cases_verdict (VerdictCases.faulty e f) = unless_equal e (P.UnlessFaulty.faulty f)
  cases_verdict (VerdictCases.feasible g c) = unless_equal g.one_each (P.UnlessFaulty.feasible g (gives_such c))

-- ---- `rows`

pub data RowsCases (starts lent : List ℕ) (R : Recorder) : Answer → List ℕ → Type 0 where
  unequal : (length starts ≡ jobs R → ⊥) → RowsCases starts lent R (refusal 14) lent
  short : length starts ≡ jobs R → length lent < R.devices.count * R.horizon → RowsCases starts lent R (refusal 15) lent
  faulty : {n j : ℕ} → length starts ≡ jobs R → R.devices.count * R.horizon ≤ length lent → Fault R starts n j → RowsCases starts lent R (refusal_at n j) lent
  given : {rows : ℕ → List Letter} → R.devices.count * R.horizon ≤ length lent → Feasible R starts → Rows R starts rows
      → RowsCases starts lent R (success R.horizon (sum R.devices.count (λ k. energy (device R k) (rows k))) 0)
      (laid R.sleeps rows R.devices.count ++ drop (R.devices.count * R.horizon) lent)

module _ (starts lent : List ℕ) (R : Recorder) where
  pub rows_cases : {a : Answer} {l : List ℕ} → RowsOf starts lent R a l → RowsCases starts lent R a l
  rows_cases (stops u) = RowsCases.unequal u
  rows_cases (passes e (stops h)) = RowsCases.short (equal (length starts) (jobs R) e) h
  rows_cases (passes e (passes h (P.UnlessFaulty.faulty f))) = RowsCases.faulty (equal (length starts) (jobs R) e) (omega arith) f
  rows_cases (passes e (passes h (P.UnlessFaulty.feasible g (gives_such p)))) = RowsCases.given (omega arith) g p

  pub cases_rows : {a : Answer} {l : List ℕ} → RowsCases starts lent R a l → RowsOf starts lent R a l
  cases_rows (RowsCases.unequal u) = stops u
  cases_rows (RowsCases.short e h) = unless_equal e (stops h)
  cases_rows (RowsCases.faulty e h f) = unless_equal e (unless_enough h (P.UnlessFaulty.faulty f))
  cases_rows (RowsCases.given h g p) = unless_equal g.one_each (unless_enough h (P.UnlessFaulty.feasible g (gives_such p)))

-- ---- `search`

pub data SearchCases (budget : ℕ) (lent : List ℕ) (R : Recorder) : Answer → List ℕ → Type 0 where
  short : length lent < jobs R → SearchCases budget lent R (refusal 15) lent
  over : jobs R ≤ length lent → budget < vertices R → SearchCases budget lent R (refusal_after 20 budget) lent
  none : jobs R ≤ length lent → vertices R ≤ budget → ((s : List ℕ) → Feasible R s → ⊥) → SearchCases budget lent R (refusal_after 19 (vertices R)) lent
  found : {s : List ℕ} {e : ℕ} → jobs R ≤ length lent → vertices R ≤ budget → FirstLeast R s e
      → SearchCases budget lent R (success R.horizon e (vertices R)) (s ++ drop (jobs R) lent)

module _ (budget : ℕ) (lent : List ℕ) (R : Recorder) where
  pub search_cases : {a : Answer} {l : List ℕ} → SearchOf budget lent R a l → SearchCases budget lent R a l
  search_cases (stops h) = SearchCases.short h
  search_cases (passes h (stops o)) = SearchCases.over (omega arith) o
  search_cases (passes h (passes o (stops n))) = SearchCases.none (omega arith) (omega arith) n
  search_cases (passes h (passes o (passes n (P.GivesLeast.found f)))) = SearchCases.found (omega arith) (omega arith) f

  pub cases_search : {a : Answer} {l : List ℕ} → SearchCases budget lent R a l → SearchOf budget lent R a l
  cases_search (SearchCases.short h) = stops h
  cases_search (SearchCases.over h o) = unless_enough h (stops o)
  cases_search (SearchCases.none h o n) = unless_enough h (unless_enough o (stops n))
  cases_search (SearchCases.found h o f) = unless_enough h (unless_enough o (unless_some f.feasible (P.GivesLeast.found f)))

-- ---- `write`

pub data WrittenCases (T : Tables) (lent : List ℕ) : Answer → List ℕ → Type 0 where
  refused : {n : ℕ} → read_as T.kind (layout_of T) ≡ Format.refused n → WrittenCases T lent (refusal n) lent
  short : {R : Recorder} → read_as T.kind (layout_of T) ≡ Format.accepted R → length lent < length (bytes_of T) → WrittenCases T lent (refusal 15) lent
  written : {R : Recorder} → read_as T.kind (layout_of T) ≡ Format.accepted R → length (bytes_of T) ≤ length lent
      → WrittenCases T lent (success R.horizon 0 (length (bytes_of T))) (bytes_of T ++ drop (length (bytes_of T)) lent)

module _ (T : Tables) (lent : List ℕ) where
  pub written_cases : {a : Answer} {l : List ℕ} → Written T lent a l → WrittenCases T lent a l
  written_cases (P.Written.refused r) = WrittenCases.refused r
  written_cases (P.Written.read r (stops h)) = WrittenCases.short r h
  written_cases (P.Written.read r (passes h gives)) = WrittenCases.written r (omega arith)

  pub cases_written : {a : Answer} {l : List ℕ} → WrittenCases T lent a l → Written T lent a l
  cases_written (WrittenCases.refused r) = P.Written.refused r
  cases_written (WrittenCases.short r h) = P.Written.read r (stops h)
  cases_written (WrittenCases.written r h) = P.Written.read r (unless_enough h gives)
