-- Laws of the queue: m jobs u that wait take their places from t on.
use mathlib.Core.Path.{◌≡◌, refl, sym, ap, ◌∙◌, subst}
use mathlib.Core.Option.{Option, none, some}
use mathlib.Core.List.{List, [], ◌∷◌}
use mathlib.Core.Logic.{by_cases}
use Prim.Native.Nat.{ℕ, zero, suc, ◌+◌, ◌≤◌, ◌<◌}
use native.Mathlib.Decide.{ℕ_discrete}
use native.Mathlib.Omega.{arith}
use lib.ListN.{length, set, length-set}
use lib.Seq.{get_or-set_same, get_or-set_other}
use lib.Dec.{ltb}
use borrow.Author.Tests.{ltb-true, ltb-false}
use Rattle.base.specs.Lists.{In, Rising, remove}
use Rattle.base.proofs.Cases.{cond_cases}
use Rattle.base.proofs.Numbers.{length_nil, remove_in, in_remove, remove_rising, not_in_remove, length_remove}
use Rattle.schedule.specs.declared.Recorder.{Recorder}
use Rattle.schedule.specs.Quantities.{release, deadline, run}
use Rattle.schedule.specs.Listing.{start, InTime, soonest}
use Rattle.schedule.proofs.Runs.{soonest_in}
use Rattle.mend.specs.Mending.{Ahead}
use Rattle.mend.specs.inside.Settling.{latest, settle, late_of}
use Rattle.schedule.proofs.Leading.{soonest_first}
use Rattle.mend.proofs.Order.{ahead_one_way, first_ahead}

-- The jobs that wait, each once and by number, and room for their starts.
pub record Waiting (m : ℕ) (u s : List ℕ) : Type 0 where
  pub number : length u ≡ m
  pub rising : Rising 0 u
  pub room : (j : ℕ) → In j u → j < length s

waiting_none : {u s : List ℕ} → Waiting 0 u s → (j : ℕ) → In j u → ⊥
waiting_none {u} w j h = subst (In j) (length_nil u w.number) h

module _ (R : Recorder) (given : List ℕ) where
  -- ---- the starts that come out

  pub settle_length : (m t : ℕ) (u s : List ℕ) → length (settle R given m t u s) ≡ length s
  unfolding settle
  settle_length zero t u s = refl
  settle_length (suc m) t [] s = refl
  settle_length (suc m) t (i ∷ u) s =
      let j = soonest given i u in
      let x = latest R given t j in
      settle_length m (x + run R j) (remove j (i ∷ u)) (set s j x) ∙ length-set s j x

  -- A job that does not wait keeps its start.
  pub settle_other : (m t : ℕ) (u s : List ℕ) (j : ℕ) → (In j u → ⊥) → start (settle R given m t u s) j ≡ start s j
  unfolding settle
  settle_other zero t u s j ne = refl
  settle_other (suc m) t [] s j ne = refl
  settle_other (suc m) t (i ∷ u) s j ne =
      let k = soonest given i u in
      let x = latest R given t k in
      settle_other m (x + run R k) (remove k (i ∷ u)) (set s k x) j (λ h. ne (in_remove k j (i ∷ u) h))
      ∙ get_or-set_other s k j x 0 (λ e. ne (subst (λ w. In w (i ∷ u)) (sym e) (soonest_in given i u)))

  -- One job has its place, and the others wait.
  pub waiting_less : {m i : ℕ} {u s : List ℕ} (x : ℕ) → Waiting (suc m) (i ∷ u) s
      → let j = soonest given i u in Waiting m (remove j (i ∷ u)) (set s j x)
  waiting_less {m} {i} {u} {s} x w =
      let j = soonest given i u in
      record {
        number = omega (arith, length_remove j (i ∷ u) (soonest_in given i u), w.number);
        rising = remove_rising j (i ∷ u) 0 w.rising;
        room = λ k h. rw (length-set s j x) (w.room k (in_remove j k (i ∷ u) h));
      }

  -- The first starts at the latest of the three times,
  pub settle_first :
      (m t i : ℕ) (u s : List ℕ) → Waiting (suc m) (i ∷ u) s → let j = soonest given i u in
      start (settle R given (suc m) t (i ∷ u) s) j ≡ latest R given t j
  unfolding settle
  settle_first m t i u s w =
      let j = soonest given i u in
      let x = latest R given t j in
      settle_other m (x + run R j) (remove j (i ∷ u)) (set s j x) j (not_in_remove j (i ∷ u) 0 w.rising)
      ∙ get_or-set_same s j x 0 (w.room j (soonest_in given i u))

  -- and none before it.
  pub settle_from : (m t : ℕ) (u s : List ℕ) → Waiting m u s → (j : ℕ) → In j u → latest R given t j ≤ start (settle R given m t u s) j
  unfolding settle
  settle_from zero t u s w j h = absurd (waiting_none w j h)
  settle_from (suc m) t [] s w j h = absurd h
  settle_from (suc m) t (i ∷ u) s w j h =
      let k = soonest given i u in
      let x = latest R given t k in
      by_cases (ℕ_discrete j k)
      (λ e. rw (e, settle_first m t i u s w) (omega arith))
      (λ ne. omega (arith, settle_from m (x + run R k) (remove k (i ∷ u)) (set s k x) (waiting_less x w) j (remove_in k j (i ∷ u) h ne)))

  -- A job ends before any that comes after it in the given order starts.
  pub settle_next :
      (m t : ℕ) (u s : List ℕ) → Waiting m u s → (i j : ℕ) → In i u → In j u → Ahead given i j
      → start (settle R given m t u s) i + run R i ≤ start (settle R given m t u s) j
  unfolding settle
  settle_next zero t u s w i j h h' a = absurd (waiting_none w i h)
  settle_next (suc m) t [] s w i j h h' a = absurd h
  settle_next (suc m) t (b ∷ u) s w i j h h' a =
      let k = soonest given b u in
      let x = latest R given t k in
      let first = soonest_first given b u 0 w.rising in
      by_cases (ℕ_discrete j k) (λ e. absurd (ahead_one_way given k i (first i h) (subst (Ahead given i) e a)))
      (λ ne. let m' = remove_in k j (b ∷ u) h' ne in
      by_cases (ℕ_discrete i k)
      (λ e. rw (e, settle_first m t b u s w) (omega (arith, settle_from m (x + run R k) (remove k (b ∷ u)) (set s k x) (waiting_less x w) j m')))
      (λ ne'. settle_next m (x + run R k) (remove k (b ∷ u)) (set s k x) (waiting_less x w) i j (remove_in k i (b ∷ u) h ne') m' a))

  -- Of all starts that are released, not before the given ones, and one after the other in the given order, these are the smallest.
  pub settle_least :
      (s' : List ℕ) (m t : ℕ) (u s : List ℕ) → Waiting m u s
      → ((j : ℕ) → In j u → t ≤ start s' j)
      → ((j : ℕ) → In j u → release R j ≤ start s' j)
      → ((j : ℕ) → In j u → start given j ≤ start s' j)
      → ((i j : ℕ) → In i u → In j u → Ahead given i j → start s' i + run R i ≤ start s' j)
      → (j : ℕ) → In j u → start (settle R given m t u s) j ≤ start s' j
  unfolding settle
  settle_least s' zero t u s w from released kept next j h = absurd (waiting_none w j h)
  settle_least s' (suc m) t [] s w from released kept next j h = absurd h
  settle_least s' (suc m) t (i ∷ u) s w from released kept next j h =
      let k = soonest given i u in
      let k-in = soonest_in given i u in
      let x = latest R given t k in
      let sooner : x ≤ start s' k = omega (arith, from k k-in, released k k-in, kept k k-in) in
      let old : (l : ℕ) → In l (remove k (i ∷ u)) → In l (i ∷ u) = λ l q. in_remove k l (i ∷ u) q in
      by_cases (ℕ_discrete j k)
      (λ e. rw (e, settle_first m t i u s w) sooner)
      (λ ne. settle_least s' m (x + run R k) (remove k (i ∷ u)) (set s k x) (waiting_less x w)
      (λ l q. omega (
        arith,
        next k l k-in (old l q)
            (first_ahead given k l (soonest_first given i u 0 w.rising l (old l q))
            (λ z. not_in_remove k (i ∷ u) 0 w.rising (subst (λ y. In y (remove k (i ∷ u))) z q))),
      ))
      (λ l q. released l (old l q)) (λ l q. kept l (old l q)) (λ l n q q'. next l n (old l q) (old n q')) j (remove_in k j (i ∷ u) h ne))

  -- ---- the first late job

  -- What `late_of` says of the jobs u, which come out at s.
  abbrev pub LateOf : List ℕ → List ℕ → Option ℕ → Type 0
  LateOf s u none = (i : ℕ) → In i u → InTime R s i
  LateOf s u (some j) = In j u × (deadline R j < start s j + run R j) × ((i : ℕ) → In i u → start s i < start s j → InTime R s i)

  -- One job more, which is in time.
  late_more : (s : List ℕ) (k : ℕ) (u : List ℕ) → InTime R s k → (o : Option ℕ) → LateOf s (remove k u) o → LateOf s u o
  late_more s k u ok none h = λ i m. by_cases (ℕ_discrete i k) (λ e. rw e ok) (λ ne. h i (remove_in k i u m ne))
  late_more s k u ok (some j) h = (
    in_remove k j u h.0,
    h.1,
    λ i m l. by_cases (ℕ_discrete i k) (λ e. rw e ok) (λ ne. h.2 i (remove_in k i u m ne) l),
  )

  pub settle_late : (m t : ℕ) (u s : List ℕ) → Waiting m u s → LateOf (settle R given m t u s) u (late_of R given m t u)
  unfolding settle late_of
  settle_late zero t u s w = λ i h. absurd (waiting_none w i h)
  settle_late (suc m) t [] s w = λ i h. absurd h
  settle_late (suc m) t (i ∷ u) s w =
      let k = soonest given i u in
      let x = latest R given t k in
      let out = settle R given (suc m) t (i ∷ u) s in
      let at : start out k ≡ x = settle_first m t i u s w in
      cond_cases (LateOf out (i ∷ u)) (ltb (deadline R k) (x + run R k))
      (λ e. (
        soonest_in given i u,
        rw at (ltb-true (deadline R k) (x + run R k) e),
        λ j h l. by_cases (ℕ_discrete j k) (λ q. absurd (omega (arith, ap (start out) q)))
            (λ ne. absurd (omega (arith, settle_from m (x + run R k) (remove k (i ∷ u)) (set s k x) (waiting_less x w) j (remove_in k j (i ∷ u) h ne)))),
      ))
      (λ e. late_more out k (i ∷ u) (rw at (ltb-false (deadline R k) (x + run R k) e)) (late_of R given m (x + run R k) (remove k (i ∷ u)))
      (settle_late m (x + run R k) (remove k (i ∷ u)) (set s k x) (waiting_less x w)))
