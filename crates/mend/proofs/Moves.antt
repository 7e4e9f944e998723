-- Laws of the list of moves.
use mathlib.Core.Path.{◌≡◌, refl, ◌∙◌}
use mathlib.Core.Bool.{Bool, cond}
use mathlib.Core.List.{List, [], ◌∷◌, ◌++◌, append_assoc, append-nil}
use Prim.Native.Nat.{ℕ, zero, suc, ◌+◌, ◌*◌, ◌≤◌, ◌<◌}
use native.Mathlib.Numerals.{add-one}
use native.Mathlib.Omega.{arith}
use lib.Dec.{eqb}
use lib.ListN.{length, set, length-append}
use borrow.Author.Tests.{eq-eqb}
use Rattle.base.proofs.Cases.{cond_cases, test_cases}
use Rattle.base.proofs.Filling.{Filled, filled_none, filled_store}
use Rattle.schedule.specs.Listing.{start}
use Rattle.mend.specs.Mending.{Move, moves, numbers}
use Rattle.mend.specs.inside.Moving.{count_with, list_with}

-- No more jobs move than there are, and none where the starts stay.
pub moves_few : (given s : List ℕ) (n : ℕ) → length (moves given s n) ≤ n
unfolding moves
moves_few given s zero = omega arith
moves_few given s (suc j) =
    cond_cases (λ (l : List Move). length (moves given s j ++ l) ≤ suc j) (eqb (start given j) (start s j))
    (λ e. rw length-append (omega (arith, moves_few given s j)))
    (λ e. rw length-append (omega (arith, moves_few given s j)))

pub moves_none : (s : List ℕ) (n : ℕ) → moves s s n ≡ []
unfolding moves
moves_none s zero = refl
moves_none s (suc j) = rw (moves_none s j, eq-eqb (start s j) (start s j) refl)

-- The list is that of the first n starts, wherever they stand.
pub moves_same : (given s s' : List ℕ) (n : ℕ) → ((j : ℕ) → j < n → start s j ≡ start s' j) → moves given s n ≡ moves given s' n
unfolding moves
moves_same given s s' zero h = refl
moves_same given s s' (suc j) h = rw (moves_same given s s' j (λ i l. h i (omega arith)), h j (omega arith))

-- ---- the list in lent memory

numbers_append : (l k : List Move) → numbers (l ++ k) ≡ numbers l ++ numbers k
numbers_append [] k = refl
numbers_append (m ∷ l) k = rw (numbers_append l k)

-- One move more is written, its three numbers from place `at` on.
put_move :
    (ms : List Move) (l₀ l : List ℕ) (at j a b : ℕ) → Filled l₀ at (numbers ms) l → at + 3 ≤ length l₀
    → Filled l₀ (at + 3) (numbers (ms ++ record { job = j; from = a; to = b } ∷ [])) (set (set (set l at j) (at + 1) a) (at + 2) b)
put_move ms l₀ l at j a b w room =
    let second : at + 1 + 1 ≡ at + 2 = omega arith in
    let third : at + 2 + 1 ≡ at + 3 = omega arith in
    let two = rw second at (filled_store (filled_store w (omega arith) j) (omega arith) a) in
    let front : numbers (ms ++ record { job = j; from = a; to = b } ∷ []) ≡ ((numbers ms ++ j ∷ []) ++ a ∷ []) ++ b ∷ [] =
    numbers_append ms (record { job = j; from = a; to = b } ∷ []) ∙ simp append_assoc in
    rw (front, ← third) (filled_store two (omega arith) b)

-- The moves of the first n jobs are listed in the lent numbers, and `count` is how many they are.
pub record Listed (given s l₀ : List ℕ) (n count : ℕ) (l : List ℕ) : Type 0 where
  pub counted : count ≡ length (moves given s n)
  pub listed : Filled l₀ (3 * count) (numbers (moves given s n)) l

module _ (given s l₀ : List ℕ) where
  pub listed_none : Listed given s l₀ 0 0 l₀
  unfolding moves
  listed_none = record { counted = refl; listed = filled_none l₀ }

  pub listed_more :
      (j count : ℕ) (l : List ℕ) → Listed given s l₀ j count l → 3 * count + 3 ≤ length l₀
      → Listed given s l₀ (j + 1) (count_with (start given j) (start s j) count) (list_with j (start given j) (start s j) count l)
  unfolding moves list_with
  listed_more j count l h room =
      let x = start given j in
      let y = start s j in
      let ms = moves given s j in
      let mv : Move = record { job = j; from = x; to = y } in
      let more : 3 * (count + 1) ≡ 3 * count + 3 = omega arith in
      record {
        counted = rw (add-one j) (test_cases (λ (b : Bool). cond b count (count + 1) ≡ length (ms ++ cond b [] (mv ∷ []))) (eqb x y)
            (λ q. rw (append-nil ms) h.counted)
            (λ q. rw length-append (omega (arith, h.counted))));
        listed = rw (add-one j) (test_cases
            (λ (b : Bool). Filled l₀ (3 * cond b count (count + 1)) (numbers (ms ++ cond b [] (mv ∷ [])))
            (cond b l (set (set (set l (3 * count) j) (3 * count + 1) x) (3 * count + 2) y))) (eqb x y)
            (λ q. rw (append-nil ms) h.listed)
            (λ q. rw more (put_move ms l₀ l (3 * count) j x y h.listed room)));
      }

  -- No more are listed than there are jobs.
  pub listed_few : (n count : ℕ) (l : List ℕ) → Listed given s l₀ n count l → count ≤ n
  listed_few n count l h = omega (arith, h.counted, moves_few given s n)
