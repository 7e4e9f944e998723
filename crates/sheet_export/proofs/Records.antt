-- Job records in pieces of seven bytes: what refuses them, and how many there are.
use mathlib.Core.Path.{◌≡◌, ◌∙◌}
use mathlib.Core.Bool.{Bool}
use mathlib.Core.List.{List, []}
use Prim.Native.Nat.{ℕ, ◌+◌, ◌*◌, ◌/◌, ◌%◌, ◌<◌, ◌≤◌}
use native.Mathlib.Omega.{arith}
use lib.ListN.{length, take, drop, get_or, length-take, length-drop}
use lib.Dec.{eqb}
use borrow.Author.Tests.{lt-ltb, le-ltb, eq-eqb, ne_eqb}
use Rattle.base.specs.Bytes.{pieces}
use Rattle.base.proofs.Members.{all_holds, all_fails}
use Rattle.base.proofs.Pieces.{pieces_count, piece_at}
use Rattle.sheet.specs.Sheets.{records_fault}

module _ (s : List ℕ) where
  abbrev is_seven : List ℕ → Bool
  is_seven r = eqb (length r) 7

  pub records_many : 112 < length s → 12 ≡ records_fault (pieces 7 s)
  records_many h = rw (lt-ltb 16 (length (pieces 7 s)) (omega (arith, pieces_count 7 s)))

  module _ (h : length s ≤ 112) where
    pub records_cut : (length s % 7 ≡ 0 → ⊥) → 1 ≡ records_fault (pieces 7 s)
    records_cut n =
        let k = length s / 7 in
        let last : k < (length s + 6) / 7 = omega arith in
        let long : length (take 7 (drop (7 * k) s)) ≡ 7 → ⊥ = λ e. omega (arith, length-take 7 (drop (7 * k) s), length-drop (7 * k) s, e) in
        let bad = all_fails is_seven [] (pieces 7 s) k (omega (arith, pieces_count 7 s)) (rw (piece_at 7 s k last) (ne_eqb (length (take 7 (drop (7 * k) s))) 7 long)) in
        rw (le-ltb 16 (length (pieces 7 s)) (omega (arith, pieces_count 7 s)), bad)

    pub records_fine : length s % 7 ≡ 0 → 0 ≡ records_fault (pieces 7 s)
    records_fine n =
        let good = all_holds is_seven [] (pieces 7 s) (λ k l. rw (piece_at 7 s k (omega (arith, pieces_count 7 s)))
        (eq-eqb (length (take 7 (drop (7 * k) s))) 7 (length-take 7 (drop (7 * k) s) ∙ omega (arith, length-drop (7 * k) s, pieces_count 7 s)))) in
        rw (le-ltb 16 (length (pieces 7 s)) (omega (arith, pieces_count 7 s)), good)

module _ (s : List ℕ) (even : length s % 7 ≡ 0) where
  pub seven_count : length (pieces 7 s) ≡ length s / 7
  seven_count = pieces_count 7 s ∙ omega arith

  pub seven_at : (k : ℕ) → k < length s / 7 → get_or (pieces 7 s) k [] ≡ take 7 (drop (7 * k) s)
  seven_at k h = piece_at 7 s k (omega arith)
