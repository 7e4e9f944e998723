-- The pieces of lent bytes, by place as a slice has them, and in a row.
use mathlib.Core.Path.{◌≡◌, sym, ap, ◌∙◌}
use mathlib.Core.List.{List, [], ◌∷◌, ◌++◌, append-nil, append_assoc}
use Prim.Native.Nat.{ℕ, zero, suc, ◌+◌, ◌-◌, ◌*◌, ◌/◌, ◌<◌, ◌≤◌}
use native.Mathlib.Omega.{arith}
use native.Mathlib.Nat.{mul-zero, mul-suc}
use lib.ListN.{length, take, drop, get_or, length-drop}
use lib.Seq.{take_all, take-nil}
use Rattle.base.specs.Lists.{up_to}
use Rattle.base.specs.Bytes.{pieces, in_row}
use Rattle.base.proofs.Arrays.{length_up_to, get_d_up_to}

-- A part of a slice, of n bytes from a place on.
pub slice_is : (s : List ℕ) (n at : ℕ) → take ((at + n) - at) (drop at s) ≡ take n (drop at s)
slice_is s n at = let e : (at + n) - at ≡ n = omega arith in rw e

-- The part from a place to the end.
pub part_rest : (s : List ℕ) (at : ℕ) → take (length s - at) (drop at s) ≡ drop at s
part_rest s at = take_all (length s - at) (drop at s) (rw length-drop (omega arith))

module _ (n : ℕ) (s : List ℕ) where
  pub pieces_count : length (pieces n s) ≡ (length s + (n - 1)) / n
  unfolding pieces
  pieces_count = length_up_to (λ k. take n (drop (n * k) s)) ((length s + (n - 1)) / n)

  pub piece_at : (k : ℕ) → k < (length s + (n - 1)) / n → get_or (pieces n s) k [] ≡ take n (drop (n * k) s)
  unfolding pieces
  piece_at k h = get_d_up_to (λ k. take n (drop (n * k) s)) ((length s + (n - 1)) / n) k [] h

pub row_snoc : (ps : List (List ℕ)) (p : List ℕ) → in_row (ps ++ p ∷ []) ≡ in_row ps ++ p
row_snoc [] p = append-nil p
row_snoc (q ∷ ps) p = rw (row_snoc ps p, append_assoc)

take_add : (a b : ℕ) (s : List ℕ) → take a s ++ take b (drop a s) ≡ take (b + a) s
take_add zero b s = let e : b + 0 ≡ b = omega arith in rw e
take_add (suc a) b [] = take-nil b ∙ sym (take-nil (b + suc a))
take_add (suc a) b (x ∷ s) = let e : b + suc a ≡ suc (b + a) = omega arith in rw (e, take_add a b s)

front_row : (n m : ℕ) (s : List ℕ) → in_row (up_to (λ k. take n (drop (n * k) s)) m) ≡ take (n * m) s
unfolding up_to
front_row n zero s = rw (mul-zero n)
front_row n (suc m) s =
    let e : n + n * m ≡ n * suc m = omega (arith, mul-suc n m) in
    row_snoc (up_to (λ k. take n (drop (n * k) s)) m) (take n (drop (n * m) s)) ∙ rw (front_row n m s, take_add (n * m) n s) (ap (λ (x : ℕ). take x s) e)

-- For every size of which so many pieces reach to the end of the bytes: each numeral but 0 is one.
pub pieces_row : (n : ℕ) (s : List ℕ) → length s ≤ n * ((length s + (n - 1)) / n) → in_row (pieces n s) ≡ s
unfolding pieces
pieces_row n s h = front_row n ((length s + (n - 1)) / n) s ∙ take_all (n * ((length s + (n - 1)) / n)) s h
