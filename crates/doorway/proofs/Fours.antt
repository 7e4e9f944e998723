-- Numbers of four bytes, written one after the other to lent bytes.
use mathlib.Core.Path.{◌≡◌, refl, ap, ◌∙◌}
use mathlib.Core.List.{List, [], ◌∷◌, ◌++◌}
use Prim.Native.Nat.{ℕ, zero, suc, ◌+◌, ◌*◌, ◌/◌, ◌%◌, ◌≤◌, ◌<◌}
use native.Mathlib.Omega.{arith}
use native.Mathlib.Numerals.{add-one}
use lib.ListN.{length, get_or, take, drop}
use lib.Seq.{length-take-le, get_or-take}
use borrow.Rule.Slice.PartMut.{put_mid}
use Rattle.base.proofs.Filling.{Filled, filled_none, filled_part}
use Rattle.tables.specs.Layout.{joined}
use Rattle.calls.specs.Bytes.{big}
use Rattle.calls.proofs.Digits.{length_big}
use Rattle.doorway.specs.Doors.{fours}

pub fours_none : (f : ℕ → ℕ) (l : List ℕ) → Filled l 0 (joined (λ i. big 4 (f i)) 0) l
unfolding joined
fours_none f l = filled_none l

-- The part of four bytes after the first j numbers comes back as the number j.
pub fours_more : (f : ℕ → ℕ) {l₀ l : List ℕ} (j k : ℕ) → k ≡ 4 → Filled l₀ (j * 4) (joined (λ i. big 4 (f i)) j) l → j * 4 + 4 ≤ length l₀ → (m : List ℕ)
    → m ≡ big (length (take k (drop (j * 4) l))) (f j) → Filled l₀ ((j + 1) * 4) (joined (λ i. big 4 (f i)) (j + 1)) (put_mid (j * 4) k l m)
unfolding joined
fours_more f {l₀} {l} j k four w room m e =
    rw (add-one j, four)
    (filled_part (λ n. big n (f j)) (λ n. length_big n (f j)) w 4 (suc j * 4) (omega arith) (omega arith) m (e ∙ ap (λ (i : ℕ). big (length (take i (drop (j * 4) l))) (f j)) four))

-- The four bytes of a number, as the code gives them.
pub big_four : (x : ℕ) → x / 16777216 % 256 ∷ x / 65536 % 256 ∷ x / 256 % 256 ∷ x % 256 ∷ [] ≡ big 4 x
unfolding big
big_four x =
    let two : x / 256 / 256 ≡ x / 65536 = omega arith in
    let three : x / 256 / 256 / 256 ≡ x / 16777216 = omega arith in
    rw (three, two) refl

-- Values that are the same are written the same.
pub fours_same : (f g : ℕ → ℕ) (n : ℕ) → ((i : ℕ) → i < n → f i ≡ g i) → joined (λ i. big 4 (f i)) n ≡ joined (λ i. big 4 (g i)) n
unfolding joined
fours_same f g zero h = refl
fours_same f g (suc n) h = rw (fours_same f g n (λ i l. h i (omega arith)), h n (omega arith))

-- The first n numbers of a list, which are a function's values, written to lent bytes.
pub fours_front : (f : ℕ → ℕ) (all lent after : List ℕ) (n j : ℕ) → j ≡ n → n ≤ length all → ((i : ℕ) → i < n → get_or all i 0 ≡ f i)
    → after ≡ fours (λ i. get_or (take j all) i 0) (length (take j all)) lent → after ≡ fours f n lent
fours_front f all lent after n j same h each e =
    e ∙ rw (same, length-take-le n all h)
    (ap (λ (m : List ℕ). m ++ drop (n * 4) lent) (fours_same (λ i. get_or (take n all) i 0) f n (λ i l. get_or-take n all i 0 l ∙ each i l)))
