-- A lent list that is written from left to right, whatever its elements are: the first places hold what was written, and the rest stand as they did.
-- It grows by a place that is stored, by a part that is lent and comes back written, or by a rest that was handed on and written in its turn.
use mathlib.Core.Path.{◌≡◌, refl, ap, ◌∙◌}
use mathlib.Core.List.{List, [], ◌∷◌, ◌++◌, append_assoc, append-nil}
use Prim.Native.Nat.{ℕ, suc, ◌+◌, ◌-◌, ◌<◌, ◌≤◌}
use native.Mathlib.Omega.{arith}
use native.Mathlib.Numerals.{add-one}
use lib.ListN.{length, set, get_or, take, drop, length-append, length-drop, drop_of_length-le}
use lib.Seq.{set_at, drop-cons, take_at, take_all, drop_at, drop-drop, length-take-le}
use borrow.Rule.Slice.PartMut.{put_mid}
use Rattle.base.specs.Lists.{up_to}
use Rattle.base.proofs.Arrays.{up_to_more}

-- The first `at` places of l hold `front`, and the rest stand as they did in l₀.
pub record Filled {A : Type 0} (l₀ : List A) (at : ℕ) (front l : List A) : Type 0 where
  pub long : length front ≡ at
  pub is : l ≡ front ++ drop at l₀

module _ {A : Type 0} where
  pub filled_none : (l₀ : List A) → Filled l₀ 0 [] l₀
  filled_none l₀ = record { long = refl; is = refl }

  pub filled_length : {l₀ front l : List A} {at : ℕ} → Filled l₀ at front l → at ≤ length l₀ → length l ≡ length l₀
  filled_length {l₀} {front} {l} {at} w h = omega (arith, ap length w.is, length-append front (drop at l₀), length-drop at l₀, w.long)

  -- Nothing is left to write.
  pub filled_whole : {l₀ front l : List A} {at : ℕ} → Filled l₀ at front l → length l₀ ≤ at → l ≡ front
  filled_whole {l₀} {front} {l} {at} w h = w.is ∙ rw (drop_of_length-le l₀ {i = at} h, append-nil)

  -- One place more is stored.
  pub filled_store : {l₀ front l : List A} {at : ℕ} → Filled l₀ at front l → at < length l₀ → (a : A) → Filled l₀ (at + 1) (front ++ (a ∷ [])) (set l at a)
  filled_store {l₀} {front} {l} {at} w h a =
      record {
        long = omega (arith, length-append front (a ∷ []), w.long);
        is = rw (w.is, drop-cons l₀ at a h, set_at front (get_or l₀ at a) (drop (suc at) l₀) a at w.long, append_assoc, add-one at);
      }

  -- The values of a function are stored, one after the other.
  pub filled_start : (f : ℕ → A) (l₀ : List A) → Filled l₀ 0 (up_to f 0) l₀
  unfolding up_to
  filled_start f l₀ = filled_none l₀

  pub filled_value :
      (f : ℕ → A) {l₀ l : List A} {j : ℕ} → Filled l₀ j (up_to f j) l → j < length l₀ → (a : A) → a ≡ f j → Filled l₀ (j + 1) (up_to f (j + 1)) (set l j a)
  filled_value f {j = j} w h a e = rw (up_to_more f j, ← e) (filled_store w h a)

  -- The rest was handed on, and is written up to its place k.
  pub filled_on :
      (l₀ front : List A) {more rest : List A} {at k : ℕ} → length front ≡ at → Filled (drop at l₀) k more rest → (to : ℕ) → at + k ≡ to
      → Filled l₀ to (front ++ more) (front ++ rest)
  filled_on l₀ front {more} {rest} {at} {k} n w to s =
      let tail : drop k (drop at l₀) ≡ drop to l₀ = drop-drop k at l₀ ∙ ap (λ (i : ℕ). drop i l₀) s in
      record { long = omega (arith, length-append front more, w.long); is = rw (w.is, tail, append_assoc) }

  -- What stands before the places that are still to be written, and these.
  front_is : {l₀ front l : List A} {at : ℕ} → Filled l₀ at front l → take at l ≡ front
  front_is {l₀} {front} {l} {at} w = ap (take at) w.is ∙ take_at front (drop at l₀) at w.long

  rest_is : {l₀ front l : List A} {at : ℕ} → Filled l₀ at front l → drop at l ≡ drop at l₀
  rest_is {l₀} {front} {l} {at} w = ap (drop at) w.is ∙ drop_at front (drop at l₀) at w.long

  module _ (f : ℕ → List A) (sized : (n : ℕ) → length (f n) ≡ n) where
    -- The first k places are lent, and come back as m.
    pub filled_first : (l₀ : List A) (k : ℕ) → k ≤ length l₀ → (m : List A) → m ≡ f (length (take k l₀)) → Filled l₀ k (f k) (m ++ drop k l₀)
    filled_first l₀ k h m e = record { long = sized k; is = rw (e, length-take-le k l₀ h) }

    -- The k places after those that are written are lent, and come back as m.
    pub filled_part :
        {l₀ front l : List A} {at : ℕ} → Filled l₀ at front l → (k to : ℕ) → at + k ≡ to → to ≤ length l₀ → (m : List A)
        → m ≡ f (length (take k (drop at l))) → Filled l₀ to (front ++ f k) (put_mid at k l m)
    filled_part {l₀} {front} {l} {at} w k to s h m e =
        let same = rest_is w in
        rw (front_is w, same)
        (filled_on l₀ front w.long (filled_first (drop at l₀) k (omega (arith, length-drop at l₀)) m (e ∙ ap (λ (x : List A). f (length (take k x))) same)) to s)

  -- All places after those that are written are lent, and come back as `made` with what stood after it.
  pub filled_tail :
      {l₀ front l : List A} {at : ℕ} → Filled l₀ at front l → (made : List A) (to : ℕ) → at + length made ≡ to → to ≤ length l₀ → (m : List A)
      → m ≡ made ++ drop (length made) (take (length l - at) (drop at l)) → Filled l₀ to (front ++ made) (put_mid at (length l - at) l m)
  filled_tail {l₀} {front} {l} {at} w made to s h m e =
      let size = filled_length w (omega arith) in
      let whole : take (length l - at) (drop at l₀) ≡ drop at l₀ = take_all (length l - at) (drop at l₀) (omega (arith, length-drop at l₀)) in
      let none : drop (length l - at) (drop at l₀) ≡ [] = drop_of_length-le (drop at l₀) {i = length l - at} (omega (arith, length-drop at l₀)) in
      let same = rest_is w in
      let written : Filled (drop at l₀) (length made) made m = record { long = refl; is = e ∙ rw (same, whole) } in
      rw (front_is w, same, none, append-nil) (filled_on l₀ front w.long written to s)
