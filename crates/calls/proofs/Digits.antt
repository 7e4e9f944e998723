-- Laws of numbers as bytes.
use mathlib.Core.Path.{◌≡◌, refl, sym, ap, subst, ◌∙◌}
use mathlib.Core.List.{List, [], ◌∷◌, ◌++◌, append_assoc, append-nil}
use Prim.Native.Nat.{ℕ, zero, suc, ◌+◌, ◌*◌, ◌/◌, ◌%◌, ◌≤◌, ◌<◌}
use native.Mathlib.Numerals.{add-one}
use native.Mathlib.Omega.{arith}
use lib.ListN.{length, set, take, drop, get_or, length-append, length-drop, drop_of_length-le}
use lib.Seq.{drop-cons, drop-set-lt, get_or-set_same, lt-length-set, take-suc, length-take-le}
use Rattle.base.proofs.Filling.{Filled, filled_length, filled_first, filled_part}
use borrow.Author.Tests.{le-leb, lt-leb}
use borrow.Rule.Slice.PartMut.{put_mid}
use Rattle.planner.specs.declared.Answer.{Answer}
use Rattle.calls.specs.Bytes.{big, spread}
use Rattle.calls.specs.Calls.{told}

pub length_big : (n x : ℕ) → length (big n x) ≡ n
unfolding big
length_big zero x = refl
length_big (suc n) x = rw (length-append, length_big n (x / 256)) (omega arith)

-- A number is put from its last byte on: what is still to come of it, and what stands.
pub put_none : (n x : ℕ) (part : List ℕ) → length part ≡ n → big n x ≡ big n x ++ drop n part
put_none n x part e = rw (drop_of_length-le part {i = n} (omega arith), append-nil)

pub put_turn :
    (whole : List ℕ) (i rest : ℕ) (part : List ℕ) → i < length part → whole ≡ big (i + 1) rest ++ drop (i + 1) part
    → whole ≡ big i (rest / 256) ++ drop i (set part i (rest % 256))
unfolding big
put_turn whole i rest part h e =
    let v = rest % 256 in
    rw (drop-cons (set part i v) i 0 (lt-length-set part i v h), get_or-set_same part i v 0 h, drop-set-lt (suc i) part i v (omega arith))
    (e ∙ rw (add-one i, append_assoc))

pub put_done : (whole part : List ℕ) (i rest : ℕ) → i ≡ 0 → whole ≡ big i rest ++ drop i part → part ≡ whole
unfolding big
put_done whole part i rest z e = rw (e, z)

-- What is written, said in another way.
pub filled_as : {l₀ front front' l : List ℕ} {at : ℕ} → Filled l₀ at front l → front ≡ front' → Filled l₀ at front' l
filled_as {l₀} {l = l} {at = at} w e = subst (λ (f : List ℕ). Filled l₀ at f l) e w

-- One start time more.
spread_more : (l : List ℕ) (x : ℕ) → spread (l ++ (x ∷ [])) ≡ (spread l ++ (x / 256 ∷ [])) ++ (x % 256 ∷ [])
unfolding spread
spread_more [] x = refl
spread_more (y ∷ l) x = rw (spread_more l x)

pub spread_none : (l bytes : List ℕ) → Filled bytes 0 (spread (take 0 l)) bytes
unfolding spread
spread_none l bytes = record { long = refl; is = refl }

big_two : (x : ℕ) → x < 65536 → big 2 x ≡ x / 256 ∷ x % 256 ∷ []
unfolding big
big_two x h = let e : x / 256 % 256 ≡ x / 256 = omega arith in rw e

pub spread_next :
    (l bytes₀ bytes m : List ℕ) (j : ℕ) → j < length l → j * 2 + 2 ≤ length bytes₀ → get_or l j 0 < 65536 → Filled bytes₀ (j * 2) (spread (take j l)) bytes
    → m ≡ get_or l j 0 / 256 % 256 ∷ get_or l j 0 % 256 ∷ [] → Filled bytes₀ ((j + 1) * 2) (spread (take (j + 1) l)) (put_mid (j * 2) 2 bytes m)
unfolding big
spread_next l bytes₀ bytes m j h room small w e =
    let x = get_or l j 0 in
    let long = filled_length w (omega arith) in
    let two : length (take 2 (drop (j * 2) bytes)) ≡ 2 = length-take-le 2 (drop (j * 2) bytes) (omega (arith, length-drop (j * 2) bytes)) in
    let whole : m ≡ big (length (take 2 (drop (j * 2) bytes))) x = rw two e in
    let part = filled_part (λ n. big n x) (λ n. length_big n x) w 2 ((j + 1) * 2) (omega arith) (omega arith) m whole in
    filled_as part (rw (big_two x small) (sym (append_assoc (spread (take j l)) (x / 256 ∷ []) (x % 256 ∷ []))) ∙ sym (spread_more (take j l) x) ∙ ap spread (sym (rw (add-one j) (take-suc l j 0 h))))

-- ---- the result buffer

pub told_none : (a : Answer) (l : List ℕ) → length l < 11 → told a l ≡ l
unfolding told
told_none a l h = rw (lt-leb 11 (length l) h)

-- The four parts of an answer put one after the other, each of the bytes as the one before it left them.
pub told_whole :
    (a : Answer) (l m₁ m₂ m₃ m₄ : List ℕ) → 11 ≤ length l
    → m₁ ≡ big (length (take 1 l)) a.job.0
    → (let l₁ = m₁ ++ drop 1 l in m₂ ≡ big (length (take 2 (drop 1 l₁))) a.horizon)
    → (let l₂ = put_mid 1 2 (m₁ ++ drop 1 l) m₂ in m₃ ≡ big (length (take 4 (drop 3 l₂))) a.energy)
    → (let l₃ = put_mid 3 4 (put_mid 1 2 (m₁ ++ drop 1 l) m₂) m₃ in m₄ ≡ big (length (take 4 (drop 7 l₃))) a.count)
    → put_mid 7 4 (put_mid 3 4 (put_mid 1 2 (m₁ ++ drop 1 l) m₂) m₃) m₄ ≡ told a l
unfolding told
told_whole a l m₁ m₂ m₃ m₄ h e₁ e₂ e₃ e₄ =
    let w₁ = filled_first (λ n. big n a.job.0) (λ n. length_big n a.job.0) l 1 (omega arith) m₁ e₁ in
    let w₂ = filled_part (λ n. big n a.horizon) (λ n. length_big n a.horizon) w₁ 2 3 (omega arith) (omega arith) m₂ e₂ in
    let w₃ = filled_part (λ n. big n a.energy) (λ n. length_big n a.energy) w₂ 4 7 (omega arith) (omega arith) m₃ e₃ in
    let w₄ = filled_part (λ n. big n a.count) (λ n. length_big n a.count) w₃ 4 11 (omega arith) (omega arith) m₄ e₄ in
    rw (le-leb 11 (length l) h) w₄.is
