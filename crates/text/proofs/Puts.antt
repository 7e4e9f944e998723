-- Laws of bytes that are put one after the other.
use mathlib.Core.Path.{◌≡◌, refl, sym, ap, ◌∙◌}
use mathlib.Core.List.{List, [], ◌∷◌, ◌++◌, append_assoc}
use Prim.Native.Nat.{ℕ, zero, suc, ◌+◌, ◌<◌, ◌≤◌}
use native.Mathlib.Omega.{arith}
use native.Mathlib.Numerals.{add-one}
use lib.ListN.{length, set, get_or, take, drop, length-append, length-drop, take-append-drop}
use lib.Seq.{set_at, split_at, take_at, drop_at, drop-drop, length-take-le}
use Rattle.text.specs.Grammar.{cr, lf, comma}
use Rattle.text.specs.Numerals.{digits_of, numbers_text}
use Rattle.text.proofs.Decimal.{few_digits}
use Rattle.text.specs.inside.Putting.{Put, line_text}

-- Nothing is put; one byte is stored.
pub put_none : (at : ℕ) (l : List ℕ) → Put [] at l at l
put_none at l = record { next = omega arith; is = sym (take-append-drop at l) }

pub put_one : (at b : ℕ) (l : List ℕ) → at < length l → Put (b ∷ []) at l (at + 1) (set l at b)
put_one at b l h =
    record {
      next = omega arith;
      is =
          ap (λ (x : List ℕ). set x at b) (split_at l at 0 h)
          ∙ set_at (take at l) (get_or l at 0) (drop (suc at) l) b at (length-take-le at l (omega arith)) ∙ rw (add-one at);
    }

-- The memory keeps its length.
pub put_length : {t : List ℕ} {at : ℕ} {l : List ℕ} {r : ℕ} {m : List ℕ} → Put t at l r m → r ≤ length l → length m ≡ length l
put_length {t} {at} {l} {r} {m} p h =
    let a = ap length p.is in
    let b = length-append (take at l) (t ++ drop r l) in
    let c = length-append t (drop r l) in
    omega (arith, length-take-le at l (omega (arith, p.next)), length-drop r l, p.next)

-- What was put at the front is there, as far as it reaches.
pub put_size : {t l : List ℕ} {r : ℕ} {m : List ℕ} → Put t 0 l r m → r ≡ length t
put_size p = omega (arith, p.next)

pub put_front : {t l : List ℕ} {r : ℕ} {m : List ℕ} → Put t 0 l r m → take r m ≡ t
put_front {t} {l} {r} {m} p = ap (take r) p.is ∙ take_at t (drop r l) r (sym (put_size p))

-- More bytes behind those.
pub put_more : {t u : List ℕ} {at : ℕ} {l : List ℕ} {r s : ℕ} {m n : List ℕ} → Put t at l r m → Put u r m s n → s ≤ length l → Put (t ++ u) at l s n
put_more {t} {u} {at} {l} {r} {s} {m} {n} p q h =
    let front : length (take at l ++ t) ≡ r = omega (arith, length-append (take at l) t, length-take-le at l (omega (arith, p.next, q.next)), p.next) in
    let whole : m ≡ (take at l ++ t) ++ drop r l = p.is ∙ sym (append_assoc (take at l) t (drop r l)) in
    let before : take r m ≡ take at l ++ t = ap (take r) whole ∙ take_at (take at l ++ t) (drop r l) r front in
    let to : s ≡ r + length u = q.next in
    let rest : drop r m ≡ drop r l = ap (drop r) whole ∙ drop_at (take at l ++ t) (drop r l) r front in
    let behind : drop s m ≡ drop s l =
    rw to (sym (drop-drop (length u) r m) ∙ ap (drop (length u)) rest ∙ drop-drop (length u) r l) in
    record { next = omega (arith, p.next, q.next, length-append t u); is = q.is ∙ rw (before, behind, append_assoc, append_assoc) }

-- A line of numbers is its first number with a comma, and the line of the others; the last has CR and LF.
pub line_more : (a b : ℕ) (ns : List ℕ) → line_text (a ∷ b ∷ ns) ≡ (digits_of a ++ comma ∷ []) ++ line_text (b ∷ ns)
line_more a b ns =
    append_assoc (digits_of a) (comma ∷ numbers_text (b ∷ ns)) (cr ∷ lf ∷ []) ∙ sym (append_assoc (digits_of a) (comma ∷ []) (line_text (b ∷ ns)))

pub line_last : (a : ℕ) → line_text (a ∷ []) ≡ (digits_of a ++ cr ∷ []) ++ lf ∷ []
line_last a = sym (append_assoc (digits_of a) (cr ∷ []) (lf ∷ []))

pub length_last : (a : ℕ) → length (line_text (a ∷ [])) ≡ length (digits_of a) + 2
length_last a = length-append (digits_of a) (cr ∷ lf ∷ [])

pub length_field : (a : ℕ) → length (digits_of a ++ comma ∷ []) ≡ length (digits_of a) + 1
length_field a = length-append (digits_of a) (comma ∷ [])

pub length_more : (a b : ℕ) (ns : List ℕ) → length (line_text (a ∷ b ∷ ns)) ≡ length (digits_of a ++ comma ∷ []) + length (line_text (b ∷ ns))
length_more a b ns = ap length (line_more a b ns) ∙ length-append (digits_of a ++ comma ∷ []) (line_text (b ∷ ns))

-- What stands in a line before number i: the numbers before it, and a comma if there are some.
abbrev pub led : List ℕ → ℕ → List ℕ
led ns zero = []
led ns (suc i) = numbers_text (take (suc i) ns) ++ comma ∷ []

pub led_some : (ns : List ℕ) (i : ℕ) → 0 < i → led ns i ≡ numbers_text (take i ns) ++ comma ∷ []
led_some ns zero h = absurd (omega arith)
led_some ns (suc i) h = refl

pub led_none : (ns : List ℕ) (i : ℕ) → i ≤ 0 → led ns i ≡ numbers_text (take i ns)
led_none ns zero h = refl
led_none ns (suc i) h = absurd (omega arith)

texts_more : (ns : List ℕ) (i : ℕ) → i < length ns → numbers_text (take (suc i) ns) ≡ led ns i ++ digits_of (get_or ns i 0)
texts_more [] i h = absurd (omega arith)
texts_more (n ∷ ns) zero h = refl
texts_more (n ∷ []) (suc i) h = absurd (omega arith)
texts_more (n ∷ m ∷ ns) (suc i) h = rw (texts_more (m ∷ ns) i (omega arith)) (after (led (m ∷ ns) i) i refl)
  where
    after : (t : List ℕ) (i : ℕ) → led (m ∷ ns) i ≡ t
        → digits_of n ++ comma ∷ (t ++ digits_of (get_or (m ∷ ns) i 0)) ≡ led (n ∷ m ∷ ns) (suc i) ++ digits_of (get_or (m ∷ ns) i 0)
    after t zero e = rw (← e, append_assoc)
    after t (suc i) e = rw (← e, append_assoc, append_assoc, append_assoc)

pub numbers_more : (ns : List ℕ) (i : ℕ) → i < length ns → numbers_text (take (i + 1) ns) ≡ led ns i ++ digits_of (get_or ns i 0)
numbers_more ns i h = rw add-one (texts_more ns i h)

texts_fewer : (ns : List ℕ) (i : ℕ) → length (numbers_text (take i ns)) ≤ length (numbers_text ns)
texts_fewer ns zero = omega arith
texts_fewer [] (suc i) = omega arith
texts_fewer (n ∷ []) (suc zero) = omega arith
texts_fewer (n ∷ []) (suc (suc i)) = omega arith
texts_fewer (n ∷ m ∷ ns) (suc zero) = omega (arith, length-append (digits_of n) (comma ∷ numbers_text (m ∷ ns)))
texts_fewer (n ∷ m ∷ ns) (suc (suc i)) =
    omega (arith, length-append (digits_of n) (comma ∷ numbers_text (m ∷ ns)), length-append (digits_of n) (comma ∷ numbers_text (take (suc i) (m ∷ ns))), texts_fewer (m ∷ ns) (suc i))

-- So a line that has room has it for what stands before each number, and for that number.
pub line_room : (ns : List ℕ) (i : ℕ) → i < length ns → length (led ns i) + length (digits_of (get_or ns i 0)) + 2 ≤ length (line_text ns)
line_room ns i h =
    omega (arith, ap length (numbers_more ns i h), length-append (led ns i) (digits_of (get_or ns i 0)), texts_fewer ns (i + 1), length-append (numbers_text ns) (cr ∷ lf ∷ []))

-- Numbers have five digits at most.
pub three_few : (a b c : ℕ) → length (line_text (a ∷ b ∷ c ∷ [])) ≤ 19
three_few a b c =
    omega (arith, length_more a b (c ∷ []), length_more b c [], length_field a, length_field b, length_last c, few_digits 4 a, few_digits 4 b, few_digits 4 c)

pub four_few : (a b c d : ℕ) → length (line_text (a ∷ b ∷ c ∷ d ∷ [])) ≤ 25
four_few a b c d = omega (arith, length_more a b (c ∷ d ∷ []), length_field a, three_few b c d, few_digits 4 a)
