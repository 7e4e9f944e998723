-- Laws of bytes that are appended to a file in its array.
use mathlib.Core.Path.{◌≡◌, refl, ap, ◌∙◌}
use mathlib.Core.List.{List, [], ◌∷◌, ◌++◌, append-nil, append_assoc}
use Prim.Native.Nat.{ℕ, ◌+◌, ◌<◌, ◌≤◌}
use native.Mathlib.Omega.{arith}
use lib.ListN.{length, set, take, length-append}
use lib.Seq.{take_at}
use Rattle.base.specs.Lists.{padded}
use Rattle.base.proofs.Arrays.{set_padded}
use Rattle.tables.specs.declared.File.{File}
use Rattle.tables.specs.inside.Held.{held, appended}

pub appended_count : (f : File) (l : List ℕ) → (appended f l).count ≡ f.count + length l
unfolding appended
appended_count f [] = omega arith
appended_count f (b ∷ l) = omega (arith, appended_count (record { count = f.count + 1; bytes = set f.bytes f.count b }) l)

pub counted : (f g : File) (l : List ℕ) → g ≡ appended f l → g.count ≡ f.count + length l
counted f g l e = ap (λ (x : File). x.count) e ∙ appended_count f l

pub appended_more : (f : File) (l m : List ℕ) → appended (appended f l) m ≡ appended f (l ++ m)
unfolding appended
appended_more f [] m = refl
appended_more f (b ∷ l) m = appended_more (record { count = f.count + 1; bytes = set f.bytes f.count b }) l m

one_more : (l : List ℕ) (b : ℕ) → length l < 297 → appended (held l) (b ∷ []) ≡ held (l ++ (b ∷ []))
unfolding appended held
one_more l b h = rw (length-append, set_padded 297 0 l (length l) b refl h)

-- Bytes that fit are held after those that are.
pub held_more : (l m : List ℕ) → length l + length m ≤ 297 → appended (held l) m ≡ held (l ++ m)
unfolding appended
held_more l [] h = rw append-nil
held_more l (b ∷ m) h =
    ap (λ (f : File). appended f m) (one_more l b (omega arith)) ∙ held_more (l ++ (b ∷ [])) m (rw length-append (omega arith)) ∙ rw append_assoc

-- So the array holds all that was appended to none.
pub held_all : (l : List ℕ) → length l ≤ 297 → appended (held []) l ≡ held l
held_all l h = held_more [] l (omega arith)

-- And its first bytes are those that it holds.
pub held_front : (l : List ℕ) → take (held l).count (held l).bytes ≡ l
unfolding held padded
held_front l = take_at l _ (length l) refl

pub held_long : (l : List ℕ) → length l ≤ 297 → (held l).count ≤ length (held l).bytes
unfolding held padded
held_long l h = rw length-append (omega arith)
