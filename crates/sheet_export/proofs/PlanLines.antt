-- The text of a plan, one line more at a time.
use mathlib.Core.Path.{◌≡◌, refl, sym, ap, ◌∙◌}
use mathlib.Core.List.{List, [], ◌∷◌, ◌++◌, append_assoc}
use Prim.Native.Nat.{ℕ, ◌+◌}
use Rattle.base.specs.Lists.{up_to}
use Rattle.base.proofs.Arrays.{up_to_more}
use Rattle.text.specs.Grammar.{cr, lf, text_of}

text_snoc : (ls : List (List ℕ)) (l : List ℕ) → text_of (ls ++ l ∷ []) ≡ text_of ls ++ (l ++ cr ∷ lf ∷ [])
text_snoc [] l = refl
text_snoc (m ∷ ls) l = ap (λ (x : List ℕ). m ++ cr ∷ lf ∷ x) (text_snoc ls l) ∙ sym (append_assoc m (cr ∷ lf ∷ text_of ls) (l ++ cr ∷ lf ∷ []))

pub text_more : (line : ℕ → List ℕ) (k : ℕ) → text_of (up_to line (k + 1)) ≡ text_of (up_to line k) ++ (line k ++ cr ∷ lf ∷ [])
text_more line k = ap text_of (up_to_more line k) ∙ text_snoc (up_to line k) (line k)

pub text_none : (line : ℕ → List ℕ) → [] ≡ text_of (up_to line 0)
unfolding up_to
text_none line = refl
