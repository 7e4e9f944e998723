-- The signs of a part number in text: ordinary bytes, and a quote is none of them (21).
use mathlib.Core.Path.{◌≡◌, refl, sym, subst, ◌∙◌}
use mathlib.Core.Bool.{Bool, true, false, ◌&&◌, ◌||◌, true≢false}
use mathlib.Core.List.{List, [], ◌∷◌, ◌++◌}
use Prim.Native.Nat.{ℕ, zero, suc, ◌-◌, ◌≤◌}
use native.Mathlib.Omega.{arith}
use lib.ListN.{length, replicate}
use lib.Dec.{eqb, leb}
use borrow.Author.Tests.{leb-true}
use Rattle.base.specs.Lists.{padded, all}
use Rattle.base.proofs.Cases.{test_cases, both}
use Rattle.base.proofs.Every.{Every}
use Rattle.catalogue.specs.Parts.{sign, space, front, well_formed}
use Rattle.catalogue.proofs.PartNumbers.{formed, all_front}
use Rattle.text.proofs.Decimal.{Ordinary}
use Rattle.text.proofs.Quotes.{has_quote, quote_fails, quote_on}

sign_ordinary : (b : ℕ) → sign b ≡ true → Ordinary b
sign_ordinary b h = go (leb 48 b) refl h
  where
    go : (x : Bool) → leb 48 b ≡ x → (x && leb b 57) || (leb 65 b && leb b 90) ≡ true → 48 ≤ b
    go true e k = leb-true 48 b e
    go false e k = let p = leb-true 65 b (both (leb 65 b) (leb b 90) k).0 in omega arith

pub signs_ordinary : (s : List ℕ) → all sign s ≡ true → Every Ordinary s
signs_ordinary [] h = tt
signs_ordinary (b ∷ s) h = let p = both (sign b) (all sign s) h in (sign_ordinary b p.0, signs_ordinary s p.1)

-- A byte of a part number: a sign or a space.
part : ℕ → Bool
part b = sign b || eqb b space

all_part : (s : List ℕ) (m : ℕ) → all sign s ≡ true → all part (s ++ replicate m space) ≡ true
unfolding part
all_part [] zero h = refl
all_part [] (suc m) h = all_part [] m h
all_part (b ∷ s) m h = let p = both (sign b) (all sign s) h in rw p.0 (all_part s m p.1)

pub quote_21 : (f : List ℕ) → has_quote f ≡ true → well_formed (padded 8 space f) ≡ false
unfolding padded part
quote_21 f h =
    test_cases (λ b. b ≡ false) (well_formed (padded 8 space f))
    (λ e. absurd (true≢false (sym (clean e) ∙ quote_fails part refl (padded 8 space f) (quote_on f (replicate (8 - length f) space) h))))
    (λ e. refl)
  where
    clean : well_formed (padded 8 space f) ≡ true → all part (padded 8 space f) ≡ true
    clean e =
        let n = (formed (padded 8 space f) e).2 in
        subst (λ (x : List ℕ). all part x ≡ true) (sym n) (all_part (front (padded 8 space f)) (8 - length (front (padded 8 space f))) (all_front (padded 8 space f)))
