-- No unescaping is needed: a field with a quote in it is no number (29), and no part number either (`quote_21` in sheet/proofs/Signs), so that what two quotes
-- stand for never shows.
use mathlib.Core.Path.{◌≡◌, refl, sym}
use mathlib.Core.Bool.{Bool, true, false, cond, ◌&&◌, ◌||◌, true≢false}
use mathlib.Core.List.{List, [], ◌∷◌, ◌++◌}
use mathlib.Core.Logic.{◌⊎◌, inl, inr}
use mathlib.Core.Option.{Option, none, some}
use Prim.Native.Nat.{ℕ}
use lib.ListN.{length}
use lib.Dec.{eqb, ltb}
use borrow.Author.Tests.{eqb-true}
use Rattle.base.specs.Lists.{all, one}
use Rattle.base.proofs.Cases.{or_right, and_right}
use Rattle.text.specs.declared.State.{State}
use Rattle.text.specs.declared.State.TheVariants.{Fresh, Plain, Quoted, Closed}
use Rattle.text.specs.Grammar.{comma, quote, Step, stray, ends, goes, step, last, before, kept, then, after, fields_from, fields_of}
use Rattle.text.specs.inside.Cursors.{raw_of}
use Rattle.text.specs.Numerals.{digit, is_number}

abbrev pub has_quote : List ℕ → Bool
has_quote = one (λ b. eqb b quote)

-- ---- what a quote in a field makes of it

-- A test that a quote fails.
pub quote_fails : (t : ℕ → Bool) → t quote ≡ false → (f : List ℕ) → has_quote f ≡ true → all t f ≡ false
quote_fails t e [] h = absurd (true≢false (sym h))
quote_fails t e (b ∷ f) h = go (eqb b quote) refl h (quote_fails t e f)
  where
    go : (x : Bool) → eqb b quote ≡ x → x || has_quote f ≡ true → (has_quote f ≡ true → all t f ≡ false) → t b && all t f ≡ false
    go true q k rest = rw (eqb-true b quote q, e)
    go false q k rest = and_right (t b) (rest k)

-- 29 where a number should stand.
pub quote_29 : (m : ℕ) (f : List ℕ) → has_quote f ≡ true → is_number m f ≡ false
quote_29 m f h = and_right (ltb 0 (length f)) (rw (quote_fails digit refl f h))

-- In a longer field it stays.
pub quote_on : (f g : List ℕ) → has_quote f ≡ true → has_quote (f ++ g) ≡ true
quote_on [] g h = absurd (true≢false (sym h))
quote_on (b ∷ f) g h = go (eqb b quote) h (quote_on f g)
  where
    go : (x : Bool) → x || has_quote f ≡ true → (has_quote f ≡ true → has_quote (f ++ g) ≡ true) → x || has_quote (f ++ g) ≡ true
    go true k rest = refl
    go false k rest = rest k

quote_behind : (f g : List ℕ) → has_quote g ≡ true → has_quote (f ++ g) ≡ true
quote_behind [] g h = h
quote_behind (b ∷ f) g h = or_right (eqb b quote) (quote_behind f g h)

-- ---- fields with two quotes as one, and as they stand

-- The same, or each with a quote in it.
abbrev pub Like : List ℕ → List ℕ → Type 0
Like f g = (f ≡ g) ⊎ ((has_quote f ≡ true) × (has_quote g ≡ true))

abbrev pub LikeAll : List (List ℕ) → List (List ℕ) → Type 0
LikeAll [] [] = Unit {0}
LikeAll [] (g ∷ gs) = ⊥
LikeAll (f ∷ fs) [] = ⊥
LikeAll (f ∷ fs) (g ∷ gs) = Like f g × LikeAll fs gs

abbrev pub LikeRead : Option (List (List ℕ)) → Option (List (List ℕ)) → Type 0
LikeRead none none = Unit {0}
LikeRead none (some gs) = ⊥
LikeRead (some fs) none = ⊥
LikeRead (some fs) (some gs) = LikeAll fs gs

like_append : (s t f g : List ℕ) → Like s t → Like f g → Like (s ++ f) (t ++ g)
like_append s t f g (inl e) (inl k) = inl (cc)
like_append s t f g (inl e) (inr k) = inr (quote_behind s f k.0, quote_behind t g k.1)
like_append s t f g (inr e) k = inr (quote_on s f e.0, quote_on t g e.1)

before_like : (s t : List ℕ) (fs gs : List (List ℕ)) → Like s t → LikeAll fs gs → LikeAll (before s fs) (before t gs)
before_like s t [] [] h k = (h, tt)
before_like s t [] (g ∷ gs) h k = absurd k
before_like s t (f ∷ fs) [] h k = absurd k
before_like s t (f ∷ fs) (g ∷ gs) h k = (like_append s t f g h k.0, k.1)

kept_like : (s t : List ℕ) (o p : Option (List (List ℕ))) → Like s t → LikeRead o p → LikeRead (kept s o) (kept t p)
kept_like s t none none h k = tt
kept_like s t none (some gs) h k = absurd k
kept_like s t (some fs) none h k = absurd k
kept_like s t (some fs) (some gs) h k = before_like s t fs gs h k

then_like : (o p : Option (List (List ℕ))) → LikeRead o p → LikeRead (then [] o) (then [] p)
then_like none none k = tt
then_like none (some gs) k = absurd k
then_like (some fs) none k = absurd k
then_like (some fs) (some gs) k = (inl refl, k)

last_like : (q : State) → LikeRead (last q) (last q)
last_like Fresh = (inl refl, tt)
last_like Plain = (inl refl, tt)
last_like Quoted = tt
last_like Closed = (inl refl, tt)

after_like : (d : Step) (r r' : State → Option (List (List ℕ))) → ((q : State) → LikeRead (r q) (r' q)) → LikeRead (after d r) (after d r')
after_like stray r r' h = tt
after_like ends r r' h = then_like (r Fresh) (r' Fresh) (h Fresh)
after_like (goes q t) r r' h = kept_like t t (r q) (r' q) (inl refl) (h q)

-- Between quotes: the one place where the two ways differ.
closed_like : (two two' : List ℕ) → Like two two' → (b : ℕ) (r r' : State → Option (List (List ℕ))) → ((q : State) → LikeRead (r q) (r' q))
    → LikeRead (after (step two Closed b) r) (after (step two' Closed b) r')
unfolding step
closed_like two two' l b r r' h = go (eqb b comma) (eqb b quote)
  where
    go : (x y : Bool) → LikeRead (after (cond x ends (cond y (goes Quoted two) stray)) r) (after (cond x ends (cond y (goes Quoted two') stray)) r')
    go true y = then_like (r Fresh) (r' Fresh) (h Fresh)
    go false true = kept_like two two' (r Quoted) (r' Quoted) l (h Quoted)
    go false false = tt

pub fields_like : (two two' : List ℕ) → Like two two' → (s : List ℕ) (q : State) → LikeRead (fields_from two q s) (fields_from two' q s)
unfolding fields_from step
fields_like two two' l [] q = last_like q
fields_like two two' l (b ∷ s) Fresh = after_like (step two Fresh b) _ _ (fields_like two two' l s)
fields_like two two' l (b ∷ s) Plain = after_like (step two Plain b) _ _ (fields_like two two' l s)
fields_like two two' l (b ∷ s) Quoted = after_like (step two Quoted b) _ _ (fields_like two two' l s)
fields_like two two' l (b ∷ s) Closed = closed_like two two' l b _ _ (fields_like two two' l s)

pub raw_like : (l : List ℕ) → LikeRead (fields_of l) (raw_of l)
raw_like l = fields_like (quote ∷ []) (quote ∷ quote ∷ []) (inr (refl, refl)) l Fresh
