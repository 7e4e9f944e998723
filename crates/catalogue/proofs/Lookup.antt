-- Laws of looking up: what is found has the eight bytes asked for; where no number is repeated it is the only one; a part that is not wanted plays no part.
use mathlib.Core.Path.{◌≡◌, refl, sym, subst, ◌∙◌}
use mathlib.Core.Bool.{Bool, true, false, not, ◌||◌, true≢false}
use mathlib.Core.List.{List, [], ◌∷◌, ◌++◌, map}
use mathlib.Core.Logic.{inl, inr}
use Prim.Native.Nat.{ℕ, ◌≤◌}
use native.Mathlib.Omega.{arith}
use lib.ListN.{length}
use lib.Dec.{ltb}
use borrow.Author.Tests.{not-false, ltb-false, le-ltb}
use Rattle.base.proofs.Cases.{cond_cases, test_cases, both, neither}
use Rattle.base.specs.Lists.{all}
use Rattle.base.specs.Bytes.{same}
use Rattle.base.proofs.Comparing.{same_true, same_self}
use Rattle.catalogue.specs.Parts.{has, well_formed, malformed, repeated, Part, numbers, whole, unfit, lacking, Has, LookedUp, record_of}
use Rattle.catalogue.specs.Parts as Parts

-- What a look-up gives is the record of a part whose eight bytes are those asked for: the test `has` finds that part.
pub has_found : (ps : List Part) (n d : List ℕ) → Has ps n d → has (numbers ps) n ≡ true
has_found (p ∷ ps) n d (inl (e, f)) = rw (e, same_self n)
has_found [] n d x' = elim x' [ ]
has_found (p ∷ ps) n d (inr h) = cond_true (same n p.number) (has_found ps n d h)
  where
    cond_true : (b : Bool) {c : Bool} → c ≡ true → b || c ≡ true
    cond_true true e = refl
    cond_true false e = e

pub found_has : (ps : List Part) (n : List ℕ) → has (numbers ps) n ≡ true → Has ps n (record_of ps n)
found_has [] n e = absurd (true≢false (sym e))
found_has (p ∷ ps) n e =
    cond_cases (λ d. Has (p ∷ ps) n d) (same n p.number)
    (λ q. inl (sym (same_true n p.number q), refl))
    (λ q. inr (found_has ps n (rw q at e)))

-- With 22 passed, one number has one record.
pub one_record : (ps : List Part) (n d d' : List ℕ) → repeated (numbers ps) ≡ false → Has ps n d → Has ps n d' → d ≡ d'
one_record (p ∷ ps) n d d' r (inl (e, f)) (inl (e', f')) = sym f ∙ f'
one_record (p ∷ ps) n d d' r (inl (e, f)) (inr h) =
    absurd (true≢false (sym (has_found ps n d' h) ∙ rw (← e) (neither (has (numbers ps) p.number) (repeated (numbers ps)) r).0))
one_record (p ∷ ps) n d d' r (inr h) (inl (e, f)) =
    absurd (true≢false (sym (has_found ps n d h) ∙ rw (← e) (neither (has (numbers ps) p.number) (repeated (numbers ps)) r).0))
one_record (p ∷ ps) n d d' r (inr h) (inr h') = one_record ps n d d' (neither (has (numbers ps) p.number) (repeated (numbers ps)) r).1 h h'
one_record [] n d d' r x3 _ = elim x3 [ ]

pub one_look_up : (ps : List Part) {ws ds ds' : List (List ℕ)} → repeated (numbers ps) ≡ false → LookedUp ps ws ds → LookedUp ps ws ds' → ds ≡ ds'
one_look_up ps r Parts.LookedUp.none Parts.LookedUp.none = refl
one_look_up ps r (Parts.LookedUp.next {w} {d} h l) (Parts.LookedUp.next {d = d'} h' l') =
    let e = one_record ps w d d' r h h' in
    let f = one_look_up ps r l l' in
    cc

-- With 23 passed there is a look-up; without, there is none.
pub looked_up : (ps : List Part) (ws : List (List ℕ)) → lacking ps ws ≡ false → LookedUp ps ws (map (record_of ps) ws)
looked_up ps [] e = Parts.LookedUp.none
looked_up ps (w ∷ ws) e =
    let p = both (has (numbers ps) w) (all (has (numbers ps)) ws) (not-false _ e) in
    Parts.LookedUp.next (found_has ps w p.0) (looked_up ps ws (rw p.1))

pub up_looked : (ps : List Part) {ws ds : List (List ℕ)} → LookedUp ps ws ds → lacking ps ws ≡ false
up_looked ps Parts.LookedUp.none = refl
up_looked ps (Parts.LookedUp.next {w} {d} h l) = rw (has_found ps w d h) (up_looked ps l)

-- ---- a part that is not wanted, between others

module _ (p : Part) (qs : List Part) where
  has_apart : (ps : List Part) (n d : List ℕ) → (p.number ≡ n → ⊥) → Has (ps ++ p ∷ qs) n d → Has (ps ++ qs) n d
  has_apart [] n d ne (inl (e, f)) = absurd (ne e)
  has_apart [] n d ne (inr h) = h
  has_apart (q ∷ ps) n d ne (inl e) = inl e
  has_apart (q ∷ ps) n d ne (inr h) = inr (has_apart ps n d ne h)

  has_beside : (ps : List Part) (n d : List ℕ) → Has (ps ++ qs) n d → Has (ps ++ p ∷ qs) n d
  has_beside [] n d h = inr h
  has_beside (q ∷ ps) n d (inl e) = inl e
  has_beside (q ∷ ps) n d (inr h) = inr (has_beside ps n d h)

  pub up_apart : (ps : List Part) {ws ds : List (List ℕ)} → has ws p.number ≡ false → LookedUp (ps ++ p ∷ qs) ws ds → LookedUp (ps ++ qs) ws ds
  up_apart ps ne Parts.LookedUp.none = Parts.LookedUp.none
  up_apart ps ne (Parts.LookedUp.next {w} {d} {ws} h l) =
      let k = neither (same p.number w) (has ws p.number) ne in
      Parts.LookedUp.next
      (has_apart ps w d (λ e. true≢false (sym (same_self p.number) ∙ subst (λ (x : List ℕ). same p.number x ≡ false) (sym e) k.0)) h)
      (up_apart ps k.1 l)

  pub up_beside : (ps : List Part) {ws ds : List (List ℕ)} → LookedUp (ps ++ qs) ws ds → LookedUp (ps ++ p ∷ qs) ws ds
  up_beside ps Parts.LookedUp.none = Parts.LookedUp.none
  up_beside ps (Parts.LookedUp.next {w} {d} h l) = Parts.LookedUp.next (has_beside ps w d h) (up_beside ps l)

  -- What 21 and 22 pass with the part, they pass without it.
  all_apart : (t : Part → Bool) (ps : List Part) → all t (ps ++ p ∷ qs) ≡ true → all t (ps ++ qs) ≡ true
  all_apart t [] h = (both (t p) (all t qs) h).1
  all_apart t (q ∷ ps) h = let k = both (t q) (all t (ps ++ p ∷ qs)) h in rw k.0 (all_apart t ps k.1)

  formed_apart : (ps : List Part) → all well_formed (numbers (ps ++ p ∷ qs)) ≡ true → all well_formed (numbers (ps ++ qs)) ≡ true
  formed_apart [] h = (both (well_formed p.number) (all well_formed (numbers qs)) h).1
  formed_apart (q ∷ ps) h =
      let k = both (well_formed q.number) (all well_formed (numbers (ps ++ p ∷ qs))) h in
      rw k.0 (formed_apart ps k.1)

  fewer : (ps : List Part) → length (numbers (ps ++ qs)) ≤ length (numbers (ps ++ p ∷ qs))
  fewer [] = omega arith
  fewer (q ∷ ps) = omega (arith, fewer ps)

  pub unfit_apart : (ps : List Part) → unfit (ps ++ p ∷ qs) ≡ false → unfit (ps ++ qs) ≡ false
  unfit_apart ps h =
      let k = neither (malformed (numbers (ps ++ p ∷ qs))) (not (all whole (ps ++ p ∷ qs))) h in
      let m = neither (ltb 64 (length (numbers (ps ++ p ∷ qs)))) (not (all well_formed (numbers (ps ++ p ∷ qs)))) k.0 in
      let a = all_apart whole ps (not-false _ k.1) in
      let b = formed_apart ps (not-false _ m.1) in
      let small = ltb-false 64 (length (numbers (ps ++ p ∷ qs))) m.0 in
      let c : ltb 64 (length (numbers (ps ++ qs))) ≡ false = le-ltb 64 (length (numbers (ps ++ qs))) (omega (arith, fewer ps)) in
      rw (c, b, a)

  other_apart : (ps : List Part) (n : List ℕ) → has (numbers (ps ++ p ∷ qs)) n ≡ false → has (numbers (ps ++ qs)) n ≡ false
  other_apart [] n h = (neither (same n p.number) (has (numbers qs) n) h).1
  other_apart (q ∷ ps) n h = let k = neither (same n q.number) (has (numbers (ps ++ p ∷ qs)) n) h in rw k.0 (other_apart ps n k.1)

  pub repeated_apart : (ps : List Part) → repeated (numbers (ps ++ p ∷ qs)) ≡ false → repeated (numbers (ps ++ qs)) ≡ false
  repeated_apart [] h = (neither (has (numbers qs) p.number) (repeated (numbers qs)) h).1
  repeated_apart (q ∷ ps) h =
      let k = neither (has (numbers (ps ++ p ∷ qs)) q.number) (repeated (numbers (ps ++ p ∷ qs))) h in
      rw (other_apart ps q.number k.0) (repeated_apart ps k.1)

  -- Where the number wanted is another, the part neither helps nor harms.
  pub lacks_apart : (ps : List Part) (ws : List (List ℕ)) → lacking (ps ++ p ∷ qs) ws ≡ true → lacking (ps ++ qs) ws ≡ true
  lacks_apart ps ws h =
      test_cases (λ b. b ≡ true) (lacking (ps ++ qs) ws) (λ e. refl)
      (λ e. absurd (true≢false (sym h ∙ up_looked (ps ++ p ∷ qs) (up_beside ps (looked_up (ps ++ qs) ws e)))))

  pub lacks_beside : (ps : List Part) (ws : List (List ℕ)) → has ws p.number ≡ false → lacking (ps ++ qs) ws ≡ true → lacking (ps ++ p ∷ qs) ws ≡ true
  lacks_beside ps ws n h =
      test_cases (λ b. b ≡ true) (lacking (ps ++ p ∷ qs) ws) (λ e. refl)
      (λ e. absurd (true≢false (sym h ∙ up_looked (ps ++ qs) (up_apart ps n (looked_up (ps ++ p ∷ qs) ws e)))))
