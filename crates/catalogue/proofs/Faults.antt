-- The first place at fault, and the test over the whole: 21, 22 or 23 is asked of all parts, or of all wanted numbers, and holds just where there is such a place.
use mathlib.Core.Path.{◌≡◌, refl, sym, subst, ◌∙◌}
use mathlib.Core.Bool.{Bool, true, false, not, ◌||◌, true≢false}
use mathlib.Core.List.{List, []}
use Rattle.std.specs.Prelude.{Option, Some, None, is_some}
use Prim.Native.Nat.{ℕ, ◌≤◌, ◌<◌}
use native.Mathlib.Decide.{dec_lt}
use native.Mathlib.Omega.{arith}
use lib.ListN.{length, take, get_or, length-map}
use lib.Seq.{get_or-take, length-take-le}
use lib.Dec.{leb, ltb}
use borrow.Author.Tests.{lt-ltb, le-ltb, leb-true, leb-false, not-true, not-false}
use Rattle.base.specs.Lists.{all}
use Rattle.base.proofs.Cases.{test_cases, neither, or_right}
use Rattle.base.proofs.Members.{all_holds, all_fails}
use Rattle.catalogue.specs.Parts.{Part, numbers, well_formed, whole, has, unfit, repeated, lacking}
use Rattle.catalogue.specs.Faults.{First, FirstOf, no_part, unfit_at, repeated_at, lacking_at}
use Rattle.catalogue.proofs.Meaning.{has_at, at_has, repeated_twice, twice_repeated}

-- There is one first place.
pub first_one : {n : ℕ} {test : ℕ → Bool} {k l : ℕ} → First n test k → First n test l → k ≡ l
first_one {n} {test} {k} {l} f g =
    elim (dec_lt k l) [
      | yes h ↦ absurd (true≢false (sym (f.here (omega (arith, g.within))) ∙ g.before k h))
      | no h ↦
          elim (dec_lt l k) [
            | yes i ↦ absurd (true≢false (sym (g.here (omega (arith, f.within))) ∙ f.before l i))
            | no i ↦ omega arith
          ]
    ]

-- What is tested place by place: it holds of the whole just where a place is found.
by_first : (n k : ℕ) (b : Bool) → k ≤ n → (k < n → b ≡ true) → (n ≤ k → b ≡ false) → b ≡ ltb k n
by_first n k b h some none =
    elim (dec_lt k n) [
      | yes l ↦ some l ∙ sym (lt-ltb k n l)
      | no l ↦ none (omega arith) ∙ sym (le-ltb k n (omega arith))
    ]

-- The same of an option: a place is found just where it holds of the whole.
pub first_some : {n : ℕ} {test : ℕ → Bool} (b : Bool) → ((k : ℕ) → First n test k → b ≡ ltb k n) → (o : Option ℕ) → FirstOf n test o → is_some o ≡ b
first_some {n} b by None f = sym (by n f ∙ le-ltb n n (omega arith))
first_some {n} b by (Some k) f = sym (by k f.1 ∙ lt-ltb k n f.0)

either : {P : Type 0} (s t : Bool) → s || t ≡ true → (s ≡ true → P) → (t ≡ true → P) → P
either true t e f g = f refl
either false t e f g = g e

or_left : (s t : Bool) → s ≡ true → s || t ≡ true
or_left s t e = rw e

-- ---- 21

module _ (ps : List Part) where
  many : length (numbers ps) ≡ length ps
  many = length-map ps (λ (p : Part). p.number)

  unfit_here : (k : ℕ) → k < length ps → unfit_at ps k ≡ true → unfit ps ≡ true
  unfit_here k h e =
      let over = ltb 64 (length (numbers ps)) in
      let badly = not (all well_formed (numbers ps)) in
      either (leb 64 k) (not (well_formed (get_or (numbers ps) k [])) || not (whole (get_or ps k no_part))) e
      (λ l. or_left (over || badly) _ (or_left over _ (lt-ltb 64 (length (numbers ps)) (omega (arith, leb-true 64 k l, many)))))
      (λ t. either (not (well_formed (get_or (numbers ps) k []))) (not (whole (get_or ps k no_part))) t
      (λ b. or_left (over || badly) _ (or_right over (rw (all_fails well_formed [] (numbers ps) k (omega (arith, many)) (not-true _ b)))))
      (λ c. or_right (over || badly) (rw (all_fails whole no_part ps k h (not-true _ c)))))

  fit_here : (i : ℕ) → unfit_at ps i ≡ false → (i < 64) × (well_formed (get_or (numbers ps) i []) ≡ true) × (whole (get_or ps i no_part) ≡ true)
  fit_here i e =
      let few = neither (leb 64 i) (not (well_formed (get_or (numbers ps) i [])) || not (whole (get_or ps i no_part))) e in
      let good = neither (not (well_formed (get_or (numbers ps) i []))) (not (whole (get_or ps i no_part))) few.1 in
      (omega (arith, leb-false 64 i few.0), not-false _ good.0, not-false _ good.1)

  unfit_nowhere : ((i : ℕ) → i < length ps → unfit_at ps i ≡ false) → unfit ps ≡ false
  unfit_nowhere none =
      let few : length (numbers ps) ≤ 64 =
      elim (dec_lt 64 (length ps)) [
        | yes l ↦ absurd (omega (arith, (fit_here 64 (none 64 l)).0))
        | no l ↦ omega (arith, many)
      ] in
      let formed = all_holds well_formed [] (numbers ps) (λ i l. (fit_here i (none i (omega (arith, many)))).1) in
      let whole-all = all_holds whole no_part ps (λ i l. (fit_here i (none i l)).2) in
      rw (le-ltb 64 (length (numbers ps)) few, formed, whole-all)

  pub first_unfit : {k : ℕ} → First (length ps) (unfit_at ps) k → unfit ps ≡ ltb k (length ps)
  first_unfit {k} f =
      by_first (length ps) k (unfit ps) f.within (λ h. unfit_here k h (f.here h)) (λ h. unfit_nowhere (λ i l. f.before i (omega arith)))

  pub some_unfit : (o : Option ℕ) → FirstOf (length ps) (unfit_at ps) o → is_some o ≡ unfit ps
  some_unfit = first_some (unfit ps) (λ k f. first_unfit f)

  -- ---- 22

  repeated_here : (k : ℕ) → k < length ps → repeated_at ps k ≡ true → repeated (numbers ps) ≡ true
  repeated_here k h e =
      let ns = numbers ps in
      let r = has_at (take k ns) (get_or ns k []) e in
      let less : r.0 < k = omega (arith, r.1, length-take-le k ns (omega (arith, many))) in
      twice_repeated ns r.0 k less (omega (arith, many)) (sym (r.2 ∙ get_or-take k ns r.0 [] less))

  repeated_nowhere : ((i : ℕ) → i < length ps → repeated_at ps i ≡ false) → repeated (numbers ps) ≡ false
  repeated_nowhere none =
      let ns = numbers ps in
      test_cases (λ b. b ≡ false) (repeated ns)
      (λ e. let r = repeated_twice ns e in
      let again : has (take r.1 ns) (get_or (take r.1 ns) r.0 []) ≡ true =
      at_has (take r.1 ns) r.0 (omega (arith, r.2, r.3, length-take-le r.1 ns (omega (arith, r.3)))) in
      let same = get_or-take r.1 ns r.0 [] r.2 ∙ r.4 in
      absurd (true≢false (sym (subst (λ (x : List ℕ). has (take r.1 ns) x ≡ true) same again) ∙ none r.1 (omega (arith, r.3, many)))))
      (λ e. refl)

  pub first_repeated : {k : ℕ} → First (length ps) (repeated_at ps) k → repeated (numbers ps) ≡ ltb k (length ps)
  first_repeated {k} f =
      by_first (length ps) k (repeated (numbers ps)) f.within (λ h. repeated_here k h (f.here h)) (λ h. repeated_nowhere (λ i l. f.before i (omega arith)))

  pub some_repeated : (o : Option ℕ) → FirstOf (length ps) (repeated_at ps) o → is_some o ≡ repeated (numbers ps)
  some_repeated = first_some (repeated (numbers ps)) (λ k f. first_repeated f)

  -- ---- 23

  pub first_lacking : (ws : List (List ℕ)) {k : ℕ} → First (length ws) (lacking_at ps ws) k → lacking ps ws ≡ ltb k (length ws)
  first_lacking ws {k} f =
      by_first (length ws) k (lacking ps ws) f.within
      (λ h. rw (all_fails (has (numbers ps)) [] ws k h (not-true _ (f.here h))))
      (λ h. rw (all_holds (has (numbers ps)) [] ws (λ i l. not-false _ (f.before i (omega arith)))))

  pub some_lacking : (ws : List (List ℕ)) (o : Option ℕ) → FirstOf (length ws) (lacking_at ps ws) o → is_some o ≡ lacking ps ws
  some_lacking ws = first_some (lacking ps ws) (λ k f. first_lacking ws f)
