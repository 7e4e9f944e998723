-- Rows without a seam (rule 86), over any machine: a row that is legal repeated for ever. With a use in it, it is the row of the pattern that begins after that
-- use, turned back.
use mathlib.Core.Path.{◌≡◌, refl, sym, ap, ◌∙◌, subst}
use mathlib.Core.Bool.{Bool, true, false}
use mathlib.Core.List.{List, [], ◌∷◌, ◌++◌, append-nil}
use Prim.Native.Nat.{ℕ, zero, suc, ◌+◌, ◌≤◌}
use native.Mathlib.Omega.{arith}
use lib.ListN.{length, take, drop, replicate, take-append-drop}
use lib.Seq.{take_at, drop_at}
use Rattle.base.specs.Sums.{total}
use Rattle.base.proofs.Additions.{total_append}
use Rattle.device.specs.Row.{row_from, round_from}
use Rattle.device.proofs.Rows.{Machine, Legal, end, used, free, Works, Best, Beats, row_legal, row_beats}
use Rattle.device.proofs.Pattern.{replicate_more}

module _ {L : Type 0} (A : Machine L) where
  -- From s the machine takes the row, for a pattern of use, to t.
  pub data Goes : A.State → List Bool → List L → A.State → Type 0 where
    over : {s : A.State} → Goes s [] [] s
    works : {s t z : A.State} {u : List Bool} {r : List L} → A.step s A.work t → Goes t u r z → Goes s (true ∷ u) (A.work ∷ r) z
    moves : {s t z : A.State} {x : L} {u : List Bool} {r : List L} → A.step s x t → Goes t u r z → Goes s (false ∷ u) (x ∷ r) z

  -- Legal repeated for ever: round after round, each from where the one before has come to.
  pub record Forever (u : List Bool) (r : List L) : Type 0 where
    pub seam : ℕ → A.State
    pub goes : (i : ℕ) → Goes (seam i) u r (seam (suc i))

  -- Some state at the seam comes back to itself.
  pub record Round (u : List Bool) (r : List L) : Type 0 where
    pub seam : A.State
    pub goes : Goes seam u r seam

  -- Then the row can be repeated for ever.
  pub round_forever : {u : List Bool} {r : List L} → Round u r → Forever u r
  round_forever R = record { seam = λ i. R.seam; goes = λ i. R.goes }

  pub goes_legal : {s t : A.State} {u : List Bool} {r : List L} → Goes s u r t → A.ends t → Legal A s u r
  goes_legal over e = end e
  goes_legal (works st g) e = used st (goes_legal g e)
  goes_legal (moves st g) e = free st (goes_legal g e)

  pub legal_goes : {s : A.State} {u : List Bool} {r : List L} → Legal A s u r → (t : A.State) × Goes s u r t × A.ends t
  legal_goes {s} (end e) = (s, over, e)
  legal_goes (used st l) = let i = legal_goes l in (i.0, works st i.1, i.2)
  legal_goes (free st l) = let i = legal_goes l in (i.0, moves st i.1, i.2)

  goes_append : {s t z : A.State} {u u' : List Bool} {r r' : List L} → Goes s u r t → Goes t u' r' z → Goes s (u ++ u') (r ++ r') z
  goes_append over h = h
  goes_append (works st g) h = works st (goes_append g h)
  goes_append (moves st g) h = moves st (goes_append g h)

  goes_length : {s t : A.State} {u : List Bool} {r : List L} → Goes s u r t → length r ≡ length u
  goes_length over = refl
  goes_length (works st g) = ap suc (goes_length g)
  goes_length (moves st g) = ap suc (goes_length g)

  record Cut (s : A.State) (u u' : List Bool) (r : List L) (z : A.State) : Type 0 where
    pub head : List L
    pub tail : List L
    pub mid : A.State
    pub whole : r ≡ head ++ tail
    pub before : Goes s u head mid
    pub after : Goes mid u' tail z

  goes_cut : {s z : A.State} (u : List Bool) {u' : List Bool} {r : List L} → Goes s (u ++ u') r z → Cut s u u' r z
  goes_cut {s} [] {r = r} g = record { head = []; tail = r; mid = s; whole = refl; before = over; after = g }
  goes_cut {s = s} {z = z} (true ∷ u) {u' = u'} (works {t = t} {r = r} st g) =
      let c = goes_cut {s = t} u g in
      record { head = A.work ∷ c.head; tail = c.tail; mid = c.mid; whole = ap {B = List L} (λ q. A.work ∷ q) c.whole; before = works st c.before; after = c.after }
  goes_cut {s = s} {z = z} (false ∷ u) {u' = u'} (moves {t = t} {x = x} {r = r} st g) =
      let c = goes_cut {s = t} u g in
      record { head = x ∷ c.head; tail = c.tail; mid = c.mid; whole = ap {B = List L} (λ q. x ∷ q) c.whole; before = moves st c.before; after = c.after }

  -- And the other way where a tick is used: after it the device is as at the start, so the second round ends as it begins.
  same_head : (h h' t t' : List L) → length h ≡ length h' → h ++ t ≡ h' ++ t' → (h ≡ h') × (t ≡ t')
  same_head h h' t t' l e =
      let a : take (length h) (h ++ t) ≡ h = take_at h t (length h) refl in
      let b : take (length h) (h' ++ t') ≡ h' = take_at h' t' (length h) (sym l) in
      let c : drop (length h) (h ++ t) ≡ t = drop_at h t (length h) refl in
      let f : drop (length h) (h' ++ t') ≡ t' = drop_at h' t' (length h) (sym l) in
      (sym a ∙ ap (take (length h)) e ∙ b, sym c ∙ ap (drop (length h)) e ∙ f)

  module _ (O : Works A) where
    first_use : {s t : A.State} {u : List Bool} {r : List L} → Goes s (true ∷ u) r t → (z : A.State) × A.step s A.work z
    first_use (works {t = z} st g) = (z, st)

    after_use : {s s' t t' : A.State} {u : List Bool} {r : List L} → Goes s (true ∷ u) r t → Goes s' (true ∷ u) r t' → Goes s' (true ∷ u) r t
    after_use (works {z = z} {u = u} {r = r} st g) h =
        let f = first_use h in
        works f.1 (subst (λ (x : A.State). Goes x u r z) (sym (O.returns st).0 ∙ (O.returns f.1).0) g)

    pub one_seam : (u u' : List Bool) {r : List L} → Forever (u ++ true ∷ u') r → Round (u ++ true ∷ u') r
    one_seam u u' F =
        let a = goes_cut u (F.goes 0) in
        let b = goes_cut u (F.goes 1) in
        let m = same_head b.head a.head b.tail a.tail (goes_length b.before ∙ sym (goes_length a.before)) (sym b.whole ∙ a.whole) in
        record { seam = F.seam 1; goes = rw b.whole (goes_append b.before (after_use (rw (← m.1) at a.after) b.after)) }

  -- The row that begins after a use, turned back so that n of its ticks come after the use.
  abbrev pub turn : ℕ → List L → List L
  turn n q = drop n q ++ A.work ∷ take n q

  turn_at : (n : ℕ) (h t : List L) → length h ≡ n → turn n (h ++ t) ≡ t ++ A.work ∷ h
  turn_at n h t e = rw (drop_at h t n e, take_at h t n e)

  pub total_turn : (w : L → ℕ) (n : ℕ) (q : List L) → total w (turn n q) ≡ w A.work + total w q
  total_turn w n q =
      let whole : total w q ≡ total w (take n q) + total w (drop n q) = sym (ap (total w) (take-append-drop n q)) ∙ total_append w (take n q) (drop n q) in
      rw (total_append w (drop n q)) (omega arith)

  module _ (w v : L → ℕ) (fill : ℕ → List L) (O : Works A) (B : Best A w v fill) where
    abbrev line : List Bool → List L
    line = row_from A.work fill 0

    -- u goes before the use and u' comes after it.
    abbrev pub turned : List Bool → List Bool → List L
    turned u u' = turn (length u') (line (u' ++ u))

    turn_back : (u u' : List Bool) (q : List L) {t : A.State} → Cut A.start u' u q t → A.ends t → Round (u ++ true ∷ u') (turn (length u') q)
    turn_back u u' q c e = record {
      seam = c.mid;
      goes = rw (c.whole, turn_at (length u') c.head c.tail (goes_length c.before)) (goes_append c.after (works (O.resumes e) c.before));
    }

    pub round_legal : (u u' : List Bool) → Round (u ++ true ∷ u') (turned u u')
    round_legal u u' = let g = legal_goes (row_legal A w v fill O B (u' ++ u)) in turn_back u u' (line (u' ++ u)) (goes_cut u' g.1) g.2

    beaten : (u u' : List Bool) (r r' : List L) {s t z : A.State} → Goes s u r t → A.step t A.work z → Goes z u' r' s
        → Beats w v (turned u u') (r ++ A.work ∷ r')
    beaten u u' r r' {s} g st h =
        let h' : Goes A.start u' r' s = subst (λ (x : A.State). Goes x u' r' s) (sym (O.returns st).0) h in
        let b = row_beats A w v fill O B (u' ++ u) (r' ++ r) (goes_legal (goes_append h' g) (O.returns st).1) in
        let wt = total_turn w (length u') (line (u' ++ u)) in
        let vt = total_turn v (length u') (line (u' ++ u)) in
        let wr = total_append w r (A.work ∷ r') in
        let vr = total_append v r (A.work ∷ r') in
        let wr' = total_append w r' r in
        let vr' = total_append v r' r in (
          omega (arith, b.0),
          λ x. omega (arith, b.1 (omega arith)),
          λ x y. rw (← b.2 (omega arith) (omega arith)) (sym (turn_at (length u') r' r (goes_length h))),
        )

    round_cut : (u u' : List Bool) (r r' : List L) {s t : A.State} → Goes s u r t → Goes t (true ∷ u') r' s → Beats w v (turned u u') (r ++ r')
    round_cut u u' r r' g (works {r = q} st h) = beaten u u' r q g st h

    pub round_beats : (u u' : List Bool) (r : List L) → Forever (u ++ true ∷ u') r → Beats w v (turned u u') r
    round_beats u u' r F = let c = goes_cut u (one_seam O u u' F).goes in rw c.whole (round_cut u u' c.head c.tail c.before c.after)

  -- Some state stays as it is by the letter x, and no other letter is as cheap.
  pub record Cheapest (w : L → ℕ) (x : L) (z : A.State) : Type 0 where
    pub loop : A.step z x z
    pub low : {s t : A.State} {y : L} → A.step s y t → w x ≤ w y
    pub only : {s t : A.State} {y : L} → A.step s y t → w y ≤ w x → y ≡ x

  -- A device that is never used sleeps throughout.
  module _ (w v : L → ℕ) (x : L) (z : A.State) (Q : Cheapest w x z) where
    idle : (n : ℕ) → Goes z (replicate n false) (replicate n x) z
    idle zero = over
    idle (suc n) = moves Q.loop (idle n)

    pub never_legal : (n : ℕ) → Round (replicate n false) (replicate n x)
    never_legal n = record { seam = z; goes = idle n }

    never : (n : ℕ) {s t : A.State} {r : List L} → Goes s (replicate n false) r t
        → (total w (replicate n x) ≤ total w r) × (total w r ≤ total w (replicate n x) → r ≡ replicate n x)
    never zero over = (omega arith, λ h. refl)
    never (suc n) (moves st g) =
        let i = never n g in (
          omega (arith, Q.low st, i.0),
          λ h.
              let a = Q.only st (omega (arith, i.0)) in
              let b = i.1 (omega (arith, Q.low st)) in
              cc,
        )

    pub never_beats : (n : ℕ) (r : List L) → Forever (replicate n false) r → Beats w v (replicate n x) r
    never_beats n r F =
        let i = never n (F.goes 0) in
        (i.0, λ h. omega (arith, ap (total v) (i.1 h)), λ h k. i.1 h)

  -- The round's row for every pattern: g unused ticks have gone by before the first use, and x is the letter of a device that is never used.
  module _ (w v : L → ℕ) (fill : ℕ → List L) (O : Works A) (B : Best A w v fill) (x : L) (z : A.State) (Q : Cheapest w x z) where
    from_legal : (g : ℕ) (u : List Bool) → Round (replicate g false ++ u) (round_from A.work fill x g u)
    from_legal g [] = rw append-nil (never_legal w v x z Q g)
    from_legal g (true ∷ u) = round_legal w v fill O B (replicate g false) u
    from_legal g (false ∷ u) = rw (replicate_more g false u) (from_legal (suc g) u)

    from_beats : (g : ℕ) (u : List Bool) (r : List L) → Forever (replicate g false ++ u) r → Beats w v (round_from A.work fill x g u) r
    from_beats g [] r F = never_beats w v x z Q g r (rw append-nil at F)
    from_beats g (true ∷ u) r F = round_beats w v fill O B (replicate g false) u r F
    from_beats g (false ∷ u) r F = from_beats (suc g) u r (rw (replicate_more g false u) at F)

    -- THEOREM. The round's row is legal repeated for ever, and beats every such row.
    pub theorem_round : (u : List Bool) → Forever u (round_from A.work fill x 0 u) × ((r : List L) → Forever u r → Beats w v (round_from A.work fill x 0 u) r)
    theorem_round u = (round_forever (from_legal 0 u), λ r F. from_beats 0 u r F)
