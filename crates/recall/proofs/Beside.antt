-- THE LAW OF MEMORY. Two vertices with the same key are visited side by side, with bests that lie as far above their floors: they count the same, and their bests stay
-- as far above. So where the one leaves the best and counts n, the other does.
use mathlib.Core.Path.{◌≡◌, refl, sym, ap, ◌∙◌, subst}
use mathlib.Core.Bool.{Bool, true, false, cond}
use mathlib.Core.Option.{Option, none, some}
use mathlib.Core.List.{List, [], ◌∷◌}
use mathlib.Core.Logic.{inl, inr}
use Prim.Native.Nat.{ℕ, zero, suc, ◌+◌, ◌≤◌}
use native.Mathlib.Omega.{arith}
use lib.Dec.{leb, ltb}
use Rattle.base.specs.Lists.{In}
use Rattle.base.specs.Loops.{through}
use Rattle.base.specs.Sums.{sum}
use Rattle.base.proofs.Additions.{sum_same}
use Rattle.base.proofs.Cases.{test_cases, leb_same, ltb_same}
use Rattle.schedule.specs.declared.Recorder.{Recorder}
use Rattle.schedule.specs.Quantities.{deadline, run, Valid}
use Rattle.schedule.specs.Visiting.{Vertex, Visited, Walk, counted, child, starts_of, earliest, starts, choices, cut_a, plan_energy, better, floor, cut_b, complete, examine, visit}
use Rattle.schedule.proofs.Tree.{Reached, child_reached, in_starts}
use Rattle.keys.specs.inside.Keys.{leads, closes, Caps, SameKey}
use Rattle.keys.proofs.Rises.{floor_uncut, energy_complete}
use Rattle.keys.proofs.Laws.{leads_same, closes_same, key_child}
use Rattle.recall.specs.inside.Slack.{more, Slack}
use Rattle.recall.proofs.Falling.{Falls, Less, choices_falls, visit_falls}

-- Two states side by side through the same turns.
through_beside :
    (P : Visited → Visited → Type 0) (g h : ℕ → Walk) (l : List ℕ) → ((k : ℕ) → In k l → (u u' : Visited) → P u u' → P (g k u) (h k u'))
    → (u u' : Visited) → P u u' → P (through g l u) (through h l u')
through_beside P g h [] turn u u' p = p
through_beside P g h (k ∷ l) turn u u' p = through_beside P g h l (λ i m. turn i (inr m)) (g k u) (h k u') (turn k (inl refl) u u' p)

module _ (R : Recorder) where
  -- Two bests lie as far above the floors f and g: there is neither, or each lies as far above its floor as the other (or as far below).
  unfoldable pub Level : ℕ → ℕ → Option (List ℕ) → Option (List ℕ) → Type 0
  Level f g none none = Unit {0}
  Level f g none (some t) = ⊥
  Level f g (some s) none = ⊥
  Level f g (some s) (some t) = plan_energy R s + g ≡ plan_energy R t + f

  level_up : (f g a : ℕ) (b c : Option (List ℕ)) → Level f g b c → Level (f + a) (g + a) b c
  unfolding Level
  level_up f g a none none h = tt
  level_up f g a none (some t) h = h
  level_up f g a (some s) none h = h
  level_up f g a (some s) (some t) h = omega arith

  level_down : (f g a : ℕ) (b c : Option (List ℕ)) → Level (f + a) (g + a) b c → Level f g b c
  unfolding Level
  level_down f g a none none h = tt
  level_down f g a none (some t) h = h
  level_down f g a (some s) none h = h
  level_down f g a (some s) (some t) h = omega arith

  -- The same slack above both floors.
  pub slack_level : (f g x : ℕ) (b c : Option (List ℕ)) → Slack R f b x → Slack R g c x → Level f g b c
  unfolding Slack Level
  slack_level f g x none none h k = tt
  slack_level f g x none (some t) h k = absurd (omega arith)
  slack_level f g x (some s) none h k = absurd (omega arith)
  slack_level f g x (some s) (some t) h k = omega arith

  -- Then a schedule that costs as much above either floor takes the place of both or of neither,
  less_same : (p q p' q' : ℕ) → p + q' ≡ p' + q → ltb p q ≡ ltb p' q'
  less_same p q p' q' e = ltb_same p q p' q' (λ l. omega (arith, e, l)) (λ l. omega (arith, e, l))

  better_level :
      (f g x : ℕ) (b c : Option (List ℕ)) (s t : List ℕ) → plan_energy R s ≡ f + x → plan_energy R t ≡ g + x → Level f g b c
      → Level f g (better R b s) (better R c t)
  unfolding better Level
  better_level f g x none none s t e e' h = omega arith
  better_level f g x none (some c) s t e e' h = absurd h
  better_level f g x (some b) none s t e e' h = absurd h
  better_level f g x (some b) (some c) s t e e' h =
      rw (less_same (plan_energy R s) (plan_energy R b) (plan_energy R t) (plan_energy R c) (omega arith))
      (test_cases (λ (y : Bool). Level f g (cond y (some s) (some b)) (cond y (some t) (some c))) (ltb (plan_energy R t) (plan_energy R c))
      (λ q. omega arith) (λ q. h))

  -- and cut B cuts at both or at neither.
  cut_b_level : (v w : Vertex) (b c : Option (List ℕ)) → Level (floor R v) (floor R w) b c → cut_b R v b ≡ cut_b R w c
  unfolding cut_b Level
  cut_b_level v w none none h = refl
  cut_b_level v w none (some t) h = absurd h
  cut_b_level v w (some s) none h = absurd h
  cut_b_level v w (some s) (some t) h = no_more (plan_energy R s) (floor R v) (plan_energy R t) (floor R w) h
    where
      no_more : (p q p' q' : ℕ) → p + q' ≡ p' + q → leb p q ≡ leb p' q'
      no_more p q p' q' e = leb_same p q p' q' (λ l. omega (arith, e, l)) (λ l. omega (arith, e, l))

  -- Cut A asks for the time and the unplaced jobs alone; what it cuts is counted.
  cut_a_same : (v w : Vertex) → v.time ≡ w.time → v.unplaced ≡ w.unplaced → cut_a R v ≡ cut_a R w
  unfolding cut_a
  cut_a_same v w e f = rw (e, f)

  visit_cut : (m : ℕ) (v : Vertex) (st : Visited) → cut_a R v ≡ true → visit R m v st ≡ counted st
  unfolding visit complete examine
  visit_cut zero v st q = rw q
  visit_cut (suc m) v st q = rw q

  -- From n vertices and from n' the two have counted the same, and their bests are level.
  pub record Beside (f g n n' : ℕ) (u u' : Visited) : Type 0 where
    pub count : u.count + n' ≡ u'.count + n
    pub best : Level f g u.best u'.best

  both_counted : (f g n n' : ℕ) (u u' : Visited) → Beside f g n n' u u' → Beside f g n n' (counted u) (counted u')
  both_counted f g n n' u u' h = record { count = omega (arith, h.count); best = h.best }

  module _ (valid : Valid R) (cap : ℕ → ℕ) (caps : Caps R cap) where
    complete_beside :
        (v w : Vertex) → Reached R 0 v → Reached R 0 w → SameKey R cap v w → (n n' : ℕ) (u u' : Visited) → Beside (floor R v) (floor R w) n n' u u'
        → Beside (floor R v) (floor R w) n n' (complete R v u) (complete R w u')
    unfolding complete
    complete_beside v w h h' same n n' u u' b =
        let close = sum_same R.devices.count (λ k. closes R k v.placed) (λ k. closes R k w.placed)
        (λ k l. closes_same R cap v w same h.in_turn h'.in_turn caps k l h.time) in
        rw (cut_a_same v w same.time same.unplaced)
        (test_cases (λ (y : Bool). Beside (floor R v) (floor R w) n n'
        (cond y (counted u) (record { count = suc u.count; best = better R u.best (starts_of R v) }))
        (cond y (counted u') (record { count = suc u'.count; best = better R u'.best (starts_of R w) }))) (cut_a R w)
        (λ q. both_counted (floor R v) (floor R w) n n' u u' b)
        (λ q. record {
          count = omega (arith, b.count);
          best = better_level (floor R v) (floor R w) (sum R.devices.count (λ k. closes R k v.placed)) u.best u'.best (starts_of R v) (starts_of R w)
              (energy_complete R valid v h) (energy_complete R valid w h' ∙ ap (λ (y : ℕ). floor R w + y) (sym close)) b.best;
        }))

    -- Where the visits of children are so, the choices are.
    abbrev Alike : ℕ → Type 0
    Alike m =
        (v w : Vertex) → Reached R m v → Reached R m w → SameKey R cap v w → (n n' : ℕ) (u u' : Visited) → Beside (floor R v) (floor R w) n n' u u'
        → Beside (floor R v) (floor R w) n n' (visit R m v u) (visit R m w u')

    module _ (m : ℕ) (alike : Alike m) (v w : Vertex) (h : Reached R (suc m) v) (h' : Reached R (suc m) w) (same : SameKey R cap v w) (n n' : ℕ) where
      child_beside :
          (j x : ℕ) → In j v.unplaced → (earliest R v.time j ≤ x) × (x + run R j ≤ deadline R j) → (u u' : Visited)
          → Beside (floor R v) (floor R w) n n' u u' → Beside (floor R v) (floor R w) n n' (visit R m (child R v j x) u) (visit R m (child R w j x) u')
      child_beside j x i fits u u' b =
          test_cases (λ (y : Bool). cut_a R (child R v j x) ≡ y → Beside (floor R v) (floor R w) n n' (visit R m (child R v j x) u) (visit R m (child R w j x) u'))
          (cut_a R (child R v j x)) (λ _ q. cut q) (λ _ q. uncut q) refl
        where
          mine : Reached R m (child R v j x)
          mine = child_reached R valid m v h j x i fits

          i' : In j w.unplaced
          i' = rw same.unplaced at i

          fits' : (earliest R w.time j ≤ x) × (x + run R j ≤ deadline R j)
          fits' = (rw same.time at fits.0, fits.1)

          other : Reached R m (child R w j x)
          other = child_reached R valid m w h' j x i' fits'

          in_time : x + run R j ≤ R.horizon
          in_time = omega (arith, fits.1, valid.ends j (h.known j i))

          key : SameKey R cap (child R v j x) (child R w j x)
          key = key_child R cap v w same h.in_turn h'.in_turn j x i (omega (arith, fits.0)) in_time

          cut : cut_a R (child R v j x) ≡ true → Beside (floor R v) (floor R w) n n' (visit R m (child R v j x) u) (visit R m (child R w j x) u')
          cut q =
              rw (
                visit_cut m (child R v j x) u q,
                visit_cut m (child R w j x) u' (sym (cut_a_same (child R v j x) (child R w j x) key.time key.unplaced) ∙ q),
              )
              (both_counted (floor R v) (floor R w) n n' u u' b)

          uncut : cut_a R (child R v j x) ≡ false → Beside (floor R v) (floor R w) n n' (visit R m (child R v j x) u) (visit R m (child R w j x) u')
          uncut q =
              let a = sum R.devices.count (λ k. leads R k v.placed j x) in
              let lead = sum_same R.devices.count (λ k. leads R k v.placed j x) (λ k. leads R k w.placed j x)
              (λ k l. leads_same R cap v w same h.in_turn h'.in_turn caps k l j x i fits.0 (omega (arith, in_time))) in
              let up = floor_uncut R valid (suc m) v h j x i (omega (arith, fits.0)) q in
              let up' = floor_uncut R valid (suc m) w h' j x i' (omega (arith, fits'.0))
              (sym (cut_a_same (child R v j x) (child R w j x) key.time key.unplaced) ∙ q)
              ∙ ap (λ (y : ℕ). floor R w + y) (sym lead) in
              let below = alike (child R v j x) (child R w j x) mine other key n n' u u'
              (rw (up, up') (record { count = b.count; best = level_up (floor R v) (floor R w) a u.best u'.best b.best })) in
              record {
                count = below.count;
                best = level_down (floor R v) (floor R w) a (visit R m (child R v j x) u).best (visit R m (child R w j x) u').best (rw (up, up') at below.best);
              }

      choices_by :
          (u u' : Visited) → Beside (floor R v) (floor R w) n n' u u' → Beside (floor R v) (floor R w) n n' (choices R (visit R m) v u) (choices R (visit R m) w u')
      unfolding choices
      choices_by u u' b =
          subst (λ (l : List ℕ). Beside (floor R v) (floor R w) n n' (choices R (visit R m) v u)
          (through (λ j. through (λ x. visit R m (child R w j x)) (starts R w.time j)) l u')) same.unplaced
          (subst (λ (t : ℕ). Beside (floor R v) (floor R w) n n' (choices R (visit R m) v u)
          (through (λ j. through (λ x. visit R m (child R w j x)) (starts R t j)) v.unplaced u')) same.time
          (through_beside (Beside (floor R v) (floor R w) n n') (λ j. through (λ x. visit R m (child R v j x)) (starts R v.time j))
          (λ j. through (λ x. visit R m (child R w j x)) (starts R v.time j)) v.unplaced
          (λ j i. through_beside (Beside (floor R v) (floor R w) n n') (λ x. visit R m (child R v j x)) (λ x. visit R m (child R w j x)) (starts R v.time j)
          (λ x i'. child_beside j x i (in_starts R v.time j x i')))
          u u' b))

    visit_beside : (m : ℕ) → Alike m
    unfolding visit examine
    visit_beside zero v w h h' same n n' u u' b = complete_beside v w h h' same n n' u u' b
    visit_beside (suc m) v w h h' same n n' u u' b =
        rw (cut_a_same v w same.time same.unplaced, cut_b_level v w u.best u'.best b.best)
        (test_cases (λ (y : Bool). Beside (floor R v) (floor R w) n n'
        (cond y (counted u) (cond (cut_b R w u'.best) (counted u) (choices R (visit R m) v (counted u))))
        (cond y (counted u') (cond (cut_b R w u'.best) (counted u') (choices R (visit R m) w (counted u'))))) (cut_a R w)
        (λ q. both_counted (floor R v) (floor R w) n n' u u' b)
        (λ q. test_cases (λ (y : Bool). Beside (floor R v) (floor R w) n n'
        (cond y (counted u) (choices R (visit R m) v (counted u)))
        (cond y (counted u') (choices R (visit R m) w (counted u')))) (cut_b R w u'.best)
        (λ p. both_counted (floor R v) (floor R w) n n' u u' b)
        (λ p. choices_by m (visit_beside m) v w h h' same n n' (counted u) (counted u') (both_counted (floor R v) (floor R w) n n' u u' b))))

    pub choices_beside :
        (m : ℕ) (v w : Vertex) → Reached R (suc m) v → Reached R (suc m) w → SameKey R cap v w → (n n' : ℕ) (u u' : Visited)
        → Beside (floor R v) (floor R w) n n' u u' → Beside (floor R v) (floor R w) n n' (choices R (visit R m) v u) (choices R (visit R m) w u')
    choices_beside m v w h h' same n n' = choices_by m (visit_beside m) v w h h' same n n'

    -- A best that is level with what it was is the same, since it would have fallen.
    level_stays : (f g : ℕ) (b c c' : Option (List ℕ)) → Level f g b c → Level f g b c' → Falls R c c' → c' ≡ c
    unfolding Level Less
    level_stays f g b c c' h h' (inl e) = e
    level_stays f g none none none h h' (inr k) = refl
    level_stays f g none none (some t) h h' (inr k) = absurd h'
    level_stays f g none (some s) c' h h' (inr k) = absurd h
    level_stays f g (some b) none c' h h' (inr k) = absurd h
    level_stays f g (some b) (some s) none h h' (inr k) = absurd h'
    level_stays f g (some b) (some s) (some t) h h' (inr k) = absurd (omega arith)

    -- What the choices of v count where they leave the best, those of w count, and leave it.
    pub choices_counted :
        (m : ℕ) (v w : Vertex) → Reached R (suc m) v → Reached R (suc m) w → SameKey R cap v w → (x : ℕ) (st st' : Visited) → Slack R (floor R v) st.best x
        → Slack R (floor R w) st'.best x → (n : ℕ) → choices R (visit R m) v st ≡ more n st → choices R (visit R m) w st' ≡ more n st'
    choices_counted m v w h h' same x st st' s s' n e =
        let level = slack_level (floor R v) (floor R w) x st.best st'.best s s' in
        let b = choices_beside m v w h h' same st.count st'.count st st' (record { count = omega arith; best = level }) in
        finish (choices R (visit R m) w st') (omega (arith, b.count, ap (λ (u : Visited). u.count) e))
        (level_stays (floor R v) (floor R w) st.best st'.best (choices R (visit R m) w st').best level
        (subst (λ (o : Option (List ℕ)). Level (floor R v) (floor R w) o (choices R (visit R m) w st').best) (ap (λ (u : Visited). u.best) e) b.best)
        (choices_falls R (visit R m) (visit_falls R m) w st'))
      where
        finish : (u : Visited) → u.count ≡ st'.count + n → u.best ≡ st'.best → u ≡ more n st'
        finish u p q = go u.count u.best p q
          where
            go : (c : ℕ) (o : Option (List ℕ)) → c ≡ st'.count + n → o ≡ st'.best → ◌≡◌ {A = Visited} (record { count = c; best = o }) (more n st')
            go c o p q = rw (p, q)
