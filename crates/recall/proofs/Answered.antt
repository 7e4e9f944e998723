-- What is asked of a vertex is answered for every vertex that the same numbers show, and what is seen of one of them may be kept.
use mathlib.Core.Path.{◌≡◌, refl, sym, subst}
use mathlib.Core.List.{List}
use mathlib.Core.Option.{Option, none, some}
use mathlib.Core.Logic.{inl, inr}
use Rattle.std.proofs.lemmas.Option.{IfSome_then}
use Prim.Native.Nat.{ℕ, suc, ◌+◌, ◌<◌}
use native.Mathlib.Omega.{arith}
use Rattle.schedule.specs.declared.Recorder.{Recorder}
use Rattle.schedule.specs.Visiting.{Vertex, Visited, plan_energy, choices, floor, visit}
use Rattle.extras.specs.inside.Tabled.{Tabled, cap_at}
use Rattle.stored.specs.declared.Key.{Key}
use Rattle.vertex.specs.inside.Shown.{Shows, ShownAt}
use Rattle.stored.specs.inside.Naming.{key_by}
use Rattle.stored.specs.inside.Naming.{Named}
use Rattle.stored.proofs.Keyed.{key_named}
use Rattle.recall.specs.declared.memory.Spot.{Spot}
use Rattle.recall.specs.inside.Slack.{more, Slack}
use Rattle.recall.specs.inside.Entries.{slacked_by, Right, Looked, kept}
use Rattle.recall.specs.inside.Counts.{Counts}
use Rattle.recall.specs.inside.Asks.{Asks}
use Rattle.recall.proofs.Falling.{Falls, Less, choices_falls, visit_falls}
use Rattle.recall.proofs.Recalling.{named_head, named_counts}
use Rattle.recall.proofs.Kept.{right_looked, right_kept}

module _ (R : Recorder) (ex l : List ℕ) (tabled : Tabled R ex) (a time : ℕ) where
  shown_named : (m : ℕ) (u : Vertex) → Shows R l a m u → u.time ≡ time → Named R (cap_at ex) (key_by R (cap_at ex) l a time) u
  shown_named m u h t =
      subst (λ (n : ℕ). Named R (cap_at ex) (key_by R (cap_at ex) l a n) u) t (key_named R tabled.valid (cap_at ex) tabled.caps tabled.cap_most l a m u h)

  -- The head of the key leaves room for the slack.
  pub held_head : ShownAt R l a time → (key_by R (cap_at ex) l a time).head < 536870912
  held_head h =
      named_head R tabled.valid (cap_at ex) h.left h.vertex h.shows.reached (key_by R (cap_at ex) l a time)
      (shown_named h.left h.vertex h.shows h.time)

  -- What is found is right.
  pub looked_asks :
      (memory : List ℕ) → Right (Counts R (cap_at ex)) memory → (slack : ℕ) (q : Key) → q ≡ slacked_by (key_by R (cap_at ex) l a time) slack → (spot : Spot)
      → Looked memory q spot → Asks R (cap_at ex) l a time slack (record { key = q; slot = spot.slot; count = spot.count })
  unfolding Counts
  looked_asks memory right slack q q-is spot looked =
      record {
        key = q-is;
        told = IfSome_then spot.count (right_looked (Counts R (cap_at ex)) memory right q spot looked)
            (λ n c m u h t st s. c.1 c.0 (key_by R (cap_at ex) l a time) slack q-is m u h.reached (shown_named (suc m) u h t) st s);
      }

  -- What is seen of one vertex may be kept.
  pub seen_kept :
      (memory : List ℕ) → Right (Counts R (cap_at ex)) memory → (slack : ℕ) (q : Key) → q ≡ slacked_by (key_by R (cap_at ex) l a time) slack → (m : ℕ) (u : Vertex)
      → Shows R l a (suc m) u → u.time ≡ time → (st : Visited) → Slack R (floor R u) st.best slack → (n : ℕ) → n < 4294967296
      → choices R (visit R m) u st ≡ more n st → (i : ℕ) → Right (Counts R (cap_at ex)) (kept memory i q n)
  seen_kept memory right slack q q-is m u h t st s n few seen i =
      right_kept (Counts R (cap_at ex)) memory right q i n few
      (subst (λ (k : Key). Counts R (cap_at ex) k n) (sym q-is)
      (named_counts R tabled.valid (cap_at ex) tabled.caps tabled.cap_most m u h.reached (key_by R (cap_at ex) l a time) (shown_named (suc m) u h t) slack st s n
      seen))

-- ---- whether the best stayed

-- A best that costs what it did is the same, since it would have fallen.
unfoldable pub Costs : Recorder → Option (List ℕ) → Option (List ℕ) → Type 0
Costs R none none = Unit {0}
Costs R none (some t) = ⊥
Costs R (some s) none = ⊥
Costs R (some s) (some t) = plan_energy R t ≡ plan_energy R s

module _ (R : Recorder) where
  pub best_stays : (b c : Option (List ℕ)) → Falls R b c → Costs R b c → c ≡ b
  unfolding Costs Less
  best_stays b c (inl e) h = e
  best_stays none none (inr k) h = refl
  best_stays none (some t) (inr k) h = absurd h
  best_stays (some s) none (inr k) h = absurd h
  best_stays (some s) (some t) (inr k) h = absurd (omega arith)

  -- So the choices of a vertex that leave the cost of the best have only counted.
  pub choices_stay :
      (m : ℕ) (u : Vertex) (st : Visited) (n : ℕ) → (choices R (visit R m) u st).count ≡ st.count + n → Costs R st.best (choices R (visit R m) u st).best
      → choices R (visit R m) u st ≡ more n st
  choices_stay m u st n e c =
      both (choices R (visit R m) u st) e
      (best_stays st.best (choices R (visit R m) u st).best (choices_falls R (visit R m) (visit_falls R m) u st) c)
    where
      both : (v : Visited) → v.count ≡ st.count + n → v.best ≡ st.best → v ≡ more n st
      both v p q = go v.count v.best p q
        where
          go : (k : ℕ) (o : Option (List ℕ)) → k ≡ st.count + n → o ≡ st.best → ◌≡◌ {A = Visited} (record { count = k; best = o }) (more n st)
          go k o p q = rw (p, q)
