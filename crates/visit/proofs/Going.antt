-- A walk over a list of jobs, or of starts, under the budget: what it has come to, and what it comes to in the end.
use mathlib.Core.Path.{◌≡◌, refl, sym, ap, ◌∙◌, subst}
use mathlib.Core.Bool.{Bool, true, false, cond, true≢false}
use mathlib.Core.List.{List, [], ◌∷◌}
use mathlib.Core.Option.{Option, none, some}
use Prim.Native.Nat.{ℕ, suc, ◌+◌, ◌-◌, ◌/◌, ◌%◌, ◌≤◌, ◌<◌}
use native.Mathlib.Numerals.{add-one}
use native.Mathlib.Omega.{arith}
use lib.Dec.{eqb}
use borrow.Author.Tests.{eq-eqb, ne_eqb}
use Rattle.base.specs.Lists.{up_from}
use Rattle.base.specs.Loops.{through}
use Rattle.schedule.specs.declared.Recorder.{Recorder}
use Rattle.schedule.specs.Visiting.{Vertex, Visited, Walk, child}
use Rattle.latest.specs.inside.Sets.{members}
use Rattle.visit.specs.declared.tally.Tally.{Tally}
use Rattle.visit.specs.inside.Lent.{energy_at, Bests, Holds, Tells, Came, done, over, ended}
use Rattle.visit.specs.inside.Stops.{visit_by}
use Rattle.visit.proofs.Visits.{through_grows, through_ended, job_walk, start_grows, job_grows, start_ended, job_ended}

-- ---- what a call answered

module _ (R : Recorder) (stop : Bool) (budget : ℕ) (l : Tally) (v : Vertex) (st : Visited) where
  pub came_done : (b : Bool) → Came R stop budget l v st b → b ≡ false → Tells R stop budget l v st
  came_done b (done t) e = t
  came_done b (over m q n) e = absurd (true≢false e)
  came_done b (ended m g q h) e = absurd (true≢false e)

-- ---- a walk

module _ (R : Recorder) (stop : Bool) (budget : ℕ) (v : Vertex) (g : ℕ → Walk) where
  -- The tally l tells what the walk has come to; it comes to `end` with the list u.
  pub record Going (l : Tally) (u : List ℕ) (end : Visited) : Type 0 where
    pub state : Visited
    pub tells : Tells R stop budget l v state
    pub ends : through g u state ≡ end

  pub going_from : (l : Tally) (u : List ℕ) (st : Visited) → Tells R stop budget l v st → Going l u (through g u st)
  going_from l u st t = record { state = st; tells = t; ends = refl }

  pub going_as : (l : Tally) (u w : List ℕ) (end : Visited) → u ≡ w → Going l u end → Going l w end
  going_as l u w end e h = subst (λ (x : List ℕ). Going l x end) e h

  pub going_end : (l : Tally) (end : Visited) → Going l [] end → Came R stop budget l v end false
  going_end l end h = done (subst (Tells R stop budget l v) h.ends h.tells)

  -- The rest of it is one call.
  pub going_rest : (l : Tally) (u : List ℕ) (end : Visited) (h : Going l u end) (w : Tally) (b : Bool) → Came R stop budget w v (through g u h.state) b → Came R stop budget w v end b
  going_rest l u end h w b c = subst (λ (z : Visited). Came R stop budget w v z b) h.ends c

  -- What no turn takes back from the count, and what no turn does once the visit has ended.
  pub record Steady : Type 0 where
    pub grows : (i : ℕ) (st : Visited) → st.count ≤ (g i st).count
    pub still : stop ≡ true → (s : List ℕ) (i : ℕ) (st : Visited) → st.best ≡ some s → g i st ≡ st

  through_still : Steady → stop ≡ true → (l : Tally) (u : List ℕ) (o : Option (List ℕ)) (st : Visited) → st.best ≡ o → Bests R l o → energy_at l < 4294967295 → through g u st ≡ st
  unfolding Bests
  through_still h e l u none st q b less = absurd (omega (arith, b, less))
  through_still h e l u (some s) st q b less = through_ended g s (h.still e s) u st q

  -- A walk that goes no further has come to its end, or its count is too large.
  came_over :
      Steady → (u : List ℕ) (l : Tally) (st end : Visited) → through g u st ≡ end → (b : Bool) → Came R stop budget l v st b → b ≡ true → Came R stop budget l v end true
  came_over h u l st end e b (done t) q = absurd (true≢false (sym q))
  came_over h u l st end e b (over m p n) q =
      over m (omega (arith, p, through_grows g h.grows u st, ap (λ (x : Visited). x.count) e)) n
  came_over h u l st end e b (ended m p less k) q =
      ended m p less (subst (Holds R budget l) (sym (through_still h p l u st.best st refl k.best less) ∙ e) k)

  module _ (l : Tally) (k : ℕ) (u : List ℕ) (end : Visited) (h : Going l (k ∷ u) end) (w : Tally) (b : Bool) (c : Came R stop budget w v (g k h.state) b) where
    pub going_next : b ≡ false → Going w u end
    going_next e = record { state = g k h.state; tells = came_done R stop budget w v (g k h.state) b c e; ends = h.ends }

    pub going_over : Steady → b ≡ true → Came R stop budget w v end true
    going_over steady e = came_over steady u w (g k h.state) end h.ends b c e

-- ---- the walks of the visit

module _ (R : Recorder) (stop : Bool) (budget m : ℕ) (v : Vertex) where
  pub start_steady : (j : ℕ) → Steady R stop budget v (λ (x : ℕ). visit_by R stop m (child R v j x))
  start_steady j = record { grows = start_grows R stop m v j; still = λ e s. start_ended R stop e s m v j }

  pub job_steady : Steady R stop budget v (job_walk R stop m v)
  job_steady = record { grows = job_grows R stop m v; still = λ e s. job_ended R stop e s m v }

-- ---- the starts of a job

pub up_next : (s c d : ℕ) → s + c ≤ d → up_from s (suc d - (s + c)) ≡ s ∷ up_from (s + 1) (suc d - (s + 1 + c))
up_next s c d h =
    let e : suc d - (s + c) ≡ suc (suc d - (s + 1 + c)) = omega arith in
    ap (up_from s) e ∙ ap (λ (n : ℕ). s ∷ up_from n (suc d - (s + 1 + c))) (sym (add-one s))

-- ---- the jobs of a set

members_next :
    (j n rest : ℕ) → j < n
    → members j (n - j) rest ≡ cond (eqb (rest % 2) 1) (j ∷ members (j + 1) (n - (j + 1)) (rest / 2)) (members (j + 1) (n - (j + 1)) (rest / 2))
unfolding members
members_next j n rest h =
    let e : n - j ≡ suc (n - (j + 1)) = omega arith in
    ap (λ (k : ℕ). members j k rest) e
    ∙ ap (λ (i : ℕ). cond (eqb (rest % 2) 1) (j ∷ members i (n - (j + 1)) (rest / 2)) (members i (n - (j + 1)) (rest / 2))) (sym (add-one j))

pub members_one : (j n rest : ℕ) → j < n → rest % 2 ≡ 1 → members j (n - j) rest ≡ j ∷ members (j + 1) (n - (j + 1)) (rest / 2)
members_one j n rest h q = members_next j n rest h ∙ ap (λ (b : Bool). cond b (j ∷ members (j + 1) (n - (j + 1)) (rest / 2)) (members (j + 1) (n - (j + 1)) (rest / 2))) (eq-eqb (rest % 2) 1 q)

pub members_not : (j n rest : ℕ) → j < n → (rest % 2 ≡ 1 → ⊥) → members j (n - j) rest ≡ members (j + 1) (n - (j + 1)) (rest / 2)
members_not j n rest h q = members_next j n rest h ∙ ap (λ (b : Bool). cond b (j ∷ members (j + 1) (n - (j + 1)) (rest / 2)) (members (j + 1) (n - (j + 1)) (rest / 2))) (ne_eqb (rest % 2) 1 q)

pub members_over : (j n rest : ℕ) → n ≤ j → members j (n - j) rest ≡ []
unfolding members
members_over j n rest h = let e : n - j ≡ 0 = omega arith in ap (λ (k : ℕ). members j k rest) e
