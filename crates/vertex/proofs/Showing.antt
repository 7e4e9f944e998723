-- The numbers that are lent show a vertex: what they add is what the vertex adds, and a job placed in them shows the child.
use mathlib.Core.Path.{◌≡◌, refl, sym, ap, ◌∙◌, subst}
use mathlib.Core.Bool.{Bool, true, false, cond, ◌&&◌}
use mathlib.Core.List.{List}
use Prim.Native.Nat.{ℕ, zero, suc, ◌+◌, ◌-◌, ◌^◌, ◌≤◌, ◌<◌}
use native.Mathlib.Omega.{arith}
use lib.Dec.{eqb}
use lib.ListN.{length}
use Rattle.base.specs.Lists.{In}
use Rattle.base.proofs.Additions.{sum_same}
use Rattle.base.proofs.Numbers.{length_nil, total_remove}
use Rattle.schedule.specs.declared.Recorder.{Recorder}
use Rattle.schedule.specs.Quantities.{jobs, run, deadline, uses, Valid}
use Rattle.schedule.specs.Listing.{place}
use Rattle.schedule.specs.Visiting.{Vertex, child, earliest, last_end, since, ticks}
use Rattle.schedule.proofs.Tree.{child_reached}
use Rattle.schedule.proofs.Gaps.{last_by, last_snoc}
use Rattle.schedule.proofs.Rounds.{since_by, since_place}
use Rattle.latest.specs.inside.Sets.{has}
use Rattle.latest.specs.inside.Latest.{jobs_of}
use Rattle.latest.specs.inside.Sparing.{set_of}
use Rattle.latest.proofs.Members.{members_none}
use Rattle.latest.proofs.Feasibility.{one_of, of_set}
use Rattle.latest.proofs.Tabled.{power_few}
use Rattle.latest.proofs.Spared.{reached_set, set_without}
use Rattle.keys.specs.inside.Keys.{leads, closes}
use Rattle.value.specs.inside.Leasts.{lead_of, close_of}
use Rattle.vertex.specs.inside.Shown.{end_at, first_at, ahead_at, load_at, fresh, lead_by, close_by, end_by, leads_by, closes_by, ends_by, Ordered, Placed, Shows}

-- ---- over plain tests and numbers

-- A test of code, and the same in the definitions' words.
pub both : (b c : Bool) → cond b c false ≡ (b && c)
both true c = refl
both false c = refl

first_of_two : (u z : Bool) (s f : ℕ) → cond u (cond z s f) f ≡ cond (u && z) s f
first_of_two true z s f = refl
first_of_two false z s f = refl

pub some_suc : (m : ℕ) → (m ≡ 0 → ⊥) → (n : ℕ) × (m ≡ suc n)
some_suc zero ne = absurd (ne refl)
some_suc (suc n) ne = (n, refl)

-- ---- the numbers

module _ (R : Recorder) (valid : Valid R) (l : List ℕ) where
  pub ordered_later : (t u : ℕ) → Ordered R l t → t ≤ u → u ≤ R.horizon → Ordered R l u
  ordered_later t u h q b = record { long = h.long; by = b; ends = λ k c. omega (arith, h.ends k c); firsts = h.firsts }

  module _ (a m : ℕ) (v : Vertex) (h : Shows R l a m v) where
    pub shown_ordered : Ordered R l v.time
    shown_ordered =
        record {
          long = h.long;
          by = h.reached.time;
          ends = λ k b. omega (arith, h.ends k b, last_by R k v.placed 0 0 v.time h.reached.in_turn (omega arith));
          firsts = λ k b. omega (arith, h.ends k b, h.firsts k b, since_by R k v.placed v.time h.reached.in_turn);
        }

    -- What they add.
    lead_shown : (j s k : ℕ) → k < R.devices.count → lead_by R l j s k ≡ leads R k v.placed j s
    unfolding lead_by leads
    lead_shown j s k b = rw (h.ends k b, both R.round (eqb (last_end R k 0 v.placed) 0))

    close_shown : (k : ℕ) → k < R.devices.count → close_by R l k ≡ closes R k v.placed
    unfolding close_by closes
    close_shown k b = rw (h.ends k b, h.firsts k b, both R.round (eqb (last_end R k 0 v.placed) 0))

    pub leads_shown : (j s : ℕ) → leads_by R l j s ≡ lead_of R v j s
    leads_shown j s = sum_same R.devices.count (lead_by R l j s) (λ k. leads R k v.placed j s) (lead_shown j s)

    pub closes_shown : closes_by R l ≡ close_of R v
    closes_shown = sum_same R.devices.count (close_by R l) (λ k. closes R k v.placed) close_shown

    -- The set.
    pub jobs_shown : jobs_of R a ≡ v.unplaced
    jobs_shown = ap (jobs_of R) (sym h.set) ∙ (reached_set R valid m v h.reached).1

    pub set_few : (a < 2 ^ jobs R) × (a < 65536)
    set_few =
        let few : a < 2 ^ jobs R = subst (λ (n : ℕ). n < 2 ^ jobs R) h.set (reached_set R valid m v h.reached).0 in
        (few, omega (arith, few, power_few (jobs R) valid.few_jobs))

    pub set_none : a ≡ 0 → m ≡ 0
    set_none e = sym h.reached.size ∙ ap length (sym jobs_shown ∙ ap (jobs_of R) e ∙ members_none 0 (jobs R))

    pub set_some : 0 < a → (n : ℕ) × (m ≡ suc n)
    set_some q =
        some_suc m (λ z.
        let none : set_of v.unplaced ≡ 0 = ap (λ (u : List ℕ). set_of u) (length_nil v.unplaced (h.reached.size ∙ z)) in
        omega (arith, q, h.set, none))

    pub job_in_lem : (j : ℕ) → j < jobs R → has a j ≡ true → In j v.unplaced
    job_in_lem j b q = subst (In j) jobs_shown (one_of R a j b q)

    pub in_job : (j : ℕ) → In j v.unplaced → (j < jobs R) × (has a j ≡ true)
    in_job j i = of_set R a j (subst (In j) (sym jobs_shown) i)

    -- There is room for what a job takes off.
    pub ticks_shown : (j : ℕ) → In j v.unplaced → (k : ℕ) → k < R.devices.count → ticks R k j ≤ ahead_at l k
    ticks_shown j i k b = omega (arith, h.aheads k b, total_remove (ticks R k) j v.unplaced i)

    -- Of the running times too.
    pub load_shown : (j : ℕ) → In j v.unplaced → run R j ≤ load_at l
    load_shown j i = omega (arith, h.load, total_remove (run R) j v.unplaced i)

  -- A job more: the end of each device's last use, the start of its first, and what it adds if the job is the last.
  module _ (m : ℕ) (a : ℕ) (v : Vertex) (h : Shows R l a m v) (j s : ℕ) where
    end_child : (k : ℕ) → k < R.devices.count → cond (uses R k j) (s + run R j) (end_at l k) ≡ last_end R k 0 (child R v j s).placed
    end_child k b = ap (λ (x : ℕ). cond (uses R k j) (s + run R j) x) (h.ends k b) ∙ sym (last_snoc R k v.placed (place j s))

    first_child : (k : ℕ) → k < R.devices.count → cond (uses R k j) (cond (fresh R l k) s (first_at l k)) (first_at l k) ≡ since R k (child R v j s).placed
    first_child k b =
        rw (h.ends k b, h.firsts k b, both R.round (eqb (last_end R k 0 v.placed) 0), since_place R k v.placed (place j s) v.time h.reached.in_turn)
        (first_of_two (uses R k j) (R.round && eqb (last_end R k 0 v.placed) 0) s (since R k v.placed))

    end_shown : (k : ℕ) → k < R.devices.count → end_by R l j s k ≡ closes R k (child R v j s).placed
    unfolding end_by closes
    end_shown k b =
        rw (end_child k b, first_child k b, both R.round (eqb (last_end R k 0 (child R v j s).placed) 0))

    pub ends_shown : ends_by R l j s ≡ close_of R (child R v j s)
    ends_shown = sum_same R.devices.count (end_by R l j s) (λ k. closes R k (child R v j s).placed) end_shown

  pub child_shown :
      (a m : ℕ) (v : Vertex) → Shows R l a (suc m) v → (j s : ℕ) → In j v.unplaced → earliest R v.time j ≤ s → s + run R j ≤ deadline R j
      → (w : List ℕ) → Placed R l w j s → Shows R w (a - 2 ^ j) m (child R v j s)
  child_shown a m v h j s i early late w p =
      record {
        reached = child_reached R valid m v h.reached j s i (early, late);
        long = p.long;
        set = set_without j v.unplaced i ∙ ap (λ (x : ℕ). x - 2 ^ j) h.set;
        ends = λ k b. p.ends k b ∙ end_child (suc m) a v h j s k b;
        firsts = λ k b. p.firsts k b ∙ first_child (suc m) a v h j s k b;
        aheads = λ k b. omega (arith, p.aheads k b, h.aheads k b, total_remove (ticks R k) j v.unplaced i);
        load = omega (arith, p.load, h.load, total_remove (run R) j v.unplaced i);
      }
