-- The loop over the jobs: `best` answers for those passed, and they entered no more vertices than each may.
use mathlib.Core.Path.{◌≡◌, subst}
use mathlib.Core.Bool.{true, false}
use mathlib.Core.List.{List}
use mathlib.Core.Option.{Option, none}
use mathlib.Core.Bool.{cond}
use Prim.Native.Nat.{ℕ, suc, ◌+◌, ◌-◌, ◌*◌, ◌≤◌, ◌<◌}
use native.Mathlib.Nat.{mul-le-mul_right}
use native.Mathlib.Numerals.{add-one}
use native.Mathlib.Omega.{arith}
use lib.Pow.{pow_pos}
use Rattle.base.specs.Lists.{up_from}
use Rattle.schedule.specs.declared.Recorder.{Recorder}
use Rattle.schedule.specs.Quantities.{jobs, Valid}
use Rattle.schedule.specs.Visiting.{Vertex}
use Rattle.latest.specs.inside.Sets.{has}
use Rattle.latest.proofs.Members.{has_le}
use Rattle.value.specs.inside.Options.{lesser, least_in, Answers}
use Rattle.value.specs.inside.Leasts.{via_child, starts_to}
use Rattle.value.proofs.Waits.{least_to}
use Rattle.value.proofs.Tries.{ChosenTo, choosing_start, choosing_placed, choosing_tried, choosing_done}
use Rattle.least.specs.inside.Shown.{Shows, ShownAt}
use Rattle.least.specs.Effort.{most_of}
use Rattle.least.specs.inside.Outcome.{Small}
use Rattle.vertex.proofs.Showing.{set_some, job_in_lem, in_job}

-- A vertex that is held with jobs unplaced.
pub record Open (R : Recorder) (l : List ℕ) (a t : ℕ) : Type 0 where
  pub left : ℕ
  pub vertex : Vertex
  pub shows : Shows R l a (suc left) vertex
  pub time : vertex.time ≡ t

pub held_open : (R : Recorder) → Valid R → (l : List ℕ) (a t : ℕ) → ShownAt R l a t → 0 < a → Open R l a t
held_open R valid l a t h q =
    let n = set_some R valid l a h.left h.vertex h.shows q in
    record {
      left = n.0;
      vertex = h.vertex;
      shows = subst (λ (m : ℕ). Shows R l a m h.vertex) n.1 h.shows;
      time = h.time;
    }

pub has_some : (a j : ℕ) → has a j ≡ true → 0 < a
has_some a j h = omega (arith, has_le a j h, pow_pos j)

-- The starts of job i before u.
abbrev pub before : Recorder → ℕ → Vertex → ℕ → ℕ → Option ℕ
before R m v u i = least_in (via_child R m v i) (starts_to R v.time u i)

module _ (R : Recorder) (l : List ℕ) (a time until limit budget start : ℕ) where
  -- What `tries` answers for job j, after e vertices and with the least `given` so far.
  abbrev pub Turn : ℕ → ℕ → ℕ → ℕ → ℕ → Type 0
  Turn j given e f x =
      (m : ℕ) (u : Vertex) (o : Option ℕ) → Shows R l a (suc m) u → u.time ≡ time → Answers limit o given
      → (f ≤ e + (until - time) * most_of R m 0) × Small (Answers limit (lesser o (before R m u until j))) x

  pub record Chosen (j entered best : ℕ) : Type 0 where
    pub small : best ≤ 2147483647
    pub so_far :
        (m : ℕ) (u : Vertex) → Shows R l a (suc m) u → u.time ≡ time
        → (entered ≤ start + j * ((until - time) * most_of R m 0)) × ChosenTo (before R m u until) (has a) limit j best

  pub chosen_none : limit ≤ 2147483647 → Chosen 0 start 2147483647
  chosen_none q = record { small = omega arith; so_far = λ m u h e. (omega arith, choosing_start (before R m u until) (has a) limit 2147483647 q) }

module _ (R : Recorder) (valid : Valid R) (l : List ℕ) (a time until limit budget start : ℕ) where
  module _ (j e best : ℕ) (c : Chosen R l a time until limit budget start j e best) where
    pub chosen_passed : has a j ≡ false → Chosen R l a time until limit budget start (j + 1) e best
    chosen_passed q =
        rw (add-one j)
        (record {
          small = c.small;
          so_far = λ m u h t.
              let p = c.so_far m u h t in
              (omega (arith, p.0), choosing_placed (before R m u until) (has a) limit j best p.1 q);
        })

    -- Those passed, where job j is tried.
    abbrev passed_of : ℕ → Vertex → Option ℕ
    passed_of m u = least_in (λ i. cond (has a i) (before R m u until i) none) (up_from 0 j)

    pub chosen_tried :
        (f x : ℕ) → Turn R l a time until limit budget start j best e f x → ShownAt R l a time → has a j ≡ true
        → Chosen R l a time until limit budget start (j + 1) f x
    chosen_tried f x turn held q =
        let o = held_open R valid l a time held (has_some a j q) in
        rw (add-one j)
        (record {
          small = (turn o.left o.vertex (passed_of o.left o.vertex) o.shows o.time (c.so_far o.left o.vertex o.shows o.time).1).1.0;
          so_far = λ m u h t.
              let p = c.so_far m u h t in
              let w = turn m u (passed_of m u) h t p.1 in
              (omega (arith, p.0, w.0), choosing_tried (before R m u until) (has a) limit j x q w.1.1);
        })

    pub chosen_stopped :
        ((m : ℕ) (u : Vertex) (o : Option ℕ) → Shows R l a (suc m) u → u.time ≡ time → Answers limit o best → budget < e + (until - time) * most_of R m 0)
        → j < jobs R → (m : ℕ) (u : Vertex) → Shows R l a (suc m) u → u.time ≡ time
        → budget < start + jobs R * ((until - time) * most_of R m 0)
    chosen_stopped turn b m u h t =
        let p = c.so_far m u h t in
        let w : budget < e + (until - time) * most_of R m 0 = turn m u (passed_of m u) h t p.1 in
        let q : suc j * ((until - time) * most_of R m 0) ≤ jobs R * ((until - time) * most_of R m 0) = mul-le-mul_right ((until - time) * most_of R m 0) b in
        omega (arith, p.0)

  pub chosen_all :
      (j e best : ℕ) → Chosen R l a time until limit budget start j e best → j ≡ jobs R → (m : ℕ) (u : Vertex) → Shows R l a (suc m) u → u.time ≡ time
      → (e ≤ start + jobs R * ((until - time) * most_of R m 0)) × Small (Answers limit (least_to R m u until)) best
  chosen_all j e best c q m u h t =
      let p = c.so_far m u h t in
      let d = subst (λ (i : ℕ). (e ≤ start + i * ((until - time) * most_of R m 0)) × ChosenTo (before R m u until) (has a) limit i best) q p in
      (d.0, (c.small, choosing_done (before R m u until) (has a) limit u.unplaced (jobs R) best (in_job R valid l a (suc m) u h) (job_in_lem R valid l a (suc m) u h) d.1))
