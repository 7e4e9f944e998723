-- The loop over the starts of a job: `best` answers for those passed, and `ahead` is a bound of the next.
use mathlib.Core.Path.{◌≡◌, sym, ap, ◌∙◌, subst}
use mathlib.Core.Bool.{Bool, true, false, cond}
use mathlib.Core.List.{List}
use mathlib.Core.Option.{Option, none}
use Prim.Native.Nat.{ℕ, suc, ◌+◌, ◌-◌, ◌*◌, ◌^◌, ◌≤◌, ◌<◌, min, max}
use native.Mathlib.Nat.{mul-le-mul_right}
use native.Mathlib.Numerals.{add-one}
use native.Mathlib.Omega.{arith}
use lib.Dec.{ltb}
use borrow.Author.Tests.{ltb-true, ltb-false}
use Rattle.base.specs.Lists.{In, up_from, remove}
use Rattle.base.proofs.Cases.{cond_cases}
use Rattle.base.proofs.Numbers.{length_remove}
use Rattle.schedule.specs.declared.Recorder.{Recorder}
use Rattle.schedule.specs.Quantities.{jobs, release, deadline, run, Valid}
use Rattle.schedule.specs.Visiting.{Vertex, child, earliest}
use Rattle.schedule.proofs.Runs.{Run}
use Rattle.latest.specs.inside.Sets.{has}
use Rattle.latest.specs.inside.Latest.{slot, latest_of, jobs_of}
use Rattle.latest.proofs.Feasibility.{run_latest, jobs_without}
use Rattle.latest.proofs.Spared.{reached_set}
use Rattle.value.specs.inside.Options.{lesser, plus, least_in, NoMore, Answers}
use Rattle.value.specs.inside.Leasts.{lead_of, least_of, via_child}
use Rattle.value.proofs.Ticks.{one_tick}
use Rattle.value.proofs.Steps.{least_span, latest_gone}
use Rattle.value.proofs.Tries.{Trying, Falling, trying_start, trying_pass, trying_enter}
use Rattle.extras.specs.inside.Tabled.{Tabled, rise_at, fall_at}
use Rattle.least.specs.inside.Shown.{leads_by, falls_by, Shows, ShownAt}
use Rattle.least.specs.Effort.{most_of}
use Rattle.least.specs.inside.Outcome.{Small, Tried, passed, entered}
use Rattle.vertex.proofs.Showing.{leads_shown, job_in_lem, in_job}
use Rattle.least.proofs.Falling.{falls_shown}
use Rattle.least.proofs.Choosing.{held_open, has_some, before}

-- ---- which starts

-- One more than the last start of a job, with and without its release.
slot_span : (a d c x e u : ℕ) → 1 ≤ c → a ≤ e → min u (suc (min (x - 1) d) - c) - e ≡ min u (slot a d c x) - e
unfolding slot
slot_span a d c x e u q l =
    cond_cases (λ (z : ℕ). min u (suc (min (x - 1) d) - c) - e ≡ min u z - e) (ltb (a + c) (min x (suc d)))
    (λ t. open_one a d c x e u (ltb-true _ _ t)) (λ t. shut a d c x e u q l (ltb-false _ _ t))
  where
    one_less : (x d c : ℕ) → 1 ≤ x → suc (min (x - 1) d) - c ≡ min x (suc d) - c
    one_less x d c q = omega arith

    open_one : (a d c x e u : ℕ) → a + c < min x (suc d) → min u (suc (min (x - 1) d) - c) - e ≡ min u (min x (suc d) - c) - e
    open_one a d c x e u h = ap (λ (z : ℕ). min u z - e) (one_less x d c (omega arith))

    none_left : (z e u : ℕ) → z ≤ e → min u z - e ≡ min u 0 - e
    none_left z e u l = omega arith

    late : (a d c x : ℕ) → 1 ≤ c → min x (suc d) ≤ a + c → suc (min (x - 1) d) - c ≤ a
    late a d c x q h = omega arith

    shut : (a d c x e u : ℕ) → 1 ≤ c → a ≤ e → min x (suc d) ≤ a + c → min u (suc (min (x - 1) d) - c) - e ≡ min u 0 - e
    shut a d c x e u q l h = let k = late a d c x q h in none_left (suc (min (x - 1) d) - c) e u (omega arith)

-- A start below it meets the deadline.
pub slot_late : (a d c x s : ℕ) → s < slot a d c x → s + c ≤ d
unfolding slot
slot_late a d c x s h = go (ltb (a + c) (min x (suc d))) h
  where
    go : (b : Bool) → s < cond b (min x (suc d) - c) 0 → s + c ≤ d
    go true h = omega arith
    go false h = absurd (omega arith)

module _ (R : Recorder) (valid : Valid R) (l : List ℕ) (a m : ℕ) (v : Vertex) (h : Shows R l a (suc m) v) (j : ℕ) (i : In j v.unplaced) where
  -- From where on the other jobs can't be run any more.
  pub gone : (x : ℕ) → latest_of R (a - 2 ^ j) ≤ x + run R j → x + run R j ≤ deadline R j → least_of R m (child R v j x) ≡ none
  gone x q late =
      let known = h.reached.known j i in
      let r = reached_set R valid (suc m) v h.reached in
      let few : a < 2 ^ jobs R = subst (λ (n : ℕ). n < 2 ^ jobs R) h.set r.0 in
      let all : jobs_of R a ≡ v.unplaced = subst (λ (n : ℕ). jobs_of R n ≡ v.unplaced) h.set r.1 in
      let e : jobs_of R (a - 2 ^ j) ≡ remove j v.unplaced = jobs_without R a j known (in_job R valid l a (suc m) v h j i).1 ∙ ap (remove j) all in
      latest_gone R m (child R v j x) (omega (arith, h.reached.size, length_remove j v.unplaced i)) (latest_of R (a - 2 ^ j))
      (λ p w. run_latest R valid p (x + run R j) (a - 2 ^ j) (omega arith) (omega (arith, valid.ends j known)) (subst (λ (u : List ℕ). Run R (x + run R j) u p) (sym e) w)) q

  pub span_is :
      (u : ℕ) → before R m v u j
      ≡ least_in (via_child R m v j) (up_from (earliest R v.time j) (min u (slot (release R j) (deadline R j) (run R j) (latest_of R (a - 2 ^ j))) - earliest R v.time j))
  span_is u =
      let known = h.reached.known j i in
      least_span R m v j u (latest_of R (a - 2 ^ j) - 1) (λ x q late. gone x (omega arith) late)
      ∙ ap (λ (n : ℕ). least_in (via_child R m v j) (up_from (earliest R v.time j) n))
      (slot_span (release R j) (deadline R j) (run R j) (latest_of R (a - 2 ^ j)) (earliest R v.time j) u (valid.runs j known) (omega arith))

same_span :
    (f : ℕ → Option ℕ) (from to s y w : ℕ) → from ≡ y → to ≡ w → s - from ≡ to - from → least_in f (up_from y (w - y)) ≡ least_in f (up_from from (s - from))
same_span f from to s y w q r n =
    let e : w - y ≡ s - from = omega arith in
    subst (λ (z : ℕ). least_in f (up_from z (w - y)) ≡ least_in f (up_from from (s - from))) q (ap (λ (k : ℕ). least_in f (up_from from k)) e)

-- ---- the loop

-- One start more.
tried_on :
    (R : Recorder) (m : ℕ) (v : Vertex) (j from to limit drop : ℕ) (o : Option ℕ) → Falling R m v j from to limit drop o → (i best ahead z lead : ℕ)
    → Trying R m v j from to limit drop o i best ahead → from + i < to → lead ≡ lead_of R v j (from + i)
    → Tried (min limit best) lead ahead (least_of R m (child R v j (from + i))) z → Trying R m v j from to limit drop o (suc i) (min best (lead + z)) (z - drop)
tried_on R m v j from to limit drop o falling i best ahead z lead t b e (passed q) =
    subst (λ (n : ℕ). Trying R m v j from to limit drop o (suc i) (min best (n + ahead)) (ahead - drop)) (sym e)
    (trying_pass R m v j from to limit drop o falling i best ahead t b (subst (λ (n : ℕ). min limit best ≤ n + ahead) e q))
tried_on R m v j from to limit drop o falling i best ahead z lead t b e (entered {x} q h) =
    subst (λ (n : ℕ). Trying R m v j from to limit drop o (suc i) (min best (n + max x ahead)) (max x ahead - drop)) (sym e)
    (trying_enter R m v j from to limit drop o falling i best ahead x t b (subst (λ (n : ℕ). n ≤ min limit best) e q)
    (subst (λ (n : ℕ). Answers (min limit best - n) (least_of R m (child R v j (from + i))) x) e h))

module _ (R : Recorder) (l : List ℕ) (a j time limit given budget start from to drop : ℕ) where
  pub record Trial (s enters best ahead : ℕ) : Type 0 where
    pub low : from ≤ s
    pub high : s - from ≤ to - from
    pub small : best ≤ 2147483647
    pub small_ahead : ahead ≤ 2147483647
    pub so_far :
        (m : ℕ) (u : Vertex) (o : Option ℕ) → Shows R l a (suc m) u → u.time ≡ time → Answers limit o given
        → (enters ≤ start + (s - from) * most_of R m 0) × Trying R m u j from to limit drop o (s - from) best ahead

  pub trial_start : given ≤ 2147483647 → Trial from start given 0
  trial_start q =
      record {
        low = omega arith;
        high = omega arith;
        small = q;
        small_ahead = omega arith;
        so_far = λ m u o h t p.
            let e : 0 ≡ from - from = omega arith in
            (omega arith, subst (λ (i : ℕ). Trying R m u j from to limit drop o i given 0) e (trying_start R m u j from to limit drop o given p));
      }

module _ (R : Recorder) (valid : Valid R) (l : List ℕ) (a j time limit given budget start from to drop : ℕ) where
  module _ (s e best ahead : ℕ) (c : Trial R l a j time limit given budget start from to drop s e best ahead) (b : s < to) (by : time ≤ s) where
    pub trial_stopped :
        ((m : ℕ) (u : Vertex) → Shows R l a (suc m) u → u.time ≤ s → budget < e + most_of R m 0)
        → (n : ℕ) → to - from ≤ n → (m : ℕ) (u : Vertex) (o : Option ℕ) → Shows R l a (suc m) u → u.time ≡ time → Answers limit o given
        → budget < start + n * most_of R m 0
    trial_stopped turn n q m u o h t p =
        let r : suc (s - from) * most_of R m 0 ≤ n * most_of R m 0 = mul-le-mul_right (most_of R m 0) (omega (arith, c.low)) in
        omega (arith, turn m u h (omega arith), (c.so_far m u o h t p).0)

    module _ (f x lead : ℕ)
        (turn : (m : ℕ) (u : Vertex) → Shows R l a (suc m) u → u.time ≤ s → (f ≤ e + most_of R m 0) × Small (Tried (min limit best) lead ahead (least_of R m (child R u j s))) x)
        (ex : List ℕ) (tabled : Tabled R ex) (held : ShownAt R l a time) (known : j < jobs R) (one : has a j ≡ true) (early : earliest R time j ≤ from)
        (late : (y : ℕ) → y < to → y + run R j ≤ deadline R j) (drop-is : drop ≡ falls_by R (rise_at ex) (fall_at ex) l j) (lead_is : lead ≡ leads_by R l j s) where
      falling : (m : ℕ) (u : Vertex) (o : Option ℕ) → Shows R l a (suc m) u → u.time ≡ time → Falling R m u j from to limit drop o
      falling m u o h t y q k =
          subst (λ (d : ℕ). NoMore (least_of R m (child R u j y)) (plus d (least_of R m (child R u j (suc y)))))
          (sym (drop-is ∙ falls_shown R valid l a (suc m) u h (rise_at ex) (fall_at ex) j))
          (one_tick R valid m u h.reached j y (job_in_lem R valid l a (suc m) u h j known one) (subst (λ (n : ℕ). earliest R n j ≤ y) (sym t) (omega arith)) (late (suc y) k)
          (rise_at ex) (fall_at ex) tabled.rises tabled.falls)

      pub trial_next : Trial R l a j time limit given budget start from to drop (s + 1) f (min best (lead + x)) (x - drop)
      trial_next =
          let o = held_open R valid l a time held (has_some a j one) in
          rw (add-one s)
          (record {
            low = omega (arith, c.low);
            high = omega (arith, c.low, c.high);
            small = omega (arith, c.small);
            small_ahead = omega (arith, (turn o.left o.vertex o.shows (omega (arith, o.time))).1.0);
            so_far = more;
          })
        where
          more : (m : ℕ) (u : Vertex) (o : Option ℕ) → Shows R l a (suc m) u → u.time ≡ time → Answers limit o given
              → (f ≤ start + (suc s - from) * most_of R m 0) × Trying R m u j from to limit drop o (suc s - from) (min best (lead + x)) (x - drop)
          more m u o h t p =
              let w = turn m u h (omega arith) in
              let at : s ≡ from + (s - from) = omega (arith, c.low) in
              let one_more : suc (s - from) ≡ suc s - from = omega (arith, c.low) in (
                rw (← one_more) (omega (arith, w.0, (c.so_far m u o h t p).0)),
                subst (λ (n : ℕ). Trying R m u j from to limit drop o n (min best (lead + x)) (x - drop)) one_more
                    (tried_on R m u j from to limit drop o (falling m u o h t) (s - from) best ahead x lead (c.so_far m u o h t p).1 (omega arith)
                    (lead_is ∙ leads_shown R valid l a (suc m) u h j s ∙ ap (lead_of R u j) at)
                    (subst (λ (n : ℕ). Tried (min limit best) lead ahead (least_of R m (child R u j n)) x) at w.1.1)),
              )

  pub trial_end :
      (until : ℕ) → j < jobs R → has a j ≡ true → from ≡ earliest R time j
      → to ≡ min until (slot (release R j) (deadline R j) (run R j) (latest_of R (a - 2 ^ j)))
      → (s e best ahead : ℕ) → Trial R l a j time limit given budget start from to drop s e best ahead → to ≤ s → (m : ℕ) (u : Vertex) (o : Option ℕ) → Shows R l a (suc m) u → u.time ≡ time → Answers limit o given
      → (e ≤ start + (until - time) * most_of R m 0) × Small (Answers limit (lesser o (before R m u until j))) best
  trial_end until known one from_is to_is s e best ahead c q m u o h t p =
      let d = c.so_far m u o h t p in
      let n : s - from ≡ to - from = omega (arith, c.high) in
      let r : (s - from) * most_of R m 0 ≤ (until - time) * most_of R m 0 = mul-le-mul_right (most_of R m 0) (omega (arith, c.high)) in
      let i = job_in_lem R valid l a (suc m) u h j known one in
      let w : before R m u until j ≡ least_in (via_child R m u j) (up_from from (s - from)) =
      span_is R valid l a m u h j i until ∙ same_span (via_child R m u j) from to s (earliest R u.time j) (min until (slot (release R j) (deadline R j) (run R j) (latest_of R (a - 2 ^ j))))
      (subst (λ (k : ℕ). from ≡ earliest R k j) (sym t) from_is) to_is n in
      (omega (arith, d.0), (c.small, subst (λ (z : Option ℕ). Answers limit (lesser o z) best) (sym w) d.1.answers))
