-- What is known of a vertex, what it comes to where it waits, and what is remembered of it.
use mathlib.Core.Path.{◌≡◌, refl, sym, ap, ◌∙◌, subst}
use mathlib.Core.Bool.{Bool, true, false, ◌||◌}
use mathlib.Core.List.{List}
use mathlib.Core.Logic.{◌⊎◌, inl, inr, ⊎_elim}
use mathlib.Core.Option.{Option, some}
use Prim.Native.Nat.{ℕ, suc, ◌+◌, ◌-◌, ◌*◌, ◌/◌, ◌%◌, ◌^◌, ◌≤◌, ◌<◌, min, max}
use native.Mathlib.Nat.{eq-or-lt_of_le}
use native.Mathlib.Omega.{arith}
use lib.Dec.{eqb, leb, ltb}
use lib.ListN.{get_or}
use lib.Pow.{pow_pos}
use borrow.Author.Tests.{eqb-true, leb-true, ltb-true}
use Rattle.std.specs.Prelude.{Result}
use Rattle.base.proofs.Cases.{cond_cases}
use Rattle.schedule.specs.declared.Recorder.{Recorder}
use Rattle.schedule.specs.Quantities.{jobs, release, deadline, run, Valid}
use Rattle.schedule.specs.Visiting.{Vertex, child, earliest}
use Rattle.schedule.proofs.Runs.{Run}
use Rattle.latest.specs.inside.Sets.{has}
use Rattle.latest.specs.inside.Latest.{slot, latest_of, jobs_of, Laid}
use Rattle.latest.proofs.Members.{has_le}
use Rattle.latest.proofs.Feasibility.{latest_opens, run_latest}
use Rattle.latest.proofs.Spared.{reached_set}
use Rattle.value.specs.inside.Options.{AtMost, Answers, Holds}
use Rattle.value.specs.inside.Leasts.{close_of, least_of, waited}
use Rattle.value.proofs.Limits.{answer_exact, answer_raise, answer_less, entry_answers}
use Rattle.value.proofs.Waits.{least_to, answer_waited}
use Rattle.value.proofs.Steps.{wait_over, latest_gone}
use Rattle.extras.specs.inside.Tabled.{Tabled, cap_at}
use Rattle.stored.specs.declared.Key.{Key}
use Rattle.least.specs.declared.memory.Spot.{Spot}
use Rattle.least.specs.declared.search.Stop.{Stop}
use Rattle.least.specs.inside.Shown.{closes_by, key_by, Ordered, Placed, Shows, ShownAt}
use Rattle.least.specs.inside.Entries.{Looked, kept, known_of}
use Rattle.least.specs.Effort.{most_of}
use Rattle.least.specs.inside.Outcome.{Named, Recalls, Lent, Offers, Small, Came, Tried, entered}
use Rattle.vertex.proofs.Showing.{ordered_later, shown_ordered, closes_shown, set_few, set_none, set_some, child_shown, job_in_lem, in_job}
use Rattle.least.proofs.Falling.{waited_shown}
use Rattle.stored.proofs.Keyed.{key_named}
use Rattle.least.proofs.Keyed.{named_recalls, recalls_none}
use Rattle.least.proofs.Kept.{right_looked, right_kept}
use Rattle.least.proofs.Counting.{most_near, most_far, most_own}
use Rattle.least.proofs.Choosing.{held_open, has_some}
use Rattle.least.proofs.Trials.{slot_late}

-- ---- a vertex that is held

module _ (R : Recorder) (valid : Valid R) (l : List ℕ) (a t : ℕ) (h : ShownAt R l a t) where
  pub held_by : t ≤ R.horizon
  held_by = omega (arith, h.time, h.shows.reached.time)

  pub held_ordered : Ordered R l t
  held_ordered = subst (Ordered R l) h.time (shown_ordered R valid l a h.left h.vertex h.shows)

  pub held_few : (a < 2 ^ jobs R) × (a < 65536)
  held_few = set_few R valid l a h.left h.vertex h.shows

  pub held_later : (u : ℕ) → t ≤ u → u ≤ R.horizon → ShownAt R l a u
  held_later u q b =
      record {
        left = h.left;
        vertex = waited R h.vertex u;
        shows = waited_shown R valid l a h.left h.vertex h.shows u (omega (arith, h.time)) b;
        time = refl;
      }

  pub held_offers : (j s : ℕ) → j < jobs R → has a j ≡ true → earliest R t j ≤ s → s + run R j ≤ deadline R j → Offers R l a j s
  held_offers j s known one early late =
      let o = held_open R valid l a t h (has_some a j one) in
      record {
        left = o.left;
        vertex = o.vertex;
        shows = o.shows;
        job = job_in_lem R valid l a (suc o.left) o.vertex o.shows j known one;
        early = subst (λ (n : ℕ). earliest R n j ≤ s) (sym o.time) early;
        late = late;
      }

-- With jobs unplaced it has one more than some number of them.
pub some_left :
    (R : Recorder) → Valid R → (l : List ℕ) (a m : ℕ) (u : Vertex) → Shows R l a m u → 0 < a → (t b e f s : ℕ) (r : Result ℕ Stop)
    → ((n : ℕ) → Shows R l a (suc n) u → Came b e f (most_of R (suc n) t) (Small (Answers s (least_of R (suc n) u))) r)
    → Came b e f (most_of R m t) (Small (Answers s (least_of R m u))) r
some_left R valid l a m u h q t b e f s r g =
    let n = set_some R valid l a m u h q in
    subst (λ (k : ℕ). Came b e f (most_of R k t) (Small (Answers s (least_of R k u))) r) (sym n.1) (g n.0 (subst (λ (k : ℕ). Shows R l a k u) n.1 h))

-- ---- a child

module _ (R : Recorder) (valid : Valid R) (l : List ℕ) (a j s : ℕ) (o : Offers R l a j s) where
  pub offers_known : (j < jobs R) × (j < 16)
  offers_known = let k = o.shows.reached.known j o.job in (k, omega (arith, valid.few_jobs))

  pub offers_end : s + run R j ≤ 4096
  offers_end = omega (arith, o.late, valid.ends j offers_known.0, valid.few_ticks)

  pub offers_ordered : Ordered R l s
  offers_ordered =
      ordered_later R valid l o.vertex.time s (shown_ordered R valid l a (suc o.left) o.vertex o.shows) (omega (arith, o.early))
      (omega (arith, o.late, valid.ends j offers_known.0))

  pub offers_bit : (p : ℕ) → p ≡ 2 ^ j → (1 ≤ p) × (p ≤ a)
  offers_bit p e = let b = has_le a j (in_job R valid l a (suc o.left) o.vertex o.shows j o.job).1 in (omega (arith, pow_pos j), omega arith)

  module _ (p end : ℕ) (p-is : p ≡ 2 ^ j) (end_is : end ≡ s + run R j) (w : List ℕ) (placed : Placed R l w j s) where
    pub child_shows : (m : ℕ) (u : Vertex) → Shows R l a (suc m) u → u.time ≤ s → Shows R w (a - p) m (child R u j s)
    child_shows m u h t =
        let one = (in_job R valid l a (suc o.left) o.vertex o.shows j o.job).1 in
        subst (λ (n : ℕ). Shows R w (a - n) m (child R u j s)) (sym p-is)
        (child_shown R valid l a m u h j s (job_in_lem R valid l a (suc m) u h j offers_known.0 one) (omega (arith, o.early)) o.late w placed)

    pub child_held : ShownAt R w (a - p) end
    child_held =
        record {
          left = o.left;
          vertex = child R o.vertex j s;
          shows = child_shows o.left o.vertex o.shows (omega (arith, o.early));
          time = sym end_is;
        }

-- ---- a complete vertex

least_end : (R : Recorder) (v : Vertex) → least_of R 0 v ≡ some (close_of R v)
unfolding least_of
least_end R v = refl

pub complete_answers :
    (R : Recorder) → Valid R → (l : List ℕ) (a m : ℕ) (v : Vertex) → Shows R l a m v → a ≡ 0 → (s x : ℕ) → x ≡ closes_by R l → Answers s (least_of R m v) x
complete_answers R valid l a m v h z s x e =
    subst (λ (n : ℕ). Answers s (least_of R n v) x) (sym (set_none R valid l a m v h z))
    (answer_exact s x (least_of R 0 v) (least_end R v ∙ ap some (sym (closes_shown R valid l a m v h)) ∙ ap some (sym e)))

-- ---- what is known

known_of_lem : (o : Option ℕ) (best limit : ℕ) → Answers limit o best → Holds o (known_of best limit / 2) (eqb (known_of best limit % 2) 1)
unfolding known_of
known_of_lem o best limit h =
    cond_cases (λ (k : ℕ). Holds o (k / 2) (eqb (k % 2) 1)) (ltb best limit)
    (λ t. exactly best h.low (h.exact (ltb-true best limit t))) (λ t. bounded best h.low)
  where
    exactly : (b : ℕ) → AtMost b o → o ≡ some b → Holds o ((2 * b + 1) / 2) (eqb ((2 * b + 1) % 2) 1)
    exactly b low e =
        let half : (2 * b + 1) / 2 ≡ b = omega arith in
        subst (λ (n : ℕ). Holds o n (eqb ((2 * b + 1) % 2) 1)) (sym half) (record { low = low; exact = λ q. e })

    bounded : (b : ℕ) → AtMost b o → Holds o (2 * b / 2) (eqb (2 * b % 2) 1)
    bounded b low =
        let half : 2 * b / 2 ≡ b = omega arith in
        let even : 2 * b % 2 ≡ 0 = omega arith in
        subst (λ (n : ℕ). Holds o n (eqb (2 * b % 2) 1)) (sym half)
        (record { low = low; exact = λ q. absurd (omega (arith, eqb-true (2 * b % 2) 1 q)) })

-- Known is enough where it is the least itself, or no less than what is asked for.
enough : (known slack : ℕ) → (eqb (known % 2) 1 || leb slack (known / 2)) ≡ true → (eqb (known % 2) 1 ≡ true) ⊎ (slack ≤ known / 2)
enough known slack = go (eqb (known % 2) 1)
  where
    go : (b : Bool) → (b || leb slack (known / 2)) ≡ true → (b ≡ true) ⊎ (slack ≤ known / 2)
    go true e = inl refl
    go false e = inr (leb-true _ _ e)

name_at :
    (R : Recorder) (ex : List ℕ) → Tabled R ex → (l : List ℕ) (a m : ℕ) (u : Vertex) → Shows R l a m u → (time : ℕ) → u.time ≡ time
    → Named R (cap_at ex) (key_by R (cap_at ex) l a time) u
name_at R ex tabled l a m u h time t =
    subst (λ (n : ℕ). Named R (cap_at ex) (key_by R (cap_at ex) l a n) u) t (key_named R tabled.valid (cap_at ex) tabled.caps tabled.cap_most l a m u h)

-- Its head fits 29 bits.
pub head_few : (R : Recorder) (cap : ℕ → ℕ) (l : List ℕ) (a time : ℕ) → a < 65536 → time ≤ 4096 → (key_by R cap l a time).head < 536870912
unfolding key_by
head_few R cap l a time few early = omega arith

module _ (R : Recorder) (ex table memory l : List ℕ) (lent : Lent R ex table memory) (a time : ℕ) (spot : Spot)
    (looked : Looked memory (key_by R (cap_at ex) l a time) spot) where
  holds : (m : ℕ) (u : Vertex) → Shows R l a (suc m) u → u.time ≡ time → Holds (least_of R (suc m) u) (spot.known / 2) (eqb (spot.known % 2) 1)
  unfolding Recalls
  holds m u h t =
      let valid = lent.tabled.valid in
      let q = key_by R (cap_at ex) l a time in
      let named = name_at R ex lent.tabled l a (suc m) u h time t in
      ⊎_elim
      (λ (z : spot.known ≡ 0). subst (λ (k : ℕ). Holds (least_of R (suc m) u) (k / 2) (eqb (k % 2) 1)) (sym z)
      (recalls_none R valid (cap_at ex) lent.tabled.caps lent.tabled.cap_most q m u h.reached named))
      (λ (r : Recalls R (cap_at ex) q spot.known). r m u h.reached named)
      (right_looked (Recalls R (cap_at ex)) memory lent.right q spot looked)

  pub known_answers :
      (slack : ℕ) → (eqb (spot.known % 2) 1 || leb slack (spot.known / 2)) ≡ true → (m : ℕ) (u : Vertex) → Shows R l a (suc m) u → u.time ≡ time
      → Answers slack (least_of R (suc m) u) (spot.known / 2)
  known_answers slack q m u h t =
      entry_answers slack (spot.known / 2) (eqb (spot.known % 2) 1) (least_of R (suc m) u) (holds m u h t) (enough spot.known slack q)

  -- What is worked out and what was known.
  pub raised_answers :
      (limit found : ℕ) (m : ℕ) (u : Vertex) → Shows R l a (suc m) u → u.time ≡ time → Answers limit (least_of R (suc m) u) found
      → Answers limit (least_of R (suc m) u) (max found (spot.known / 2))
  raised_answers limit found m u h t w = answer_raise limit found (spot.known / 2) (least_of R (suc m) u) w (holds m u h t).low

  pub learnt :
      (slack limit e f found best : ℕ) → slack ≤ limit → spot.known ≤ 4294967295 → best ≡ max found (spot.known / 2) → (m : ℕ) (u : Vertex)
      → Shows R l a (suc m) u → u.time ≡ time
      → (f ≤ e + 1 + (R.horizon - time) * suc (jobs R * most_of R m 0)) × Small (Answers limit (least_of R (suc m) u)) found
      → (f ≤ e + most_of R (suc m) time) × Small (Answers slack (least_of R (suc m) u)) best
  learnt slack limit e f found best q k best_is m u h t w = (
    omega (arith, most_own R m time, w.0),
    (
      omega (arith, w.1.0),
      answer_less limit slack best (least_of R (suc m) u) q
          (subst (λ (n : ℕ). Answers limit (least_of R (suc m) u) n) (sym best_is) (raised_answers limit found m u h t w.1.1)),
    ),
  )

  pub learnt_kept :
      (limit found best : ℕ) → best ≡ max found (spot.known / 2) → (m : ℕ) (u : Vertex)
      → Shows R l a (suc m) u → u.time ≡ time → Answers limit (least_of R (suc m) u) found → Answers limit (least_of R (suc m) u) best
  learnt_kept limit found best best_is m u h t w =
      subst (λ (n : ℕ). Answers limit (least_of R (suc m) u) n) (sym best_is) (raised_answers limit found m u h t w)

-- ---- what is remembered

pub kept_lent :
    (R : Recorder) (ex table memory l : List ℕ) → Lent R ex table memory → (a time : ℕ) → a < 65536 → time ≤ 4096 → (q : Key) → q ≡ key_by R (cap_at ex) l a time
    → (m : ℕ) (u : Vertex) → Shows R l a (suc m) u → u.time ≡ time → (best limit : ℕ) → Answers limit (least_of R (suc m) u) best → (i effort : ℕ) → effort < 8
    → (after : List ℕ) → after ≡ kept memory i q effort (known_of best limit) → Lent R ex table after
kept_lent R ex table memory l lent a time few early q q-is m u h t best limit w i effort b after after_is =
    subst (Lent R ex table) (sym after_is)
    (record {
      tabled = lent.tabled;
      laid = lent.laid;
      right = right_kept (Recalls R (cap_at ex)) memory lent.right q (subst (λ (k : Key). k.head < 536870912) (sym q-is) (head_few R (cap_at ex) l a time few early))
          i effort (known_of best limit) b
          (named_recalls R lent.tabled.valid (cap_at ex) lent.tabled.caps lent.tabled.cap_most m u h.reached q
          (subst (λ (k : Key). Named R (cap_at ex) k u) (sym q-is) (name_at R ex lent.tabled l a (suc m) u h time t)) (known_of best limit)
          (known_of_lem (least_of R (suc m) u) best limit w));
    })

-- ---- a child entered

pub tried_entered :
    (most lead ahead : ℕ) (o : Option ℕ) (x y : ℕ) → y ≡ max x ahead → lead ≤ most → x ≤ 2147483647 → ahead ≤ 2147483647 → Answers (most - lead) o x
    → (y ≤ 2147483647) × Tried most lead ahead o y
tried_entered most lead ahead o x y e q small low w = (omega arith, subst (λ (z : ℕ). Tried most lead ahead o z) (sym e) (entered q w))

-- ---- waiting

module _ (R : Recorder) (valid : Valid R) where
  -- From a time at which a set can still be run there is a tick to go.
  pub alive_early : (a t : ℕ) → 0 < a → t < latest_of R a → t < R.horizon
  alive_early a t q h =
      let o = latest_opens R t a (λ z. omega arith) h in
      let j = o.0 in
      omega (arith, o.1.fits, valid.runs j o.1.known, valid.ends j o.1.known)

  module _ (l : List ℕ) (a m : ℕ) (u : Vertex) (h : Shows R l a (suc m) u) (until : ℕ) (by : until ≤ R.horizon) where
    -- From a time on at which it can't any more, all starts are before.
    pub over_answers :
        u.time ≤ until → latest_of R a ≤ until → (limit x : ℕ) → Answers limit (least_to R m u until) x → Answers limit (least_of R (suc m) u) x
    over_answers t q limit x w =
        let r = reached_set R valid (suc m) u h.reached in
        let few : a < 2 ^ jobs R = subst (λ (n : ℕ). n < 2 ^ jobs R) h.set r.0 in
        let all : jobs_of R a ≡ u.unplaced = subst (λ (n : ℕ). jobs_of R n ≡ u.unplaced) h.set r.1 in
        subst (λ (o : Option ℕ). Answers limit o x)
        (sym (wait_over R m u until t
        (latest_gone R (suc m) (waited R u until) h.reached.size (latest_of R a)
        (λ p w. run_latest R valid p until a few by (subst (λ (n : List ℕ). Run R until n p) (sym all) w)) q))) w

    pub far_answers :
        u.time ≤ until → (limit near far slack : ℕ) → slack ≡ min near limit → Answers limit (least_to R m u until) near
        → Answers slack (least_of R (suc m) (waited R u until)) far → Answers limit (least_of R (suc m) u) (min near far)
    far_answers t limit near far slack e w w' = answer_waited R m u until t limit slack near far w (omega arith) w'

    -- The same of the calls.
    module _ (time : ℕ) (t : u.time ≡ time) (order : time ≤ until) (b e f near limit : ℕ)
        (w : (f ≤ e + jobs R * ((until - time) * most_of R m 0)) × Small (Answers limit (least_to R m u until)) near) where
      pub near_comes :
          latest_of R a ≤ until → (f ≤ e + (R.horizon - time) * suc (jobs R * most_of R m 0)) × Small (Answers limit (least_of R (suc m) u)) near
      near_comes q = (omega (arith, w.0, most_near R m time until order by), (w.1.0, over_answers (omega arith) q limit near w.1.1))

      module _ (later : time < until) (g far slack : ℕ) where
        pub far_stops : b < f + most_of R (suc m) until → b < e + (R.horizon - time) * suc (jobs R * most_of R m 0)
        far_stops r = omega (arith, w.0, most_far R m time until later by)

        pub far_comes :
            slack ≡ min near limit → (g ≤ f + most_of R (suc m) until) × Small (Answers slack (least_of R (suc m) (waited R u until))) far
            → (g ≤ e + (R.horizon - time) * suc (jobs R * most_of R m 0)) × Small (Answers limit (least_of R (suc m) u)) (min near far)
        far_comes slack-is r = (
          omega (arith, w.0, r.0, most_far R m time until later by),
          (omega (arith, w.1.0), far_answers (omega arith) limit near far slack slack-is w.1.1 r.1.1),
        )

pub waits : (x h t : ℕ) → (x < h → t < x) → x ≤ h → t ≤ h → t ≤ x
waits x h t g b q = ⊎_elim (λ (l : x ≡ h). omega arith) (λ (l : x < h). omega (arith, g l)) (eq-or-lt_of_le b)

-- ---- the starts of a job

pub starts_late : (R : Recorder) (j to until x y : ℕ) → to ≡ min until x → x ≡ slot (release R j) (deadline R j) (run R j) y → (s : ℕ) → s < to → s + run R j ≤ deadline R j
starts_late R j to until x y e q s b =
    slot_late (release R j) (deadline R j) (run R j) y s (omega arith)

pub starts_slot :
    (R : Recorder) (table : List ℕ) → Laid R table → (a p j x : ℕ) → a < 2 ^ jobs R → p ≡ 2 ^ j
    → x ≡ slot (release R j) (deadline R j) (run R j) (get_or table (a - p) 0) → x ≡ slot (release R j) (deadline R j) (run R j) (latest_of R (a - 2 ^ j))
starts_slot R table laid a p j x few p-is q =
    q ∙ ap (slot (release R j) (deadline R j) (run R j)) (ap (λ (n : ℕ). get_or table (a - n) 0) p-is ∙ laid.laid (a - 2 ^ j) (omega arith))

pub starts_to_lem :
    (R : Recorder) (table : List ℕ) → Laid R table → (a p j to until x : ℕ) → a < 2 ^ jobs R → p ≡ 2 ^ j → to ≡ min until x
    → x ≡ slot (release R j) (deadline R j) (run R j) (get_or table (a - p) 0)
    → to ≡ min until (slot (release R j) (deadline R j) (run R j) (latest_of R (a - 2 ^ j)))
starts_to_lem R table laid a p j to until x few p-is e q = e ∙ ap (min until) (starts_slot R table laid a p j x few p-is q)
