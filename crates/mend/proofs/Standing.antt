-- Where the queue stands between two turns: what the code holds, and what is still to come.
use mathlib.Core.Path.{◌≡◌, refl, sym, ap, ◌∙◌}
use mathlib.Core.Bool.{true, false}
use mathlib.Core.Option.{none, some}
use mathlib.Core.List.{List, [], ◌∷◌, ◌++◌}
use Prim.Native.Nat.{ℕ, zero, suc, ◌+◌, ◌-◌, ◌≤◌, ◌<◌}
use native.Mathlib.Numerals.{add-one}
use native.Mathlib.Omega.{arith}
use lib.Dec.{ltb}
use lib.ListN.{length, drop, set, replicate, length-set, length-replicate, replicate-append-replicate}
use lib.Seq.{drop-cons, set-append_left}
use borrow.Author.Tests.{ltb-false}
use Rattle.base.specs.Lists.{In, padded, up_from, remove}
use Rattle.base.proofs.Numbers.{up_rising, length_up, in_remove}
use Rattle.schedule.specs.declared.Recorder.{Recorder}
use Rattle.schedule.specs.Quantities.{jobs, deadline, run, Valid}
use Rattle.schedule.specs.Listing.{start, Place, place, soonest, ordered, running}
use Rattle.schedule.proofs.Runs.{soonest_in, all_known}
use Rattle.schedule.proofs.InOrder.{nth, running_length}
use Rattle.mend.specs.inside.Settling.{latest, settle, late_of, mended, first_late}
use Rattle.mend.proofs.Queue.{Waiting, waiting_less, settle_length}

module _ (R : Recorder) (given : List ℕ) where
  -- ---- the starts in an array of 16 places

  abbrev held : List ℕ
  held = settle R given (jobs R) 0 (up_from 0 (jobs R)) (replicate 16 0)

  settle_front :
      (m t : ℕ) (u s r : List ℕ) → ((j : ℕ) → In j u → j < length s) → settle R given m t u (s ++ r) ≡ settle R given m t u s ++ r
  unfolding settle
  settle_front zero t u s r room = refl
  settle_front (suc m) t [] s r room = refl
  settle_front (suc m) t (i ∷ u) s r room =
      let j = soonest given i u in
      let x = latest R given t j in
      rw (set-append_left s r j x (room j (soonest_in given i u)))
      (settle_front m (x + run R j) (remove j (i ∷ u)) (set s j x) r (λ k h. rw (length-set s j x) (room k (in_remove j k (i ∷ u) h))))

  held_padded : jobs R ≤ 16 → held ≡ padded 16 0 (mended R given)
  unfolding mended padded
  held_padded few =
      let n = jobs R in
      let u = up_from 0 n in
      let z : List ℕ = replicate n 0 in
      let long : length (settle R given n 0 u z) ≡ n = settle_length R given n 0 u z ∙ length-replicate n 0 in
      let whole : n + (16 - n) ≡ 16 = omega arith in
      let parts : ◌≡◌ {A = List ℕ} (replicate 16 0) (z ++ replicate (16 - n) 0) =
      ap (λ (k : ℕ). replicate k 0) (sym whole) ∙ sym (replicate-append-replicate n (16 - n) 0) in
      ap (settle R given n 0 u) parts
      ∙ settle_front n 0 u z (replicate (16 - n) 0) (λ j h. rw (length-replicate {A = ℕ} n 0) (all_known R j h))
      ∙ rw long

  -- ---- between two turns

  -- The jobs u, `left` in number, wait, after the `done` first of the running order; the last job that has its place ends at `end`, and `starts` has the starts
  -- of all that have theirs.
  pub record Queued (starts : List ℕ) (end done left : ℕ) (u : List ℕ) : Type 0 where
    pub waiting : Waiting left u starts
    pub known : (j : ℕ) → In j u → j < jobs R
    pub all : done + left ≡ jobs R
    pub order : drop done (running R given) ≡ ordered left given u
    pub within : end ≤ R.horizon
    pub same_starts : settle R given left end u starts ≡ held
    pub same_late : late_of R given left end u ≡ first_late R given

  abbrev pub Stands : List ℕ → ℕ → ℕ → Type 0
  Stands starts end done = (left : ℕ) × (u : List ℕ) × Queued starts end done left u

  -- What the turn of job j comes to, late or in time.
  pub record Turn (starts : List ℕ) (end done j : ℕ) : Type 0 where
    pub known : j < jobs R
    pub late : ltb (deadline R j) (latest R given end j + run R j) ≡ true → first_late R given ≡ some j
    pub more : ltb (deadline R j) (latest R given end j + run R j) ≡ false
        → Stands (set starts j (latest R given end j)) (latest R given end j + run R j) (done + 1)

  module _ (valid : Valid R) where
    -- No job has its place yet.
    pub stands_first : Stands (replicate 16 0) 0 0
    stands_first = (
      jobs R,
      up_from 0 (jobs R),
      record {
        waiting = record {
          number = length_up 0 (jobs R);
          rising = up_rising 0 (jobs R);
          room = λ j h. rw (length-replicate {A = ℕ} 16 0) (omega (arith, all_known R j h, valid.few_jobs));
        };
        known = all_known R;
        all = omega arith;
        order = refl;
        within = omega arith;
        same_starts = refl;
        same_late = refl;
      },
    )

    module _ (starts : List ℕ) (end done : ℕ) where
      -- The next job of the running order is the first of the queue.
      module _ (m i : ℕ) (u : List ℕ) (st : Queued starts end done (suc m) (i ∷ u)) where
        places : nth (running R given) done ∷ drop (suc done) (running R given)
            ≡ place (soonest given i u) (start given (soonest given i u)) ∷ ordered m given (remove (soonest given i u) (i ∷ u))
        unfolding ordered
        places = sym (drop-cons (running R given) done (place 0 0) (omega (arith, running_length R given, st.all))) ∙ st.order

        module _ (j : ℕ) (next : j ≡ (nth (running R given) done).job) where
          found : j ≡ soonest given i u
          found = next ∙ ap (λ (l : List Place). (nth l 0).job) places

          found_known : j < jobs R
          found_known = rw found (st.known (soonest given i u) (soonest_in given i u))

          found_late : ltb (deadline R j) (latest R given end j + run R j) ≡ true → first_late R given ≡ some j
          unfolding late_of
          found_late e = sym st.same_late ∙ rw (← found, e)

          found_more :
              ltb (deadline R j) (latest R given end j + run R j) ≡ false
              → Queued (set starts j (latest R given end j)) (latest R given end j + run R j) (done + 1) m (remove j (i ∷ u))
          unfolding settle late_of
          found_more e =
              let x = latest R given end j in
              let v = i ∷ u in
              let w : Waiting m (remove j v) (set starts j x) = rw found (waiting_less R given (latest R given end (soonest given i u)) st.waiting) in
              record {
                waiting = w;
                known = λ k h. st.known k (in_remove j k v h);
                all = omega (arith, st.all);
                order = rw (add-one done, found) (ap (drop 1) places);
                within = omega (arith, ltb-false (deadline R j) (x + run R j) e, valid.ends j found_known);
                same_starts = rw (← found) at st.same_starts;
                same_late = rw (← found, e) at st.same_late;
              }

      pub turn : Stands starts end done → done < jobs R → (j : ℕ) → j ≡ (nth (running R given) done).job → Turn starts end done j
      turn (zero, u, q) some_left j next = absurd (omega (arith, q.all))
      turn (suc m, [], q) some_left j next = absurd (omega (arith, q.waiting.number))
      turn (suc m, i ∷ u, q) some_left j next =
          record {
            known = found_known m i u q j next;
            late = found_late m i u q j next;
            more = λ e. (m, remove j (i ∷ u), found_more m i u q j next e);
          }

      -- No job is left.
      pub stands_last : Stands starts end done → jobs R ≤ done → (first_late R given ≡ none) × (starts ≡ padded 16 0 (mended R given))
      unfolding settle late_of
      stands_last (zero, u, q) l = (sym q.same_late, q.same_starts ∙ held_padded valid.few_jobs)
      stands_last (suc m, u, q) l = absurd (omega (arith, q.all))
