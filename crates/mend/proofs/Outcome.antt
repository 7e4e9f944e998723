-- Where the jobs come out, and what that says of the mended schedule: it is where they come out if all are in time, and else there is none.
use mathlib.Core.Path.{◌≡◌, sym, ◌∙◌, subst}
use mathlib.Core.Option.{none, some}
use mathlib.Core.List.{List}
use mathlib.Core.Logic.{inl, ⊎_elim, by_cases}
use Prim.Native.Nat.{ℕ, suc, ◌+◌, ◌≤◌, ◌<◌}
use native.Mathlib.Decide.{ℕ_discrete, dec_le}
use native.Mathlib.Omega.{arith}
use lib.ListN.{length, replicate, length-replicate}
use lib.Seq.{ext_get_or}
use Rattle.base.specs.Lists.{In, up_from}
use Rattle.base.proofs.Numbers.{up_in, up_rising, length_up}
use Rattle.schedule.specs.declared.Recorder.{Recorder}
use Rattle.schedule.specs.Quantities.{jobs, run, Valid}
use Rattle.schedule.specs.Listing.{start, InTime, Feasible}
use Rattle.schedule.proofs.Runs.{all_known}
use Rattle.mend.specs.Mending.{Ahead, Keeps, Fits, Queues, Smallest, Mends, ComesOut, FirstLate}
use Rattle.mend.specs.inside.Settling.{mended, first_late}
use Rattle.schedule.proofs.Leading.{first_least}
use Rattle.mend.proofs.Order.{ahead_one_way, ahead_first, one_ahead}
use Rattle.mend.proofs.Queue.{Waiting, settle_length, settle_from, settle_next, settle_least, LateOf, settle_late}

-- ---- what is smallest is one

module _ (R : Recorder) where
  one_smallest :
      (Such : List ℕ → Type 0) → ((s : List ℕ) → Such s → length s ≡ jobs R) → {s s' : List ℕ} → Smallest R Such s → Smallest R Such s' → s ≡ s'
  one_smallest Such long {s} {s'} h h' =
      let l = long s h.such in
      ext_get_or 0 s s' (l ∙ sym (long s' h'.such))
      (λ j w. let q : j < jobs R = omega arith in omega (arith, h.smallest s' h'.such j q, h'.smallest s h.such j q))

  pub one_mends : (given : List ℕ) {s s' : List ℕ} → Mends R given s → Mends R given s' → s ≡ s'
  one_mends given = one_smallest (Fits R given) (λ s h. h.feasible.one_each)

  pub one_comes_out : (given : List ℕ) {s s' : List ℕ} → ComesOut R given s → ComesOut R given s' → s ≡ s'
  one_comes_out given = one_smallest (Queues R given) (λ s h. h.one_each)

  -- ---- what needs no mending

  keeps_itself : (s : List ℕ) → Keeps R s s
  keeps_itself s = record { in_order = λ i j hi hj a. a; not_before = λ j l. omega arith }

  -- Feasible starts come back as they are.
  pub feasible_kept : {s : List ℕ} → Feasible R s → Mends R s s
  feasible_kept {s} f = record { such = record { feasible = f; keeps = keeps_itself s }; smallest = λ s' h j l. h.keeps.not_before j l }

  -- ---- in time, or not

  fits_queues : {given s : List ℕ} → Fits R given s → Queues R given s
  fits_queues h =
      let f = h.feasible in
      record { one_each = f.one_each; released = f.released; apart = f.apart; keeps = h.keeps }

  module _ (given : List ℕ) {s : List ℕ} (out : ComesOut R given s) where
    -- Where all jobs come out in time, the schedule is mended;
    pub in_time_mends : ((j : ℕ) → j < jobs R → InTime R s j) → Mends R given s
    in_time_mends due =
        let q = out.such in
        record {
          such = record {
            feasible = record { one_each = q.one_each; released = q.released; in_time = due; apart = q.apart };
            keeps = q.keeps;
          };
          smallest = λ s' h. out.smallest s' (fits_queues h);
        }

    -- where one comes out late, there is no such schedule;
    pub late_none : {j : ℕ} → FirstLate R s j → (s' : List ℕ) → Fits R given s' → ⊥
    late_none {j} h s' f = omega (arith, h.late, out.smallest s' (fits_queues f) j h.known, f.feasible.in_time j h.known)

    -- and one job only is the first late.
    pub one_first_late : Valid R → {i j : ℕ} → FirstLate R s i → FirstLate R s j → i ≡ j
    one_first_late valid {i} {j} h h' =
        by_cases (dec_le (suc (start s i)) (start s j)) (λ l. absurd (omega (arith, h.late, h'.first i h.known l)))
        (λ l. by_cases (dec_le (suc (start s j)) (start s i)) (λ l'. absurd (omega (arith, h'.late, h.first j h'.known l')))
        (λ l'. out.such.apart i j (start s i) h.known h'.known
        (omega (arith, valid.runs i h.known)) (omega (arith, valid.runs j h'.known))))

-- ---- the jobs settle where they come out

module _ (R : Recorder) (given : List ℕ) (valid : Valid R) where
  all : (j : ℕ) → j < jobs R → In j (up_from 0 (jobs R))
  all j l = up_in 0 (jobs R) j (omega arith) (omega arith)

  waiting : Waiting (jobs R) (up_from 0 (jobs R)) (replicate (jobs R) 0)
  waiting =
      record {
        number = length_up 0 (jobs R);
        rising = up_rising 0 (jobs R);
        room = λ j h. rw (length-replicate {A = ℕ} (jobs R) 0) (all_known R j h);
      }

  mended_queues : Queues R given (mended R given)
  unfolding mended
  mended_queues =
      let n = jobs R in
      let u = up_from 0 n in
      let z : List ℕ = replicate n 0 in
      record {
        one_each = settle_length R given n 0 u z ∙ length-replicate n 0;
        released = λ j l. omega (arith, settle_from R given n 0 u z waiting j (all j l));
        apart = λ i j t hi hj b b'. by_cases (ℕ_discrete i j) (λ e. e) (λ ne. absurd (⊎_elim
            (λ a. omega (arith, settle_next R given n 0 u z waiting i j (all i hi) (all j hj) a))
            (λ a. omega (arith, settle_next R given n 0 u z waiting j i (all j hj) (all i hi) a))
            (one_ahead given i j ne)));
        keeps = record {
          in_order = λ i j hi hj a. inl (omega (arith, settle_next R given n 0 u z waiting i j (all i hi) (all j hj) a, valid.runs i hi));
          not_before = λ j l. omega (arith, settle_from R given n 0 u z waiting j (all j l));
        };
      }

  -- Jobs that queue come one after the other, in the given order.
  queue_next : (s : List ℕ) → Queues R given s → (i j : ℕ) → i < jobs R → j < jobs R → Ahead given i j → start s i + run R i ≤ start s j
  queue_next s q i j hi hj a =
      let l = first_least s i j (ahead_first s i j (q.keeps.in_order i j hi hj a)) in
      by_cases (dec_le (start s i + run R i) (start s j)) (λ w. w)
      (λ w. let e = q.apart i j (start s j) hi hj (omega arith) (omega (arith, valid.runs j hj)) in
      let a' : Ahead given i i = subst (Ahead given i) (sym e) a in
      absurd (ahead_one_way given i i (ahead_first given i i a') a'))

  pub mended_comes_out : ComesOut R given (mended R given)
  unfolding mended
  mended_comes_out =
      record {
        such = mended_queues;
        smallest = λ s q j l. settle_least R given s (jobs R) 0 (up_from 0 (jobs R)) (replicate (jobs R) 0) waiting
            (λ i h. omega arith) (λ i h. q.released i (all_known R i h)) (λ i h. q.keeps.not_before i (all_known R i h))
            (λ i k h h'. queue_next s q i k (all_known R i h) (all_known R k h')) j (all j l);
      }

  met : LateOf R given (mended R given) (up_from 0 (jobs R)) (first_late R given)
  unfolding mended
  met = settle_late R given (jobs R) 0 (up_from 0 (jobs R)) (replicate (jobs R) 0) waiting

  pub none_late : first_late R given ≡ none → Mends R given (mended R given)
  none_late e =
      in_time_mends R given mended_comes_out
      (λ j l. subst (LateOf R given (mended R given) (up_from 0 (jobs R))) e met j (all j l))

  pub some_late : (j : ℕ) → first_late R given ≡ some j → FirstLate R (mended R given) j
  some_late j e =
      let h = subst (LateOf R given (mended R given) (up_from 0 (jobs R))) e met in
      record { known = all_known R j h.0; late = h.1; first = λ i l. h.2 i (all i l) }
