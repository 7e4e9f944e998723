-- Either rule, in the gap form. A device that is used pays from tick `since` on: in a list from tick 0, in a round from its first use. In a round what lies before the
-- first use and after the last is one gap, paid when the plan is whole; a device never used sleeps throughout.
-- Code carries three numbers for each device: `since`, what has been paid from there on (paid), and the end of the last use (last_end).
use mathlib.Core.Path.{◌≡◌, refl, sym, ap, ◌∙◌}
use mathlib.Core.Bool.{Bool, true, false, cond, ◌&&◌, and-true, and-false, true≢false}
use mathlib.Core.List.{List, [], ◌∷◌, ◌++◌, append_assoc}
use mathlib.Core.Logic.{◌⊎◌, inl, inr, ⊎_elim, by_cases}
use Prim.Native.Nat.{ℕ, suc, ◌+◌, ◌-◌, ◌*◌, ◌≤◌, ◌<◌}
use native.Mathlib.Nat.{zero-add, add_comm, sub-zero, sub_self}
use native.Mathlib.Decide.{dec_le}
use native.Mathlib.Omega.{arith}
use lib.Dec.{eqb}
use lib.ListN.{replicate}
use borrow.Author.Tests.{ne_eqb}
use Rattle.base.specs.Sums.{total, sum}
use Rattle.base.proofs.Additions.{sum_same, total_replicate}
use Rattle.base.proofs.Cases.{test_cases}
use Rattle.device.specs.declared.Device.{Device}
use Rattle.device.specs.Row.{Sound, at, deep, power, energy, energy_of, gap_cost, pattern}
use Rattle.device.proofs.Pattern.{Ended, ended_after, pattern_split, pattern_const, pattern_close}
use Rattle.device.proofs.Chosen.{gap_none, gap_low}
use Rattle.device.proofs.Joined.{gap_joined}
use Rattle.device.proofs.Least.{energy_front, round_never, round_close}
use Rattle.schedule.specs.declared.Recorder.{Recorder}
use Rattle.schedule.specs.Quantities.{device, run, uses, Valid}
use Rattle.schedule.specs.Listing.{Feasible, Place, used, uses_of, running}
use Rattle.schedule.specs.Visiting.{Vertex, starts_of, plan_energy, last_end, first_start, since, ticks}
use Rattle.schedule.proofs.Runs.{InTurn, full_in_turn, run_running, run_feasible, feasible_run}
use Rattle.schedule.proofs.Tree.{Reached, full_run}
use Rattle.schedule.proofs.Gaps.{paid_from, used_here, used_before_lem, used_beside, last_by, settled, paid_is, close_is, paid_snoc, uses_running}

pub gap_free : (d : Device) → gap_cost d 0 ≡ 0
unfolding gap_cost
gap_free d = ap (energy d) (gap_none d)

-- ---- used at some of the places, or at none

-- The ticks for which the places use device k.
abbrev pub spent : Recorder → ℕ → List Place → ℕ
spent R k r = total (λ (p : Place). ticks R k p.job) r

pub record Unused (R : Recorder) (k : ℕ) (r : List Place) : Type 0 where
  pub none : spent R k r ≡ 0
  pub never : (t : ℕ) → used R k r t ≡ false
  pub last : (e : ℕ) → last_end R k e r ≡ e
  pub paid : (e : ℕ) → paid_from R k e r ≡ 0
  pub first : first_start R k r ≡ 0
  pub first_on : (r' : List Place) → first_start R k (r ++ r') ≡ first_start R k r'

pub record Used (R : Recorder) (k : ℕ) (r : List Place) : Type 0 where
  pub some : 1 ≤ spent R k r
  pub before : (t : ℕ) → t < first_start R k r → used R k r t ≡ false
  pub here : used R k r (first_start R k r) ≡ true
  pub last : (e e' : ℕ) → last_end R k e r ≡ last_end R k e' r
  pub paid : paid_from R k 0 r ≡ gap_cost (device R k) (first_start R k r) + paid_from R k (first_start R k r) r
  pub first_on : (r' : List Place) → first_start R k (r ++ r') ≡ first_start R k r

module _ (R : Recorder) (k : ℕ) where
  unused_more : (p : Place) (r : List Place) → uses R k p.job ≡ false → Unused R k r → Unused R k (p ∷ r)
  unfolding last_end first_start paid_from
  unused_more p r q u =
      record {
        none = rw (q, zero-add) u.none;
        never = λ t. used_beside R k p r t q ∙ u.never t;
        last = λ e. rw q (u.last e);
        paid = λ e. rw q (u.paid e);
        first = rw q u.first;
        first_on = λ r'. rw q (u.first_on r');
      }

  used_more : (p : Place) (r : List Place) → uses R k p.job ≡ false → Used R k r → Used R k (p ∷ r)
  unfolding last_end first_start paid_from
  used_more p r q u =
      record {
        some = rw (q, zero-add) u.some;
        before = rw q (λ t l. used_beside R k p r t q ∙ u.before t l);
        here = rw q (used_beside R k p r (first_start R k r) q ∙ u.here);
        last = λ e e'. rw q (u.last e e');
        paid = rw q u.paid;
        first_on = λ r'. rw q (u.first_on r');
      }

  used_now : (p : Place) (r : List Place) (t h : ℕ) → InTurn R t h (p ∷ r) → uses R k p.job ≡ true → Used R k (p ∷ r)
  unfolding last_end first_start paid_from
  used_now p r t h w q =
      record {
        some = rw q (omega (arith, w.1));
        before = rw q (λ x l. used_before_lem R k (p ∷ r) p.start h x (omega arith, w.1, w.2) l);
        here = rw q (used_here R k p r p.start q (omega arith) (omega (arith, w.1)));
        last = λ e e'. rw q;
        paid = rw (q, sub-zero, sub_self, gap_free (device R k)) (omega arith);
        first_on = λ r'. rw q;
      }

  pub use_cases : (r : List Place) (t h : ℕ) → InTurn R t h r → Unused R k r ⊎ Used R k r
  unfolding last_end first_start paid_from used
  use_cases [] t h w = inl (record { none = refl; never = λ x. refl; last = λ e. refl; paid = λ e. refl; first = refl; first_on = λ r'. refl })
  use_cases (p ∷ r) t h w =
      test_cases (λ b. Unused R k (p ∷ r) ⊎ Used R k (p ∷ r)) (uses R k p.job)
      (λ q. inr (used_now p r t h w q))
      (λ q. ⊎_elim (λ u. inl (unused_more p r q u)) (λ u. inr (used_more p r q u)) (use_cases r (p.start + run R p.job) h w.2))

-- ---- from the first use on

-- What the places cost on device k from tick `since` on: the uses, and the gaps between them; in a list the gap before the first use too.
abbrev pub paid : Recorder → ℕ → List Place → ℕ
paid R k r = paid_from R k (since R k r) r

-- In a round, and unused so far: no gap has been paid.
abbrev pub idle : Recorder → ℕ → List Place → Bool
idle R k r = R.round && eqb (last_end R k 0 r) 0

-- What a whole plan costs on device k, the gap after the last use too; in a round that gap goes on to the first use.
abbrev pub paid_whole : Recorder → ℕ → List Place → ℕ
paid_whole R k r =
    cond (idle R k r) (deep (device R k) * R.horizon) (paid R k r + gap_cost (device R k) (since R k r + (R.horizon - last_end R k 0 r)))

-- The ticks up to the end of the last use are a gap, a used tick, and the rest.
record Parts (R : Recorder) (k : ℕ) (r : List Place) : Type 0 where
  rest : List Bool
  within : first_start R k r < last_end R k 0 r
  whole : pattern (used R k r) 0 (last_end R k 0 r) ≡ replicate (first_start R k r) false ++ true ∷ rest
  inner : pattern (used R k r) (first_start R k r) (last_end R k 0 r - first_start R k r) ≡ true ∷ rest
  ends : Ended (true ∷ rest)
  costs : energy_of false (device R k) (true ∷ rest) ≡ paid_from R k (first_start R k r) r

module _ (R : Recorder) (k : ℕ) (r : List Place) (h : ℕ) (w : InTurn R 0 h r) where
  parts : Used R k r → Parts R k r
  parts u =
      let f = used R k r in
      let a = first_start R k r in
      let e = last_end R k 0 r in
      let s = settled R k r h w in
      let within : a < e = by_cases (dec_le e a) (λ l. absurd (true≢false (sym u.here ∙ s.2 a l))) (λ n. omega arith) in
      let rest = pattern f (suc a) (e - suc a) in
      let all : a + suc (e - suc a) ≡ e = omega arith in
      let some : suc (e - suc a) ≡ e - a = omega arith in
      let inner : pattern f a (e - a) ≡ true ∷ rest = ap (pattern f a) (sym some) ∙ rw u.here in
      let whole : pattern f 0 e ≡ replicate a false ++ true ∷ rest =
      ap (pattern f 0) (sym all) ∙ pattern_split f 0 a (suc (e - suc a))
      ∙ rw (zero-add a, u.here, pattern_const f false 0 a (λ t l m. u.before t (omega arith))) in
      record {
        rest = rest;
        within = within;
        whole = whole;
        inner = inner;
        ends = ended_after s.0 (replicate a false) rest whole;
        costs = omega (arith, energy_front (device R k) a rest, ap (energy_of false (device R k)) whole, paid_is R k r h w, u.paid);
      }

  -- A use ends after tick 0.
  pub ends_late : Used R k r → eqb (last_end R k 0 r) 0 ≡ false
  ends_late u = ne_eqb (last_end R k 0 r) 0 (λ z. omega (arith, (parts u).within))

  -- The ticks from `since` to the end of the last use.
  pub paid_since : energy_of false (device R k) (pattern (used R k r) (since R k r) (last_end R k 0 r - since R k r)) ≡ paid R k r
  unfolding since
  paid_since =
      let f = used R k r in
      let a = first_start R k r in
      let e = last_end R k 0 r in
      test_cases (λ b. energy_of false (device R k) (pattern f (cond b a 0) (e - cond b a 0)) ≡ paid_from R k (cond b a 0) r) R.round
      (λ q. ⊎_elim (λ u. rw (u.first, sub-zero) (paid_is R k r h w)) (λ u. ap (energy_of false (device R k)) (parts u).inner ∙ (parts u).costs)
      (use_cases R k r 0 h w))
      (λ q. rw sub-zero (paid_is R k r h w))

  pub since_by : since R k r ≤ last_end R k 0 r
  unfolding since
  since_by =
      test_cases (λ b. cond b (first_start R k r) 0 ≤ last_end R k 0 r) R.round
      (λ q. ⊎_elim (λ u. rw u.first (omega arith)) (λ u. omega (arith, (parts u).within)) (use_cases R k r 0 h w))
      (λ q. omega arith)

module _ (R : Recorder) (k : ℕ) (r : List Place) (w : InTurn R 0 R.horizon r) where
  -- All ticks: a round without a use,
  whole_unused : Unused R k r → energy_of true (device R k) (pattern (used R k r) 0 R.horizon) ≡ deep (device R k) * R.horizon
  whole_unused u =
      let d = device R k in
      ap (energy_of true d) (pattern_const (used R k r) false 0 R.horizon (λ t l m. u.never t))
      ∙ ap (energy d) (round_never d R.horizon) ∙ total_replicate (power d) R.horizon (at d.levels)

  -- a round with a use,
  whole_used : Used R k r
      → energy_of true (device R k) (pattern (used R k r) 0 R.horizon)
      ≡ paid_from R k (first_start R k r) r + gap_cost (device R k) (first_start R k r + (R.horizon - last_end R k 0 r))
  whole_used u =
      let d = device R k in
      let f = used R k r in
      let a = first_start R k r in
      let e = last_end R k 0 r in
      let n = R.horizon - e in
      let p = parts R k r R.horizon w u in
      let all : e + n ≡ R.horizon = omega (arith, last_by R k r 0 0 R.horizon w (omega arith)) in
      let split : pattern f 0 R.horizon ≡ replicate a false ++ (true ∷ p.rest ++ replicate n false) =
      ap (pattern f 0) (sym all) ∙ pattern_close f 0 e n (λ t l m. (settled R k r R.horizon w).2 t (omega arith))
      ∙ rw (p.whole, append_assoc) in
      ap (energy_of true d) split ∙ round_close d p.rest p.ends a n ∙ rw (p.costs, add_comm n a)

  -- and either rule.
  pub whole_is : energy_of R.round (device R k) (pattern (used R k r) 0 R.horizon) ≡ paid_whole R k r
  unfolding since
  whole_is =
      let d = device R k in
      let a = first_start R k r in
      let e = last_end R k 0 r in
      let n = R.horizon - e in
      test_cases (λ b. energy_of b d (pattern (used R k r) 0 R.horizon)
      ≡ cond (b && eqb e 0) (deep d * R.horizon) (paid_from R k (cond b a 0) r + gap_cost d (cond b a 0 + n))) R.round
      (λ q. ⊎_elim (λ u. rw (u.last 0) (whole_unused u)) (λ u. rw (ends_late R k r R.horizon w u) (whole_used u))
      (use_cases R k r 0 R.horizon w))
      (λ q. rw zero-add (close_is R k r R.horizon w))

  -- By itself, from work to work, the row costs no less.
  pub round_saves : Sound (device R k)
      → energy_of true (device R k) (pattern (used R k r) 0 R.horizon) ≤ energy_of false (device R k) (pattern (used R k r) 0 R.horizon)
  round_saves ok =
      let d = device R k in
      let list = close_is R k r R.horizon w in
      ⊎_elim
      (λ u. rw (whole_unused u, list, u.paid 0, u.last 0, sub-zero, zero-add) (gap_low d ok R.horizon))
      (λ u. omega (arith, whole_used u, list, u.paid, gap_joined d ok (first_start R k r) (R.horizon - last_end R k 0 r)))
      (use_cases R k r 0 R.horizon w)

-- ---- one use more

module _ (R : Recorder) (k : ℕ) (r : List Place) (p : Place) (h : ℕ) (w : InTurn R 0 h r) where
  -- What placing one job more does to `since` and to what is paid. (To the end of the last use: Gaps' last-snoc.)
  pub since_place : since R k (r ++ p ∷ []) ≡ cond (uses R k p.job && idle R k r) p.start (since R k r)
  unfolding since first_start
  since_place =
      let a = first_start R k r in
      let e = last_end R k 0 r in
      test_cases (λ b. cond b (first_start R k (r ++ p ∷ [])) 0 ≡ cond (uses R k p.job && (b && eqb e 0)) p.start (cond b a 0)) R.round
      (λ q. ⊎_elim (λ u. rw (u.first_on (p ∷ []), u.last 0, u.first, and-true)) (λ u. rw (u.first_on (p ∷ []), ends_late R k r h w u, and-false))
      (use_cases R k r 0 h w))
      (λ q. rw and-false)

  abbrev Grown : Bool → Type 0
  Grown b =
      paid_from R k (cond b (first_start R k (r ++ p ∷ [])) 0) (r ++ p ∷ [])
      ≡ cond (uses R k p.job)
      (paid_from R k (cond b (first_start R k r) 0) r
      + (gap_cost (device R k) (cond (b && eqb (last_end R k 0 r) 0) 0 (p.start - last_end R k 0 r)) + (device R k).pw * run R p.job))
      (paid_from R k (cond b (first_start R k r) 0) r)

  first_place : Unused R k r → Grown true
  unfolding first_start
  first_place u =
      rw (u.first_on (p ∷ []), u.last 0, u.first, u.paid 0)
      (test_cases (λ b. paid_from R k (cond b p.start 0) (r ++ p ∷ []) ≡ cond b (0 + (gap_cost (device R k) 0 + (device R k).pw * run R p.job)) 0) (uses R k p.job)
      (λ q. paid_snoc R k r p p.start ∙ rw (q, u.paid p.start, u.last p.start, sub_self))
      (λ q. paid_snoc R k r p 0 ∙ rw (q, u.paid 0)))

  later_place : Used R k r → Grown true
  later_place u =
      let a = first_start R k r in
      rw (u.first_on (p ∷ []), ends_late R k r h w u) (paid_snoc R k r p a ∙ rw (u.last a 0))

  pub paid_place :
      paid R k (r ++ p ∷ [])
      ≡ cond (uses R k p.job)
      (paid R k r + (gap_cost (device R k) (cond (idle R k r) 0 (p.start - last_end R k 0 r)) + (device R k).pw * run R p.job))
      (paid R k r)
  unfolding since
  paid_place = test_cases Grown R.round (λ q. ⊎_elim first_place later_place (use_cases R k r 0 h w)) (λ q. paid_snoc R k r p 0)

-- ---- the plan

module _ (R : Recorder) (valid : Valid R) where
  -- The energy of a feasible schedule, by its running order;
  pub plan_is : (s : List ℕ) → Feasible R s → plan_energy R s ≡ sum R.devices.count (λ k. paid_whole R k (running R s))
  unfolding plan_energy
  plan_is s f =
      sum_same R.devices.count (λ k. energy_of R.round (device R k) (uses_of R s k)) (λ k. paid_whole R k (running R s))
      (λ k l. ap (energy_of R.round (device R k)) (uses_running R k s)
      ∙ whole_is R k (running R s) (full_in_turn R valid (running R s) (feasible_run R valid s f)))

  -- and of the schedule at a complete vertex, by what is placed.
  pub plan_complete : (v : Vertex) → Reached R 0 v → plan_energy R (starts_of R v) ≡ sum R.devices.count (λ k. paid_whole R k v.placed)
  plan_complete v h =
      let full = full_run R valid v h in
      plan_is (starts_of R v) (run_feasible R v.placed full)
      ∙ ap (λ (r : List Place). sum R.devices.count (λ k. paid_whole R k r)) (run_running R valid v.placed full)
