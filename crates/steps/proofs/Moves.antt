-- The invariant: where a device may be at each start and completion, its state with that of a legal row (rules 31 to 35), and that the ticks between keep it.
use mathlib.Core.Path.{◌≡◌, refl, sym}
use mathlib.Core.Bool.{Bool, true, false, cond, true≢false}
use mathlib.Core.List.{List, ◌++◌}
use Prim.Native.Nat.{ℕ, zero, suc, ◌≤◌, ◌<◌}
use native.Mathlib.Omega.{arith}
use lib.ListN.{replicate}
use lib.Dec.{leb, ltb}
use borrow.Author.Tests.{leb-true, leb-false, ltb-true, ltb-false}
use Rattle.base.proofs.Cases.{test_cases}
use Rattle.device.specs.declared.Device.{Device}
use Rattle.device.specs.Row.{Letter, level, down, up, Rests, rests, fallen, Ends, at_work, woken, stays, shuts, falls, wakes, rises, resumes, Goes, over, used, free}
use Rattle.device.specs.Row as Row
use Rattle.steps.specs.declared.State.{State}
use Rattle.steps.specs.declared.State.TheVariants.{Working, Asleep, Down, Up}
use Rattle.steps.specs.Stepping.{falling, rising, at_start, at_end}
use Rattle.steps.specs.inside.Running.{alone, later}

-- Where a device that sleeps may stand in a row.
abbrev pub Slept : Row.State → Type 0
Slept z = Rests z 1

-- Before a start: a device that this job uses works.
pub data Ready (this : Bool) : State → Row.State → Type 0 where
  ready_work : Ready this Working (level 0)
  ready_woken : this ≡ true → Ready this Working (up 0 0)
  ready_sleep : {z : Row.State} → this ≡ false → Slept z → Ready this Asleep z

-- T is the time of a move.
module _ (T : ℕ) (this next : Bool) (pause : ℕ) where
  -- After the start,
  pub data Begun : State → Row.State → Type 0 where
    begun_used : {z : Row.State} → this ≡ true → Ends z → Begun Working z
    begun_kept : this ≡ false → next ≡ true → pause < T → Begun Working (level 0)
    begun_fall : this ≡ false → (next ≡ true → T ≤ pause) → Begun (Down T) (level 0)
    begun_rise : {z : Row.State} → this ≡ false → next ≡ true → pause < T → Slept z → Begun (Up T) z
    begun_sleep : {z : Row.State} → this ≡ false → (next ≡ true → T ≤ pause) → Slept z → Begun Asleep z

  -- before the completion,
  pub data Ran : State → Row.State → Type 0 where
    ran_used : this ≡ true → Ran Working (level 0)
    ran_kept : {z : Row.State} → next ≡ true → pause < T → Ends z → Ran Working z
    ran_slept : {z : Row.State} → (next ≡ true → T ≤ pause) → Slept z → Ran Asleep z

-- and after it: a device moves only where the pause is long enough.
pub data Ended (T : ℕ) (next : Bool) (pause : ℕ) : State → Row.State → Type 0 where
  ended_work : Ended T next pause Working (level 0)
  ended_woken : next ≡ true → Ended T next pause Working (up 0 0)
  ended_sleep : {z : Row.State} → next ≡ false → Slept z → Ended T next pause Asleep z
  ended_fall : next ≡ false → T ≤ pause → Ended T next pause (Down T) (level 0)
  ended_rise : {z : Row.State} → next ≡ true → T ≤ pause → Slept z → Ended T next pause (Up T) z

-- ---- the two rules

pub untrue : {A : Type 0} → false ≡ true → A
untrue e = absurd (true≢false (sym e))

module _ (T : ℕ) where
  pub start_keeps : (this next : Bool) (pause : ℕ) {st : State} {z : Row.State} → Ready this st z → Begun T this next pause (at_start T this next pause st) z
  start_keeps true next pause ready_work = begun_used refl at_work
  start_keeps true next pause (ready_woken e) = begun_used refl woken
  start_keeps true next pause (ready_sleep e h) = untrue (sym e)
  start_keeps false false pause ready_work = begun_fall refl untrue
  start_keeps false true pause ready_work =
      test_cases (λ b. Begun T false true pause (cond b (Down T) Working) (level 0)) (leb T pause)
      (λ e. begun_fall refl (λ q. leb-true T pause e)) (λ e. begun_kept refl refl (leb-false T pause e))
  start_keeps false next pause (ready_woken e) = untrue e
  start_keeps false false pause (ready_sleep e h) = begun_sleep refl untrue h
  start_keeps false true pause (ready_sleep {z = z} e h) =
      test_cases (λ b. Begun T false true pause (cond b (Up T) Asleep) z) (ltb pause T)
      (λ q. begun_rise refl refl (ltb-true pause T q) h) (λ q. begun_sleep refl (λ n. ltb-false pause T q) h)

  pub end_keeps : (this next : Bool) (pause : ℕ) {st : State} {z : Row.State} → Ran T this next pause st z → Ended T next pause (at_end T this next pause st) z
  end_keeps true true pause (ran_used e) = ended_work
  end_keeps true false pause (ran_used e) =
      test_cases (λ b. Ended T false pause (cond b (Down T) Working) (level 0)) (leb T pause)
      (λ q. ended_fall refl (leb-true T pause q)) (λ q. ended_work)
  end_keeps false next pause (ran_used e) = untrue e
  end_keeps true true pause (ran_kept e l at_work) = ended_work
  end_keeps true true pause (ran_kept e l woken) = ended_woken refl
  end_keeps false true pause (ran_kept e l at_work) = ended_work
  end_keeps false true pause (ran_kept e l woken) = ended_woken refl
  end_keeps this false pause (ran_kept e l h) = untrue e
  end_keeps this true pause (ran_slept e h) = ended_rise refl (e refl) h
  end_keeps this false pause (ran_slept e h) = ended_sleep refl h

-- ---- ticks between

pub goes_append : {d : Device} {s t z : Row.State} {u u' : List Bool} {r r' : List Letter} → Goes d s u r t → Goes d t u' r' z → Goes d s (u ++ u') (r ++ r') z
goes_append over g = g
goes_append (used h f) g = used h (goes_append f g)
goes_append (free h f) g = free h (goes_append f g)

pub later_work : (n : ℕ) → later n Working ≡ Working
unfolding later
later_work zero = refl
later_work (suc n) = later_work n

pub later_sleep : (n : ℕ) → later n Asleep ≡ Asleep
unfolding later
later_sleep zero = refl
later_sleep (suc n) = later_sleep n

-- A move with n ticks left is over after m.
pub later_falling : (n m : ℕ) → n ≤ m → later m (falling n) ≡ Asleep
unfolding later
later_falling zero m h = later_sleep m
later_falling (suc n) zero h = absurd (omega arith)
later_falling (suc n) (suc m) h = later_falling n m (omega arith)

pub later_rising : (n m : ℕ) → n ≤ m → later m (rising n) ≡ Working
unfolding later
later_rising zero m h = later_work m
later_rising (suc n) zero h = absurd (omega arith)
later_rising (suc n) (suc m) h = later_rising n m (omega arith)

-- A device that has a sleep level.
module _ (d : Device) (some : 1 ≤ d.levels) where
  -- m ticks with use or without, from a state of the row to one of which P holds.
  abbrev Runs : Bool → ℕ → State → Row.State → (Row.State → Type 0) → Type 0
  Runs b m st z P = (y : Row.State) × Goes d z (replicate m b) (alone m st) y × P y

  go_work : (b : Bool) (m : ℕ) → Goes d (level 0) (replicate m b) (alone m Working) (level 0)
  unfolding alone
  go_work b zero = over
  go_work true (suc m) = used (stays {k = 0} rests (omega arith)) (go_work true m)
  go_work false (suc m) = free (stays {k = 0} rests (omega arith)) (go_work false m)

  go_woken : (b : Bool) (m : ℕ) → 1 ≤ m → Goes d (up 0 0) (replicate m b) (alone m Working) (level 0)
  unfolding alone
  go_woken b zero h = absurd (omega arith)
  go_woken true (suc m) h = used resumes (go_work true m)
  go_woken false (suc m) h = free resumes (go_work false m)

  go_awake : (m : ℕ) {z : Row.State} → Ends z → Runs false m Working z Ends
  unfolding alone
  go_awake m at_work = (level 0, go_work false m, at_work)
  go_awake zero woken = (up 0 0, over, woken)
  go_awake (suc m) woken = (level 0, go_woken false (suc m) (omega arith), at_work)

  go_sleep : (m : ℕ) {z : Row.State} → Slept z → Runs false m Asleep z Slept
  unfolding alone
  go_sleep zero {z} h = (z, over, h)
  go_sleep (suc m) h = let g = go_sleep m rests in (g.0, free (stays {k = 1} h some) g.1, g.2)

  go_falling : (n m : ℕ) → n ≤ m → Runs false m (falling n) (down 1 n) Slept
  unfolding alone
  go_falling zero m h = go_sleep m fallen
  go_falling (suc n) zero h = absurd (omega arith)
  go_falling (suc n) (suc m) h = let g = go_falling n m (omega arith) in (g.0, free falls g.1, g.2)

  go_rising : (n m : ℕ) → n ≤ m → Runs false m (rising n) (up 0 n) Ends
  unfolding alone
  go_rising zero m h = go_awake m woken
  go_rising (suc n) zero h = absurd (omega arith)
  go_rising (suc n) (suc m) h = let g = go_rising n m (omega arith) in (g.0, free rises g.1, g.2)

  -- A whole move.
  go_down : (T m : ℕ) → T ≡ d.shut → 1 ≤ T → T ≤ m → Runs false m (Down T) (level 0) Slept × (later m (Down T) ≡ Asleep)
  unfolding alone later
  go_down zero m e l h = absurd (omega arith)
  go_down (suc n) zero e l h = absurd (omega arith)
  go_down (suc n) (suc m) e l h = let g = go_falling n m (omega arith) in ((g.0, free (shuts {k = 0} rests some e) g.1, g.2), later_falling n m (omega arith))

  go_up : (T m : ℕ) {z : Row.State} → T ≡ d.wake → 1 ≤ T → T ≤ m → Slept z → Runs false m (Up T) z Ends × (later m (Up T) ≡ Working)
  unfolding alone later
  go_up zero m e l h s = absurd (omega arith)
  go_up (suc n) zero e l h s = absurd (omega arith)
  go_up (suc n) (suc m) e l h s = let g = go_rising n m (omega arith) in ((g.0, free (wakes s e) g.1, g.2), later_rising n m (omega arith))

  -- Where T ticks are enough for a move, down or up: the pause, and a job that lasts at least T.
  module _ (moves : 1 ≤ d.shut) (alike : d.shut ≡ d.wake) where
    pub pause_keeps : (next : Bool) (m : ℕ) {st : State} {z : Row.State} → Ended d.shut next m st z
        → (y : Row.State) × Goes d z (replicate m false) (alone m st) y × Ready next (later m st) y
    pause_keeps next m ended_work = (level 0, go_work false m, rw (later_work m) ready_work)
    pause_keeps next m (ended_woken e) = rw (later_work m) (awake (go_awake m woken))
      where
        awake : Runs false m Working (up 0 0) Ends → Runs false m Working (up 0 0) (Ready next Working)
        awake (y, g, at_work) = (y, g, ready_work)
        awake (y, g, woken) = (y, g, ready_woken e)
    pause_keeps next m (ended_sleep e h) = let g = go_sleep m h in rw (later_sleep m) (g.0, g.1, ready_sleep e g.2)
    pause_keeps next m (ended_fall e l) =
        let g = go_down d.shut m refl moves l in
        rw g.1 (g.0.0, g.0.1, ready_sleep e g.0.2)
    pause_keeps next m (ended_rise {z = z} e l h) =
        let g = go_up d.shut m alike moves l h in
        rw g.1 (awake g.0)
      where
        awake : Runs false m (Up d.shut) z Ends → Runs false m (Up d.shut) z (Ready next Working)
        awake (y, g, at_work) = (y, g, ready_work)
        awake (y, g, woken) = (y, g, ready_woken e)

    pub run_keeps : (this next : Bool) (pause c : ℕ) {st : State} {z : Row.State} → d.shut ≤ c → Begun d.shut this next pause st z
        → (y : Row.State) × Goes d z (replicate c this) (alone c st) y × Ran d.shut this next pause (later c st) y
    run_keeps true next pause c l (begun_used e at_work) = (level 0, go_work true c, rw (later_work c) (ran_used refl))
    run_keeps true next pause c l (begun_used e woken) = (level 0, go_woken true c (omega arith), rw (later_work c) (ran_used refl))
    run_keeps false next pause c l (begun_used e h) = untrue e
    run_keeps false next pause c l (begun_kept e q b) = (level 0, go_work false c, rw (later_work c) (ran_kept q b at_work))
    run_keeps false next pause c l (begun_fall e q) =
        let g = go_down d.shut c refl moves l in
        rw g.1 (g.0.0, g.0.1, ran_slept q g.0.2)
    run_keeps false next pause c l (begun_rise e q b h) =
        let g = go_up d.shut c alike moves l h in
        rw g.1 (g.0.0, g.0.1, ran_kept q b g.0.2)
    run_keeps false next pause c l (begun_sleep e q h) = let g = go_sleep c h in rw (later_sleep c) (g.0, g.1, ran_slept q g.2)
    run_keeps true next pause c l (begun_kept e q b) = untrue (sym e)
    run_keeps true next pause c l (begun_fall e q) = untrue (sym e)
    run_keeps true next pause c l (begun_rise e q b h) = untrue (sym e)
    run_keeps true next pause c l (begun_sleep e q h) = untrue (sym e)
