-- The device of specs/Row, with any number of sleep levels and with times and powers of its own for going down and coming up: every filling of a gap is a walk over
-- the levels, so that the gap's row is the best filling.
use mathlib.Core.Path.{◌≡◌, refl, sym, ap, subst}
use mathlib.Core.List.{List, [], ◌∷◌, ◌++◌, append-nil, append_assoc}
use Prim.Native.Nat.{ℕ, zero, suc, ◌+◌, ◌-◌, ◌*◌, ◌≤◌, ◌<◌}
use mathlib.Core.Logic.{⊎_elim}
use native.Mathlib.Nat.{mul-zero, sub-zero, eq-or-lt_of_le, mul-le-mul_left}
use native.Mathlib.Omega.{arith}
use lib.ListN.{replicate, replicate-append-replicate}
use Rattle.device.specs.declared.Device.{Device}
use Rattle.device.specs.Row.{power_at, Sound, Letter, at, D, U, State, level, down, up, Rests, rests, fallen, risen, Step, stays, shuts, wakes, falls, rises, resumes, Ends, at_work, woken, power, moving, depth, gap_row}
use Rattle.device.specs.Row as R
use Rattle.device.proofs.Rows.{Machine, Run, stop, tick, Works, Best}
use Rattle.device.proofs.Walk.{Moves, Walk, done, stay, fall, rise, trip, Cheaper}
use Rattle.device.proofs.Gap.{Room, Walked, Choice, best}
use Rattle.device.proofs.Chosen.{chosen, trip_energy, trip_moved, power_falls}

abbrev pub machine : Device → Machine Letter
machine d = record { State = State; start = level 0; ends = Ends; work = at 0; step = Step d }

abbrev pub moves : Device → Moves Letter
moves d = record { deepest = d.levels; rest = at; down = D; up = U; shut = d.shut; wake = d.wake }

module _ (d : Device) where
  pub machine_works : Works (machine d)
  machine_works = record { returns = ret; resumes = res }
    where
      ret : {s t : State} → Step d s (at 0) t → (level 0 ≡ t) × Ends s
      ret (stays rests l) = (refl, at_work)
      ret resumes = (refl, woken)

      res : {s : State} → Ends s → Step d s (at 0) (level 0)
      res at_work = stays {k = 0} rests (omega arith)
      res woken = resumes

  -- What a run from each state is: what is left of a move, and a walk from the level it leads to.
  abbrev From : State → List Letter → Type 0
  From (level k) p = Walk (moves d) k p
  From (down k n) p = (r : List Letter) × (p ≡ replicate n D ++ r) × Walk (moves d) k r
  From (up k n) p = (r : List Letter) × (p ≡ replicate n U ++ r) × Walk (moves d) k r

  ended : {s : State} → Ends s → From s []
  ended at_work = done
  ended woken = ([], refl, done)

  rested : {s : State} {k : ℕ} (p : List Letter) → Rests s k → Walk (moves d) k p → From s p
  rested p rests v = v
  rested p fallen v = (p, refl, v)
  rested p risen v = (p, refl, v)

  -- A move: its first tick, and the n that are left.
  block : (x : Letter) (n m : ℕ) (p r : List Letter) → suc n ≡ m → p ≡ replicate n x ++ r → replicate m x ++ r ≡ x ∷ p
  block x n m p r e f = rw (← e, f)

  stepped : {s t : State} {x : Letter} (p : List Letter) → Step d s x t → From t p → From s (x ∷ p)
  stepped p (stays {k = k} q l) f = rested (at k ∷ p) q (stay f)
  stepped p (shuts {k = k} {n = n} q l e) f = rested (D ∷ p) q (subst (Walk (moves d) k) (block D n d.shut p f.0 e f.1) (fall l f.2))
  stepped p (wakes {k = k} {n = n} q e) f = rested (U ∷ p) q (subst (Walk (moves d) (suc k)) (block U n d.wake p f.0 e f.1) (rise f.2))
  stepped p falls f = (f.0, ap {B = List Letter} (λ r. D ∷ r) f.1, f.2)
  stepped p rises f = (f.0, ap {B = List Letter} (λ r. U ∷ r) f.1, f.2)
  stepped p resumes f = (at 0 ∷ p, refl, stay f)

  run_walk : {s : State} (p : List Letter) → Run (machine d) s p → From s p
  run_walk p (stop e) = ended e
  run_walk p (tick {r = r} st run) = stepped r st (run_walk r run)

  -- The trips are runs.
  many : (x : Letter) (t k : ℕ) → replicate (t * suc k) x ≡ replicate t x ++ replicate (t * k) x
  many x t k = let e : t * suc k ≡ t + t * k = omega arith in rw (replicate-append-replicate, e)

  run_falls : (k n : ℕ) (q : List Letter) → Run (machine d) (down k 0) q → Run (machine d) (down k n) (replicate n D ++ q)
  run_falls k zero q r = r
  run_falls k (suc n) q r = tick falls (run_falls k n q r)

  run_rises : (k n : ℕ) (q : List Letter) → Run (machine d) (up k 0) q → Run (machine d) (up k n) (replicate n U ++ q)
  run_rises k zero q r = r
  run_rises k (suc n) q r = tick rises (run_rises k n q r)

  module _ (shut-some : 1 ≤ d.shut) (wake-some : 1 ≤ d.wake) where
    down_block : {s : State} {k : ℕ} (q : List Letter) → Rests s k → k < d.levels → Run (machine d) (down (suc k) 0) q
        → Run (machine d) s (replicate d.shut D ++ q)
    down_block {s} {k} q h l r =
        let n = d.shut - 1 in
        let e : suc n ≡ d.shut = omega arith in
        subst (Run (machine d) s) (sym (block D n d.shut (replicate n D ++ q) q e refl)) (tick (shuts h l e) (run_falls (suc k) n q r))

    up_block : {s : State} {k : ℕ} (q : List Letter) → Rests s (suc k) → Run (machine d) (up k 0) q → Run (machine d) s (replicate d.wake U ++ q)
    up_block {s} {k} q h r =
        let n = d.wake - 1 in
        let e : suc n ≡ d.wake = omega arith in
        subst (Run (machine d) s) (sym (block U n d.wake (replicate n U ++ q) q e refl)) (tick (wakes h e) (run_rises k n q r))

    run_ups : (k : ℕ) → Run (machine d) (up k 0) (replicate (d.wake * k) U)
    run_ups zero = rw mul-zero (stop woken)
    run_ups (suc k) = rw (many U d.wake k) (up_block (replicate (d.wake * k) U) risen (run_ups k))

    run_stay : {s : State} (m c : ℕ) → suc m ≤ d.levels → Rests s (suc m) → Run (machine d) s (replicate c (at (suc m)) ++ replicate (d.wake * suc m) U)
    run_stay m zero l h = rw (many U d.wake m) (up_block (replicate (d.wake * m) U) h (run_ups m))
    run_stay m (suc c) l h = tick (stays h l) (run_stay m c l rests)

    run_trip : {s : State} (j k c m : ℕ) → Rests s k → k + j ≡ suc m → suc m ≤ d.levels
        → Run (machine d) s (replicate (d.shut * j) D ++ (replicate c (at (suc m)) ++ replicate (d.wake * suc m) U))
    run_trip {s} zero k c m h e l = rw mul-zero (run_stay m c l (subst (Rests s) (omega arith) h))
    run_trip {s} (suc j) k c m h e l =
        rw (many D d.shut j, append_assoc)
        (down_block (replicate (d.shut * j) D ++ (replicate c (at (suc m)) ++ replicate (d.wake * suc m) U)) h (omega arith)
        (run_trip j (suc k) c m fallen (omega arith) l))

    run_work : (g : ℕ) → Run (machine d) (level 0) (replicate g (at 0))
    run_work zero = stop at_work
    run_work (suc g) = tick (stays {k = 0} rests (omega arith)) (run_work g)

    trips : (m g : ℕ) → m ≤ d.levels → Room (moves d) m g → Run (machine d) (level 0) (trip (moves d) m g)
    unfolding trip
    trips zero g h r = simp (mul-zero, sub-zero, append-nil) (run_work g)
    trips (suc m) g h r = run_trip (suc m) 0 (g - (d.shut * suc m + d.wake * suc m)) m rests (omega arith) h

    pub walked : Walked (moves d) (machine d)
    walked = record { sound = λ p run. run_walk p run; trips = trips }

  module _ (Z : Sound d) where
    first_most : (m : ℕ) → 1 ≤ m → m ≤ d.levels → power_at d m ≤ power_at d 1
    first_most zero l h = absurd (omega arith)
    first_most (suc zero) l h = omega arith
    first_most (suc (suc m)) l h = omega (arith, power_falls d Z 1 (suc (suc m)) (omega arith) h)

    pub cheaper : Cheaper (moves d) (power d)
    cheaper = record {
      falls = power_falls d Z;
      under_down = λ m l h. omega (arith, first_most m l h, Z.shuts_dearer);
      under_up = λ m l h. omega (arith, first_most m l h, Z.wakes_dearer);
      takes_time = Z.shuts;
    }

    -- The level that specs/Row chooses is the best one. A deeper one moves in more ticks.
    same_trip : (m g : ℕ) → trip (moves d) m g ≡ R.trip d m g
    unfolding trip R.trip
    same_trip m g = refl

    more_ticks : (m k : ℕ) → d.shut * k + d.wake * k ≤ d.shut * m + d.wake * m → m ≤ k → k ≡ m
    more_ticks m k h l = ⊎_elim sym (λ lt. absurd (omega (arith, mul-le-mul_left d.shut lt, mul-le-mul_left d.wake lt, Z.shuts))) (eq-or-lt_of_le l)

    choice : Choice (moves d) (power d) moving (depth d d.levels)
    choice = record {
      within = λ g. (chosen d d.levels g).within;
      fits = λ g. (chosen d d.levels g).room;
      beats = λ g k h r.
          let m = depth d d.levels g in
          let c = chosen d d.levels g in
          rw (same_trip m g, same_trip k g, trip_energy d m g, trip_energy d k g, trip_moved d m g, trip_moved d k g) (
            c.least k h r,
            λ e. omega (arith, mul-le-mul_left d.shut (c.shallower k h r e), mul-le-mul_left d.wake (c.shallower k h r e)),
            λ e v. more_ticks m k v (c.shallower k h r e),
          );
    }

    pub best_gap : Best (machine d) (power d) moving (gap_row d)
    unfolding trip R.trip
    best_gap = best (moves d) (power d) moving (machine d) (walked Z.shuts Z.wakes) cheaper (depth d d.levels) choice
