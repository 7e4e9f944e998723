-- What the code has when it returns is a case of the promise.
use mathlib.Core.Path.{◌≡◌}
use mathlib.Core.Bool.{true, false, cond, true≢false}
use mathlib.Core.List.{List, ◌++◌}
use mathlib.Core.Logic.{by_cases}
use Prim.Native.Nat.{ℕ, ◌*◌, ◌≤◌}
use native.Mathlib.Decide.{dec_lt}
use native.Mathlib.Omega.{arith}
use lib.Dec.{ltb}
use lib.ListN.{length, drop}
use borrow.Author.Tests.{ltb-true, ltb-false, lt-ltb, le-ltb}
use Rattle.base.specs.Lists.{up_to, padded}
use Rattle.base.proofs.Arrays.{get_d_padded, up_to_whole}
use Rattle.schedule.specs.declared.Recorder.{Recorder}
use Rattle.schedule.specs.Quantities.{jobs}
use Rattle.schedule.specs.Listing.{start}
use Rattle.planner.specs.Promises.{success, refusal_at}
use Rattle.mend.specs.Mending.{Mends, ComesOut, FirstLate, moves, numbers}
use Rattle.mend.specs.Promises as P
use Rattle.mend.specs.Promises.{Lent, lending, Room, MendOf}
use Rattle.mend.proofs.Outcome.{late_none}
use Rattle.mend.proofs.Moves.{moves_same}

-- The test for room.
pub lacks_none : (n s m : ℕ) → cond (ltb s n) true (ltb m (3 * n)) ≡ true → n ≤ s → 3 * n ≤ m → ⊥
lacks_none n s m e h h' = omega (arith, ltb-true m (3 * n) (rw (le-ltb s n h) at e))

pub lacks_not : (n s m : ℕ) → cond (ltb s n) true (ltb m (3 * n)) ≡ false → (n ≤ s) × (3 * n ≤ m)
lacks_not n s m e =
    by_cases (dec_lt s n) (λ h. absurd (true≢false (rw (lt-ltb s n h) at e)))
    (λ h. let l : n ≤ s = omega arith in (l, ltb-false m (3 * n) (rw (le-ltb s n l) at e)))

module _ (given : List ℕ) (lent : Lent) (R : Recorder) (e : length given ≡ jobs R) (room : Room R lent) where
  pub settled_late : {s : List ℕ} {j : ℕ} → ComesOut R given s → FirstLate R s j → MendOf given lent R (refusal_at 17 j) lent
  settled_late out f = P.MendOf.late e room (late_none R given out f) out f

  -- The starts stand in front of an array, and are written from there.
  abbrev written : List ℕ → ℕ → Lent
  written new n =
      lending (up_to (start new) n ++ drop n lent.starts) (numbers (moves given new n) ++ drop (3 * length (moves given new n)) lent.moved)

  mends_given :
      (s : List ℕ) → Mends R given s
      → MendOf given lent R (success R.horizon 0 (length (moves given (padded 16 0 s) (jobs R)))) (written (padded 16 0 s) (jobs R))
  mends_given s m =
      rw (
        up_to_whole (start (padded 16 0 s)) s 0 (jobs R) m.such.feasible.one_each (λ i h. get_d_padded 16 0 s i),
        moves_same given (padded 16 0 s) s (jobs R) (λ i h. get_d_padded 16 0 s i),
      )
      (P.MendOf.mended e room m)

  pub settled_given :
      (new : List ℕ) (s : List ℕ) → Mends R given s → new ≡ padded 16 0 s
      → MendOf given lent R (success R.horizon 0 (length (moves given new (jobs R)))) (written new (jobs R))
  settled_given new s m q = rw q (mends_given s m)
