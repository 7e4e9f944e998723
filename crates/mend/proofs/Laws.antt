-- What follows from the promise alone.
use mathlib.Core.Path.{◌≡◌, refl}
use mathlib.Core.List.{List, ◌++◌}
use Prim.Native.Nat.{ℕ}
use lib.ListN.{length, drop}
use Rattle.schedule.specs.declared.Recorder.{Recorder}
use Rattle.schedule.specs.Quantities.{jobs}
use Rattle.schedule.specs.Listing.{Feasible}
use Rattle.planner.specs.declared.Answer.{Answer}
use Rattle.planner.specs.Promises.{success, refusal_at}
use Rattle.mend.specs.Mending.{Fits, Mends}
use Rattle.mend.specs.Promises as P
use Rattle.mend.specs.Promises.{Lent, lending, Room, MendOf}
use Rattle.mend.proofs.Outcome.{feasible_kept}
use Rattle.mend.proofs.Moves.{moves_none}

module _ (R : Recorder) (lent : Lent) (room : Room R lent) where
  -- Feasible starts come back as they are, and no move is listed;
  pub feasible_unmoved :
      (s : List ℕ) → Feasible R s → MendOf s lent R (success R.horizon 0 0) (lending (s ++ drop (jobs R) lent.starts) lent.moved)
  feasible_unmoved s f = rw (moves_none s (jobs R)) at (P.MendOf.mended f.one_each room (feasible_kept R f))

  -- so mending what was mended moves nothing.
  pub mended_unmoved :
      {given : List ℕ} (s : List ℕ) → Mends R given s
      → MendOf s lent R (success R.horizon 0 0) (lending (s ++ drop (jobs R) lent.starts) lent.moved)
  mended_unmoved s m = feasible_unmoved s m.such.feasible

  -- 17 is given exactly if no schedule will do: `late` has the one way, and this is the other.
  pub no_fit_late :
      (given : List ℕ) {a : Answer} {after : Lent} → length given ≡ jobs R → ((s : List ℕ) → Fits R given s → ⊥) → MendOf given lent R a after
      → (j : ℕ) × (a ≡ refusal_at 17 j)
  no_fit_late given e empty (P.MendOf.unequal u) = absurd (u e)
  no_fit_late given e empty (P.MendOf.short e' h) = absurd (h room)
  no_fit_late given e empty (P.MendOf.late {j = j} e' h n o f) = (j, refl)
  no_fit_late given e empty (P.MendOf.mended {s = s} e' h m) = absurd (empty s m.such)
