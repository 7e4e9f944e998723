-- The search answers as before, whatever a sleep is written as: the same starts, energy and count, or the same refusal.
use mathlib.Core.Path.{sym, subst}
use mathlib.Core.List.{List}
use Prim.Native.Nat.{ℕ}
use Rattle.device.specs.declared.Sleeps.{Sleeps}
use Rattle.schedule.specs.declared.Recorder.{Recorder}
use Rattle.schedule.specs.Visiting.{vertices}
use Rattle.schedule.proofs.Letters.{lettered, feasible_plain, plan_lettered, vertices_lettered}
use Rattle.planner.specs.declared.Answer.{Answer}
use Rattle.planner.specs.Promises.{stops, passes, Counted, GivesLeast, found, SearchOf}
use Rattle.planner.proofs.Refusing.{unless_some}

module _ (sleeps : Sleeps) (budget : ℕ) (lent : List ℕ) (R : Recorder) where
  -- n vertices are counted with either letters.
  counted_lettered : (n : ℕ) {a : Answer} {l : List ℕ} → Counted budget n lent R (GivesLeast R n lent) a l
      → Counted budget n lent (lettered sleeps R) (GivesLeast (lettered sleeps R) n lent) a l
  counted_lettered n (stops h) = stops h
  counted_lettered n (passes h (stops o)) = passes h (stops o)
  counted_lettered n (passes h (passes o (stops f))) = passes h (passes o (stops (λ s g. f s (feasible_plain sleeps R g))))
  counted_lettered n (passes h (passes o (passes f (found p)))) =
      let p' = plan_lettered sleeps R p in
      passes h (passes o (unless_some p'.feasible (found p')))

  pub search_lettered : {a : Answer} {l : List ℕ} → SearchOf budget lent R a l → SearchOf budget lent (lettered sleeps R) a l
  search_lettered {a} {l} t =
      subst (λ (n : ℕ). Counted budget n lent (lettered sleeps R) (GivesLeast (lettered sleeps R) n lent) a l) (sym (vertices_lettered sleeps R))
      (counted_lettered (vertices R) t)
