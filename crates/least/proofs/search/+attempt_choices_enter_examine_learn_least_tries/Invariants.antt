-- `least`, `learn`, `examine`, `choices`, `tries`, `attempt` and `enter` meet their contracts. A number falls from call to call: the set of the unplaced jobs, and where it stays
-- the time that is left. The loops' invariants: what is passed is answered for.
use Prim.Native.Nat.{◌+◌, ◌-◌, ◌*◌, ◌≤◌}
use Rattle.least.specs.inside.Outcome.{recorder, LentTo}
use Rattle.least.proofs.Choosing.{Chosen}
use Rattle.least.proofs.Trials.{Trial}
use Rattle.least.proofs.search.+attempt_choices_enter_examine_learn_least_tries.Given as goal

abbrev pub decreases-attempt : goal.decreases-attempt
decreases-attempt l = 8 * (l.set * 4097) + 1

abbrev pub decreases-choices : goal.decreases-choices
decreases-choices l = 8 * (l.set * 4097 + (4096 - l.time)) + 4

abbrev pub decreases-enter : goal.decreases-enter
decreases-enter l = 8 * (l.set * 4097)

abbrev pub decreases-examine : goal.decreases-examine
decreases-examine l = 8 * (l.set * 4097 + (4096 - l.time)) + 5

abbrev pub decreases-learn : goal.decreases-learn
decreases-learn l = 8 * (l.set * 4097 + (4096 - l.time)) + 6

abbrev pub decreases-least : goal.decreases-least
decreases-least l = 8 * (l.set * 4097 + (4096 - l.time)) + 7

abbrev pub decreases-tries : goal.decreases-tries
decreases-tries l = 8 * (l.set * 4097) + 2

abbrev pub invariant-choices-loop-j : goal.invariant-choices-loop-j
invariant-choices-loop-j l =
    record {
      lent : LentTo l.search l.memory;
      within : l.entered ≤ l.search.budget;
      chosen : Chosen (recorder l.search) l.v l.set l.time l.until l.limit l.search.budget l.initial.entered l.j l.entered l.best;
    }

abbrev pub invariant-tries-loop-s : goal.invariant-tries-loop-s
invariant-tries-loop-s l =
    record {
      lent : LentTo l.search l.memory;
      within : l.entered ≤ l.search.budget;
      trial : Trial (recorder l.search) l.v l.set l.j l.time l.limit l.given l.search.budget l.initial.entered l.initial.s l.to l.fall l.s l.entered l.best l.ahead;
    }
