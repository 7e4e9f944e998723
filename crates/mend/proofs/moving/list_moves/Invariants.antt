-- `mend::moving::list_moves` meets its contract.
use Rattle.mend.proofs.Moves.{Listed}
use Rattle.mend.proofs.moving.list_moves.Given as goal

abbrev pub invariant-loop-job : goal.invariant-loop-job
invariant-loop-job l = Listed l.given l.new l.initial.moved l.job l.count l.moved
