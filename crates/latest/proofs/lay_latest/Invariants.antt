-- `latest::lay_latest` meets its contract. The loop's invariant: the sets passed are laid.
use Rattle.flat.specs.inside.Flat.{recorder_of}
use Rattle.latest.proofs.Tabled.{Upto}
use Rattle.latest.proofs.lay_latest.Given as goal

abbrev pub invariant-loop-m : goal.invariant-loop-m
invariant-loop-m l = Upto (recorder_of l.r) l.m l.table
