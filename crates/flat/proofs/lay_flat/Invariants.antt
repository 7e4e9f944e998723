-- `flat::lay_flat` meets its contract. The loop's invariant: the first places hold the numbers of the cells so far.
use Prim.Native.Nat.{◌/◌, ◌%◌}
use Rattle.base.specs.Lists.{up_to}
use Rattle.base.proofs.Filling.{Filled}
use Rattle.flat.specs.inside.Flat.{number_of}
use Rattle.flat.proofs.lay_flat.Given as goal

abbrev pub invariant-loop-i : goal.invariant-loop-i
invariant-loop-i l = Filled l.initial.flat l.i (up_to (λ n. number_of l.r (n / 16) (n % 16)) l.i) l.flat
