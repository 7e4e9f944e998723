-- `text::putting::put_line` meets its contract.
use lib.ListN.{take}
use Rattle.text.specs.Numerals.{numbers_text}
use Rattle.text.specs.inside.Putting.{Put}
use Rattle.text.proofs.putting.put_line.Given as goal

abbrev pub invariant-loop-i : goal.invariant-loop-i
invariant-loop-i l = Put (numbers_text (take l.i l.numbers)) l.at l.initial.out l.end l.out
