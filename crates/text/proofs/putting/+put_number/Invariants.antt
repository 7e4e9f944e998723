-- The number falls at each call.
use Rattle.text.proofs.putting.+put_number.Given as goal

abbrev pub decreases-put_number : goal.decreases-put_number
decreases-put_number l = l.number
