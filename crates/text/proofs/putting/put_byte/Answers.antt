-- `text::putting::put_byte` meets its contract.
use native.Mathlib.Omega.{arith}
use Rattle.text.proofs.Puts.{put_one}
use Rattle.text.proofs.putting.put_byte.Goals as goal

pub returns : goal.returns
returns c = let a = c.args in put_one a.at a.byte a.out.now (omega arith)
