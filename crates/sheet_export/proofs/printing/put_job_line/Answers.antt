-- `sheet_export::printing::put_job_line` meets its contract.
use native.Mathlib.Omega.{arith}
use Rattle.text.proofs.Puts.{four_few}
use Rattle.sheet_export.proofs.printing.put_job_line.Goals as goal

pub put_line-requires : goal.put_line-requires
put_line-requires c =
    let j = c.job_at-j.result in
    omega (arith, c.requires.0, four_few j.release j.deadline j.run c.from.result)

pub returns : goal.returns
returns c = rw (c.from.ensures, c.job_at-j.ensures) at c.put_line.ensures
