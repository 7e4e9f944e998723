-- `latest::all_jobs` meets its contract.
use native.Mathlib.Omega.{arith}
use lib.Pow.{pow_pos}
use Rattle.latest.proofs.all_jobs.Goals as goal

pub power-requires : goal.power-requires
power-requires c = omega (arith, c.job_count.ensures, c.requires.few_jobs)

pub overflow_sub-result : goal.overflow_sub-result
overflow_sub-result c = omega (arith, c.power.ensures, pow_pos c.job_count.result)

pub returns : goal.returns
returns c = rw (c.power.ensures, c.job_count.ensures)
