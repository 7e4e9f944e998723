-- `calls_step::records::device_in` meets its contract.
use Rattle.calls_step.proofs.records.device_in.Goals as goal

pub returns : goal.returns
returns c = rw (c.device_of.ensures, c.first_at.ensures)
