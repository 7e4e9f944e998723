-- `calls_step::records::record_in` meets its contract.
use Rattle.calls_step.proofs.records.record_in.Goals as goal

pub returns : goal.returns
returns c = rw (c.pair_at-2.ensures, c.pair_at.ensures, c.state_named-state.ensures)
