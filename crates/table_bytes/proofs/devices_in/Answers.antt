-- `table_bytes::devices_in` meets its contract.
use native.Mathlib.Omega.{arith}
use Rattle.table_bytes.proofs.devices_in.Goals as goal

pub devices_at-held-requires : goal.devices_at-held-requires
devices_at-held-requires c = rw (c.min.ensures, c.count_at-count.ensures) (omega arith, c.requires.1)
