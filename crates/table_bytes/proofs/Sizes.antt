-- How many bytes records and what is laid out have.
use mathlib.Core.List.{List}
use Prim.Native.Nat.{ℕ, ◌+◌, ◌*◌, ◌≤◌, min}
use native.Mathlib.Omega.{arith}
use lib.ListN.{length}
use Rattle.base.specs.Bytes.{byte_at, pair_at}
use Rattle.base.specs.Refusals.{after}
use Rattle.base.proofs.Records.{after_from_lem, after_most}
use Rattle.tables.specs.declared.Kind.{Kind}
use Rattle.tables.specs.declared.Kind.TheVariants.{First, Second, Third}
use Rattle.tables.specs.Records.{device_size}
use Rattle.table_bytes.specs.TableBytes.{kind_named, tasks_from, AreTables}

size_most : (k : Kind) (s : List ℕ) (at : ℕ) → device_size k s at ≤ 14
size_most First s at = omega arith
size_most Second s at = omega arith
size_most Third s at = omega arith

-- The records of n devices.
pub devices_most : (k : Kind) (s : List ℕ) (n : ℕ) → after (device_size k s) n 9 ≤ 9 + n * 14
devices_most k s n = after_most (device_size k s) 14 (size_most k s) n 9

pub device_most_lem : (k : Kind) (s : List ℕ) (at : ℕ) → device_size k s at ≤ 14
device_most_lem k s at = size_most k s at

-- Tables have all of their head, their devices and their tasks.
pub tables_long : (s : List ℕ) → AreTables s → (9 ≤ length s) × (tasks_from s + min (pair_at s 5) 8 * 5 ≤ length s)
tables_long s t =
    let from = after_from_lem (device_size (kind_named (byte_at s 0)) s) (min (pair_at s 3) 8) 9 in
    (omega (arith, t.ends, from), omega (arith, t.ends))
