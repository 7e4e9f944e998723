-- A memory that was forgotten.
use Rattle.stored.specs.declared.Key.{Key}

-- The key of each of its entries.
abbrev pub no_key : Key
no_key = record { head = 0; idle = 0; idle4 = 0; first = 0; first4 = 0 }
