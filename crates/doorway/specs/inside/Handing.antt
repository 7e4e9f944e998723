-- What a door hands on of a list of start times. Nobody need believe this: the promises speak of all of them.
use Rattle.std.specs.Prelude.{List, ℕ, ◌<◌, length}

-- All of it, or more than a file can have jobs.
pub data Handed (all : List ℕ) : List ℕ → Type 0 where
  whole : Handed all all
  many : {some : List ℕ} → 16 < length some → 16 < length all → Handed all some
