-- An entry of a memory holds a key.
use Rattle.std.specs.Prelude.{◌≡◌, List, ℕ, ◌+◌, get_or}
use Rattle.stored.specs.declared.Key.{Key}

-- It stands from the place `at` on; its first word has `head` of a key.
pub record Holds (l : List ℕ) (at head : ℕ) (q : Key) : Type 0 where
  pub head_is : head ≡ q.head
  pub idle_is : get_or l (at + 1) 0 ≡ q.idle
  pub idle4_is : get_or l (at + 2) 0 ≡ q.idle4
  pub first_is : get_or l (at + 3) 0 ≡ q.first
  pub first4_is : get_or l (at + 4) 0 ≡ q.first4
