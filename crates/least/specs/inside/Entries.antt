-- The memory: entries of five words. The first is the key's head (29 bits), the effort (3 bits) and what is known (32 bits); the others are the key's.
use Rattle.std.specs.Prelude.{◌≡◌, cond, List, ◌⊎◌, ℕ, ◌+◌, ◌*◌, ◌/◌, ◌%◌, ◌≤◌, leb, ltb, get_or, set, length}
use Rattle.stored.specs.declared.Key.{Key}
use Rattle.least.specs.declared.memory.Spot.{Spot}

abbrev pub word : List ℕ → ℕ → ℕ → ℕ
word l i n = get_or l (5 * i + n) 0

-- The key of entry i, and what is known of it.
unfoldable pub key_at : List ℕ → ℕ → Key
key_at l i = record { head = word l i 0 % 536870912; idle = word l i 1; idle4 = word l i 2; first = word l i 3; first4 = word l i 4 }

unfoldable pub known_at : List ℕ → ℕ → ℕ
known_at l i = word l i 0 / 4294967296

-- Every entry has P.
unfoldable pub Right : (Key → ℕ → Type 0) → List ℕ → Type 0
Right P l = (i : ℕ) → 5 * i + 5 ≤ length l → P (key_at l i) (known_at l i)

-- A place for the key q, and what is known of it there: 0 where nothing is.
pub record Looked (l : List ℕ) (q : Key) (r : Spot) : Type 0 where
  pub known : (r.known ≡ 0) ⊎ ((5 * r.slot + 5 ≤ length l) × (key_at l r.slot ≡ q) × (known_at l r.slot ≡ r.known))

-- Entry i written, where there is room for it.
unfoldable pub wrote : List ℕ → ℕ → Key → ℕ → List ℕ
wrote l i q x =
    set (set (set (set (set l (5 * i) x) (5 * i + 1) q.idle) (5 * i + 2) q.idle4) (5 * i + 3) q.first) (5 * i + 4) q.first4

unfoldable pub kept : List ℕ → ℕ → Key → ℕ → ℕ → List ℕ
kept l i q effort known = cond (leb (5 * i + 5) (length l)) (wrote l i q (q.head + (536870912 * effort + 4294967296 * known))) l

-- Twice the bound, and one more where it lies below the limit: then it is the least itself.
unfoldable pub known_of : ℕ → ℕ → ℕ
known_of best limit = cond (ltb best limit) (2 * best + 1) (2 * best)
