-- The memory: entries of six words. The first is the key's head (29 bits) with the slack above it, then come the key's other words, and the last is the count.
use Rattle.std.specs.Prelude.{◌≡◌, cond, List, ℕ, ◌+◌, ◌*◌, ◌%◌, ◌<◌, ◌≤◌, IfSome, leb, get_or, set, length}
use Rattle.stored.specs.declared.Key.{Key}
use Rattle.recall.specs.declared.memory.Spot.{Spot}

-- The key q with the slack x.
unfoldable pub slacked_by : Key → ℕ → Key
slacked_by q x = record { head = q.head + 536870912 * x; idle = q.idle; idle4 = q.idle4; first = q.first; first4 = q.first4 }

abbrev pub word : List ℕ → ℕ → ℕ → ℕ
word l i n = get_or l (6 * i + n) 0

-- The key of entry i, and its count.
unfoldable pub key_at : List ℕ → ℕ → Key
key_at l i = record { head = word l i 0; idle = word l i 1; idle4 = word l i 2; first = word l i 3; first4 = word l i 4 }

unfoldable pub count_at : List ℕ → ℕ → ℕ
count_at l i = word l i 5 % 4294967296

-- Every entry has P.
unfoldable pub Right : (Key → ℕ → Type 0) → List ℕ → Type 0
Right P l = (i : ℕ) → 6 * i + 6 ≤ length l → P (key_at l i) (count_at l i)

-- A place for the key q, and its count there, if it has one.
pub record Looked (l : List ℕ) (q : Key) (r : Spot) : Type 0 where
  pub known : IfSome r.count (λ n. (0 < n) × (6 * r.slot + 6 ≤ length l) × (key_at l r.slot ≡ q) × (count_at l r.slot ≡ n))

-- Entry i written, where there is room for it.
unfoldable pub wrote : List ℕ → ℕ → Key → ℕ → List ℕ
wrote l i q n =
    set (set (set (set (set (set l (6 * i) q.head) (6 * i + 1) q.idle) (6 * i + 2) q.idle4) (6 * i + 3) q.first) (6 * i + 4) q.first4) (6 * i + 5) n

unfoldable pub kept : List ℕ → ℕ → Key → ℕ → List ℕ
kept l i q n = cond (leb (6 * i + 6) (length l)) (wrote l i q n) l
