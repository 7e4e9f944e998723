-- What the lent table has of a job: its last start, and which devices it uses: how many they are, and each at the number of those before it.
use Rattle.std.specs.Prelude.{◌≡◌, true, cond, List, ℕ, zero, suc, ◌+◌, ◌-◌, ◌*◌, ◌<◌, get_or}
use Rattle.schedule.specs.declared.Recorder.{Recorder}
use Rattle.schedule.specs.Quantities.{deadline, run, uses}

unfoldable pub used_count_at : List ℕ → ℕ → ℕ
used_count_at l j = get_or l (40 + j) 0

-- The last start from which job j meets its deadline, and where it stands.
abbrev pub last_of : Recorder → ℕ → ℕ
last_of R j = deadline R j - run R j

unfoldable pub last_at : List ℕ → ℕ → ℕ
last_at l j = get_or l (56 + j) 0

unfoldable pub used_at : List ℕ → ℕ → ℕ → ℕ
used_at l j i = get_or l (72 + 8 * j + i) 0

-- How many of the first n devices job j uses.
unfoldable pub used_below : Recorder → ℕ → ℕ → ℕ
used_below R j zero = 0
used_below R j (suc n) = used_below R j n + cond (uses R n j) 1 0

pub record OfJob (R : Recorder) (j : ℕ) (l : List ℕ) : Type 0 where
  pub last : last_at l j ≡ last_of R j
  pub count : used_count_at l j ≡ used_below R j R.devices.count
  pub at : (k : ℕ) → k < R.devices.count → uses R k j ≡ true → used_at l j (used_below R j k) ≡ k
