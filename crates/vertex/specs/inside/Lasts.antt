-- The last starts of unplaced jobs: cut A (rule 43) by the two smallest of them.
use Rattle.std.specs.Prelude.{◌≡◌, true, ◌⊎◌, ℕ, ◌≤◌, ◌<◌}
use Rattle.schedule.specs.declared.Recorder.{Recorder}
use Rattle.latest.specs.inside.Sets.{has}
use Rattle.extras.specs.inside.Jobs.{last_of}
use Rattle.vertex.specs.declared.dues.Dues.{Dues}

-- Of the jobs of the set m below n the two smallest last starts, and the job of the smaller; 65536 where there is none.
pub record TwoLeast (R : Recorder) (m n : ℕ) (d : Dues) : Type 0 where
  pub first_low : (i : ℕ) → i < n → has m i ≡ true → d.first ≤ last_of R i
  pub second_low : (i : ℕ) → i < n → has m i ≡ true → (i ≡ d.at.0 → ⊥) → d.second ≤ last_of R i
  pub first_is : (d.first ≡ 65536) ⊎ ((d.at.0 < n) × (has m d.at.0 ≡ true) × (d.first ≡ last_of R d.at.0))
  pub second_is : (d.second ≡ 65536) ⊎ ((i : ℕ) × (i < n) × (has m i ≡ true) × (i ≡ d.at.0 → ⊥) × (d.second ≡ last_of R i))
