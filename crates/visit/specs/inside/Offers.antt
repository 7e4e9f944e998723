-- A complete vertex offered to the tally.
use Rattle.std.specs.Prelude.{◌≡◌, ℕ, ◌≤◌, ◌<◌}
use Rattle.visit.specs.declared.tally.Tally.{Tally}
use Rattle.visit.specs.inside.Lent.{Long, count_at, energy_at, start_at, best_at, stop_at}

-- The tally l' is l with its own starts as the best, at the energy e.
pub record Bettered (e : ℕ) (l l' : Tally) : Type 0 where
  pub long : Long l'
  pub count : count_at l' ≡ count_at l
  pub energy : energy_at l' ≡ e
  pub stops : stop_at l' ≡ stop_at l
  pub starts : (j : ℕ) → j < 16 → start_at l' j ≡ start_at l j
  pub best : (j : ℕ) → j < 16 → best_at l' j ≡ start_at l j

pub data Offered (e : ℕ) (l l' : Tally) : Type 0 where
  kept : energy_at l ≤ e → l' ≡ l → Offered e l l'
  taken : e < energy_at l → Bettered e l l' → Offered e l l'
