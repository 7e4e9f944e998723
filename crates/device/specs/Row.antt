-- The rows of a device (docs/RULES.md, rules 30 to 38, 82 and 85 to 88): the letters, the legal rows by either rule, their energy, the row given, and the rule for gaps.
-- The declared `Device` is general. `shut` and `wake` are the ticks of a move down and of one up, by one level; `pd` and `pu` are their powers; `pw` is the power
-- at work, and `powers` has those of the `levels` sleep levels, the shallowest first. A device of rule 3 has T and P0 for both moves and one level, of power Ps.
use Rattle.std.specs.Prelude.{◌≡◌, Bool, true, false, cond, ◌&&◌, List, [], ◌∷◌, ◌++◌, ℕ, zero, suc, ◌+◌, ◌-◌, ◌*◌, ◌≤◌, ◌<◌, leb, ltb, replicate, length, take, drop, get_or}
use Rattle.base.specs.Sums.{total}
use Rattle.device.specs.declared.Device.{Device}
use Rattle.device.specs.declared.Sleeps.{Sleeps}
use Rattle.device.specs.declared.Sleeps.TheVariants.{Plain, Numbered}

-- The power at a level: 0 is work, and from 1 on each is a deeper sleep.
abbrev pub power_at : Device → ℕ → ℕ
power_at d zero = d.pw
power_at d (suc k) = get_or d.powers k 0

-- The figures of a device: moves take time, each level costs less than the one above it, and moving costs more than any sleep. It may cost more than work.
pub record Sound (d : Device) : Type 0 where
  pub some_level : 1 ≤ d.levels
  pub few_levels : d.levels ≤ 4
  pub shuts : 1 ≤ d.shut
  pub wakes : 1 ≤ d.wake
  pub falls : (k : ℕ) → k < d.levels → power_at d (suc k) < power_at d k
  pub shuts_dearer : power_at d 1 < d.pd
  pub wakes_dearer : power_at d 1 < d.pu

-- What a device does in a tick (rule 30): it stays at a level, goes down or comes up.
pub data Letter : Type 0 where
  at : ℕ → Letter
  D U : Letter

-- At work it is at level 0.
abbrev pub W : Letter
W = at 0

-- The byte that stands for a letter: its ASCII code. A sleep is S, or the digit of its level where sleeps are numbered (rule 82).
abbrev pub byte_of : Sleeps → Letter → ℕ
byte_of sleeps (at zero) = 87
byte_of Plain (at (suc k)) = 83
byte_of Numbered (at (suc k)) = 49 + k
byte_of sleeps D = 68
byte_of sleeps U = 85

-- Where a device is between two ticks: at a level, or on the way down or up to one, with the ticks left.
pub data State : Type 0 where
  level : ℕ → State
  down : ℕ → ℕ → State
  up : ℕ → ℕ → State

-- It has come to level k, and may stay there or move on. (Come up to level 0 it can only work: `resumes`.)
pub data Rests : State → ℕ → Type 0 where
  rests : {k : ℕ} → Rests (level k) k
  fallen : {k : ℕ} → Rests (down (suc k) 0) (suc k)
  risen : {k : ℕ} → Rests (up (suc k) 0) (suc k)

-- `Step d s x t`: from s, a tick of letter x leads to t.
pub data Step (d : Device) : State → Letter → State → Type 0 where
  -- Rule 33: it stays at a level to which it has come.
  stays : {s : State} {k : ℕ} → Rests s k → k ≤ d.levels → Step d s (at k) (level k)
  -- Rule 32: the first tick of a move down by one level,
  shuts : {s : State} {k n : ℕ} → Rests s k → k < d.levels → suc n ≡ d.shut → Step d s D (down (suc k) n)
  -- and the others.
  falls : {k n : ℕ} → Step d (down k (suc n)) D (down k n)
  -- Rule 34: the first tick of a move up by one level,
  wakes : {s : State} {k n : ℕ} → Rests s (suc k) → suc n ≡ d.wake → Step d s U (up k n)
  -- the others,
  rises : {k n : ℕ} → Step d (up k (suc n)) U (up k n)
  -- and work after the last.
  resumes : Step d (up 0 0) W (level 0)

-- A row may end where the next tick could be one of work (rule 31): the device works, or has just come up.
pub data Ends : State → Type 0 where
  at_work : Ends (level 0)
  woken : Ends (up 0 0)

-- From s a row leads to z, tick by tick, for a pattern of use. The pattern has `true` for each tick of a job that uses the device, and there the letter is W
-- (rule 35).
pub data Goes (d : Device) : State → List Bool → List Letter → State → Type 0 where
  over : {s : State} → Goes d s [] [] s
  used : {s t z : State} {u : List Bool} {r : List Letter} → Step d s W t → Goes d t u r z → Goes d s (true ∷ u) (W ∷ r) z
  free : {s t z : State} {x : Letter} {u : List Bool} {r : List Letter} → Step d s x t → Goes d t u r z → Goes d s (false ∷ u) (x ∷ r) z

-- The row by itself (rule 31): before the first tick the device was at work, and after the last it could be.
pub record Once (d : Device) (u : List Bool) (r : List Letter) : Type 0 where
  pub last : State
  pub goes : Goes d (level 0) u r last
  pub ends : Ends last

-- The row repeated for ever (rule 86): round after round, each from where the one before it has led. At the seam the device may be anywhere.
pub record Forever (d : Device) (u : List Bool) (r : List Letter) : Type 0 where
  pub seam : ℕ → State
  pub goes : (i : ℕ) → Goes d (seam i) u r (seam (suc i))

-- `true` for a round that is repeated (rule 85).
abbrev pub LegalRow : Bool → Device → List Bool → List Letter → Type 0
LegalRow false d u r = Once d u r
LegalRow true d u r = Forever d u r

-- What a tick costs, by its letter. A row costs what its ticks do (rule 36).
abbrev pub power : Device → Letter → ℕ
power d (at k) = power_at d k
power d D = d.pd
power d U = d.pu

abbrev pub energy : Device → List Letter → ℕ
energy d r = total (power d) r

-- The ticks in which a row moves.
abbrev pub moving : Letter → ℕ
moving (at k) = 0
moving D = 1
moving U = 1

abbrev pub moved : List Letter → ℕ
moved r = total moving r

-- The row given (rule 37): no legal row of the pattern has less energy, and of those that have as little none moves in fewer ticks.
pub record LeastRow (round : Bool) (d : Device) (u : List Bool) (r : List Letter) : Type 0 where
  pub legal : LegalRow round d u r
  pub least : (r' : List Letter) → LegalRow round d u r' → energy d r ≤ energy d r'
  pub shallowest : (r' : List Letter) → LegalRow round d u r' → energy d r' ≤ energy d r → moved r ≤ moved r'

-- ---- the rule for gaps (rule 38)

-- In g ticks without use a device goes down to level m, stays there and comes back; at level 0 it works through.
unfoldable pub trip : Device → ℕ → ℕ → List Letter
trip d m g = replicate (d.shut * m) D ++ (replicate (g - (d.shut * m + d.wake * m)) (at m) ++ replicate (d.wake * m) U)

-- What that costs.
abbrev pub trip_cost : Device → ℕ → ℕ → ℕ
trip_cost d m g = d.pd * (d.shut * m) + d.pu * (d.wake * m) + power_at d m * (g - (d.shut * m + d.wake * m))

-- To which of the first n levels: the cheapest of those for which both ways have room, and the shallowest where some cost the same.
abbrev pub depth : Device → ℕ → ℕ → ℕ
depth d zero g = 0
depth d (suc n) g = cond (leb (d.shut * suc n + d.wake * suc n) g && ltb (trip_cost d (suc n) g) (trip_cost d (depth d n g) g)) (suc n) (depth d n g)

abbrev pub gap_row : Device → ℕ → List Letter
gap_row d g = trip d (depth d d.levels g) g

-- ---- what others know of a device: these two and its working power

-- What a gap of g ticks costs.
unfoldable pub gap_cost : Device → ℕ → ℕ
gap_cost d g = energy d (gap_row d g)

-- The power at the deepest level: no tick costs less.
abbrev pub deep : Device → ℕ
deep d = power_at d d.levels

-- What a number past the end of a list of devices stands for.
abbrev pub no_device : Device
no_device = record { shut = 0; wake = 0; pw = 0; pd = 0; pu = 0; levels = 0; powers = [] }

-- ---- rows and patterns of use

-- The row that fills each gap by `fill`, those at both ends too, where g unused ticks have gone by.
module _ {L : Type 0} (work : L) (fill : ℕ → List L) where
  abbrev pub row_from : ℕ → List Bool → List L
  row_from g [] = fill g
  row_from g (true ∷ u) = fill g ++ work ∷ row_from 0 u
  row_from g (false ∷ u) = row_from (suc g) u

  -- In a round the gap after the last use goes on, over the seam, to the first (rule 87): the row of what follows the first used tick, with the g ticks before it
  -- put at the end, and turned back. Where no tick is used, every letter is `idle` (rule 88).
  abbrev pub round_from : L → ℕ → List Bool → List L
  round_from idle g [] = replicate g idle
  round_from idle g (true ∷ u) =
      let q = row_from 0 (u ++ replicate g false) in
      drop (length u) q ++ work ∷ take (length u) q
  round_from idle g (false ∷ u) = round_from idle (suc g) u

-- The row by the rule for gaps. proofs/Least: it is the row given, and the only one.
abbrev pub row_of : Bool → Device → List Bool → List Letter
row_of false d u = row_from W (gap_row d) 0 u
row_of true d u = round_from W (gap_row d) (at d.levels) 0 u

-- The least energy of a pattern of use.
abbrev pub energy_of : Bool → Device → List Bool → ℕ
energy_of round d u = energy d (row_of round d u)

-- The pattern of n ticks from tick a on, by a test on ticks.
abbrev pub pattern : (ℕ → Bool) → ℕ → ℕ → List Bool
pattern f a zero = []
pattern f a (suc n) = f a ∷ pattern f (suc a) n
