-- The uses of one device, in running order, as the code keeps them: use i begins at tick `begin i` and ends before tick `end i`.
use Rattle.std.specs.Prelude.{Bool, false, cond, ◌&&◌, ◌||◌, ℕ, zero, suc, ◌≤◌, ◌<◌, leb, ltb, eqb, get_or}
use Rattle.device.specs.declared.Uses.{Uses}

abbrev pub begin : Uses → ℕ → ℕ
begin u i = get_or u.begins i 0

abbrev pub end : Uses → ℕ → ℕ
end u i = get_or u.ends i 0

-- Tick t lies in one of the first i uses.
unfoldable pub used_before : Uses → ℕ → ℕ → Bool
used_before u zero t = false
used_before u (suc i) t = used_before u i t || (leb (begin u i) t && ltb t (end u i))

abbrev pub used_in : Uses → ℕ → Bool
used_in u t = used_before u u.count t

-- Where the i-th use may begin: at the end of the one before it.
abbrev pub after : Uses → ℕ → ℕ
after u zero = 0
after u (suc i) = end u i

-- The same where the ticks before b are left out.
abbrev pub after_from : ℕ → Uses → ℕ → ℕ
after_from b u zero = b
after_from b u (suc i) = end u i

-- In a round the ticks before the first use lie in the gap after the last (rule 87); in a list they are a gap of their own.
abbrev pub front : Bool → Uses → ℕ
front round u = cond round (begin u 0) 0

-- A round without a use (rule 88).
abbrev pub idle : Bool → Uses → Bool
idle round u = cond round (eqb u.count 0) false

-- No use is empty, none begins before the one before it has ended, and the last ends within the horizon.
pub record Spaced (u : Uses) (h : ℕ) : Type 0 where
  pub few : u.count ≤ 16
  pub rising : (i : ℕ) → i < u.count → after u i ≤ begin u i
  pub lasting : (i : ℕ) → i < u.count → begin u i < end u i
  pub within : after u u.count ≤ h
