-- The figures to reproduce: P1 to P12; X1 to X3 (X2 is P9's count, 95); of devices that are dear to move E1 to E6; of the second kind H1 to H4, H7 and H14 to H16; of
-- rounds without a seam G1, G2, G5, G6, G8 (which is X3) and G13; of several levels J5 to J7, J9, J10, J12, J13 and J19. One table of cases, and one statement over it. A case is an operation's complete outcome on a file, and says what that operation promises; so it says that the file is read, or by
-- which number it is refused.
-- proofs/Hold: the table holds.
use Rattle.std.specs.Prelude.{◌≡◌, List, [], ◌∷◌, ◌++◌, map, ℕ, ℤ, pos, negsuc, replicate}
use Rattle.base.specs.Lists.{up_to}
use Rattle.device.specs.declared.Sleeps.TheVariants.{Plain, Numbered}
use Rattle.device.specs.Row.{Letter, at, W, D, U, byte_of}
use Rattle.schedule.specs.Quantities.{jobs, release, deadline}
use Rattle.schedule.specs.Listing.{Earlier}
use Rattle.request.specs.Format.{recorder_in}
use Rattle.planner.specs.declared.Answer.{Answer}
use Rattle.planner.specs.Promises.{success, refusal, refusal_after, Reads, Checked, Margined, Judged, Rowed, Searched}

-- ---- files

-- A number of two bytes.
abbrev two : ℕ → List ℕ
two n = 0 ∷ n ∷ []

-- A device (Pw, Ps, P0) with T 1.
abbrev device_file : ℕ → ℕ → ℕ → List ℕ
device_file pw ps p0 = 1 ∷ two pw ++ two ps ++ two p0

-- Device A.
abbrev A : List ℕ
A = device_file 5 1 3

-- A job (a, d, c) with its device set.
abbrev job_file : ℕ → ℕ → ℕ → ℕ → List ℕ
job_file a d c set = two a ++ two d ++ two c ++ set ∷ []

-- No task and no job.
abbrev idle : List ℕ
idle = 0 ∷ 0 ∷ []

abbrev P3 : List ℕ
P3 = two 5 ++ 1 ∷ A ++ 0 ∷ 1 ∷ job_file 0 5 2 1

abbrev P5 : List ℕ
P5 = two 4 ++ 0 ∷ 0 ∷ 2 ∷ job_file 0 2 2 0 ++ job_file 0 2 2 0

abbrev P6 : List ℕ
P6 = two 2 ++ 0 ∷ 0 ∷ 2 ∷ job_file 0 2 2 0 ++ job_file 0 2 1 0

abbrev P7 : List ℕ
P7 = two 3 ++ 1 ∷ A ++ 0 ∷ 2 ∷ job_file 0 1 1 1 ++ job_file 2 3 1 1

abbrev P8 : List ℕ
P8 = two 4 ++ 1 ∷ A ++ 0 ∷ 2 ∷ job_file 0 1 1 1 ++ job_file 3 4 1 1

abbrev P9 : List ℕ
P9 = two 6 ++ 1 ∷ A ++ 0 ∷ 3 ∷ job_file 0 6 1 1 ++ job_file 0 6 1 0 ++ job_file 0 6 1 1

abbrev P10 : List ℕ
P10 = two 0 ++ 0 ∷ 2 ∷ two 4 ++ two 1 ++ 0 ∷ two 6 ++ two 2 ++ 0 ∷ 0 ∷ []

abbrev P11 : List ℕ
P11 = two 5 ++ 0 ∷ 0 ∷ 1 ∷ job_file 0 5 2 0

-- Periods 4,095 and 4,096; periods 64 and 4,096.
abbrev P12 : List ℕ
P12 = two 0 ++ 0 ∷ 2 ∷ 15 ∷ 255 ∷ two 1 ++ 0 ∷ 16 ∷ 0 ∷ two 1 ++ 0 ∷ 0 ∷ []

abbrev P12' : List ℕ
P12' = two 0 ++ 0 ∷ 2 ∷ two 64 ++ two 1 ++ 0 ∷ 16 ∷ 0 ∷ two 1 ++ 0 ∷ 0 ∷ []

-- Jobs whose running order is not their job order.
abbrev X1 : List ℕ
X1 = two 7 ++ 1 ∷ A ++ 0 ∷ 3 ∷ job_file 2 5 2 0 ++ job_file 4 7 2 1 ++ job_file 0 2 1 1

-- The two tasks of the pruning paper's Table 3, with a device A each.
abbrev X3 : List ℕ
X3 = two 0 ++ 2 ∷ A ++ A ++ 2 ∷ two 4 ++ two 1 ++ 1 ∷ two 5 ++ two 3 ++ 2 ∷ 0 ∷ []

-- A device that is dear to move, and device A: in the gap before start 2 only A sleeps. With start 1 both work throughout.
abbrev E6 : List ℕ
E6 = two 6 ++ 2 ∷ device_file 5 1 9 ++ A ++ 0 ∷ 2 ∷ job_file 1 5 2 3 ++ job_file 4 6 2 3

-- A file of the second kind; a device that wakes in 1 tick at 4 and shuts down in 3 at 2, Pw 9, Ps 1; and device A in such a file.
abbrev second : List ℕ → List ℕ
second f = 255 ∷ 2 ∷ f

abbrev B : List ℕ
B = 1 ∷ 3 ∷ two 9 ++ two 1 ++ two 4 ++ two 2

abbrev A' : List ℕ
A' = 1 ∷ 1 ∷ two 5 ++ two 1 ++ two 3 ++ two 3

abbrev H4 : List ℕ
H4 = second (two 9 ++ 1 ∷ B ++ 0 ∷ 1 ∷ job_file 2 7 2 1)

abbrev H7 : List ℕ
H7 = second (two 5 ++ 1 ∷ A' ++ 0 ∷ 1 ∷ job_file 0 5 2 1)

-- One task of running time 2 that uses the first device, over a round of p ticks.
abbrev round : ℕ → List ℕ
round p = 1 ∷ two p ++ two 2 ++ 1 ∷ 0 ∷ []

abbrev G1 : List ℕ
G1 = two 0 ++ 1 ∷ A ++ round 5

-- Its moves take two ticks each.
abbrev G5 : List ℕ
G5 = two 0 ++ 1 ∷ 2 ∷ two 5 ++ two 1 ++ two 3 ++ round 6

-- A second device A that is never used.
abbrev G6 : List ℕ
G6 = two 0 ++ 2 ∷ A ++ A ++ round 5

-- Of the third kind: T 1, Pw 10, P0 4, and two levels.
abbrev third : List ℕ → List ℕ
third l = 255 ∷ 3 ∷ l

abbrev L : List ℕ
L = 1 ∷ two 10 ++ two 4 ++ 2 ∷ two 3 ++ two 1

abbrev J7 : List ℕ
J7 = third (two 10 ++ 1 ∷ 1 ∷ two 20 ++ two 10 ++ 4 ∷ two 9 ++ two 6 ++ two 3 ++ two 0 ++ idle)

abbrev J9 : List ℕ
J9 = third (two 0 ++ 2 ∷ L ++ L ++ round 8)

abbrev J10 : List ℕ
J10 = third (two 10 ++ 2 ∷ L ++ L ++ 0 ∷ 2 ∷ two 0 ++ two 10 ++ two 2 ++ 1 ∷ two 3 ++ two 9 ++ two 1 ++ 3 ∷ [])

abbrev J19 : List ℕ
J19 = third (two 5 ++ 1 ∷ 1 ∷ two 5 ++ two 3 ++ 1 ∷ two 1 ++ 0 ∷ 1 ∷ two 0 ++ two 5 ++ two 2 ++ 1 ∷ [])

-- ---- what a file has

pub data Figure : Type 0 where
  -- an operation's outcome: its inputs besides the file, the answer, and the lent memory before and after where it is lent any
  check : (answer : Answer) → Figure
  margins : (starts : List ℕ) (lent : List ℤ) (answer : Answer) (after : List ℤ) → Figure
  verdict : (starts : List ℕ) (answer : Answer) → Figure
  rows : (starts lent : List ℕ) (answer : Answer) (after : List ℕ) → Figure
  search : (budget : ℕ) (lent : List ℕ) (answer : Answer) (after : List ℕ) → Figure
  -- the jobs that it is unfolded to: the horizon, the releases and the deadlines
  unfolds : (horizon : ℕ) (releases deadlines : List ℕ) → Figure
  -- of two schedules the first comes first
  comes_first : (s s' : List ℕ) → Figure

pub record Case : Type 0 where
  pub file : List ℕ
  pub figure : Figure

infix 70 ◌has◌
abbrev ◌has◌ : List ℕ → Figure → Case
f has g = record { file = f; figure = g }

-- ---- the table: what is lent holds nines, and has a place more than is needed

-- Asleep, at the one level.
abbrev S : Letter
S = at 1

abbrev letters : List Letter → List ℕ
letters l = map (byte_of Plain) l

-- Where a sleep is written as the digit of its level.
abbrev digits : List Letter → List ℕ
digits l = map (byte_of Numbered) l

abbrev pub table : List Case
table =
    -- P1
    [] has check (refusal 1)
    ∷ (0 ∷ 1 ∷ 0 ∷ 0 ∷ 0 ∷ []) has check (success 1 0 0)
    ∷ (0 ∷ 1 ∷ 0 ∷ 0 ∷ 0 ∷ []) has search 1000 (9 ∷ []) (success 1 0 1) (9 ∷ [])
    ∷ (0 ∷ 1 ∷ 0 ∷ 0 ∷ 0 ∷ 0 ∷ []) has check (refusal 2)
    ∷ (0 ∷ 0 ∷ 0 ∷ 0 ∷ 0 ∷ []) has check (refusal 10)
    -- P2
    ∷ (two 1 ++ 1 ∷ A ++ idle) has rows [] (replicate 2 9) (success 1 5 0) (letters (W ∷ []) ++ 9 ∷ [])
    ∷ (two 2 ++ 1 ∷ A ++ idle) has rows [] (replicate 3 9) (success 2 6 0) (letters (D ∷ U ∷ []) ++ 9 ∷ [])
    ∷ (two 5 ++ 1 ∷ A ++ idle) has rows [] (replicate 6 9) (success 5 9 0) (letters (D ∷ S ∷ S ∷ S ∷ U ∷ []) ++ 9 ∷ [])
    -- P3, and with budget 4 P4
    ∷ P3 has verdict (0 ∷ []) (success 5 17 0)
    ∷ P3 has verdict (1 ∷ []) (success 5 21 0)
    ∷ P3 has verdict (2 ∷ []) (success 5 21 0)
    ∷ P3 has verdict (3 ∷ []) (success 5 17 0)
    ∷ P3 has search 1000 (9 ∷ 9 ∷ []) (success 5 17 5) (0 ∷ 9 ∷ [])
    ∷ P3 has search 4 (9 ∷ 9 ∷ []) (refusal_after 20 4) (9 ∷ 9 ∷ [])
    ∷ P5 has search 1000 (replicate 3 9) (refusal_after 19 3) (replicate 3 9)
    ∷ P6 has search 1000 (replicate 3 9) (refusal_after 19 1) (replicate 3 9)
    ∷ P7 has rows (0 ∷ 2 ∷ []) (replicate 4 9) (success 3 15 0) (letters (W ∷ W ∷ W ∷ []) ++ 9 ∷ [])
    ∷ P8 has rows (0 ∷ 3 ∷ []) (replicate 5 9) (success 4 16 0) (letters (W ∷ D ∷ U ∷ W ∷ []) ++ 9 ∷ [])
    ∷ P9 has search 1000 (replicate 4 9) (success 6 18 95) (0 ∷ 1 ∷ 5 ∷ 9 ∷ [])
    ∷ P9 has verdict (0 ∷ 1 ∷ 2 ∷ []) (success 6 22 0)
    ∷ P9 has verdict (0 ∷ 2 ∷ 1 ∷ []) (success 6 18 0)
    ∷ P9 has comes_first (0 ∷ 1 ∷ 5 ∷ []) (0 ∷ 2 ∷ 1 ∷ [])
    ∷ P10 has unfolds 12 (0 ∷ 0 ∷ 4 ∷ 6 ∷ 8 ∷ []) (4 ∷ 6 ∷ 8 ∷ 12 ∷ 12 ∷ [])
    ∷ P11 has margins (0 ∷ []) (replicate 2 (pos 9)) (success 5 0 0) (pos 3 ∷ pos 9 ∷ [])
    ∷ P11 has margins (3 ∷ []) (replicate 2 (pos 9)) (success 5 0 0) (pos 0 ∷ pos 9 ∷ [])
    ∷ P11 has margins (65535 ∷ []) (replicate 2 (pos 9)) (success 5 0 0) (negsuc 65531 ∷ pos 9 ∷ [])
    ∷ P12 has check (refusal 10)
    ∷ P12' has check (refusal 12)
    ∷ X1 has search 1000 (replicate 4 9) (success 7 23 14) (2 ∷ 5 ∷ 0 ∷ 9 ∷ [])
    ∷ X3 has search 1000000 (replicate 10 9) (success 20 132 3180) (3 ∷ 0 ∷ 4 ∷ 5 ∷ 8 ∷ 10 ∷ 15 ∷ 17 ∷ 16 ∷ 9 ∷ [])
    -- E1 and E3: on equal cost it works. E2: slept. E4 and E5: moving, or work, at the power of sleep
    ∷ (two 4 ++ 1 ∷ device_file 5 1 9 ++ idle) has rows [] (replicate 5 9) (success 4 20 0) (letters (W ∷ W ∷ W ∷ W ∷ []) ++ 9 ∷ [])
    ∷ (two 5 ++ 1 ∷ device_file 5 1 9 ++ idle) has rows [] (replicate 6 9) (success 5 21 0) (letters (D ∷ S ∷ S ∷ S ∷ U ∷ []) ++ 9 ∷ [])
    ∷ (two 2 ++ 1 ∷ device_file 5 1 5 ++ idle) has rows [] (replicate 3 9) (success 2 10 0) (letters (W ∷ W ∷ []) ++ 9 ∷ [])
    ∷ (two 5 ++ 1 ∷ device_file 5 1 1 ++ idle) has check (refusal 5)
    ∷ (two 5 ++ 1 ∷ device_file 1 1 5 ++ idle) has check (refusal 5)
    -- E6: a floor that took every gap of 2T ticks for slept would stand at 64 with start 2, and stay with 60
    ∷ E6 has search 1000 (replicate 3 9) (success 6 56 7) (2 ∷ 4 ∷ 9 ∷ [])
    ∷ E6 has verdict (1 ∷ 4 ∷ []) (success 6 60 0)
    -- H1 to H3: slept from shut time + wake time on, 3 of D and 1 of U
    ∷ second (two 8 ++ 1 ∷ B ++ idle) has rows [] (replicate 9 9) (success 8 14 0) (letters (D ∷ D ∷ D ∷ S ∷ S ∷ S ∷ S ∷ U ∷ []) ++ 9 ∷ [])
    ∷ second (two 3 ++ 1 ∷ B ++ idle) has rows [] (replicate 4 9) (success 3 27 0) (letters (W ∷ W ∷ W ∷ []) ++ 9 ∷ [])
    ∷ second (two 4 ++ 1 ∷ B ++ idle) has rows [] (replicate 5 9) (success 4 10 0) (letters (D ∷ D ∷ D ∷ U ∷ []) ++ 9 ∷ [])
    ∷ H4 has search 1000 (replicate 2 9) (success 9 47 5) (2 ∷ 9 ∷ [])
    ∷ H4 has rows (2 ∷ []) (replicate 10 9) (success 9 47 0) (letters (W ∷ W ∷ W ∷ W ∷ D ∷ D ∷ D ∷ S ∷ U ∷ []) ++ 9 ∷ [])
    -- H7: device A's figures give P3's plan
    ∷ H7 has search 1000 (9 ∷ 9 ∷ []) (success 5 17 5) (0 ∷ 9 ∷ [])
    ∷ H7 has rows (0 ∷ []) (replicate 6 9) (success 5 17 0) (letters (W ∷ W ∷ D ∷ S ∷ U ∷ []) ++ 9 ∷ [])
    -- H14 to H16: a mark cut short, a mark alone, a mark and nothing but zeros
    ∷ (255 ∷ []) has check (refusal 1)
    ∷ second [] has check (refusal 1)
    ∷ second (replicate 5 0) has check (refusal 10)
    -- G1 and G2: asleep over the seam, where the same job in a list (G13) is followed by waking
    ∷ G1 has rows (1 ∷ []) (replicate 6 9) (success 5 17 0) (letters (U ∷ W ∷ W ∷ D ∷ S ∷ []) ++ 9 ∷ [])
    ∷ G1 has search 1000000 (9 ∷ 9 ∷ []) (success 5 17 5) (0 ∷ 9 ∷ [])
    ∷ P3 has rows (1 ∷ []) (replicate 6 9) (success 5 21 0) (letters (W ∷ W ∷ W ∷ D ∷ U ∷ []) ++ 9 ∷ [])
    -- G5: a move that runs over the end
    ∷ G5 has rows (1 ∷ []) (replicate 7 9) (success 6 22 0) (letters (U ∷ W ∷ W ∷ D ∷ D ∷ U ∷ []) ++ 9 ∷ [])
    -- G6: a device that is never used
    ∷ G6 has search 1000000 (9 ∷ 9 ∷ []) (success 5 22 5) (0 ∷ 9 ∷ [])
    ∷ G6 has rows (0 ∷ []) (replicate 11 9) (success 5 22 0) (letters (W ∷ W ∷ D ∷ S ∷ U ∷ S ∷ S ∷ S ∷ S ∷ S ∷ []) ++ 9 ∷ [])
    -- J5 to J7: a gap is slept at the level that costs least: at the first of two, at the second, at the third of four
    ∷ third (two 5 ++ 1 ∷ L ++ idle) has rows [] (replicate 6 9) (success 5 17 0) (digits (D ∷ at 1 ∷ at 1 ∷ at 1 ∷ U ∷ []) ++ 9 ∷ [])
    ∷ third (two 6 ++ 1 ∷ L ++ idle) has rows [] (replicate 7 9) (success 6 18 0) (digits (D ∷ D ∷ at 2 ∷ at 2 ∷ U ∷ U ∷ []) ++ 9 ∷ [])
    ∷ J7 has rows [] (replicate 11 9) (success 10 72 0) (digits (D ∷ D ∷ D ∷ at 3 ∷ at 3 ∷ at 3 ∷ at 3 ∷ U ∷ U ∷ U ∷ []) ++ 9 ∷ [])
    -- J9: over the seam, and a device that is never used
    ∷ J9 has rows (1 ∷ []) (replicate 17 9) (success 8 46 0) (digits (U ∷ W ∷ W ∷ D ∷ D ∷ at 2 ∷ at 2 ∷ U ∷ replicate 8 (at 2)) ++ 9 ∷ [])
    ∷ J10 has search 1000000 (replicate 3 9) (success 10 86 58) (8 ∷ 7 ∷ 9 ∷ [])
    ∷ J10 has rows (8 ∷ 7 ∷ []) (replicate 21 9) (success 10 86 0)
    (digits (D ∷ D ∷ at 2 ∷ at 2 ∷ at 2 ∷ U ∷ U ∷ W ∷ W ∷ W ∷ D ∷ D ∷ at 2 ∷ at 2 ∷ at 2 ∷ U ∷ U ∷ W ∷ D ∷ U ∷ []) ++ 9 ∷ [])
    -- J12: no time comes before no level. J13: five levels, though no power is there
    ∷ third (two 5 ++ 1 ∷ 0 ∷ two 10 ++ two 4 ++ 0 ∷ []) has check (refusal 4)
    ∷ third (two 5 ++ 1 ∷ 1 ∷ two 10 ++ two 4 ++ 5 ∷ []) has check (refusal 26)
    -- J19: device A's figures, one level, give P3's plan with another letter
    ∷ J19 has search 1000 (9 ∷ 9 ∷ []) (success 5 17 5) (0 ∷ 9 ∷ [])
    ∷ J19 has rows (0 ∷ []) (replicate 6 9) (success 5 17 0) (digits (W ∷ W ∷ D ∷ at 1 ∷ U ∷ []) ++ 9 ∷ [])
    ∷ []

-- ---- the statement

-- What a case says: the promise of its operation; and where no operation answers it, that the file is read, and what it is read as.
abbrev pub Says : List ℕ → Figure → Type 0
Says f (check a) = Checked f a
Says f (margins starts lent a after) = Margined f starts lent a after
Says f (verdict starts a) = Judged f starts a
Says f (rows starts lent a after) = Rowed f starts lent a after
Says f (search budget lent a after) = Searched f budget lent a after
Says f (unfolds h rs ds) =
    let R = recorder_in f in
    Reads f R × (R.horizon ≡ h) × (up_to (release R) (jobs R) ≡ rs) × (up_to (deadline R) (jobs R) ≡ ds)
Says f (comes_first s s') = Reads f (recorder_in f) × Earlier (recorder_in f) s s'

abbrev pub Hold : List Case → Type 0
Hold [] = Unit {0}
Hold (c ∷ cs) = Says c.file c.figure × Hold cs
