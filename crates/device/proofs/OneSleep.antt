-- The legal rows of a device that has one sleep and equal moves, said without levels, step by step; and the law that specs/Row accepts exactly these rows.
use mathlib.Core.Path.{◌≡◌, refl, sym, subst}
use mathlib.Core.Bool.{Bool, true, false}
use mathlib.Core.List.{List, [], ◌∷◌}
use mathlib.Core.Logic.{◌↔◌}
use Prim.Native.Nat.{ℕ, zero, suc}
use native.Mathlib.Omega.{arith}
use Rattle.device.specs.Row.{Letter, at, D, U, W, Once, Goes, over}
use Rattle.device.specs.Row as R
use Rattle.device.proofs.Rules.{first}

-- Asleep is level 1.
abbrev S : Letter
S = at 1

-- Where a device is between two ticks. A number is the ticks left of a move.
pub data State : Type 0 where
  working : State
  down : ℕ → State
  asleep : State
  up : ℕ → State

-- `Step T s x s'`: from s, a tick of letter x leads to s'. A move has T ticks: the first is D from work (shuts) or U from sleep (wakes), and the others follow (falls,
-- rises). Once down, a device sleeps (rests, sleeps) or comes up at once (turns); once up, it works (resumes). Rules 32 to 34.
pub data Step (T : ℕ) : State → Letter → State → Type 0 where
  works : Step T working W working
  shuts : {n : ℕ} → suc n ≡ T → Step T working D (down n)
  falls : {n : ℕ} → Step T (down (suc n)) D (down n)
  rests : Step T (down 0) S asleep
  turns : {n : ℕ} → suc n ≡ T → Step T (down 0) U (up n)
  sleeps : Step T asleep S asleep
  wakes : {n : ℕ} → suc n ≡ T → Step T asleep U (up n)
  rises : {n : ℕ} → Step T (up (suc n)) U (up n)
  resumes : Step T (up 0) W working

-- A row may end where the next tick could be one of work (rule 31).
pub data Ends : State → Type 0 where
  at_work : Ends working
  woken : Ends (up 0)

-- The rows of a pattern of use, tick by tick; W in every tick of use (rule 35).
pub data Legal (T : ℕ) : State → List Bool → List Letter → Type 0 where
  end : {s : State} → Ends s → Legal T s [] []
  used : {s t : State} {u : List Bool} {r : List Letter} → Step T s W t → Legal T t u r → Legal T s (true ∷ u) (W ∷ r)
  free : {s t : State} {x : Letter} {u : List Bool} {r : List Letter} → Step T s x t → Legal T t u r → Legal T s (false ∷ u) (x ∷ r)

-- Before the first tick the device was at work (rule 31).
abbrev pub LegalRow : ℕ → List Bool → List Letter → Type 0
LegalRow T u r = Legal T working u r

-- The same places, by level.
abbrev state : State → R.State
state working = R.level 0
state (down n) = R.down 1 n
state asleep = R.level 1
state (up n) = R.up 0 n

module _ (T Pw Ps P0 : ℕ) where
  abbrev step_at : R.State → Letter → R.State → Type 0
  step_at = R.Step (first T Pw Ps P0)

  step_to : {s t : State} {x : Letter} → Step T s x t → step_at (state s) x (state t)
  step_to works = R.stays {k = 0} R.rests (omega arith)
  step_to (shuts e) = R.shuts {k = 0} R.rests (omega arith) e
  step_to falls = R.falls
  step_to rests = R.stays {k = 1} R.fallen (omega arith)
  step_to (turns e) = R.wakes R.fallen e
  step_to sleeps = R.stays {k = 1} R.rests (omega arith)
  step_to (wakes e) = R.wakes R.rests e
  step_to rises = R.rises
  step_to resumes = R.resumes

  end_to : {s : State} → Ends s → R.Ends (state s)
  end_to at_work = R.at_work
  end_to woken = R.woken

  record From (s : R.State) (u : List Bool) (r : List Letter) : Type 0 where
    pub last : R.State
    pub goes : Goes (first T Pw Ps P0) s u r last
    pub ends : R.Ends last

  legal_to : {s : State} {u : List Bool} {r : List Letter} → Legal T s u r → From (state s) u r
  legal_to {s} (end e) = record { last = state s; goes = over; ends = end_to e }
  legal_to (used st l) = let i = legal_to l in record { last = i.last; goes = R.used (step_to st) i.goes; ends = i.ends }
  legal_to (free st l) = let i = legal_to l in record { last = i.last; goes = R.free (step_to st) i.goes; ends = i.ends }

  -- A step by level is one of these.
  record Back (s : State) (x : Letter) (z : R.State) : Type 0 where
    pub t : State
    pub same : state t ≡ z
    pub step : Step T s x t

  step_back : (s : State) {x : Letter} {z : R.State} → step_at (state s) x z → Back s x z
  step_back working (R.stays R.rests l) = record { t = working; same = refl; step = works }
  step_back working (R.shuts {n = n} R.rests l e) = record { t = down n; same = refl; step = shuts e }
  step_back (down zero) (R.stays R.fallen l) = record { t = asleep; same = refl; step = rests }
  step_back (down zero) (R.shuts R.fallen l e) = absurd (omega arith)
  step_back (down zero) (R.wakes {n = n} R.fallen e) = record { t = up n; same = refl; step = turns e }
  step_back (down (suc n)) R.falls = record { t = down n; same = refl; step = falls }
  step_back asleep (R.stays R.rests l) = record { t = asleep; same = refl; step = sleeps }
  step_back asleep (R.shuts R.rests l e) = absurd (omega arith)
  step_back asleep (R.wakes {n = n} R.rests e) = record { t = up n; same = refl; step = wakes e }
  step_back (up zero) R.resumes = record { t = working; same = refl; step = resumes }
  step_back (up (suc n)) R.rises = record { t = up n; same = refl; step = rises }
  step_back working (R.wakes {k = k} {n = n} x10 e) = elim x10 [ ]
  step_back (up zero) (R.wakes {k = k} {n = n} x17 e) = elim x17 [ ]
  step_back (up zero) (R.stays {k = k} x15 l) = elim x15 [ ]
  step_back (up zero) (R.shuts {k = k} {n = n} x19 l e) = elim x19 [ ]
  step_back (up (suc n)) (R.wakes {k = k} x18 e) = elim x18 [ ]
  step_back (up (suc n)) (R.stays {k = k} x16 l) = elim x16 [ ]
  step_back (up (suc n)) (R.shuts {k = k} x20 l e) = elim x20 [ ]
  step_back (down (suc n)) (R.wakes {k = k} x16 e) = elim x16 [ ]
  step_back (down (suc n)) (R.stays {k = k} x14 l) = elim x14 [ ]
  step_back (down (suc n)) (R.shuts {k = k} x18 l e) = elim x18 [ ]

  end_back : (s : State) → R.Ends (state s) → Ends s
  end_back working R.at_work = at_work
  end_back (up zero) R.woken = woken
  end_back asleep x'' = elim x'' [ ]
  end_back (up (suc _)) x6 = elim x6 [ ]
  end_back (down _) x'' = elim x'' [ ]

  legal_back : (s : State) {z last : R.State} {u : List Bool} {r : List Letter} → state s ≡ z → Goes (first T Pw Ps P0) z u r last → R.Ends last → Legal T s u r
  legal_back s p over e = end (end_back s (subst R.Ends (sym p) e))
  legal_back s p (R.used {t = t} st g) e =
      let b = step_back s (subst (λ (q : R.State). step_at q W t) (sym p) st) in
      used b.step (legal_back b.t b.same g e)
  legal_back s p (R.free {t = t} {x = x} st g) e =
      let b = step_back s (subst (λ (q : R.State). step_at q x t) (sym p) st) in
      free b.step (legal_back b.t b.same g e)

  -- THEOREM: these steps accept exactly the rows of specs/Row.
  pub one_sleep : (u : List Bool) (r : List Letter) → LegalRow T u r ↔ Once (first T Pw Ps P0) u r
  one_sleep u r = (
    λ l. let f = legal_to l in record { last = f.last; goes = f.goes; ends = f.ends },
    λ o. legal_back working refl o.goes o.ends,
  )
