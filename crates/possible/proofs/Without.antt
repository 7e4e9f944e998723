-- Without its devices a recorder is valid, every schedule costs nothing, and the visit that stops when a schedule is found is the same, vertex by vertex.
use mathlib.Core.Path.{◌≡◌, refl, ap, ◌∙◌}
use mathlib.Core.Bool.{Bool, cond}
use mathlib.Core.Option.{Option, none, some}
use mathlib.Core.List.{List, [], ◌∷◌}
use Prim.Native.Nat.{ℕ, zero, suc}
use native.Mathlib.Omega.{arith}
use Rattle.base.specs.Lists.{up_from}
use Rattle.base.specs.Loops.{through}
use Rattle.base.proofs.Cases.{test_cases}
use Rattle.base.proofs.Additions.{total_same}
use Rattle.base.proofs.Turns.{through_same}
use Rattle.schedule.specs.declared.Recorder.{Recorder}
use Rattle.schedule.specs.Quantities.{jobs, run, Valid}
use Rattle.schedule.specs.Visiting.{Vertex, Visited, Walk, counted, root, child, starts_of, starts, choices, late, cut_a, plan_energy}
use Rattle.possible.specs.TillFound.{unless_found, found, enter, visit_till_found, visited_till_found}
use Rattle.possible.specs.inside.Bare.{Bare}

module _ (R Q : Recorder) (same : Bare R Q) where
  pub bare_valid : Valid R → Valid Q
  bare_valid v =
      record {
        some_tick = omega (arith, v.some_tick, same.horizon);
        few_ticks = omega (arith, v.few_ticks, same.horizon);
        few_devices = omega (arith, same.none);
        sound = λ k b. absurd (omega (arith, same.none, b));
        few_jobs = omega (arith, v.few_jobs, same.count);
        runs = λ j b. omega (arith, v.runs j (omega (arith, b, same.count)), same.runs j);
        fits = λ j b. omega (arith, v.fits j (omega (arith, b, same.count)), same.runs j, same.releases j, same.deadlines j);
        ends = λ j b. omega (arith, v.ends j (omega (arith, b, same.count)), same.deadlines j, same.horizon);
        known = λ j k b a. same.unused j k (omega (arith, b, same.count));
      }

  pub bare_energy : (s : List ℕ) → plan_energy Q s ≡ 0
  unfolding plan_energy
  bare_energy s = rw same.none

  -- ---- the visit

  starts_same : (t j : ℕ) → starts Q t j ≡ starts R t j
  unfolding starts
  starts_same t j = rw (same.releases j, same.deadlines j, same.runs j)

  child_same : (v : Vertex) (j x : ℕ) → child Q v j x ≡ child R v j x
  child_same v j x = rw (same.runs j)

  written_same : (v : Vertex) → starts_of Q v ≡ starts_of R v
  written_same v = rw same.count

  late_same : (t : ℕ) (l : List ℕ) → late Q t l ≡ late R t l
  unfolding late
  late_same t [] = refl
  late_same t (j ∷ l) = rw (same.releases j, same.deadlines j, same.runs j, late_same t l)

  cut_same : (v : Vertex) → cut_a Q v ≡ cut_a R v
  unfolding cut_a
  cut_same v = rw (late_same v.time v.unplaced, same.horizon, total_same (run Q) (run R) same.runs v.unplaced)

  choices_same : (f g : Vertex → Walk) → ((v : Vertex) (st : Visited) → f v st ≡ g v st) → (v : Vertex) (st : Visited) → choices Q f v st ≡ choices R g v st
  unfolding choices
  choices_same f g h v =
      through_same _ _ v.unplaced
      (λ j m st. ap (λ (l : List ℕ). through (λ x. f (child Q v j x)) l st) (starts_same v.time j)
      ∙ through_same _ _ (starts R v.time j) (λ x n st'. ap (λ (w : Vertex). f w st') (child_same v j x) ∙ h (child R v j x) st') st)

  unless_same : (b : Option (List ℕ)) (f g : Walk) (st : Visited) → f st ≡ g st → unless_found b f st ≡ unless_found b g st
  unfolding unless_found
  unless_same none f g st h = h
  unless_same (some s) f g st h = refl

  enter_same : (v : Vertex) (f g : Walk) (st : Visited) → f st ≡ g st → enter Q v f st ≡ enter R v g st
  unfolding enter
  enter_same v f g st e = rw (cut_same v) (test_cases (λ (t : Bool). cond t counted f st ≡ cond t counted g st) (cut_a R v) (λ q. refl) (λ q. e))

  visit_same : (m : ℕ) (v : Vertex) (st : Visited) → visit_till_found Q m v st ≡ visit_till_found R m v st
  unfolding visit_till_found
  visit_same zero v st =
      unless_same st.best _ _ st (enter_same v (found Q v) (found R v) st (ap (λ (s : List ℕ). record { count = suc st.count; best = some s }) (written_same v)))
  visit_same (suc m) v st =
      unless_same st.best _ _ st
      (enter_same v (λ x. choices Q (visit_till_found Q m) v (counted x)) (λ x. choices R (visit_till_found R m) v (counted x)) st
      (choices_same (visit_till_found Q m) (visit_till_found R m) (visit_same m) v (counted st)))

  pub visited_same : visited_till_found Q ≡ visited_till_found R
  unfolding visited_till_found
  visited_same =
      ap (λ (n : ℕ). visit_till_found Q n (record { placed = []; time = 0; unplaced = up_from 0 n }) (record { count = 0; best = none })) same.count
      ∙ visit_same (jobs R) (root R) (record { count = 0; best = none })
