-- The table of figures holds: each case is computed by the checker from the definitions.
use mathlib.Core.Path.{◌≡◌, refl}
use mathlib.Core.List.{List, [], ◌∷◌}
use mathlib.Core.Logic.{inl, inr}
use mathlib.Core.Option.{some}
use Prim.Native.Nat.{ℕ}
use native.Mathlib.Omega.{arith}
use Rattle.base.specs.Lists.{up_to, padded, remove}
use Rattle.base.specs.Refusals.{first_of}
use Rattle.device.specs.Row.{trip}
use Rattle.schedule.specs.inside.Judging.{window_fault, clashes}
use Rattle.schedule.specs.Listing.{used, laid, soonest, ordered}
use Rattle.schedule.specs.Visiting.{written, starts, choices, late, cut_a, plan_energy, better, last_end, first_start, since, device_floor, floor, cut_b, complete, examine, visit, visited}
use Rattle.tables.specs.Layout.{kind_of}
use Rattle.request.specs.Euclid.{euclid, gcd_of}
use Rattle.request.specs.Format.{no_lower, powers_table, device_table, lacks, task_table, job_table, record_table, record_fault, lcm_from, horizon_of, released_at, unfolded, jobs_of, mixed, count_of, job_records, job_section, task_section, fault_as, recorder_as, read_as, read_of}
use Rattle.figures.specs.Figures.{Figure, check, margins, verdict, rows, search, unfolds, comes_first, Case, table, Says, Hold}
use Rattle.figures.proofs.Computed.{outcome, checked, checked_by, margined, margined_by, all, feasible, judged, judged_by, rowed, rowed_by, found, ended, searched, searched_by}

-- What the checker computes of a case, and that it then holds.
abbrev Computes : List ℕ → Figure → Type 0
Computes f (check a) = outcome tt checked (read_of f) ≡ some (a, tt)
Computes f (margins s lent a after) = outcome lent (margined s lent) (read_of f) ≡ some (a, after)
Computes f (verdict s a) = outcome tt (judged s) (read_of f) ≡ some (a, tt)
Computes f (rows s lent a after) = outcome lent (rowed s lent) (read_of f) ≡ some (a, after)
Computes f (search budget lent a after) = outcome lent (searched budget lent) (read_of f) ≡ some (a, after)
Computes f (unfolds h rs ds) = Says f (unfolds h rs ds)
Computes f (comes_first s s') = Says f (comes_first s s')

says : (f : List ℕ) (g : Figure) → Computes f g → Says f g
says f (check a) e = checked_by f e
says f (margins s lent a after) e = margined_by s lent f e
says f (verdict s a) e = judged_by s f e
says f (rows s lent a after) e = rowed_by s lent f e
says f (search budget lent a after) e = searched_by budget lent f e
says f (unfolds h rs ds) e = e
says f (comes_first s s') e = e

abbrev AllCompute : List Case → Type 0
AllCompute [] = Unit {0}
AllCompute (c ∷ cs) = Computes c.file c.figure × AllCompute cs

all_say : (t : List Case) → AllCompute t → Hold t
all_say [] e = tt
all_say (c ∷ cs) e = (says c.file c.figure e.0, all_say cs e.1)

pub figures_hold : Hold table
unfolding read_of read_as fault_as kind_of task_section job_section job_records count_of mixed record_fault record_table device_table powers_table no_lower task_table job_table lacks first_of horizon_of lcm_from gcd_of euclid jobs_of unfolded released_at recorder_as up_to padded remove trip used laid soonest ordered written starts choices late cut_a plan_energy better last_end first_start since device_floor floor cut_b complete examine visit visited window_fault clashes outcome checked margined all feasible judged rowed found ended searched
figures_hold = all_say table (refl, (refl, (refl, (refl, (refl, (refl, (refl, (refl, (refl, (refl, (refl, (refl, (refl, (refl, (refl, (refl, (refl, (refl, (refl, (refl, (refl, ((refl, inr (refl, inl (inl (omega arith)))), ((refl, refl, refl, refl), (refl, (refl, (refl, (refl, (refl, (refl, (refl, (refl, (refl, (refl, (refl, (refl, (refl, (refl, (refl, (refl, (refl, (refl, (refl, (refl, (refl, (refl, (refl, (refl, (refl, (refl, (refl, (refl, (refl, (refl, (refl, (refl, (refl, (refl, (refl, (refl, (refl, (refl, (refl, (refl, tt)))))))))))))))))))))))))))))))))))))))))))))))))))))))))))))))
