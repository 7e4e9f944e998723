-- Looser windows never cost more (rule 99), of the plans that are asked for most: of the least plan with a lent memory, and of the first plan, by their promises alone.
use mathlib.Core.Path.{◌≡◌, refl}
use mathlib.Core.List.{List}
use Prim.Native.Nat.{ℕ, ◌≤◌}
use native.Mathlib.Omega.{arith}
use lib.ListN.{length}
use Rattle.schedule.specs.declared.Recorder.{Recorder}
use Rattle.schedule.specs.Quantities.{jobs}
use Rattle.schedule.specs.Listing.{Feasible}
use Rattle.tables.specs.Layout.{tables_of}
use Rattle.planner.specs.declared.Answer.{Answer}
use Rattle.planner.specs.Promises.{stops, passes, Reads, GivesLeast}
use Rattle.planner.proofs.Larger.{Enough}
use Rattle.planner.proofs.Reading.{outcome_of}
use Rattle.possible.specs.Promises.{GivesFirst}
use Rattle.first.specs.Promises.{FirstOf, FirstPlan}
use Rattle.cheapest.specs.Promises.{over, least, CountedLeastOf, CountedLeastPlanned}
use Rattle.looser.specs.Windows.{Looser}
use Rattle.looser.proofs.Helps.{still_feasible, no_dearer}
use Rattle.looser.proofs.Files.{widened}
use Rattle.looser.proofs.Searches.{least_given, first_given}

-- ---- over one recorder each

-- Where it answers 0, a plan is given; and where one is feasible, with room for it and a budget that is large enough.
least_found : {b : ℕ} {lent : List ℕ} {R : Recorder} {a : Answer} {after : List ℕ} → a.number ≡ 0 → CountedLeastOf b lent R a after → GivesLeast R 0 lent a after
least_found z (stops h) = absurd (omega arith)
least_found z (passes h (stops n)) = absurd (omega arith)
least_found z (passes h (passes n (over j o))) = absurd (omega arith)
least_found z (passes h (passes n (least g))) = g

least_finds : {b : ℕ} {lent : List ℕ} {R : Recorder} {a : Answer} {after s : List ℕ}
    → jobs R ≤ length lent → Enough a → Feasible R s → CountedLeastOf b lent R a after → GivesLeast R 0 lent a after
least_finds room enough f (stops h) = absurd (omega arith)
least_finds {s = s} room enough f (passes h (stops n)) = absurd (n s f)
least_finds room enough f (passes h (passes n (over j o))) = absurd (enough refl)
least_finds room enough f (passes h (passes n (least g))) = g

first_found : {lent : List ℕ} {R : Recorder} {a : Answer} {after : List ℕ} → a.number ≡ 0 → FirstOf lent R a after → GivesFirst R 0 lent a after
first_found z (stops h) = absurd (omega arith)
first_found z (passes h (stops n)) = absurd (omega arith)
first_found z (passes h (passes n g)) = g

first_finds : {lent : List ℕ} {R : Recorder} {a : Answer} {after s : List ℕ} → jobs R ≤ length lent → Feasible R s → FirstOf lent R a after → GivesFirst R 0 lent a after
first_finds room f (stops h) = absurd (omega arith)
first_finds {s = s} room f (passes h (stops n)) = absurd (n s f)
first_finds room f (passes h (passes n g)) = g

-- ---- over two files

-- Both are accepted, and the windows of the second are the looser ones; it is lent room for its starts.
module _
    (file file' : List ℕ)
    (looser : Looser (tables_of file) (tables_of file'))
    {R R' : Recorder}
    (reads : Reads file R)
    (reads' : Reads file' R')
    (lent lent' : List ℕ)
    (roomy : jobs R' ≤ length lent')
    {a a' : Answer}
    {after after' : List ℕ}
  where
    -- If the first has a least plan, so has the second, unless it is given up, and its energy is no higher.
    pub least_never_costs_more : (b b' : ℕ) → Enough a' → CountedLeastPlanned file b lent a after → CountedLeastPlanned file' b' lent' a' after' → a.number ≡ 0
        → (a'.number ≡ 0) × (a'.energy ≤ a.energy)
    least_never_costs_more b b' enough p p' z =
        let w = widened file file' looser reads reads' in
        let f = least_given (least_found z (outcome_of file lent (CountedLeastOf b lent) reads p)) in
        let f' = least_given (least_finds roomy enough (still_feasible R R' w f.1 f.2.feasible) (outcome_of file' lent' (CountedLeastOf b' lent') reads' p')) in
        (f'.0, no_dearer R R' w f.2 f'.2)

    -- If the first has a first plan, so has the second, whatever the budget, since there is none.
    pub first_still_possible : FirstPlan file lent a after → FirstPlan file' lent' a' after' → a.number ≡ 0 → a'.number ≡ 0
    first_still_possible p p' z =
        let w = widened file file' looser reads reads' in
        let f = first_given R 0 lent (first_found z (outcome_of file lent (FirstOf lent) reads p)) in
        (first_given R' 0 lent' (first_finds roomy (still_feasible R R' w f.1 f.2) (outcome_of file' lent' (FirstOf lent') reads' p'))).0
