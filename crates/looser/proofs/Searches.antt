-- Looser windows never cost more (rule 99): of the results of two searches, and of two questions whether there is any plan, by their promises alone.
use mathlib.Core.Path.{◌≡◌, refl}
use mathlib.Core.List.{List}
use Prim.Native.Nat.{ℕ, ◌≤◌}
use native.Mathlib.Omega.{arith}
use lib.ListN.{length}
use Rattle.schedule.specs.declared.Recorder.{Recorder}
use Rattle.schedule.specs.Quantities.{jobs}
use Rattle.schedule.specs.Listing.{Feasible, FirstLeast}
use Rattle.tables.specs.Layout.{tables_of}
use Rattle.planner.specs.declared.Answer.{Answer}
use Rattle.planner.specs.Promises.{stops, passes, gives_such, Reads, Counted, GivesLeast, found, SearchOf, Searched}
use Rattle.planner.proofs.Larger.{Enough}
use Rattle.planner.proofs.Reading.{outcome_of}
use Rattle.possible.specs.TillFound.{vertices_till_found}
use Rattle.possible.specs.Promises.{GivesFirst, PossibleOf, Possible}
use Rattle.looser.specs.Windows.{Looser}
use Rattle.looser.proofs.Helps.{still_feasible, no_dearer}
use Rattle.looser.proofs.Files.{widened}

-- ---- over one recorder each

-- Where there is a feasible schedule, room for it and a budget that is large enough, a search that counts its vertices gives one;
counted_finds : {b n : ℕ} {lent : List ℕ} {R : Recorder} {Rest : Answer → List ℕ → Type 0} {a : Answer} {after s : List ℕ}
    → jobs R ≤ length lent → Enough a → Feasible R s → Counted b n lent R Rest a after → Rest a after
counted_finds h n f (stops k) = absurd (omega arith)
counted_finds h n f (passes k (stops o)) = absurd (n refl)
counted_finds {s = s} h n f (passes k (passes c (stops g))) = absurd (g s f)
counted_finds h n f (passes k (passes c (passes g r))) = r

-- and where it answers 0 it has given one.
counted_found : {b n : ℕ} {lent : List ℕ} {R : Recorder} {Rest : Answer → List ℕ → Type 0} {a : Answer} {after : List ℕ}
    → a.number ≡ 0 → Counted b n lent R Rest a after → Rest a after
counted_found z (stops k) = absurd (omega arith)
counted_found z (passes k (stops o)) = absurd (omega arith)
counted_found z (passes k (passes c (stops g))) = absurd (omega arith)
counted_found z (passes k (passes c (passes g r))) = r

pub least_given : {n : ℕ} {lent : List ℕ} {R : Recorder} {a : Answer} {after : List ℕ} → GivesLeast R n lent a after → (a.number ≡ 0) × (t : List ℕ) × FirstLeast R t a.energy
least_given (found {s = t} f) = (refl, t, f)

pub first_given : (R : Recorder) (n : ℕ) (lent : List ℕ) {a : Answer} {after : List ℕ} → GivesFirst R n lent a after → (a.number ≡ 0) × (t : List ℕ) × Feasible R t
first_given R n lent (gives_such {x = t} f) = (refl, t, f.feasible)

-- ---- over two files

-- Both are accepted, and the windows of the second are the looser ones; it is lent room for its starts, and its budget is large enough.
module _
    (file file' : List ℕ)
    (looser : Looser (tables_of file) (tables_of file'))
    {R R' : Recorder}
    (reads : Reads file R)
    (reads' : Reads file' R')
    (b b' : ℕ)
    (lent lent' : List ℕ)
    (roomy : jobs R' ≤ length lent')
    {a a' : Answer}
    {after after' : List ℕ}
    (enough : Enough a')
  where
    -- If the first has a plan, so has the second, and its energy is no higher.
    pub never_costs_more : Searched file b lent a after → Searched file' b' lent' a' after' → a.number ≡ 0 → (a'.number ≡ 0) × (a'.energy ≤ a.energy)
    never_costs_more p p' z =
        let w = widened file file' looser reads reads' in
        let f = least_given (counted_found z (outcome_of file lent (SearchOf b lent) reads p)) in
        let f' = least_given (counted_finds roomy enough (still_feasible R R' w f.1 f.2.feasible) (outcome_of file' lent' (SearchOf b' lent') reads' p')) in
        (f'.0, no_dearer R R' w f.2 f'.2)

    -- If there is any plan at all for the first, so there is for the second.
    pub still_possible : Possible file b lent a after → Possible file' b' lent' a' after' → a.number ≡ 0 → a'.number ≡ 0
    still_possible p p' z =
        let f = first_given R (vertices_till_found R) lent (counted_found z (outcome_of file lent (PossibleOf b lent) reads p)) in
        let w = widened file file' looser reads reads' in
        (first_given R' (vertices_till_found R') lent' (counted_finds roomy enough (still_feasible R R' w f.1 f.2) (outcome_of file' lent' (PossibleOf b' lent') reads' p'))).0
