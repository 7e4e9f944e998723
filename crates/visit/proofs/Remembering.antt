-- What is remembered of a vertex is added to the tally, and what was seen of one is remembered.
use mathlib.Core.Path.{◌≡◌, sym, ap, ◌∙◌, subst}
use mathlib.Core.Bool.{Bool, true, false}
use mathlib.Core.List.{List}
use mathlib.Core.Option.{Option, none, some}
use Prim.Native.Nat.{ℕ, ◌+◌, ◌-◌, ◌≤◌, ◌<◌}
use native.Mathlib.Nat.{le_refl}
use native.Mathlib.Omega.{arith}
use borrow.Author.Tests.{eq-eqb, ne_eqb}
use Rattle.std.specs.Prelude.{Some}
use Rattle.std.proofs.lemmas.Option.{MatchOption-at_some}
use Rattle.schedule.specs.declared.Recorder.{Recorder}
use Rattle.schedule.specs.Visiting.{Vertex, Visited, choices, visit}
use Rattle.extras.specs.inside.Tabled.{cap_at}
use Rattle.recall.specs.declared.asking.Asked.{Asked}
use Rattle.recall.specs.inside.Slack.{more, Slack}
use Rattle.recall.specs.inside.Entries.{kept}
use Rattle.recall.specs.inside.Asks.{Asks}
use Rattle.recall.proofs.Answered.{seen_kept, Costs, choices_stay}
use Rattle.visit.specs.declared.tally.Tally.{Tally}
use Rattle.visit.specs.inside.Lent.{Long, count_at, energy_at, Bests, slack_by, Lends, Tells, Came, done, over, Added, fits, beyond, Stands}
use Rattle.visit.specs.inside.Stops.{visit_by}
use Rattle.visit.proofs.Stopping.{choices_left, choices_open}
use Rattle.visit.proofs.Visits.{choices_grow}
use Rattle.visit.proofs.Telling.{tells_none, tells_counted}

module _ (R : Recorder) where
  -- The slack of the best that the tally holds.
  pub slack_told : (l : Tally) (f : ℕ) (o : Option (List ℕ)) → Bests R l o → f < energy_at l → Slack R f o (slack_by (energy_at l) f)
  unfolding Bests Slack slack_by
  slack_told l f none b h = rw (eq-eqb (energy_at l) 4294967295 b)
  slack_told l f (some s) b h = rw (ne_eqb (energy_at l) 4294967295 (λ e. omega (arith, b.1))) (omega (arith, h), omega (arith, h, b.0))

  -- Two tallies with the same energy hold bests of the same cost.
  same_costs : (l l' : Tally) → energy_at l' ≡ energy_at l → (o o' : Option (List ℕ)) → Bests R l o → Bests R l' o' → Costs R o o'
  unfolding Bests Costs
  same_costs l l' e none none b b' = tt
  same_costs l l' e none (some t) b b' = omega (arith, e, b, b'.1)
  same_costs l l' e (some s) none b b' = omega (arith, e, b.1, b')
  same_costs l l' e (some s) (some t) b b' = sym b'.0 ∙ e ∙ b.0

  module _ (stop : Bool) (budget : ℕ) where
    -- ---- n vertices more

    pub added_comes :
        (n : ℕ) (l l' : Tally) (x : Bool) → Added budget n l l' x → (v : Vertex) (st st' : Visited) → st' ≡ more n st → Tells R stop budget l v st
        → Came R stop budget l' v st' x
    added_comes n l l' false (fits h e) v st st' q t = rw (e, q) (done (tells_counted R stop budget n l v st t h))
    added_comes n l l' true (beyond h e) v st st' q t =
        rw e (over t.stops (omega (arith, h, t.count, ap (λ (u : Visited). u.count) q)) (tells_none R stop budget l v st t))

    pub added_kept : (n : ℕ) (l l' : Tally) (x : Bool) → Long l → Added budget n l l' x → Long l' × (energy_at l' ≤ energy_at l)
    added_kept n l l' false h (fits q e) = rw e (h, le_refl _)
    added_kept n l l' true h (beyond q e) = rw e (h, le_refl _)

    -- ---- what was seen

    pub seen_lends :
        (ex memory l : List ℕ) → Lends R ex memory → (a from time : ℕ) (asked : Asked) (tally tally' : Tally)
        → Asks R (cap_at ex) l a time (slack_by (energy_at tally) from) asked → from < energy_at tally → (m : ℕ) (u : Vertex) → Stands R l a from m u → u.time ≡ time
        → (st : Visited) → Tells R stop budget tally u st → Tells R stop budget tally' u (choices R (visit_by R stop m) u st) → energy_at tally' ≡ energy_at tally
        → (n : ℕ) → n ≡ count_at tally' - count_at tally → n < 4294967296 → (after : List ℕ) → after ≡ kept memory asked.slot asked.key n → Lends R ex after
    seen_lends ex memory l lends a from time asked tally tally' asks spare m u stands t st tells tells' same n n-is few after after_is =
        let both = choices_open R m u st stop tells.going tells'.going in
        let grown : st.count ≤ (choices R (visit_by R stop m) u st).count = choices_grow R stop m u st in
        let more_by : (choices R (visit R m) u st).count ≡ st.count + n = omega (arith, grown, tells.count, tells'.count, n-is, ap (λ (w : Visited). w.count) both) in
        let seen = choices_stay R m u st n more_by (same_costs tally tally' same st.best (choices R (visit R m) u st).best tells.best (subst (λ (w : Visited). Bests R tally' w.best) both tells'.best)) in
        let slack = slack_told tally from st.best tells.best spare in
        subst (Lends R ex) (sym after_is)
        (record {
          tabled = lends.tabled;
          right = seen_kept R ex l lends.tabled a time memory lends.right (slack_by (energy_at tally) from) asked.key asks.key m u stands.shows t st
              (subst (λ (f : ℕ). Slack R f st.best (slack_by (energy_at tally) from)) (sym stands.floor_is) slack) n few seen asked.slot;
        })

    -- What is remembered comes.
    pub asked_comes :
        (ex l : List ℕ) (a from time : ℕ) (asked : Asked) (tally : Tally) → Asks R (cap_at ex) l a time (slack_by (energy_at tally) from) asked → from < energy_at tally
        → (n : ℕ) → asked.count ≡ Some n → (m : ℕ) (u : Vertex) → Stands R l a from m u → u.time ≡ time → (st : Visited) → Tells R stop budget tally u st
        → choices R (visit_by R stop m) u st ≡ more n st
    asked_comes ex l a from time asked tally asks spare n is m u stands t st tells =
        let known = MatchOption-at_some _ _ n is asks.told m u stands.shows t st
        (subst (λ (f : ℕ). Slack R f st.best (slack_by (energy_at tally) from)) (sym stands.floor_is) (slack_told tally from st.best tells.best spare)) in
        choices_left R m u st stop tells.going (ap (λ (w : Visited). w.best) known) ∙ known
