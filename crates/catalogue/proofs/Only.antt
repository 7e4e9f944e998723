-- No second outcome satisfies `Built`, since none satisfies the writer's promise, nor `OrderFault`. What a function that works it out has to show. A part that is not wanted does
-- not change the outcome.
use mathlib.Core.Path.{◌≡◌, refl, sym, ap, subst, ◌∙◌}
use mathlib.Core.Bool.{Bool, true, false, true≢false}
use mathlib.Core.List.{List, ◌∷◌, ◌++◌, map}
use mathlib.Core.Logic.{◌⊎◌, ⊎_elim}
use Rattle.std.specs.Prelude.{Option, Some, None, Ok, Err, is_some}
use Rattle.base.specs.declared.reasons.Reason.{Reason}
use Rattle.base.specs.declared.reasons.Reason.TheVariants.{PartNumber, PartTwice, PartLacking}
use Rattle.catalogue.specs.declared.PartFault.{PartFault}
use Prim.Native.Nat.{ℕ, ◌<◌}
use native.Mathlib.Omega.{arith}
use lib.ListN.{length}
use borrow.Author.Tests.{ltb-true}
use Rattle.tables.specs.declared.Kind.TheVariants.{First}
use Rattle.tables.specs.declared.Table.{Table}
use Rattle.tables.specs.declared.DeviceRecord.{DeviceRecord}
use Rattle.planner.specs.declared.Answer.{Answer}
use Rattle.planner.specs.Promises.{refusal, Written}
use Rattle.planner.proofs.Only.{only_written}
use Rattle.base.specs.Bytes.{pieces}
use Rattle.catalogue.specs.Parts.{Part, parts_of, numbers, unfit, repeated, has, lacking, record_of}
use Rattle.catalogue.specs.Building.{Others, devices_of, tables_with, BuiltOf, Built}
use Rattle.catalogue.specs.Building as B
use Rattle.catalogue.specs.Faults.{PartTold, part_fault, fault_at, told, FirstOf, unfit_at, repeated_at, lacking_at, OrderFaultOf, OrderFault}
use Rattle.catalogue.specs.Faults as F
use Rattle.catalogue.proofs.Faults.{first_one, first_unfit, first_repeated, first_lacking, some_unfit, some_repeated, some_lacking}
use Rattle.catalogue.proofs.Lookup.{one_look_up, looked_up, up_looked, unfit_apart, repeated_apart, lacks_apart, lacks_beside, up_apart, up_beside}

clash : {b : Bool} → b ≡ true → b ≡ false → ⊥
clash e f = true≢false (sym e ∙ f)

module _ (ps : List Part) (ws : List (List ℕ)) (o : Others) (lent : List ℕ) where
  pub only_built_of : {a a' : Answer} {l l' : List ℕ} → BuiltOf ps ws o lent a l → BuiltOf ps ws o lent a' l' → (a ≡ a') × (l ≡ l')
  only_built_of (B.BuiltOf.bad u) (B.BuiltOf.bad u') = (refl, refl)
  only_built_of (B.BuiltOf.bad u) (B.BuiltOf.twice u' r') = absurd (clash u u')
  only_built_of (B.BuiltOf.bad u) (B.BuiltOf.missing u' r' k') = absurd (clash u u')
  only_built_of (B.BuiltOf.bad u) (B.BuiltOf.built u' r' k' w') = absurd (clash u u')
  only_built_of (B.BuiltOf.twice u r) (B.BuiltOf.bad u') = absurd (clash u' u)
  only_built_of (B.BuiltOf.twice u r) (B.BuiltOf.twice u' r') = (refl, refl)
  only_built_of (B.BuiltOf.twice u r) (B.BuiltOf.missing u' r' k') = absurd (clash r r')
  only_built_of (B.BuiltOf.twice u r) (B.BuiltOf.built u' r' k' w') = absurd (clash r r')
  only_built_of (B.BuiltOf.missing u r k) (B.BuiltOf.bad u') = absurd (clash u' u)
  only_built_of (B.BuiltOf.missing u r k) (B.BuiltOf.twice u' r') = absurd (clash r' r)
  only_built_of (B.BuiltOf.missing u r k) (B.BuiltOf.missing u' r' k') = (refl, refl)
  only_built_of (B.BuiltOf.missing u r k) (B.BuiltOf.built u' r' k' w') = absurd (clash k (up_looked ps k'))
  only_built_of (B.BuiltOf.built u r k w) (B.BuiltOf.bad u') = absurd (clash u' u)
  only_built_of (B.BuiltOf.built u r k w) (B.BuiltOf.twice u' r') = absurd (clash r' r)
  only_built_of (B.BuiltOf.built u r k w) (B.BuiltOf.missing u' r' k') = absurd (clash k' (up_looked ps k))
  only_built_of (B.BuiltOf.built {ds} {a} {after} u r k w) (B.BuiltOf.built {a = a'} {after = after'} u' r' k' w') =
      only_written (tables_with o ds) lent w (subst (λ (x : List (List ℕ)). Written (tables_with o x) lent a' after') (sym (one_look_up ps r k k')) w')

  -- What `order_fault` tells is what `build` refuses with; where it tells nothing all three have passed.
  pub fault_built : {f : PartTold} → OrderFaultOf ps ws f → (f.number ≡ 0 → ⊥) → BuiltOf ps ws o lent (refusal f.number) lent
  fault_built (F.OrderFaultOf.bad u k) n = B.BuiltOf.bad u
  fault_built (F.OrderFaultOf.twice u r k) n = B.BuiltOf.twice u r
  fault_built (F.OrderFaultOf.missing u r l k) n = B.BuiltOf.missing u r l
  fault_built (F.OrderFaultOf.none u r l) n = absurd (n refl)

  -- Where 21, 22 and 23 pass, the device table d is that of the first part that has each number.
  pub passed_built : (d : Table DeviceRecord 8) {a : Answer} {after : List ℕ} → unfit ps ≡ false → repeated (numbers ps) ≡ false → lacking ps ws ≡ false
      → d ≡ devices_of (map (record_of ps) ws) → Written (record { kind = First; horizon = o.horizon; devices = d; tasks = o.tasks; jobs = o.jobs }) lent a after
      → BuiltOf ps ws o lent a after
  passed_built d {a} {after} u r k e w =
      B.BuiltOf.built u r (looked_up ps ws k)
      (subst (λ (x : Table DeviceRecord 8). Written (record { kind = First; horizon = o.horizon; devices = x; tasks = o.tasks; jobs = o.jobs }) lent a after) e w)

module _ (ps : List Part) (ws : List (List ℕ)) where
  pub fault_passed : {f : PartTold} → OrderFaultOf ps ws f → f.number ≡ 0 → (unfit ps ≡ false) × (repeated (numbers ps) ≡ false) × (lacking ps ws ≡ false)
  fault_passed (F.OrderFaultOf.bad u k) z = absurd (omega (arith, z))
  fault_passed (F.OrderFaultOf.twice u r k) z = absurd (omega (arith, z))
  fault_passed (F.OrderFaultOf.missing u r l k) z = absurd (omega (arith, z))
  fault_passed (F.OrderFaultOf.none u r l) z = (u, r, l)

  -- The part at fault is one of the catalogue's, and the number that is lacking one of those that are wanted.
  pub fault_part : {f : PartTold} → OrderFaultOf ps ws f → f.number ≡ 21 ⊎ f.number ≡ 22 → f.part < length ps
  fault_part (F.OrderFaultOf.bad u k) e = ltb-true _ _ (sym (first_unfit ps k) ∙ u)
  fault_part (F.OrderFaultOf.twice u r k) e = ltb-true _ _ (sym (first_repeated ps k) ∙ r)
  fault_part (F.OrderFaultOf.missing u r l k) e = absurd (⊎_elim (λ (z : 23 ≡ 21). omega (arith, z)) (λ (z : 23 ≡ 22). omega (arith, z)) e)
  fault_part (F.OrderFaultOf.none u r l) e = absurd (⊎_elim (λ (z : 0 ≡ 21). omega (arith, z)) (λ (z : 0 ≡ 22). omega (arith, z)) e)

  pub fault_wanted : {f : PartTold} → OrderFaultOf ps ws f → f.number ≡ 23 → f.part < length ws
  fault_wanted (F.OrderFaultOf.bad u k) z = absurd (omega (arith, z))
  fault_wanted (F.OrderFaultOf.twice u r k) z = absurd (omega (arith, z))
  fault_wanted (F.OrderFaultOf.missing u r l k) z = ltb-true _ _ (sym (first_lacking ps ws k) ∙ l)
  fault_wanted (F.OrderFaultOf.none u r l) z = absurd (omega (arith, z))

  -- There is one outcome.
  pub only_order_fault_of : {f g : PartTold} → OrderFaultOf ps ws f → OrderFaultOf ps ws g → f ≡ g
  only_order_fault_of (F.OrderFaultOf.bad u k) (F.OrderFaultOf.bad u' k') = ap (part_fault 21) (first_one k k')
  only_order_fault_of (F.OrderFaultOf.bad u k) (F.OrderFaultOf.twice u' r' k') = absurd (clash u u')
  only_order_fault_of (F.OrderFaultOf.bad u k) (F.OrderFaultOf.missing u' r' l' k') = absurd (clash u u')
  only_order_fault_of (F.OrderFaultOf.bad u k) (F.OrderFaultOf.none u' r' l') = absurd (clash u u')
  only_order_fault_of (F.OrderFaultOf.twice u r k) (F.OrderFaultOf.bad u' k') = absurd (clash u' u)
  only_order_fault_of (F.OrderFaultOf.twice u r k) (F.OrderFaultOf.twice u' r' k') = ap (part_fault 22) (first_one k k')
  only_order_fault_of (F.OrderFaultOf.twice u r k) (F.OrderFaultOf.missing u' r' l' k') = absurd (clash r r')
  only_order_fault_of (F.OrderFaultOf.twice u r k) (F.OrderFaultOf.none u' r' l') = absurd (clash r r')
  only_order_fault_of (F.OrderFaultOf.missing u r l k) (F.OrderFaultOf.bad u' k') = absurd (clash u' u)
  only_order_fault_of (F.OrderFaultOf.missing u r l k) (F.OrderFaultOf.twice u' r' k') = absurd (clash r' r)
  only_order_fault_of (F.OrderFaultOf.missing u r l k) (F.OrderFaultOf.missing u' r' l' k') = ap (part_fault 23) (first_one k k')
  only_order_fault_of (F.OrderFaultOf.missing u r l k) (F.OrderFaultOf.none u' r' l') = absurd (clash l l')
  only_order_fault_of (F.OrderFaultOf.none u r l) (F.OrderFaultOf.bad u' k') = absurd (clash u' u)
  only_order_fault_of (F.OrderFaultOf.none u r l) (F.OrderFaultOf.twice u' r' k') = absurd (clash r' r)
  only_order_fault_of (F.OrderFaultOf.none u r l) (F.OrderFaultOf.missing u' r' l' k') = absurd (clash l' l)
  only_order_fault_of (F.OrderFaultOf.none u r l) (F.OrderFaultOf.none u' r' l') = refl

-- What a place that is found tells, and what none says.
pub passed : (e : Reason) (o : Option ℕ) (u : Unit {0}) → Ok u ≡ fault_at e o → is_some o ≡ false
passed e None u q = refl
passed e (Some k) u q = cc

module _ (ps : List Part) (ws : List (List ℕ)) where
  pub told_bad : (o : Option ℕ) (f : PartFault) → FirstOf (length ps) (unfit_at ps) o → Err f ≡ fault_at PartNumber o → OrderFaultOf ps ws (told (Err f))
  told_bad None f h q = cc
  told_bad (Some k) f h q = subst (λ r. OrderFaultOf ps ws (told r)) (sym q) (F.OrderFaultOf.bad (sym (some_unfit ps (Some k) h)) h.1)

  pub told_twice : (o : Option ℕ) (f : PartFault) → unfit ps ≡ false → FirstOf (length ps) (repeated_at ps) o → Err f ≡ fault_at PartTwice o
      → OrderFaultOf ps ws (told (Err f))
  told_twice None f u h q = cc
  told_twice (Some k) f u h q = subst (λ r. OrderFaultOf ps ws (told r)) (sym q) (F.OrderFaultOf.twice u (sym (some_repeated ps (Some k) h)) h.1)

  pub told_last : (o : Option ℕ) → unfit ps ≡ false → repeated (numbers ps) ≡ false → FirstOf (length ws) (lacking_at ps ws) o
      → OrderFaultOf ps ws (told (fault_at PartLacking o))
  told_last None u r h = F.OrderFaultOf.none u r (sym (some_lacking ps ws None h))
  told_last (Some k) u r h = F.OrderFaultOf.missing u r (sym (some_lacking ps ws (Some k) h)) h.1

pub only_order_fault : (catalogue wanted : List ℕ) {f g : PartTold} → OrderFault catalogue wanted f → OrderFault catalogue wanted g → f ≡ g
only_order_fault catalogue wanted = only_order_fault_of (parts_of catalogue) (pieces 8 wanted)

-- Where a number is told, `build` answers with it, whatever else it is given; where none is, 21, 22 and 23 have passed (`fault_passed`).
pub order_refused : (catalogue wanted : List ℕ) (o : Others) (lent : List ℕ) {f : PartTold} {a : Answer} {l : List ℕ}
    → OrderFault catalogue wanted f → (f.number ≡ 0 → ⊥) → Built catalogue wanted o lent a l → (a ≡ refusal f.number) × (l ≡ lent)
order_refused catalogue wanted o lent p n b =
    let q = fault_built (parts_of catalogue) (pieces 8 wanted) o lent p n in
    only_built_of (parts_of catalogue) (pieces 8 wanted) o lent b q

pub only_built : (catalogue wanted : List ℕ) (o : Others) (lent : List ℕ) {a a' : Answer} {l l' : List ℕ}
    → Built catalogue wanted o lent a l → Built catalogue wanted o lent a' l' → (a ≡ a') × (l ≡ l')
only_built catalogue wanted o lent = only_built_of (parts_of catalogue) (pieces 8 wanted) o lent

module _ (ps qs : List Part) (p : Part) (ws : List (List ℕ)) (o : Others) (lent : List ℕ) where
  -- A part that is not wanted changes nothing by being left out, if 21 and 22 pass with it.
  pub not_wanted : {a : Answer} {after : List ℕ} → unfit (ps ++ p ∷ qs) ≡ false → repeated (numbers (ps ++ p ∷ qs)) ≡ false → has ws p.number ≡ false
      → BuiltOf (ps ++ p ∷ qs) ws o lent a after → BuiltOf (ps ++ qs) ws o lent a after
  not_wanted u r n (B.BuiltOf.bad u') = absurd (clash u' u)
  not_wanted u r n (B.BuiltOf.twice u' r') = absurd (clash r' r)
  not_wanted u r n (B.BuiltOf.missing u' r' k') =
      B.BuiltOf.missing (unfit_apart p qs ps u) (repeated_apart p qs ps r) (lacks_apart p qs ps ws k')
  not_wanted u r n (B.BuiltOf.built u' r' k' w') =
      B.BuiltOf.built (unfit_apart p qs ps u) (repeated_apart p qs ps r) (up_apart p qs ps n k') w'

  -- Nor by being put in.
  pub not_wanted_back : {a : Answer} {after : List ℕ} → unfit (ps ++ p ∷ qs) ≡ false → repeated (numbers (ps ++ p ∷ qs)) ≡ false → has ws p.number ≡ false
      → BuiltOf (ps ++ qs) ws o lent a after → BuiltOf (ps ++ p ∷ qs) ws o lent a after
  not_wanted_back u r n (B.BuiltOf.bad u') = absurd (clash u' (unfit_apart p qs ps u))
  not_wanted_back u r n (B.BuiltOf.twice u' r') = absurd (clash r' (repeated_apart p qs ps r))
  not_wanted_back u r n (B.BuiltOf.missing u' r' k') = B.BuiltOf.missing u r (lacks_beside p qs ps ws n k')
  not_wanted_back u r n (B.BuiltOf.built u' r' k' w') = B.BuiltOf.built u r (up_beside p qs ps k') w'
