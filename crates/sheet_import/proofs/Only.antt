-- No second outcome satisfies what `devices_fault` and `jobs_fault` promise: for every text one number and one line. The number is the one that the import
-- refuses with. And what the walks over the lines have to show.
use mathlib.Core.Path.{◌≡◌, refl, sym, ap, subst, ◌∙◌}
use mathlib.Core.Bool.{false, true≢false}
use mathlib.Core.List.{List, []}
use Rattle.std.specs.Prelude.{Option, Some, None, Result, Ok, Err, OnOk}
use Rattle.base.proofs.Numbered.{some_number}
use Rattle.base.specs.declared.reasons.Reason.TheVariants.{PartNumber, PartTwice}
use Rattle.sheet_import.specs.declared.LineFault.{LineFault}
use Prim.Native.Nat.{ℕ, ◌<◌, ◌≤◌}
use native.Mathlib.Omega.{arith}
use lib.ListN.{length, length-map, get_or}
use borrow.Author.Tests.{lt-ltb, le-ltb, ne_eqb}
use Rattle.base.specs.Refusals.{or_else}
use Rattle.catalogue.specs.Parts.{Part, unfit}
use Rattle.catalogue.specs.Faults.{First, FirstOf, PartTold, unfit_at, repeated_at, OrderFaultOf}
use Rattle.catalogue.specs.Faults as F
use Rattle.catalogue.proofs.Faults.{first_one, first_unfit, first_repeated, some_unfit}
use Rattle.catalogue.proofs.Only.{only_order_fault_of}
use Rattle.text.specs.Grammar.{lines_of}
use Rattle.sheet.specs.declared.SheetKind.{SheetKind}
use Rattle.sheet.specs.declared.SheetKind.TheVariants.{Devices, Jobs}
use Rattle.sheet.specs.Sheets.{line_fault, lines_fault, parts_in, jobs_in, parts_fault, devices_refused, jobs_refused}
use Rattle.sheet_import.specs.LineFaults.{LineTold, told, line_fault_at, SheetFault, line, table, DevicesTable, parts, DevicesFault, JobsTable, many, few, JobsFault}
use Rattle.sheet_import.specs.inside.Reading.{devices_raw}
use Rattle.sheet_import.specs.inside.Judging.{DevicesJudged, fault_at, first_line}
use Rattle.sheet_import.specs.inside.Judging as J
use Rattle.sheet_import.proofs.Places.{first_fault, walk_number, walk_told}
use Rattle.sheet_import.proofs.Raw.{parts_unfit_at, parts_same}
use Rattle.sheet_import.proofs.Raw as Raw

-- ---- one outcome

only_sheet_fault : (r : SheetKind) (text : List ℕ) (Table : LineTold → Type 0) → ((f g : LineTold) → Table f → Table g → f ≡ g)
    → {f g : LineTold} → SheetFault r text Table f → SheetFault r text Table g → f ≡ g
only_sheet_fault r text Table one (line {k = k} p h) (line {k = k'} p' h') = ap (λ (i : ℕ). line_fault_at (line_fault r (get_or (lines_of text) i [])) i) (first_one p p')
only_sheet_fault r text Table one (line {k = k} p h) (table e t) = let q = first_fault r (lines_of text) k p h in absurd (q.1 (sym q.0 ∙ e))
only_sheet_fault r text Table one (table e t) (line {k = k} p h) = let q = first_fault r (lines_of text) k p h in absurd (q.1 (sym q.0 ∙ e))
only_sheet_fault r text Table one (table e t) (table e' t') = one _ _ t t'

module _ (text : List ℕ) where
  only_devices_table : (f g : LineTold) → DevicesTable text f → DevicesTable text g → f ≡ g
  only_devices_table f g (parts p) (parts p') = ap (λ (x : PartTold). line_fault_at x.number x.part) (only_order_fault_of (parts_in text) [] p p')

  pub only_devices_fault : {f g : LineTold} → DevicesFault text f → DevicesFault text g → f ≡ g
  only_devices_fault = only_sheet_fault Devices text (DevicesTable text) only_devices_table

  only_jobs_table : (f g : LineTold) → JobsTable text f → JobsTable text g → f ≡ g
  only_jobs_table f g (many h) (many h') = refl
  only_jobs_table f g (many h) (few h') = absurd (omega arith)
  only_jobs_table f g (few h) (many h') = absurd (omega arith)
  only_jobs_table f g (few h) (few h') = refl

  pub only_jobs_fault : {f g : LineTold} → JobsFault text f → JobsFault text g → f ≡ g
  only_jobs_fault = only_sheet_fault Jobs text (JobsTable text) only_jobs_table

-- ---- the import's number

-- By a line, or by what the table is refused for.
sheet_number : (r : SheetKind) (text : List ℕ) (Table : LineTold → Type 0) (refuses : ℕ) → ((f : LineTold) → Table f → f.number ≡ refuses)
    → {f : LineTold} → SheetFault r text Table f → f.number ≡ or_else (lines_fault r (lines_of text)) refuses
sheet_number r text Table refuses by (line {k = k} p h) =
    let q = first_fault r (lines_of text) k p h in
    rw (q.0, ne_eqb (line_fault r (get_or (lines_of text) k [])) 0 q.1)
sheet_number r text Table refuses by (table e t) = rw e (by _ t)

parts_number : (ps : List Part) {f : PartTold} → OrderFaultOf ps [] f → f.number ≡ parts_fault ps
parts_number ps (F.OrderFaultOf.bad u k) = rw u
parts_number ps (F.OrderFaultOf.twice u r k) = rw (u, r)
parts_number ps (F.OrderFaultOf.missing u r l k) = absurd (true≢false (sym l))
parts_number ps (F.OrderFaultOf.none u r l) = rw (u, r)

module _ (text : List ℕ) where
  table_number : (f : LineTold) → DevicesTable text f → f.number ≡ parts_fault (parts_in text)
  table_number f (parts p) = parts_number (parts_in text) p

  pub devices_number : {f : LineTold} → DevicesFault text f → f.number ≡ devices_refused text
  devices_number = sheet_number Devices text (DevicesTable text) (parts_fault (parts_in text)) table_number

  many_number : (f : LineTold) → JobsTable text f → f.number ≡ Raw.few (jobs_in text)
  many_number f (many h) = rw (lt-ltb 16 (length (jobs_in text)) h)
  many_number f (few h) = rw (le-ltb 16 (length (jobs_in text)) h)

  pub jobs_number : {f : LineTold} → JobsFault text f → f.number ≡ jobs_refused text
  jobs_number = sheet_number Jobs text (JobsTable text) (Raw.few (jobs_in text)) many_number

  -- Where nothing is told no line is at fault, and there are no more than sixteen.
  pub jobs_clear : {f : LineTold} → JobsFault text f → f.number ≡ 0 → (lines_fault Jobs (lines_of text) ≡ 0) × (length (lines_of text) ≤ 16)
  jobs_clear (line {k = k} p h) z = absurd ((first_fault Jobs (lines_of text) k p h).1 z)
  jobs_clear (table e (many h)) z = absurd (omega (arith, z))
  jobs_clear (table e (few h)) z = let n : length (jobs_in text) ≡ length (lines_of text) = length-map (lines_of text) _ in (e, omega (arith, n))

-- ---- what the walks have to show

module _ (text : List ℕ) where
  rows : length (parts_in text) ≡ length (lines_of text)
  rows = length-map (lines_of text) _

  pub judged_passed : {f : LineTold} → DevicesJudged text f → f.number ≡ 0 → (lines_fault Devices (lines_of text) ≡ 0) × (unfit (devices_raw (lines_of text)) ≡ false)
  judged_passed (J.DevicesJudged.line n) z = absurd (n (sym (walk_number Devices 0 (lines_of text)) ∙ z))
  judged_passed (J.DevicesJudged.bad e k h) z = absurd (omega (arith, z))
  judged_passed (J.DevicesJudged.fine e u) z = (e, u)

  pub judged_refused : {f : LineTold} → DevicesJudged text f → (f.number ≡ 0 → ⊥) → DevicesFault text f
  judged_refused (J.DevicesJudged.line n) z = walk_told Devices text (DevicesTable text) n
  judged_refused (J.DevicesJudged.bad {k = k} e p h) z =
      let q : First (length (parts_in text)) (unfit_at (parts_in text)) k = record {
        within = omega (arith, rows, p.within);
        before = λ i l. parts_unfit_at text e i ∙ p.before i l;
        here = λ l. parts_unfit_at text e k ∙ p.here h;
      } in
      table e (parts (F.OrderFaultOf.bad (first_unfit (parts_in text) q ∙ lt-ltb k (length (parts_in text)) (omega (arith, rows))) q))
  judged_refused (J.DevicesJudged.fine e u) z = absurd (z refl)

  -- The parts of the rows' bytes, once 21 has passed, and the first of them whose number comes again.
  module _ (e : lines_fault Devices (lines_of text) ≡ 0) (u : unfit (devices_raw (lines_of text)) ≡ false) (ps : List Part) (same : ps ≡ devices_raw (lines_of text))
      (k : ℕ) (p : First (length ps) (repeated_at ps) k) where
    given : parts_in text ≡ ps
    given = parts_same text e u ∙ sym same

    fit : unfit (parts_in text) ≡ false
    fit = ap unfit (parts_same text e u) ∙ u

    first : First (length (parts_in text)) (repeated_at (parts_in text)) k
    first = subst (λ (qs : List Part). First (length qs) (repeated_at qs) k) (sym given) p

    pub again_told : k < length (lines_of text) → DevicesFault text (line_fault_at 22 k)
    again_told h = table e (parts (F.OrderFaultOf.twice fit (first_repeated (parts_in text) first ∙ lt-ltb k (length (parts_in text)) (omega (arith, rows))) first))

    pub none_told : length (lines_of text) ≤ k → DevicesFault text (line_fault_at 0 0)
    none_told h = table e (parts (F.OrderFaultOf.none fit (first_repeated (parts_in text) first ∙ le-ltb k (length (parts_in text)) (omega (arith, rows))) refl))

-- ---- what the code has to show: an error is told, or nothing is

-- By the walk over the lines.
module _ (r : SheetKind) (text : List ℕ) where
  pub walked_err : (f : LineFault) → told (Err f) ≡ first_line r 0 (lines_of text) → (lines_fault r (lines_of text) ≡ 0 → ⊥)
  walked_err f e z = omega (arith, some_number f.reason, ap (λ (x : LineTold). x.number) e ∙ walk_number r 0 (lines_of text) ∙ z)

  pub walked_ok : line_fault_at 0 0 ≡ first_line r 0 (lines_of text) → lines_fault r (lines_of text) ≡ 0
  walked_ok e = sym (walk_number r 0 (lines_of text)) ∙ sym (ap (λ (x : LineTold). x.number) e)

  pub walked_told : (Table : LineTold → Type 0) (f : LineFault) → told (Err f) ≡ first_line r 0 (lines_of text) → SheetFault r text Table (told (Err f))
  walked_told Table f e = subst (SheetFault r text Table) (sym e) (walk_told r text Table (walked_err f e))

module _ (text : List ℕ) where
  pub judged_line : (f : LineFault) → told (Err f) ≡ first_line Devices 0 (lines_of text) → DevicesJudged text (told (Err f))
  judged_line f e = subst (DevicesJudged text) (sym e) (J.DevicesJudged.line (walked_err Devices text f e))

  pub judged_unfit : lines_fault Devices (lines_of text) ≡ 0 → (n : ℕ) → n ≡ length (lines_of text) → (o : Option ℕ)
      → FirstOf n (unfit_at (devices_raw (lines_of text))) o → DevicesJudged text (told (fault_at PartNumber o))
  judged_unfit e n q o p = go o (subst (λ (m : ℕ). FirstOf m (unfit_at (devices_raw (lines_of text))) o) (q ∙ sym (length-map (lines_of text) _)) p)
    where
      go : (o : Option ℕ) → FirstOf (length (devices_raw (lines_of text))) (unfit_at (devices_raw (lines_of text))) o → DevicesJudged text (told (fault_at PartNumber o))
      go None p = J.DevicesJudged.fine e (sym (some_unfit (devices_raw (lines_of text)) None p))
      go (Some k) p =
          let m : length (devices_raw (lines_of text)) ≡ length (lines_of text) = length-map (lines_of text) _ in
          J.DevicesJudged.bad e (subst (λ (m : ℕ). First m (unfit_at (devices_raw (lines_of text))) k) m p.1) (omega (arith, m, p.0))

  pub judged_told : (f : LineFault) → DevicesJudged text (told (Err f)) → DevicesFault text (told (Err f))
  judged_told f j = judged_refused text j (λ z. omega (arith, some_number f.reason, z))

  pub told_again : lines_fault Devices (lines_of text) ≡ 0 → unfit (devices_raw (lines_of text)) ≡ false → (ps : List Part) → ps ≡ devices_raw (lines_of text)
      → (o : Option ℕ) → FirstOf (length ps) (repeated_at ps) o → DevicesFault text (told (fault_at PartTwice o))
  told_again e u ps same None p =
      let m : length ps ≡ length (lines_of text) = ap length same ∙ length-map (lines_of text) _ in
      none_told text e u ps same (length ps) p (omega arith)
  told_again e u ps same (Some k) p =
      let m : length ps ≡ length (lines_of text) = ap length same ∙ length-map (lines_of text) _ in
      again_told text e u ps same k p.1 (omega (arith, p.0))

pub always : {P : Type 0} (r : Result (Unit {0}) LineFault) → P → OnOk r P
always (Ok u) p = p
always (Err f) p = tt
