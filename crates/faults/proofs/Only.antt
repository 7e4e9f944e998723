-- No second outcome satisfies what `fault_of` promises: for every file one number, one place and its bytes. And what is told agrees with `read_of`.
use mathlib.Core.Path.{◌≡◌, refl, sym, ◌∙◌}
use mathlib.Core.List.{List}
use Prim.Native.Nat.{ℕ}
use native.Mathlib.Omega.{arith}
use Rattle.schedule.specs.declared.Recorder.{Recorder}
use Rattle.tables.specs.declared.Kind.{Kind}
use Rattle.tables.specs.declared.Tables.{Tables}
use Rattle.tables.specs.Layout.{layout_of}
use Rattle.request.specs.Format.{Reading, read_as, read_of}
use Rattle.request.specs.Format as Format
use Rattle.faults.specs.Places.{Judged, no_fault, FirstFault, here, later, FaultAs, accepted, refused, FaultOf, TablesFault}

-- A list has one first place at fault.
first_one : {f g : Judged} (l : List Judged) → FirstFault f l → FirstFault g l → f ≡ g
first_one _ (here h) (here h') = refl
first_one _ (here h) (later z p') = absurd (h z)
first_one _ (later z p) (here h') = absurd (h' z)
first_one _ (later z p) (later z' p') = first_one _ p p'

-- What is read is not both.
not_both : (r : Reading) {n : ℕ} {R : Recorder} → r ≡ Format.accepted R → r ≡ Format.refused n → ⊥
not_both r e e' = let both = sym e ∙ e' in let z : ◌≡◌ {A = ℕ} 0 1 = cc in omega arith

pub only_fault_as : (k : Kind) (s : List ℕ) {f g : Judged} → FaultAs k s f → FaultAs k s g → f ≡ g
only_fault_as k s (accepted e) (accepted e') = refl
only_fault_as k s (accepted e) (refused e' p') = absurd (not_both (read_as k s) e e')
only_fault_as k s (refused e p) (accepted e') = absurd (not_both (read_as k s) e' e)
only_fault_as k s (refused e p) (refused e' p') = first_one _ p p'

pub only_fault : (file : List ℕ) {f g : Judged} → FaultOf file f → FaultOf file g → f ≡ g
only_fault file = only_fault_as _ _

pub only_tables_fault : (T : Tables) {f g : Judged} → TablesFault T f → TablesFault T g → f ≡ g
only_tables_fault T = only_fault_as T.kind (layout_of T)

-- The number is that of the check: 0 where the file is read as a recorder, and the refusal's where it is refused.
pub fault_accepted : (file : List ℕ) {f : Judged} {R : Recorder} → FaultOf file f → read_of file ≡ Format.accepted R → f ≡ no_fault
unfolding read_of
fault_accepted file (accepted e) r = refl
fault_accepted file (refused e p) r = absurd (not_both (read_of file) r e)

pub fault_refused : (file : List ℕ) {f : Judged} {n : ℕ} → FaultOf file f → read_of file ≡ Format.refused n → f.number ≡ n
unfolding read_of
fault_refused file (accepted e) r = absurd (not_both (read_of file) e r)
fault_refused file (refused e p) r = let both = sym e ∙ r in cc

-- And that of the writer.
pub tables_refused : (T : Tables) {f : Judged} {n : ℕ} → TablesFault T f → read_as T.kind (layout_of T) ≡ Format.refused n → f.number ≡ n
tables_refused T (accepted e) r = absurd (not_both (read_as T.kind (layout_of T)) e r)
tables_refused T (refused e p) r = let both = sym e ∙ r in cc
