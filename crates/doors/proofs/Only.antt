-- No second outcome satisfies what a door promises: for every input one number, and one state of every lent byte.
use mathlib.Core.Path.{◌≡◌, refl, subst}
use mathlib.Core.List.{List}
use Prim.Native.Nat.{ℕ, ◌*◌}
use lib.IntN.{pos}
use lib.ListN.{get_or}
use Rattle.schedule.specs.Quantities.{jobs}
use Rattle.planner.specs.declared.Answer.{Answer}
use Rattle.planner.specs.Answers.{Listing}
use Rattle.planner.specs.Promises.{OfFile, Judged, MarginsOf, Written}
use Rattle.planner.proofs.Refusing.{one_unless, one_gives}
use Rattle.planner.proofs.Only.{only_judged, only_margined, only_written, only_listed}
use Rattle.catalogue.specs.Building.{Built}
use Rattle.catalogue.proofs.Only.{only_built}
use Rattle.possible.specs.Promises.{PossibleOf}
use Rattle.possible.proofs.Only.{only_possible}
use Rattle.mend.specs.Promises.{Lent, lending, MendOf}
use Rattle.mend.proofs.Only.{only_mended}
use Rattle.stepper.specs.Promises.{StepsOf}
use Rattle.stepper.proofs.Only.{only_stepped_through}
use Rattle.sheet.specs.Promises.{ImportedDevices, ImportedJobs, ExportedDevices, ExportedJobs, ExportedPlan}
use Rattle.sheet.proofs.Only.{only_imported_devices, only_imported_jobs, only_exported_devices, only_exported_jobs, only_exported_plan}
use Rattle.calls.specs.Calls.{blank, twos}
use Rattle.table_bytes.specs.TableBytes.{tables_from}
use Rattle.doorway.specs.Doors.{starts_of, fours}
use Rattle.doorway.proofs.Opening.{only_door, only_spelled}
use Rattle.doors.specs.Promises.{complement, empty_margins, VerdictDoor, MarginsSpelled, MarginsDoor, PossibleSpelled, PossibleDoor, MendSpelled, MendDoor, WriteDoor, others_from, BuildDoor, ToldOf, TablesTold, told, TablesDoor, empty_energies, StepsSpelled, StepDoor, ImportDevicesDoor, ImportJobsDoor, ExportDevicesDoor, ExportJobsDoor, ExportPlanDoor}

pub only_verdict_door : (file starts result : List ℕ) {n n' : ℕ} {r r' : List ℕ}
    → VerdictDoor file starts result n r → VerdictDoor file starts result n' r' → (n ≡ n') × (r ≡ r')
only_verdict_door file starts result p p' =
    let e = only_door {L = Unit {0}} result tt (λ a u. Judged file (starts_of starts) a) (λ a a' u u' t t'. (only_judged file (starts_of starts) t t', refl)) p p' in
    (e.0, e.1)

module _ {n n' : ℕ} {l l' r r' : List ℕ} where
  pub only_margins_door : (file starts lent result : List ℕ)
      → MarginsDoor file starts lent result n l r → MarginsDoor file starts lent result n' l' r' → (n ≡ n') × (r ≡ r') × (l ≡ l')
  only_margins_door file starts lent result =
      only_door result lent (OfFile file lent (MarginsSpelled (starts_of starts) lent))
      (only_spelled file (empty_margins lent) lent (MarginsOf (starts_of starts) (empty_margins lent)) (λ R a m. fours (λ j. complement (get_or m j (pos 0))) (jobs R) lent)
      (λ a a' m m'. only_margined file (starts_of starts) (empty_margins lent)))

  pub only_possible_door : (file : List ℕ) (budget : ℕ) (lent result : List ℕ)
      → PossibleDoor file budget lent result n l r → PossibleDoor file budget lent result n' l' r' → (n ≡ n') × (r ≡ r') × (l ≡ l')
  only_possible_door file budget lent result =
      only_door result lent (OfFile file lent (PossibleSpelled budget lent))
      (only_spelled file (blank lent) lent (PossibleOf budget (blank lent)) (λ R a s. twos s (jobs R) lent) (λ a a' m m'. only_possible file budget (blank lent)))

pub only_mend_door : (file starts : List ℕ) (lent : Lent) (result : List ℕ) {n n' : ℕ} {l l' : Lent} {r r' : List ℕ}
    → MendDoor file starts lent result n l r → MendDoor file starts lent result n' l' r' → (n ≡ n') × (r ≡ r') × (l ≡ l')
only_mend_door file starts lent result =
    let own = lending (blank lent.starts) (blank lent.moved) in
    only_door result lent (OfFile file lent (MendSpelled (starts_of starts) lent))
    (only_spelled file own lent (MendOf (starts_of starts) own)
    (λ R a l. lending (twos l.starts (jobs R) lent.starts) (twos l.moved (3 * a.count) lent.moved))
    (λ a a' m m'. only_mended file (starts_of starts) own))

-- What is told of a file's tables goes by its one listing.
one_told : (file lent : List ℕ) {a a' : Answer} {l l' : List ℕ} → TablesTold file lent a l → TablesTold file lent a' l' → (a ≡ a') × (l ≡ l')
one_told file lent (told {a = a} {after = l} p t) (told {a = a'} {after = l'} p' t') =
    one_unless (one_unless one_gives) a a' l l' t (subst (λ (r : Listing). ToldOf r lent a' l') (only_listed file p' p) t')

module _ {n n' : ℕ} {l l' r r' : List ℕ} where
  pub only_write_door : (tables lent result : List ℕ) → WriteDoor tables lent result n l r → WriteDoor tables lent result n' l' r' → (n ≡ n') × (r ≡ r') × (l ≡ l')
  only_write_door tables lent result = only_door result lent (Written (tables_from tables) lent) (λ a a' m m'. only_written (tables_from tables) lent)

  pub only_build_door : (catalogue wanted tables lent result : List ℕ)
      → BuildDoor catalogue wanted tables lent result n l r → BuildDoor catalogue wanted tables lent result n' l' r' → (n ≡ n') × (r ≡ r') × (l ≡ l')
  only_build_door catalogue wanted tables lent result =
      only_door result lent (Built catalogue wanted (others_from tables) lent) (λ a a' m m'. only_built catalogue wanted (others_from tables) lent)

  pub only_tables_door : (file lent result : List ℕ) → TablesDoor file lent result n l r → TablesDoor file lent result n' l' r' → (n ≡ n') × (r ≡ r') × (l ≡ l')
  only_tables_door file lent result = only_door result lent (TablesTold file lent) (λ a a' m m'. one_told file lent)

  pub only_step_door : (file starts lent result : List ℕ)
      → StepDoor file starts lent result n l r → StepDoor file starts lent result n' l' r' → (n ≡ n') × (r ≡ r') × (l ≡ l')
  only_step_door file starts lent result =
      only_door result lent (OfFile file lent (StepsSpelled file (starts_of starts) lent))
      (only_spelled file (empty_energies lent) lent (StepsOf file (starts_of starts) (empty_energies lent)) (λ R a e. fours (λ k. get_or e k 0) R.devices.count lent)
      (λ a a' m m'. only_stepped_through file (starts_of starts) (empty_energies lent)))

  pub only_import_devices_door : (text lent result : List ℕ) → ImportDevicesDoor text lent result n l r → ImportDevicesDoor text lent result n' l' r' → (n ≡ n') × (r ≡ r') × (l ≡ l')
  only_import_devices_door text lent result = only_door result lent (ImportedDevices text lent) (λ a a' m m'. only_imported_devices text lent)

  pub only_import_jobs_door : (text lent result : List ℕ) → ImportJobsDoor text lent result n l r → ImportJobsDoor text lent result n' l' r' → (n ≡ n') × (r ≡ r') × (l ≡ l')
  only_import_jobs_door text lent result = only_door result lent (ImportedJobs text lent) (λ a a' m m'. only_imported_jobs text lent)

  pub only_export_devices_door : (catalogue lent result : List ℕ) → ExportDevicesDoor catalogue lent result n l r → ExportDevicesDoor catalogue lent result n' l' r' → (n ≡ n') × (r ≡ r') × (l ≡ l')
  only_export_devices_door catalogue lent result = only_door result lent (ExportedDevices catalogue lent) (λ a a' m m'. only_exported_devices catalogue lent)

  pub only_export_jobs_door : (records lent result : List ℕ) → ExportJobsDoor records lent result n l r → ExportJobsDoor records lent result n' l' r' → (n ≡ n') × (r ≡ r') × (l ≡ l')
  only_export_jobs_door records lent result = only_door result lent (ExportedJobs records lent) (λ a a' m m'. only_exported_jobs records lent)

  pub only_export_plan_door : (file starts lent result : List ℕ) → ExportPlanDoor file starts lent result n l r → ExportPlanDoor file starts lent result n' l' r' → (n ≡ n') × (r ≡ r') × (l ≡ l')
  only_export_plan_door file starts lent result = only_door result lent (ExportedPlan file (starts_of starts) lent) (λ a a' m m'. only_exported_plan file (starts_of starts) lent)
