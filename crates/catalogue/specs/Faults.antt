-- The place of a refusal of an order (rule 128): the first part, or the first wanted number, at which the test fails that the catalogue, or the wanted list, is
-- refused for. proofs/Only: there is one outcome for every order, and its number is the one that `Built` refuses with.
use Rattle.std.specs.Prelude.{◌≡◌, Bool, true, false, not, ◌||◌, Option, Some, None, Result, Ok, Err, List, [], ℕ, ◌≤◌, ◌<◌, length, take, get_or, leb}
use Rattle.base.specs.Bytes.{pieces}
use Rattle.base.specs.Reasons.{number_of}
use Rattle.base.specs.declared.reasons.Reason.{Reason}
use Rattle.catalogue.specs.declared.PartFault.{PartFault}
use Rattle.catalogue.specs.Parts.{Part, parts_of, numbers, well_formed, whole, has, unfit, repeated, lacking}

-- ---- one place

-- k is the first place below n at which a test holds; n where there is none.
pub record First (n : ℕ) (test : ℕ → Bool) (k : ℕ) : Type 0 where
  pub within : k ≤ n
  pub before : (i : ℕ) → i < k → test i ≡ false
  pub here : k < n → test k ≡ true

-- The same as an option.
abbrev pub FirstOf : ℕ → (ℕ → Bool) → Option ℕ → Type 0
FirstOf n test None = First n test n
FirstOf n test (Some k) = (k < n) × First n test k

abbrev pub no_part : Part
no_part = record { number = []; device = [] }

-- 21: 64 parts stand before this one, or its number is badly formed, or it is cut short.
abbrev pub unfit_at : List Part → ℕ → Bool
unfit_at ps k = leb 64 k || (not (well_formed (get_or (numbers ps) k [])) || not (whole (get_or ps k no_part)))

-- 22: a part before this one has its number.
abbrev pub repeated_at : List Part → ℕ → Bool
repeated_at ps k = has (take k (numbers ps)) (get_or (numbers ps) k [])

-- 23: no part has this wanted number.
abbrev pub lacking_at : List Part → List (List ℕ) → ℕ → Bool
lacking_at ps ws k = not (has (numbers ps) (get_or ws k []))

-- ---- `order_fault`

-- What is told: the number of what refuses an order, 0 for none, and a place.
pub record PartTold : Type 0 where
  pub number : ℕ
  pub part : ℕ

abbrev pub part_fault : ℕ → ℕ → PartTold
part_fault n k = record { number = n; part = k }

-- The same as the code has it.
abbrev pub fault_at : Reason → Option ℕ → Result (Unit {0}) PartFault
fault_at e None = Ok _
fault_at e (Some k) = Err (record { reason = e; part = k })

abbrev pub told : Result (Unit {0}) PartFault → PartTold
told (Ok u) = part_fault 0 0
told (Err f) = part_fault (number_of f.reason) f.part

-- Over parts and wanted numbers, in the order of `Built`: of 21 and 22 the place of the part, of 23 that of the wanted number; 0 and 0 where none is.
pub data OrderFaultOf (ps : List Part) (ws : List (List ℕ)) : PartTold → Type 0 where
  bad : {k : ℕ} → unfit ps ≡ true → First (length ps) (unfit_at ps) k → OrderFaultOf ps ws (part_fault 21 k)
  twice : {k : ℕ} → unfit ps ≡ false → repeated (numbers ps) ≡ true → First (length ps) (repeated_at ps) k → OrderFaultOf ps ws (part_fault 22 k)
  missing : {k : ℕ} → unfit ps ≡ false → repeated (numbers ps) ≡ false → lacking ps ws ≡ true → First (length ws) (lacking_at ps ws) k
      → OrderFaultOf ps ws (part_fault 23 k)
  none : unfit ps ≡ false → repeated (numbers ps) ≡ false → lacking ps ws ≡ false → OrderFaultOf ps ws (part_fault 0 0)

abbrev pub OrderFault : List ℕ → List ℕ → PartTold → Type 0
OrderFault catalogue wanted = OrderFaultOf (parts_of catalogue) (pieces 8 wanted)
