-- Parts of a list of bytes: where a section stands in the layout of tables, and a file put together from its parts.
use mathlib.Core.Path.{◌≡◌, refl, sym, ap, ◌∙◌}
use mathlib.Core.List.{List, [], ◌∷◌, ◌++◌, append_assoc, append-nil}
use Prim.Native.Nat.{ℕ, zero, suc, ◌+◌, ◌-◌, ◌<◌, ◌≤◌}
use native.Mathlib.Omega.{arith}
use native.Mathlib.Decide.{dec_lt}
use native.Mathlib.Nat.{zero-add, add-zero, add-suc}
use lib.ListN.{length, length-append, get_or-append}
use lib.Seq.{take_all, get_or-append-add}
use Rattle.base.specs.Bytes.{byte_at, pair_bytes}
use Rattle.base.specs.Lists.{up_to}
use Rattle.base.specs.Refusals as Refusals
use Rattle.base.proofs.Arrays.{up_to_same, up_to_take}
use Rattle.base.proofs.Records.{after_more, after_from_lem}
use Rattle.tables.specs.declared.Tables.{Tables}
use Rattle.tables.specs.declared.TableName.{TableName}
use Rattle.tables.specs.declared.TableName.TheVariants.{Devices, Tasks, Jobs}
use Rattle.tables.specs.Layout.{joined, count_in, record_in, section_of, layout_of}
use Rattle.tables.proofs.Joining.{joined_le, length_section}

-- ---- a byte of lists that stand one after the other

-- A place in list k, of n that are joined, comes before their end; and byte i of it stands after those before it.
pub joined_place : (g : ℕ → List ℕ) (n k i : ℕ) → k < n → i < length (g k) → length (joined g k) + i < length (joined g n)
unfolding joined
joined_place g n k i h l = omega (arith, joined_le g (suc k) n h, length-append (joined g k) (g k))

pub byte_joined : (g : ℕ → List ℕ) (n k i : ℕ) → k < n → i < length (g k) → byte_at (joined g n) (length (joined g k) + i) ≡ byte_at (g k) i
unfolding joined
byte_joined g zero k i h l = absurd (omega arith)
byte_joined g (suc n) k i h l =
    elim (dec_lt k n) [
      | yes m ↦ get_or-append (joined g n) (g n) 0 (length (joined g k) + i) (joined_place g n k i m l) ∙ byte_joined g n k i m l
      | no m ↦ let e : k ≡ n = omega arith in rw e (get_or-append-add (joined g n) (g n) i 0)
    ]

-- ---- a section of the layout of tables

-- What stands before it and after it, and the place of its count.
unfoldable before : Tables → TableName → List ℕ
before T Devices = pair_bytes T.horizon
before T Tasks = pair_bytes T.horizon ++ section_of T Devices
before T Jobs = pair_bytes T.horizon ++ (section_of T Devices ++ section_of T Tasks)

unfoldable after : Tables → TableName → List ℕ
after T Devices = section_of T Tasks ++ section_of T Jobs
after T Tasks = section_of T Jobs
after T Jobs = []

abbrev pub place_in : Tables → TableName → ℕ
place_in T Devices = 2
place_in T Tasks = 2 + length (section_of T Devices)
place_in T Jobs = 2 + length (section_of T Devices) + length (section_of T Tasks)

parted : (T : Tables) (p : TableName) → layout_of T ≡ before T p ++ (section_of T p ++ after T p)
unfolding layout_of before after
parted T Devices = refl
parted T Tasks = refl
parted T Jobs =
    let D = section_of T Devices in
    let K = section_of T Tasks in
    let J = section_of T Jobs in
    ap (λ (l : List ℕ). pair_bytes T.horizon ++ l) (sym (append_assoc D K J) ∙ ap (λ (l : List ℕ). (D ++ K) ++ l) (sym (append-nil J)))

length_before : (T : Tables) (p : TableName) → length (before T p) ≡ place_in T p
unfolding before
length_before T Devices = refl
length_before T Tasks = omega arith
length_before T Jobs = omega (arith, length-append (section_of T Devices) (section_of T Tasks))

-- Its count, and byte i of its record k.
pub count_is : (T : Tables) (p : TableName) → byte_at (layout_of T) (place_in T p) ≡ count_in T p
unfolding section_of
count_is T p =
    let e : place_in T p ≡ length (before T p) + 0 = omega (arith, length_before T p) in
    rw (parted T p, e) (get_or-append-add (before T p) (section_of T p ++ after T p) 0 0)

pub record_byte :
    (T : Tables) (p : TableName) (k i : ℕ) → k < count_in T p → i < length (record_in T p k)
    → byte_at (layout_of T) (place_in T p + 1 + length (joined (record_in T p) k) + i) ≡ byte_at (record_in T p k) i
unfolding section_of
record_byte T p k i h l =
    let g = record_in T p in
    let records = joined g (count_in T p) in
    let at = length (joined g k) + i in
    let e : place_in T p + 1 + length (joined g k) + i ≡ length (before T p) + suc at = omega (arith, length_before T p) in
    rw (parted T p, e)
    (get_or-append-add (before T p) (section_of T p ++ after T p) (suc at) 0 ∙
    get_or-append records (after T p) 0 at (joined_place g (count_in T p) k i h l) ∙
    byte_joined g (count_in T p) k i h l)

-- ---- two tables that begin alike: the same horizon field and the same records

pub front_long : (T : Tables) (p : TableName) → place_in T p < length (layout_of T)
unfolding section_of
front_long T p =
    rw (parted T p)
    (omega (arith, length-append (before T p) (section_of T p ++ after T p), length-append (section_of T p) (after T p), length_before T p, length_section T p))

module _ (T U : Tables) (h : T.horizon ≡ U.horizon) (r : (p : TableName) → record_in T p ≡ record_in U p) where
  section_same : (p : TableName) → count_in T p ≡ count_in U p → section_of T p ≡ section_of U p
  unfolding section_of
  section_same p e = rw (e, r p)

  front_same : (p : TableName) → before T p ≡ before U p → (i : ℕ) → i < place_in T p → byte_at (layout_of T) i ≡ byte_at (layout_of U) i
  front_same p e i l =
      let m : i < length (before T p) = omega (arith, length_before T p) in
      rw (parted T p, parted U p, ← e)
      (get_or-append (before T p) (section_of T p ++ after T p) 0 i m ∙ sym (get_or-append (before T p) (section_of U p ++ after U p) 0 i m))

  -- As many devices: the task count stands at the same place; as many tasks too: so does the job count.
  pub tasks_at_same : T.devices.count ≡ U.devices.count → place_in T Tasks ≡ place_in U Tasks
  tasks_at_same d = rw (section_same Devices d)

  pub jobs_at_same : T.devices.count ≡ U.devices.count → T.tasks.count ≡ U.tasks.count → place_in T Jobs ≡ place_in U Jobs
  jobs_at_same d k = rw (section_same Devices d, section_same Tasks k)

  -- As many devices: the same bytes up to the task count; as many tasks too: up to the job count.
  pub tasks_front : T.devices.count ≡ U.devices.count → (i : ℕ) → i < place_in T Tasks → byte_at (layout_of T) i ≡ byte_at (layout_of U) i
  unfolding before
  tasks_front d = front_same Tasks (cc (h, section_same Devices d))

  pub jobs_front :
      T.devices.count ≡ U.devices.count → T.tasks.count ≡ U.tasks.count → (i : ℕ) → i < place_in T Jobs → byte_at (layout_of T) i ≡ byte_at (layout_of U) i
  unfolding before
  jobs_front d k = front_same Jobs (cc (h, section_same Devices d, section_same Tasks k))

-- ---- a file, part by part

-- n bytes from a place on.
abbrev pub part : List ℕ → ℕ → ℕ → List ℕ
part s at n = up_to (λ i. byte_at s (at + i)) n

module _ (s : List ℕ) where
  pub part_append : (at m n : ℕ) → part s at m ++ part s (at + m) n ≡ part s at (m + n)
  unfolding up_to
  part_append at m zero = rw (append-nil, add-zero)
  part_append at m (suc n) =
      let e : at + m + n ≡ at + (m + n) = omega arith in
      rw (add-suc, e, ← append_assoc (part s at m) (part s (at + m) n) _, part_append at m n)

  pub part_to : (at mid to : ℕ) → at ≤ mid → mid ≤ to → part s at (mid - at) ++ part s mid (to - mid) ≡ part s at (to - at)
  part_to at mid to h l =
      let e : at + (mid - at) ≡ mid = omega arith in
      let f : (mid - at) + (to - mid) ≡ to - at = omega arith in
      rw (e, f) at (part_append at (mid - at) (to - mid))

  pub part_joined :
      (g : ℕ → List ℕ) (size : ℕ → ℕ) (at n : ℕ) → ((k : ℕ) → k < n → g k ≡ part s (Refusals.after size k at) (size (Refusals.after size k at)))
      → joined g n ≡ part s at (Refusals.after size n at - at)
  unfolding joined up_to
  part_joined g size at zero h = let e : at - at ≡ 0 = omega arith in rw e
  part_joined g size at (suc n) h =
      let p = Refusals.after size n at in
      let low : at ≤ p = after_from_lem size n at in
      let e : Refusals.after size (suc n) at - at ≡ (p - at) + size p = omega (arith, after_more size n at) in
      let f : at + (p - at) ≡ p = omega arith in
      rw (part_joined g size at n (λ k l. h k (omega arith)), h n (omega arith), e) (rw f at (part_append at (p - at) (size p)))

  -- One byte, and those after it.
  pub part_cons : (at n : ℕ) → byte_at s at ∷ part s (at + 1) n ≡ part s at (1 + n)
  unfolding up_to
  part_cons at n = rw add-zero at (part_append at 1 n)

  pub part_whole : part s 0 (length s) ≡ s
  part_whole = up_to_same _ _ (length s) (λ i l. rw zero-add) ∙ up_to_take s 0 (length s) (omega arith) ∙ take_all (length s) s (omega arith)
