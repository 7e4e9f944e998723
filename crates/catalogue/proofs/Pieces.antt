-- The pieces of lent bytes by place, as a slice has them; and 21, 22 and 23 of whole pieces, by what is at each place.
use mathlib.Core.Path.{◌≡◌, refl, sym, ap, subst, ◌∙◌}
use mathlib.Core.Bool.{true, false, not, true≢false}
use mathlib.Core.List.{List, [], ◌∷◌, map, map-append}
use mathlib.Core.Logic.{⊎_elim}
use Rattle.std.specs.Prelude.{Option, Some, None, is_some}
use Prim.Native.Nat.{ℕ, zero, suc, ◌+◌, ◌-◌, ◌*◌, ◌/◌, ◌%◌, ◌<◌, ◌≤◌, min}
use native.Mathlib.Nat.{eq-or-lt_of_le}
use native.Mathlib.Decide.{dec_lt}
use native.Mathlib.Omega.{arith}
use lib.ListN.{length, take, drop, get_or, length-take, length-drop, length-map, get_or-map}
use lib.Seq.{take-take, take_all, get_or-take, get_or-drop, length-take-le}
use Rattle.std.proofs.lemmas.List.{drop-take}
use lib.Dec.{leb}
use borrow.Author.Tests.{lt-leb, eq-eqb, ne_eqb, not-true, not-false}
use Rattle.base.proofs.Pieces.{piece_at}
use Rattle.base.specs.Bytes.{byte_at, pair_at, same, pieces}
use Rattle.base.specs.Lists.{up_to, padded}
use Rattle.base.proofs.Arrays.{length_up_to, get_d_up_to, up_to_take, up_to_same}
use Rattle.base.proofs.Cases.{test_cases, or_right}
use Rattle.base.proofs.Comparing.{same_lengths}
use Rattle.base.proofs.Members.{all_fails, one_holds, one_fails}
use Rattle.tables.specs.declared.DeviceRecord.{DeviceRecord}
use Rattle.tables.specs.Records.{first_at, blank_device}
use Rattle.catalogue.specs.Parts.{has, well_formed, Part, part_of, parts_of, numbers, whole, unfit, lacking, record_of}
use Rattle.catalogue.specs.inside.Places.{number_at, wanted_at, Sought, SoughtOf}
use Rattle.catalogue.specs.Building.{devices_of}
use Rattle.catalogue.specs.Faults.{no_part, unfit_at, repeated_at, lacking_at}
use Rattle.catalogue.proofs.Members.{record_at_lem}
use Rattle.catalogue.proofs.Meaning.{whole_catalogue}

-- ---- parts

module _ (s : List ℕ) where
  pub parts_count : length (parts_of s) ≡ (length s + 14) / 15
  unfolding pieces
  parts_count = rw (length-map, length_up_to)

  pub numbers_count : length (numbers (parts_of s)) ≡ (length s + 14) / 15
  numbers_count = length-map (parts_of s) (λ (p : Part). p.number) ∙ parts_count

  pub part_at : (i : ℕ) → i < (length s + 14) / 15 → get_or (parts_of s) i no_part ≡ part_of (take 15 (drop (15 * i) s))
  part_at i h = get_or-map part_of (pieces 15 s) i [] ∙ ap part_of (piece_at 15 s i h)

  pub number_at_lem : (i : ℕ) → i < (length s + 14) / 15 → get_or (numbers (parts_of s)) i [] ≡ number_at s i
  number_at_lem i h =
      get_or-map (λ (p : Part). p.number) (parts_of s) i no_part
      ∙ ap (λ (p : Part). p.number) (part_at i h)
      ∙ take-take 8 15 (drop (15 * i) s) (omega arith)

  -- Whether part i is whole.
  record_length : (i : ℕ) → length (drop 8 (take 15 (drop (15 * i) s))) ≡ min 15 (length s - 15 * i) - 8
  record_length i = rw (length-drop, length-take, length-drop)

  whole_at : (i : ℕ) → i < (length s + 14) / 15 → 15 * i + 15 ≤ length s → whole (get_or (parts_of s) i no_part) ≡ true
  whole_at i h k = rw (part_at i h) (eq-eqb (length (drop 8 (take 15 (drop (15 * i) s)))) 7 (record_length i ∙ omega arith))

  cut_at : (i : ℕ) → i < (length s + 14) / 15 → length s < 15 * i + 15 → whole (get_or (parts_of s) i no_part) ≡ false
  cut_at i h k = rw (part_at i h) (ne_eqb (length (drop 8 (take 15 (drop (15 * i) s)))) 7 (λ e. omega (arith, record_length i, e)))

-- ---- 21

module _ (s : List ℕ) (k : ℕ) where
  pub fit_at : k < length s / 15 → k < 64 → well_formed (number_at s k) ≡ true → unfit_at (parts_of s) k ≡ false
  fit_at h l e =
      let less : k < (length s + 14) / 15 = omega arith in
      rw (lt-leb 64 k l, number_at_lem s k less, e, whole_at s k less (omega arith))

  pub badly_at : k < length s / 15 → well_formed (number_at s k) ≡ false → unfit_at (parts_of s) k ≡ true
  badly_at h e =
      let less : k < (length s + 14) / 15 = omega arith in
      or_right (leb 64 k) (rw (number_at_lem s k less, e))

  -- A last part under 15 bytes.
  pub short_at : k ≡ length s / 15 → k < length (parts_of s) → unfit_at (parts_of s) k ≡ true
  short_at e h =
      let n = parts_count s in
      or_right (leb 64 k) (or_right (not (well_formed (get_or (numbers (parts_of s)) k []))) (rw (cut_at s k (omega arith) (omega arith))))

-- ---- looking for a number, part by part

module _ (s n : List ℕ) (from : ℕ) where
  -- None of the parts before k has it.
  abbrev pub Passed : ℕ → Type 0
  Passed k = (i : ℕ) → from ≤ i → i < k → same n (number_at s i) ≡ false

  pub passed_more : (k : ℕ) → Passed k → same n (number_at s k) ≡ false → Passed (k + 1)
  passed_more k p e i l m =
      ⊎_elim (λ q. subst (λ (x : ℕ). same n (number_at s x) ≡ false) (sym q) e) (λ q. p i l q) (eq-or-lt_of_le {n = i} {m = k} (omega arith))

-- ---- in a catalogue that 21 passes

module _ (s : List ℕ) (ok : unfit (parts_of s) ≡ false) where
  evenly : (length s + 14) / 15 ≡ length s / 15
  evenly = let w = (whole_catalogue s ok).0 in omega (arith, w)

  pub whole_numbers : length (numbers (parts_of s)) ≡ length s / 15
  whole_numbers = numbers_count s ∙ evenly

  pub whole_parts : length (parts_of s) ≡ length s / 15
  whole_parts = parts_count s ∙ evenly

  pub number_of_lem : (i : ℕ) → i < length s / 15 → get_or (numbers (parts_of s)) i [] ≡ number_at s i
  number_of_lem i h = number_at_lem s i (omega (arith, evenly))

  number_eight : (i : ℕ) → i < length s / 15 → length (number_at s i) ≡ 8
  number_eight i h = rw (length-take, length-drop) (omega arith)

  -- From a place on a part has the number, or none has.
  pub sought_has : (from : ℕ) (n : List ℕ) (k : ℕ) → Sought s from n k → k < length s / 15 → has (drop from (numbers (parts_of s))) n ≡ true
  sought_has from n k q h =
      let c = numbers_count s in
      let e : from + (k - from) ≡ k = omega (arith, q.from_on) in
      one_holds (same n) [] (drop from (numbers (parts_of s))) (k - from)
      (rw length-drop (omega (arith, evenly, q.from_on)))
      (rw (get_or-drop from (numbers (parts_of s)) (k - from) [], e, number_at_lem s k (omega (arith, evenly))) (q.here h))

  pub sought_none : (from : ℕ) (n : List ℕ) (k : ℕ) → Sought s from n k → length s / 15 ≤ k → has (drop from (numbers (parts_of s))) n ≡ false
  sought_none from n k q h =
      let c = numbers_count s in
      one_fails (same n) [] (drop from (numbers (parts_of s)))
      (λ i l. let less : i < length (numbers (parts_of s)) - from = rw length-drop at l in
      rw (get_or-drop from (numbers (parts_of s)) i [], number_at_lem s (from + i) (omega arith))
      (q.others (from + i) (omega arith) (omega (arith, evenly))))

  -- A part before part k has its number, or none has: they are looked for in the bytes before it.
  module _ (k : ℕ) (h : k < length s / 15) where
    before_count : length (take (15 * k) s) ≡ 15 * k
    before_count = length-take-le (15 * k) s (omega arith)

    before_at : (i : ℕ) → i < k → number_at (take (15 * k) s) i ≡ number_at s i
    before_at i l =
        let e : 15 * k ≡ 15 * i + (15 * k - 15 * i) = omega arith in
        ap (λ (x : ℕ). take 8 (drop (15 * i) (take x s))) e ∙ rw (drop-take (15 * i) (15 * k - 15 * i) s, take-take 8 (15 * k - 15 * i) (drop (15 * i) s) (omega arith))

    pub again_of : (o : Option ℕ) → SoughtOf (take (15 * k) s) (number_at s k) o → is_some o ≡ true → repeated_at (parts_of s) k ≡ true
    again_of None q e = cc
    again_of (Some j) q e =
        let ns = numbers (parts_of s) in
        let less : j < k = omega (arith, q.0, before_count) in
        rw (number_of_lem k h)
        (one_holds (same (number_at s k)) [] (take k ns) j (omega (arith, length-take-le k ns (omega (arith, whole_numbers))))
        (rw (get_or-take k ns j [] less, number_of_lem j (omega arith)) (rw (before_at j less) at (q.1.here q.0))))

    pub new_of : (o : Option ℕ) → SoughtOf (take (15 * k) s) (number_at s k) o → is_some o ≡ false → repeated_at (parts_of s) k ≡ false
    new_of (Some j) q e = cc
    new_of None q e =
        let ns = numbers (parts_of s) in
        rw (number_of_lem k h)
        (one_fails (same (number_at s k)) [] (take k ns)
        (λ i m. let less : i < k = omega (arith, m, length-take-le k ns (omega (arith, whole_numbers))) in
        rw (get_or-take k ns i [] less, number_of_lem i (omega arith)) (rw (before_at i less) at (q.others i (omega arith) (omega (arith, before_count))))))

  -- A number of other than 8 bytes is that of no part.
  pub odd_none : (n : List ℕ) → (length n ≡ 8 → ⊥) → has (numbers (parts_of s)) n ≡ false
  odd_none n h =
      let c = numbers_count s in
      one_fails (same n) [] (numbers (parts_of s))
      (λ i l. rw (number_at_lem s i (omega arith))
      (same_lengths n (number_at s i) (λ e. h (e ∙ number_eight i (omega (arith, evenly))))))

-- ---- wanted numbers

module _ (w : List ℕ) where
  pub wanted_count : length (pieces 8 w) ≡ (length w + 7) / 8
  unfolding pieces
  wanted_count = length_up_to (λ k. take 8 (drop (8 * k) w)) ((length w + 7) / 8)

  pub wanted_at_lem : (i : ℕ) → i < (length w + 7) / 8 → get_or (pieces 8 w) i [] ≡ wanted_at w i
  wanted_at_lem i h = piece_at 8 w i h

module _ (s w : List ℕ) (ok : unfit (parts_of s) ≡ false) where
  -- A wanted number that a part has, or none; and a last piece under 8 bytes.
  pub had_at : (k j : ℕ) → k < length w / 8 → Sought s 0 (wanted_at w k) j → j < length s / 15 → lacking_at (parts_of s) (pieces 8 w) k ≡ false
  had_at k j h q l = rw (wanted_at_lem w k (omega arith), sought_has s ok 0 (wanted_at w k) j q l)

  pub lacking_at_lem : (k j : ℕ) → k < length w / 8 → Sought s 0 (wanted_at w k) j → length s / 15 ≤ j → lacking_at (parts_of s) (pieces 8 w) k ≡ true
  lacking_at_lem k j h q l = rw (wanted_at_lem w k (omega arith), sought_none s ok 0 (wanted_at w k) j q l)

  pub had_of : (k : ℕ) (o : Option ℕ) → k < length w / 8 → SoughtOf s (wanted_at w k) o → is_some o ≡ true → lacking_at (parts_of s) (pieces 8 w) k ≡ false
  had_of k None h q e = cc
  had_of k (Some j) h q e = had_at k j h q.1 q.0

  pub lacking_of : (k : ℕ) (o : Option ℕ) → k < length w / 8 → SoughtOf s (wanted_at w k) o → is_some o ≡ false → lacking_at (parts_of s) (pieces 8 w) k ≡ true
  lacking_of k None h q e = lacking_at_lem k (length s / 15) h q (omega arith)
  lacking_of k (Some j) h q e = cc

  pub lacking_short : (k : ℕ) → k ≡ length w / 8 → k < length (pieces 8 w) → lacking_at (parts_of s) (pieces 8 w) k ≡ true
  lacking_short k e h =
      let c = wanted_count w in
      let piece-length : length (wanted_at w k) ≡ min 8 (length w - 8 * k) = rw (length-take, length-drop) in
      rw (wanted_at_lem w k (omega arith), odd_none s ok (wanted_at w k) (λ x. omega (arith, piece-length, x)))

-- ---- the record of a part

module _ (s : List ℕ) (k : ℕ) where
  abbrev pub record_at : List ℕ
  record_at = drop 8 (take 15 (drop (15 * k) s))

  record_byte : (i : ℕ) → i < 7 → byte_at record_at i ≡ byte_at s (15 * k + 8 + i)
  record_byte i h =
      let e : 15 * k + (8 + i) ≡ 15 * k + 8 + i = omega arith in
      get_or-drop 8 (take 15 (drop (15 * k) s)) i 0 ∙ get_or-take 15 (drop (15 * k) s) (8 + i) 0 (omega arith) ∙ get_or-drop (15 * k) s (8 + i) 0
      ∙ ap (byte_at s) e

  record_pair : (i : ℕ) → i + 1 < 7 → pair_at record_at i ≡ pair_at s (15 * k + 8 + i)
  record_pair i h =
      let e : 15 * k + 8 + (i + 1) ≡ 15 * k + 8 + i + 1 = omega arith in
      let a = record_byte i (omega arith) in
      let b = record_byte (i + 1) h ∙ ap (byte_at s) e in
      cc

  pub record_read : first_at record_at 0 ≡ first_at s (15 * k + 8)
  record_read =
      let e : 15 * k + 8 + 0 ≡ 15 * k + 8 = omega arith in
      let a = record_byte 0 (omega arith) ∙ ap (byte_at s) e in
      let b = record_pair 1 (omega arith) in
      let c = record_pair 3 (omega arith) in
      let d = record_pair 5 (omega arith) in
      cc

-- What is looked up is at the place that is found.
pub found_record : (s n : List ℕ) (k : ℕ) → unfit (parts_of s) ≡ false → Sought s 0 n k → k < length s / 15 → first_at (record_of (parts_of s) n) 0 ≡ first_at s (15 * k + 8)
found_record s n k ok q h =
    let c = parts_count s in
    let less : k < (length s + 14) / 15 = omega (arith, evenly s ok) in
    let e : record_of (parts_of s) n ≡ record_at s k =
    record_at_lem (parts_of s) n k (omega arith) (λ i l. rw (number_of_lem s ok i (omega arith)) (q.others i (omega arith) l)) (rw (number_of_lem s ok k h) (q.here h))
    ∙ ap (λ (p : Part). p.device) (part_at s k less) in
    rw e (record_read s k)

-- The number is there, so a part is found.
pub found_some : (s n : List ℕ) (o : Option ℕ) → unfit (parts_of s) ≡ false → SoughtOf s n o → has (numbers (parts_of s)) n ≡ true → is_some o ≡ true
found_some s n None ok q e = absurd (true≢false (sym e ∙ sought_none s ok 0 n (length s / 15) q (omega arith)))
found_some s n (Some k) ok q e = refl

-- ---- the device table of the wanted parts

map_up_to : {A B : Type 0} (f : A → B) (g : ℕ → A) (n : ℕ) → map f (up_to g n) ≡ up_to (λ i. f (g i)) n
unfolding up_to
map_up_to f g zero = refl
map_up_to f g (suc n) = rw (map-append f (up_to g n) (g n ∷ []), map_up_to f g n)

take_up_to : {A : Type 0} (f : ℕ → A) (z : A) (m n : ℕ) → take m (up_to f n) ≡ up_to f (min m n)
take_up_to f z m n =
    elim (dec_lt n m) [
      | yes l ↦
          let e : min m n ≡ n = omega arith in
          rw e (take_all m (up_to f n) (rw (length_up_to f n) (omega arith)))
      | no l ↦
          let e : min m n ≡ m = omega arith in
          rw e (sym (up_to_take (up_to f n) z m (rw (length_up_to f n) (omega arith))) ∙ up_to_same _ f m (λ i h. get_d_up_to f n i z (omega arith)))
    ]

-- The record of the wanted part k.
abbrev pub record_for : (s w : List ℕ) → ℕ → DeviceRecord
record_for s w k = first_at (record_of (parts_of s) (wanted_at w k)) 0

module _ (s w : List ℕ) (ok : unfit (parts_of s) ≡ false) (there : lacking (parts_of s) (pieces 8 w) ≡ false) where
  -- Where 23 passes each wanted number is that of a part.
  there_at : (k : ℕ) → k < length (pieces 8 w) → lacking_at (parts_of s) (pieces 8 w) k ≡ false
  there_at k h =
      test_cases (λ b. b ≡ false) (lacking_at (parts_of s) (pieces 8 w) k)
      (λ e. let lacks : lacking (parts_of s) (pieces 8 w) ≡ true = rw (all_fails (has (numbers (parts_of s))) [] (pieces 8 w) k h (not-true _ e)) in
      absurd (true≢false (sym lacks ∙ there)))
      (λ e. refl)

  wanted_even : length w % 8 ≡ 0
  wanted_even =
      let c = wanted_count w in
      elim (dec_lt 0 (length w % 8)) [
        | yes l ↦ let last : length w / 8 < length (pieces 8 w) = omega arith in
            absurd (true≢false (sym (lacking_short s w ok (length w / 8) refl last) ∙ there_at (length w / 8) last))
        | no l ↦ omega arith
      ]

  pub wanted_has : (k : ℕ) → k < length w / 8 → has (numbers (parts_of s)) (wanted_at w k) ≡ true
  wanted_has k h =
      let c = wanted_count w in
      let t = there_at k (omega arith) in
      not-false _ (rw (wanted_at_lem w k (omega arith)) at t)

  pub wanted_devices : devices_of (map (record_of (parts_of s)) (pieces 8 w)) ≡ record { count = length w / 8; list = padded 8 blank_device (up_to (record_for s w) (min 8 (length w / 8))) }
  unfolding pieces
  wanted_devices =
      let n : (length w + 7) / 8 ≡ length w / 8 = omega (arith, wanted_even) in
      rw (n, map_up_to (record_of (parts_of s)) (wanted_at w) (length w / 8), map_up_to (λ (d : List ℕ). first_at d 0) (λ i. record_of (parts_of s) (wanted_at w i)) (length w / 8), take_up_to (record_for s w) blank_device 8 (length w / 8), length_up_to)
