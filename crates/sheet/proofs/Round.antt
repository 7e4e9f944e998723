-- The round trips in bytes: a catalogue and job records that an export accepts come back from the import to the byte.
use mathlib.Core.Path.{◌≡◌, refl, sym, ap, subst, ◌∙◌}
use mathlib.Core.Bool.{true, false, not}
use mathlib.Core.List.{List, [], ◌∷◌, map}
use Prim.Native.Nat.{ℕ, zero, suc, ◌+◌, ◌-◌, ◌*◌, ◌/◌, ◌<◌}
use native.Mathlib.Omega.{arith}
use native.Mathlib.Nat.{zero-add}
use lib.ListN.{length, take, drop, take-append-drop, length-map}
use lib.Seq.{take_all, get_or-drop}
use lib.Dec.{eqb, ltb}
use borrow.Author.Tests.{not-false, ltb-false, eqb-true}
use Rattle.base.specs.Bytes.{byte_at, pieces, in_row}
use Rattle.base.specs.Refusals.{◌⇒◌}
use Rattle.base.proofs.Arrays.{up_to_take, up_to_same}
use Rattle.base.proofs.Clear.{clear}
use Rattle.base.proofs.Every.{Every, every_up_to}
use Rattle.base.specs.Lists.{all}
use Rattle.base.proofs.Cases.{both, neither}
use Rattle.base.proofs.Pieces.{pieces_row}
use Rattle.tables.specs.declared.Kind.TheVariants.{First}
use Rattle.tables.specs.Records.{first_at, job_at, job_bytes}
use Rattle.tables.specs.Layout.{Bytes}
use Rattle.tables.proofs.Parts.{part}
use Rattle.tables.proofs.Reading.{device_part, job_part}
use Rattle.catalogue.specs.Parts.{well_formed, malformed, repeated, Part, part_of, parts_of, numbers, whole, unfit}
use Rattle.catalogue.proofs.PartNumbers.{formed}
use Rattle.catalogue.proofs.Meaning.{parts_row}
use Rattle.sheet.specs.Sheets.{catalogue_of, records_of, parts_in, jobs_in, parts_fault, records_fault, devices_refused, jobs_refused, devices_text, jobs_text, jobs_of}
use Rattle.sheet.proofs.Again.{Kept, FitsDevice, FitsJob, devices_again, jobs_again}

-- Seven bytes, each by its place.
whole_part : (s : List ℕ) → length s ≡ 7 → part s 0 7 ≡ s
whole_part s h =
    up_to_same _ (λ i. byte_at s i) 7 (λ i l. ap (byte_at s) (zero-add i)) ∙ up_to_take s 0 7 (omega arith) ∙ take_all 7 s (omega arith)

fits_device : (s : List ℕ) → Bytes s → FitsDevice (first_at s 0)
fits_device s b = (omega (arith, b 0), omega (arith, b 1, b 2), omega (arith, b 3, b 4), omega (arith, b 5, b 6))

fits_job : (s : List ℕ) → Bytes s → FitsJob (job_at s 0)
fits_job s b = (omega (arith, b 0, b 1), omega (arith, b 2, b 3), omega (arith, b 4, b 5), omega (arith, b 6))

-- Bytes of a piece are bytes.
take_byte : (n : ℕ) (s : List ℕ) → Bytes s → Bytes (take n s)
take_byte zero s b i = subst (λ (x : ℕ). x < 256) (sym (none i)) (omega arith)
  where
    none : (k : ℕ) → byte_at [] k ≡ 0
    none zero = refl
    none (suc k) = refl
take_byte (suc n) [] b i = b i
take_byte (suc n) (x ∷ s) b zero = b 0
take_byte (suc n) (x ∷ s) b (suc i) = take_byte n s (λ j. b (suc j)) i

drop_byte : (n : ℕ) (s : List ℕ) → Bytes s → Bytes (drop n s)
drop_byte n s b i = rw (get_or-drop n s i 0) (b (n + i))

piece_bytes : (n k : ℕ) (s : List ℕ) → Bytes s → Bytes (take n (drop (n * k) s))
piece_bytes n k s b = take_byte n (drop (n * k) s) (drop_byte (n * k) s b)

-- ---- devices

every_map : {A B : Type 0} (f : A → B) (P : B → Type 0) (l : List A) → Every (λ x. P (f x)) l → Every P (map f l)
every_map f P [] h = tt
every_map f P (x ∷ l) h = (h.0, every_map f P l h.1)

pieces_bytes : (n : ℕ) (s : List ℕ) → Bytes s → Every Bytes (pieces n s)
unfolding pieces
pieces_bytes n s b = every_up_to Bytes (λ k. take n (drop (n * k) s)) ((length s + (n - 1)) / n) (λ k l. piece_bytes n k s b)

kept_all : (ps : List Part) → Every (λ (p : Part). Bytes p.device) ps → all well_formed (numbers ps) ≡ true → all whole ps ≡ true → Every Kept ps
kept_all [] b f w = tt
kept_all (p ∷ ps) b f w =
    let x = both (well_formed p.number) (all well_formed (numbers ps)) f in
    let y = both (eqb (length p.device) 7) (all whole ps) w in (
      record {
        spaced = (formed p.number x.0).2;
        fits = fits_device p.device b.0;
        back = device_part p.device 0 b.0 First ∙ whole_part p.device (eqb-true (length p.device) 7 y.0);
      },
      kept_all ps b.1 x.1 y.1,
    )

pub kept_parts : (catalogue : List ℕ) → Bytes catalogue → unfit (parts_of catalogue) ≡ false → Every Kept (parts_of catalogue)
kept_parts catalogue b u =
    let ps = parts_of catalogue in
    let w = neither (malformed (numbers ps)) (not (all whole ps)) u in
    let m = neither (ltb 64 (length (numbers ps))) (not (all well_formed (numbers ps))) w.0 in
    kept_all ps (every_map part_of (λ (p : Part). Bytes p.device) (pieces 15 catalogue) (dropped (pieces 15 catalogue) (pieces_bytes 15 catalogue b)))
    (not-false _ m.1) (not-false _ w.1)
  where
    dropped : (qs : List (List ℕ)) → Every Bytes qs → Every (λ q. Bytes (drop 8 q)) qs
    dropped [] h = tt
    dropped (q ∷ qs) h = (drop_byte 8 q h.0, dropped qs h.1)

-- The parts of a catalogue, one after the other, are its bytes.
parts_bytes : (catalogue : List ℕ) → catalogue_of (parts_of catalogue) ≡ catalogue
parts_bytes catalogue = go (pieces 15 catalogue) ∙ parts_row catalogue
  where
    go : (qs : List (List ℕ)) → catalogue_of (map part_of qs) ≡ in_row qs
    go [] = refl
    go (q ∷ qs) = let e = take-append-drop 8 q in let f = go qs in cc

-- A catalogue that an export accepts is imported again, to the byte.
pub devices_round : (catalogue : List ℕ) → Bytes catalogue → parts_fault (parts_of catalogue) ≡ 0
    → (devices_refused (devices_text (parts_of catalogue)) ≡ 0) × (catalogue_of (parts_in (devices_text (parts_of catalogue))) ≡ catalogue)
devices_round catalogue b e =
    let ps = parts_of catalogue in
    let c = clear ((unfit ps ⇒ 21) ∷ (repeated (numbers ps) ⇒ 22) ∷ []) (tt, (tt, tt)) (sym e) in
    let r = devices_again ps (kept_parts catalogue b c.0) e in
    (r.0, ap catalogue_of r.1 ∙ parts_bytes catalogue)

-- ---- jobs

seven_all : (rs : List (List ℕ)) → Every Bytes rs → all (λ (r : List ℕ). eqb (length r) 7) rs ≡ true → (Every FitsJob (jobs_of rs)) × (records_of (jobs_of rs) ≡ in_row rs)
seven_all [] b h = (tt, refl)
seven_all (r ∷ rs) b h =
    let x = both (eqb (length r) 7) (all (λ (q : List ℕ). eqb (length q) 7) rs) h in
    let y = seven_all rs b.1 x.1 in
    let e : job_bytes (job_at r 0) ≡ r = job_part r 0 b.0 ∙ whole_part r (eqb-true (length r) 7 x.0) in
    let f = y.1 in
    ((fits_job r b.0, y.0), cc)

-- Job records that an export accepts are imported again, to the byte.
pub jobs_round : (records : List ℕ) → Bytes records → records_fault (pieces 7 records) ≡ 0
    → (jobs_refused (jobs_text (jobs_of (pieces 7 records))) ≡ 0) × (records_of (jobs_in (jobs_text (jobs_of (pieces 7 records)))) ≡ records)
jobs_round records b e =
    let rs = pieces 7 records in
    let c = clear ((ltb 16 (length rs) ⇒ 12) ∷ (not (all (λ (r : List ℕ). eqb (length r) 7) rs) ⇒ 1) ∷ []) (tt, (tt, tt)) (sym e) in
    let y = seven_all rs (pieces_bytes 7 records b) (not-false _ c.1.0) in
    let few = ltb-false 16 (length rs) c.0 in
    let r = jobs_again (jobs_of rs) y.0 (omega (arith, length-map rs (λ (q : List ℕ). job_at q 0))) in
    (r.0, ap records_of r.1 ∙ y.1 ∙ pieces_row 7 records (omega arith))

-- Text in our own form, as an export writes it: exporting what was imported from it gives the text again.
pub devices_own : (catalogue : List ℕ) → Bytes catalogue → parts_fault (parts_of catalogue) ≡ 0
    → devices_text (parts_of (catalogue_of (parts_in (devices_text (parts_of catalogue))))) ≡ devices_text (parts_of catalogue)
devices_own catalogue b e = ap (λ (c : List ℕ). devices_text (parts_of c)) (devices_round catalogue b e).1

pub jobs_own : (records : List ℕ) → Bytes records → records_fault (pieces 7 records) ≡ 0
    → jobs_text (jobs_of (pieces 7 (records_of (jobs_in (jobs_text (jobs_of (pieces 7 records))))))) ≡ jobs_text (jobs_of (pieces 7 records))
jobs_own records b e = ap (λ (r : List ℕ). jobs_text (jobs_of (pieces 7 r))) (jobs_round records b e).1
