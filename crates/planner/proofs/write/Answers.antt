-- The file that is laid out is that of the tables, but for counts that are refused.
use mathlib.Core.Path.{◌≡◌, refl, sym, ap, ◌∙◌}
use mathlib.Core.List.{List, ◌++◌}
use Prim.Native.Nat.{ℕ, ◌≤◌}
use native.Mathlib.Omega.{arith}
use lib.ListN.{length, take, drop, length-append}
use lib.Seq.{length-take-le}
use Rattle.schedule.specs.declared.Recorder.{Recorder}
use Rattle.tables.specs.declared.Tables.{Tables}
use Rattle.tables.specs.declared.File.{File}
use Rattle.tables.specs.Layout.{marker, layout_of, bytes_of}
use Rattle.tables.specs.inside.Held.{limited, held}
use Rattle.tables.proofs.Appending.{held_front, held_long}
use Rattle.tables.proofs.Back.{unmarked}
use Rattle.tables.proofs.Joining.{limited_fits}
use Rattle.std.proofs.lemmas.Result.{err_from_is_err_and}
use Rattle.request.specs.Format.{read_as, accepted}
use Rattle.request.proofs.Limiting.{read_limited, accepted_limited}
use Rattle.planner.specs.Promises as P
use Rattle.planner.proofs.Refusing.{unless_enough}
use Rattle.planner.proofs.write.Goals as goal

-- The mark is that of the tables' kind, and what follows it reads as their layout does,
limited-mark : (T : Tables) → (length (marker T.kind) ≤ length (bytes_of (limited T))) × (drop (length (marker T.kind)) (bytes_of (limited T)) ≡ layout_of (limited T))
unfolding bytes_of limited
limited-mark T = (omega (arith, length-append (marker T.kind) (layout_of (limited T))), unmarked T.kind (layout_of (limited T)))

read-as-limited : (T : Tables) → read_as T.kind (layout_of (limited T)) ≡ read_as T.kind (layout_of T)
unfolding limited
read-as-limited T = read_limited T

-- What is written, by other names.
written_as :
    (T : Tables) (lent : List ℕ) (R : Recorder) (s : List ℕ) (n : ℕ) → read_as T.kind (layout_of T) ≡ accepted R → s ≡ bytes_of T → n ≡ length (bytes_of T) → n ≤ length lent
    → P.Written T lent (P.success R.horizon 0 n) (s ++ drop (length s) lent)
written_as T lent R s n r e f h = rw (e, f) (P.Written.read r (unless_enough (omega arith) P.gives))

-- What is read of the bytes is what is read of the layout.
module _ (T : Tables) (f : File) (e : f ≡ held (bytes_of (limited T))) where
  fits : f.count ≤ length f.bytes
  fits = rw e (held_long (bytes_of (limited T)) (limited_fits T))

  long : f.count ≡ length (take f.count f.bytes)
  long = sym (length-take-le f.count f.bytes fits)

  small : f.count ≤ 297
  unfolding held
  small = rw e (limited_fits T)

  laid : take f.count f.bytes ≡ bytes_of (limited T)
  laid = rw e (held_front (bytes_of (limited T)))

  reads : read_as T.kind (drop (length (marker T.kind)) (take f.count f.bytes)) ≡ read_as T.kind (layout_of T)
  reads =
      ap (λ (s : List ℕ). read_as T.kind (drop (length (marker T.kind)) s)) laid
      ∙ ap (λ (s : List ℕ). read_as T.kind s) (limited-mark T).1 ∙ read-as-limited T

  -- Where it is accepted no count is limited.
  module _ (R : Recorder) (r : read_as T.kind (layout_of T) ≡ accepted R) where
    whole : take f.count f.bytes ≡ bytes_of T
    whole = laid ∙ ap bytes_of (accepted_limited _ _ r)

    size : f.count ≡ length (bytes_of T)
    unfolding held
    size = ap (λ (f : File). f.count) e ∙ ap length (ap bytes_of (accepted_limited _ _ r))

pub slice_bounds-bytes-end : goal.slice_bounds-bytes-end
slice_bounds-bytes-end c = fits c.args.given _ c.file_of-file.ensures

pub slice_bounds-read_by-end : goal.slice_bounds-read_by-end
slice_bounds-read_by-end c = long c.args.given _ c.file_of-file.ensures

pub read_by-requires : goal.read_by-requires
read_by-requires c =
    let T = c.args.given in
    rw (laid T _ c.file_of-file.ensures) (limited-mark T).0

pub returns-in_err-recorder : goal.returns-in_err-recorder
returns-in_err-recorder c =
    let p = err_from_is_err_and c.from_residual.result c.from_residual.ensures.1 in
    let T = c.args.given in
    rw (p.1, p.2) (P.Written.refused (sym (c.in_err-recorder.ensures ∙ reads T _ c.file_of-file.ensures)))

-- What was read is what the tables' layout reads as.
read_so : (T : Tables) (f : File) (e : f ≡ held (bytes_of (limited T))) (R : Recorder)
    → accepted R ≡ read_as T.kind (drop (length (marker T.kind)) (take f.count f.bytes)) → read_as T.kind (layout_of T) ≡ accepted R
read_so T f e R h = sym (h ∙ reads T f e)

pub returns-then-out-n : goal.returns-then-out-n
returns-then-out-n c =
    let T = c.args.given in
    let e = c.file_of-file.ensures in
    let r = read_so T _ e _ c.in_ok-recorder.ensures in
    rw c.from.ensures (P.Written.read r (P.stops (rw (size T _ e _ r) at c.if-out-n.true)))

pub slice_bounds-bytes-end-2 : goal.slice_bounds-bytes-end-2
slice_bounds-bytes-end-2 c = fits c.args.given _ c.file_of-file.ensures

pub slice_bounds-copy_from_slice-end-3 : goal.slice_bounds-copy_from_slice-end-3
slice_bounds-copy_from_slice-end-3 c = long c.args.given _ c.file_of-file.ensures

pub copy_from_slice-requires : goal.copy_from_slice-requires
copy_from_slice-requires c = length-take-le _ _ c.if-out-n.false ∙ long c.args.given _ c.file_of-file.ensures

pub overflow_cast-result : goal.overflow_cast-result
overflow_cast-result c = omega (arith, small c.args.given _ c.file_of-file.ensures)

pub returns : goal.returns
returns c =
    let T = c.args.given in
    let e = c.file_of-file.ensures in
    let r = read_so T _ e _ c.in_ok-recorder.ensures in
    let made = c.copy_from_slice.ensures.after ∙ whole T _ e _ r in
    rw (made, size T _ e _ r) (written_as _ _ _ _ _ r refl refl (rw (size T _ e _ r) at c.if-out-n.false))
