-- `doors::door_margins::margin_bytes` meets its contract.
use mathlib.Core.Path.{◌≡◌, refl, sym, ap, subst, ◌∙◌}
use mathlib.Core.List.{List, ◌++◌}
use Prim.Native.Nat.{ℕ, ◌<◌, ◌/◌}
use native.Mathlib.Omega.{arith}
use borrow.Author.Rules.{rules}
use lib.IntN.{ℤ, pos}
use lib.ListN.{length, get_or, take, drop, replicate, get_or-append}
use lib.Seq.{length-take-le}
use Rattle.std.specs.Prelude.{Ok}
use Rattle.std.proofs.lemmas.Result.{err_from_is_err_and}
use Rattle.base.proofs.Numbered.{not_0}
use Rattle.schedule.specs.Quantities.{jobs}
use Rattle.planner.specs.Answers.{answered}
use Rattle.planner.specs.Promises.{MarginsOf}
use Rattle.doorway.proofs.Opening.{kept_places, given_places}
use Rattle.doorway.proofs.Fours.{fours_front}
use Rattle.doors.specs.Promises.{complement, MarginsSpelled}
use Rattle.doors.proofs.Places.{own_lent}
use Rattle.doors.proofs.Rooms.{margins_room, margins_kept, margins_given}
use Rattle.doors.proofs.door_margins.margin_bytes.Goals as goal

-- What the list of margins holds before any is written.
abbrev zeros : List ℤ
zeros = replicate 16 (pos 0)

pub slice_bounds-margins-end : goal.slice_bounds-margins-end
slice_bounds-margins-end c = sym (length-take-le _ _ (omega (arith, c.min-places.ensures)))

pub returns-in_err-figures : goal.returns-in_err-figures
returns-in_err-figures c =
    let p = err_from_is_err_and c.from_residual.result c.from_residual.ensures.1 in
    let s = c.args in
    let own = take c.min-places.result zeros in
    let fits = own_lent zeros c.min-places.result (length s.out.now / 4) 16 c.min-places.ensures (omega arith) in
    rw (p.1, p.2)
    (kept_places s.file.now own s.out.now (MarginsOf s.starts.now own) (MarginsSpelled s.starts.now s.out.now)
    (λ R v b l n t. margins_kept s.starts.now s.out.now R v.few_jobs own fits n t) (not_0 _) c.in_err-figures.ensures)

pub slice_bounds-words-end : goal.slice_bounds-words-end
slice_bounds-words-end c = omega (arith, c.map-words.ensures.items.long, c.min-jobs.ensures, c.min-places.ensures)

pub slice_bounds-put_fours-end : goal.slice_bounds-put_fours-end
slice_bounds-put_fours-end c = sym (length-take-le _ _ (omega (arith, c.map-words.ensures.items.long, c.min-jobs.ensures, c.min-places.ensures)))

pub put_fours-requires : goal.put_fours-requires
put_fours-requires c = rw (length-take-le c.min-jobs.result c.map-words.result (omega (arith, c.map-words.ensures.items.long, c.min-jobs.ensures, c.min-places.ensures))) (omega (arith, c.min-jobs.ensures, c.min-places.ensures))

pub returns : goal.returns
returns c =
    let s = c.args in
    let n = c.min-places in
    let own = take n.result zeros in
    let fits = own_lent zeros n.result (length s.out.now / 4) 16 n.ensures (omega arith) in
    let after = c.margins.new.out in
    let found = answered (Ok c.in_ok-figures.figures) in
    let w = c.map-words.ensures.items in
    given_places s.file.now own s.out.now (MarginsOf s.starts.now own) (MarginsSpelled s.starts.now s.out.now) found after _
    (λ R v t.
    let room = margins_room s.starts.now s.out.now R v.few_jobs own fits refl t in
    let each : (i : ℕ) → i < jobs R → get_or c.map-words.result i 0 ≡ complement (get_or after i (pos 0)) =
    λ i l.
    let m = w.at i (pos 0) 0 (omega (arith, l, v.few_jobs)) in
    let cast : get_or c.map-words.result i 0 ≡ complement (get_or (after ++ drop n.result zeros) i (pos 0)) = search (rules, m) in
    cast ∙ ap complement (get_or-append after (drop n.result zeros) (pos 0) i (omega (arith, l, room.2))) in
    subst (λ (x : List ℕ). MarginsSpelled s.starts.now s.out.now R found x)
    (sym (fours_front (λ i. complement (get_or after i (pos 0))) c.map-words.result s.out.now _ (jobs R) c.min-jobs.result
    (omega (arith, c.min-jobs.ensures, room.0, room.1, fits, n.ensures)) (omega (arith, w.long, v.few_jobs)) each c.put_fours.ensures))
    (margins_given s.starts.now s.out.now R v.few_jobs own fits refl t))
    refl c.in_ok-figures.ensures
