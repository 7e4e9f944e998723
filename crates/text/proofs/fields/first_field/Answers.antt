-- `text::fields::first_field` meets its contract.
use mathlib.Core.Path.{◌≡◌, sym, ◌∙◌}
use native.Mathlib.Omega.{arith}
use lib.Seq.{length-take-le}
use Rattle.text.specs.inside.Cursors.{cut_of}
use Rattle.text.proofs.Cutting.{cut_within, read_told, told_size, bare_field, quoted_field, quoted_size}
use Rattle.text.proofs.fields.first_field.Goals as goal
use Rattle.text.proofs.fields.first_field.Goals.{else-size-gt0-via-then-size-gt0+else-s-eq34, else-size-gt0-via-else-size-gt0}

pub unwrap-size-requires : goal.unwrap-size-requires
unwrap-size-requires c = rw (c.cut.ensures ∙ read_told c.args.s.now c.requires)

pub bounds-s-0 : goal.bounds-s-0
bounds-s-0 c =
    let size = told_size (cut_of c.args.s.now) c.unwrap-size.result (sym c.cut.ensures ∙ c.unwrap-size.ensures) in
    omega (arith, cut_within c.args.s.now)

pub slice_bounds-result-count : goal.slice_bounds-result-count
slice_bounds-result-count c =
    let s = c.args.s.now in
    let size = told_size (cut_of s) c.unwrap-size.result (sym c.cut.ensures ∙ c.unwrap-size.ensures) in
    let two = quoted_size s c.requires (omega (arith, cut_within s)) c.if-s-eq34.true in
    omega arith

pub slice_bounds-result-start : goal.slice_bounds-result-start
slice_bounds-result-start c =
    let s = c.args.s.now in
    let size = told_size (cut_of s) c.unwrap-size.result (sym c.cut.ensures ∙ c.unwrap-size.ensures) in
    let two = quoted_size s c.requires (omega (arith, cut_within s)) c.if-s-eq34.true in
    omega arith

pub slice_bounds-result-end : goal.slice_bounds-result-end
slice_bounds-result-end c =
    let s = c.args.s.now in
    let size = told_size (cut_of s) c.unwrap-size.result (sym c.cut.ensures ∙ c.unwrap-size.ensures) in
    omega (arith, cut_within s)

pub returns-then-s-eq34 : goal.returns-then-s-eq34
returns-then-s-eq34 c =
    let s = c.args.s.now in
    let size = told_size (cut_of s) c.unwrap-size.result (sym c.cut.ensures ∙ c.unwrap-size.ensures) in
    let two = quoted_size s c.requires (omega (arith, cut_within s)) c.if-s-eq34.true in
    quoted_field s c.unwrap-size.result size (omega arith) c.if-s-eq34.true

pub slice_bounds-result-end-2 : goal.slice_bounds-result-end-2
slice_bounds-result-end-2 c =
    let s = c.args.s.now in
    let size = told_size (cut_of s) c.unwrap-size.result (sym c.cut.ensures ∙ c.unwrap-size.ensures) in
    sym (length-take-le _ s (omega (arith, cut_within s)))

pub returns : goal.returns
returns c =
    let s = c.args.s.now in
    let n = c.unwrap-size.result in
    let size = told_size (cut_of s) n (sym c.cut.ensures ∙ c.unwrap-size.ensures) in
    elim c.else-size-gt0.branch [
      | else-size-gt0-via-then-size-gt0+else-s-eq34 w ↦ bare_field s n size (λ h e. w.if-s-eq34.false e)
      | else-size-gt0-via-else-size-gt0 w ↦
          let none : n ≡ 0 = omega (arith, w.if-size-gt0.false) in
          bare_field s n size (λ h e. omega (arith, quoted_size s c.requires h e))
    ]
