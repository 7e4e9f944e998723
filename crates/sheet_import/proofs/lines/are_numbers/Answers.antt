use mathlib.Core.Path.{◌≡◌, sym, ap, ◌∙◌}
use mathlib.Core.List.{[]}
use Prim.Native.Nat.{ℕ, ◌+◌}
use native.Mathlib.Omega.{arith}
use lib.ListN.{drop, get_or}
use Rattle.text.specs.inside.Cursors.{number_of}
use Rattle.sheet.specs.Sheets.{columns_of, are_numbers}
use Rattle.sheet_import.specs.inside.Reading.{raw_in}
use Rattle.sheet_import.proofs.Faults.{few_texts, number_fails, number_passes, numbers_done}
use Rattle.sheet_import.proofs.lines.are_numbers.Goals as goal

pub loop-k-init : goal.loop-k-init
loop-k-init c =
    let a = c.args in
    let none : (columns_of a.rows).texts ≡ (columns_of a.rows).texts + 0 = omega arith in
    ap (λ (x : ℕ). are_numbers (columns_of a.rows).most (drop x (raw_in a.line.now))) none

pub overflow_add-first : goal.overflow_add-first
overflow_add-first c = omega (arith, c.texts-first.ensures, few_texts c.args.rows)

pub field-requires : goal.field-requires
field-requires c = c.requires

pub returns-then-not-fits : goal.returns-then-not-fits
returns-then-not-fits c =
    let l = c.loop-k in
    let a = c.args in
    let fs = raw_in a.line.now in
    let first = c.texts-first.ensures in
    let place : c.texts-first.result + l.k ≡ (columns_of a.rows).texts + l.k = ap (λ (x : ℕ). x + l.k) first in
    let number : c.number_of.result ≡ number_of (get_or fs ((columns_of a.rows).texts + l.k) []) =
    c.number_of.ensures ∙ ap number_of (c.field.ensures ∙ ap (λ (x : ℕ). get_or fs x []) place) in
    sym (l.invariant ∙ number_fails a.rows fs l.k (omega arith) (rw (← number, ← c.most.ensures) (sym c.fits.ensures ∙ c.if-not-fits.true)))

pub loop-k-preserved : goal.loop-k-preserved
loop-k-preserved c =
    let l = c.loop-k in
    let a = c.args in
    let fs = raw_in a.line.now in
    let first = c.texts-first.ensures in
    let place : c.texts-first.result + l.k ≡ (columns_of a.rows).texts + l.k = ap (λ (x : ℕ). x + l.k) first in
    let number : c.number_of.result ≡ number_of (get_or fs ((columns_of a.rows).texts + l.k) []) =
    c.number_of.ensures ∙ ap number_of (c.field.ensures ∙ ap (λ (x : ℕ). get_or fs x []) place) in
    l.invariant ∙ number_passes a.rows fs l.k (omega arith) (rw (← number, ← c.most.ensures) (sym c.fits.ensures ∙ c.if-not-fits.false))

pub returns : goal.returns
returns c =
    let l = c.loop-k in
    let a = c.args in
    sym (l.invariant ∙ numbers_done a.rows (raw_in a.line.now) l.k (omega arith))
