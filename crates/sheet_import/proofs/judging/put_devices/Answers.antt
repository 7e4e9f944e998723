-- `sheet_import::judging::put_devices` meets its contract.
use Rattle.std.proofs.Common.{refl, sym, ap, ◌∙◌, arith}
use Rattle.std.proofs.lemmas.Result.{err_from_is_err_and}
use lib.Seq.{length-take-le}
use Rattle.catalogue.specs.Parts.{parts_of, unfit}
use Rattle.text.proofs.Puts.{put_front}
use Rattle.sheet.specs.declared.SheetKind.TheVariants.{Devices}
use Rattle.sheet_import.proofs.Tables.{sound_lines, fit_lines}
use Rattle.sheet_import.proofs.Outcomes.{rows_parts}
use Rattle.sheet_import.proofs.Only.{judged_passed, judged_told, told_again, always}
use Rattle.sheet_import.proofs.judging.put_devices.Goals as goal

pub returns-in_err-judge_devices : goal.returns-in_err-judge_devices
returns-in_err-judge_devices c =
    let p = err_from_is_err_and c.from_residual.result c.from_residual.ensures.1 in
    rw (p.1, p.2) (record { fault = judged_told c.args.text.now _ c.in_err-judge_devices.ensures; bytes = tt })

pub overflow_mul-size : goal.overflow_mul-size
overflow_mul-size c =
    let s = c.args.text.now in
    let passed = judged_passed s c.in_ok-judge_devices.ensures refl in
    omega (arith, (fit_lines s passed.1).0, c.count_lines-lines.ensures)

pub put_rows-requires : goal.put_rows-requires
put_rows-requires c =
    let s = c.args.text.now in
    let passed = judged_passed s c.in_ok-judge_devices.ensures refl in
    let fit = fit_lines s passed.1 in
    (c.count_lines-lines.ensures, omega (arith, fit.0, c.count_lines-lines.ensures, c.requires), λ k h. (sound_lines Devices s passed.0 k h, fit.1 k h))

pub slice_bounds-repeated_at-end : goal.slice_bounds-repeated_at-end
slice_bounds-repeated_at-end c =
    let s = c.args.text.now in
    let passed = judged_passed s c.in_ok-judge_devices.ensures refl in
    omega (arith, (fit_lines s passed.1).0, c.count_lines-lines.ensures, c.requires, c.put_rows.auto)

pub slice_bounds-repeated_at-end-2 : goal.slice_bounds-repeated_at-end-2
slice_bounds-repeated_at-end-2 c = sym (length-take-le _ _ (slice_bounds-repeated_at-end c))

pub repeated_at-requires : goal.repeated_at-requires
repeated_at-requires c =
    let s = c.args.text.now in
    let passed = judged_passed s c.in_ok-judge_devices.ensures refl in
    ap unfit (ap parts_of (put_front c.put_rows.ensures) ∙ rows_parts s passed.1) ∙ passed.1

pub returns : goal.returns
returns c =
    let s = c.args.text.now in
    let passed = judged_passed s c.in_ok-judge_devices.ensures refl in
    let same = ap parts_of (put_front c.put_rows.ensures) ∙ rows_parts s passed.1 in
    record {
      fault = rw c.fault_at.ensures (told_again s passed.0 passed.1 _ same c.repeated_at.result c.repeated_at.ensures);
      bytes = always c.fault_at.result (rw (← c.count_lines-lines.ensures) c.put_rows.ensures);
    }
