-- `sheet_import::import_devices` meets its contract.
use Rattle.std.proofs.Common.{◌∙◌, arith}
use Rattle.std.proofs.lemmas.Result.{err_from_is_err_and}
use Rattle.base.proofs.Numbered.{not_0}
use Rattle.text.proofs.Puts.{put_front}
use Rattle.sheet.proofs.Answers.{filled_as, refused_as}
use Rattle.sheet_import.proofs.Tables.{fit_lines}
use Rattle.sheet_import.proofs.Outcomes.{devices_fit, devices_bytes, devices_count}
use Rattle.sheet_import.proofs.Only.{devices_number}
use Rattle.sheet_import.proofs.import_devices.Goals as goal

pub returns-in_err-put_devices : goal.returns-in_err-put_devices
returns-in_err-put_devices c =
    let p = err_from_is_err_and c.from_residual.result c.from_residual.ensures.1 in
    rw (p.1, p.2) (refused_as (devices_number c.args.text.now c.in_err-put_devices.ensures.fault) (not_0 _))

pub overflow_mul-size : goal.overflow_mul-size
overflow_mul-size c =
    let s = c.args.text.now in
    let fine = devices_number s c.in_ok-put_devices.ensures.fault in
    omega (arith, (fit_lines s (devices_fit s fine)).0, c.count_lines-lines.ensures)

pub slice_bounds-own-end : goal.slice_bounds-own-end
slice_bounds-own-end c =
    let s = c.args.text.now in
    let fine = devices_number s c.in_ok-put_devices.ensures.fault in
    omega (arith, (fit_lines s (devices_fit s fine)).0, c.count_lines-lines.ensures, c.put_devices.auto)

pub give-requires : goal.give-requires
give-requires c =
    let s = c.args.text.now in
    let fine = devices_number s c.in_ok-put_devices.ensures.fault in
    omega (arith, (fit_lines s (devices_fit s fine)).0, c.count_lines-lines.ensures)

pub returns : goal.returns
returns c =
    let s = c.args.text.now in
    let fine = devices_number s c.in_ok-put_devices.ensures.fault in
    let count = c.count_lines-lines.ensures in
    filled_as fine (count ∙ devices_count s) (rw (← count) at (put_front c.in_ok-put_devices.ensures.bytes) ∙ devices_bytes s fine) c.give.ensures
