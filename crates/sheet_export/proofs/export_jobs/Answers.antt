-- `sheet_export::export_jobs` meets its contract.
use native.Mathlib.Omega.{arith}
use Rattle.text.proofs.Puts.{put_size, put_front}
use Rattle.sheet.proofs.Answers.{filled_as, refused_as}
use Rattle.sheet_export.proofs.Records.{records_many, records_cut, records_fine}
use borrow.Author.Rules.{rules}
use Rattle.sheet_export.proofs.export_jobs.Goals as goal

pub returns-then-n-gt112 : goal.returns-then-n-gt112
returns-then-n-gt112 c =
    let s = c.args.records.now in
    let e = records_many s (omega arith) in
    rw c.from.ensures (refused_as e (λ n. omega (arith, n)))

pub returns-then-n-ne0 : goal.returns-then-n-ne0
returns-then-n-ne0 c =
    let s = c.args.records.now in
    let e = records_cut s (omega arith) c.if-n-ne0.true in
    rw c.from-then-n-ne0.ensures (refused_as e (λ n. omega (arith, n)))

pub slice_bounds-own-end : goal.slice_bounds-own-end
slice_bounds-own-end c = search rules

pub returns : goal.returns
returns c =
    let s = c.args.records.now in
    let put = c.put_job_lines-size.ensures.1 in
    filled_as (records_fine s (omega arith) c.if-n-ne0.false) (put_size put) (put_front put) c.give.ensures
