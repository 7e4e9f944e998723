use Rattle.std.proofs.Common.{[], ◌∷◌, ◌+◌, ◌/◌, ◌%◌, length, ap, ◌∙◌, arith}
use Rattle.std.proofs.Math.ListN.{length-append}
use Rattle.text.specs.Numerals.{digits_of}
use Rattle.text.proofs.Digits.{digits_one, digits_more}
use Rattle.text.proofs.Puts.{put_more}
use Rattle.text.proofs.putting.+put_number.Goals as goal

pub put_byte-requires : goal.put_byte-requires
put_byte-requires t c =
    let one = ap length (digits_one c.args.number (omega arith)) in
    omega (arith, c.requires)

pub returns-then-number-lt10 : goal.returns-then-number-lt10
returns-then-number-lt10 t c = rw (digits_one c.args.number (omega arith)) c.put_byte.ensures

pub put_number-last-requires : goal.put_number-last-requires
put_number-last-requires t c =
    let n = c.args.number in
    let more = ap length (digits_more n (omega arith) (omega arith)) ∙ length-append (digits_of (n / 10)) ((48 + n % 10) ∷ []) in
    (omega arith, omega (arith, c.requires))

pub put_byte-requires-2 : goal.put_byte-requires-2
put_byte-requires-2 t c =
    let n = c.args.number in
    let more = ap length (digits_more n (omega arith) (omega arith)) ∙ length-append (digits_of (n / 10)) ((48 + n % 10) ∷ []) in
    omega (arith, c.requires, c.put_number-last.ensures.next)

pub returns : goal.returns
returns t c =
    let n = c.args.number in
    let e = digits_more n (omega arith) (omega arith) in
    let more = ap length e ∙ length-append (digits_of (n / 10)) ((48 + n % 10) ∷ []) in
    let first = c.put_number-last.ensures in
    let second = c.put_byte-2.ensures in
    rw e (put_more first second (omega (arith, c.requires, first.next, second.next)))
