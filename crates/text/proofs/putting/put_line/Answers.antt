use Rattle.std.proofs.Common.{◌∷◌, [], length, take, arith, length-append, ap}
use lib.Seq.{take_all}
use Rattle.text.specs.Grammar.{comma, cr, lf}
use Rattle.text.specs.Numerals.{numbers_text}
use Rattle.text.specs.inside.Putting.{Put}
use Rattle.text.proofs.Puts.{put_more, led, led_some, led_none, numbers_more, line_room}
use Rattle.text.proofs.putting.put_line.Goals as goal
use Rattle.text.proofs.putting.put_line.Goals.{then-i-gt0, else-i-gt0}

pub put_byte-end-requires : goal.put_byte-end-requires
put_byte-end-requires c =
    let l = c.loop-i in
    let ns = c.args.numbers.now in
    omega (
      arith,
      l.invariant.next,
      line_room ns l.i (omega arith),
      ap length (led_some ns l.i (omega arith)),
      length-append (numbers_text (take l.i ns)) (comma ∷ []),
    )

pub put_number-end-requires : goal.put_number-end-requires
put_number-end-requires c =
    let l = c.loop-i in
    let ns = c.args.numbers.now in
    let room = line_room ns l.i (omega arith) in
    elim c.if-i-gt0.branch [
      | then-i-gt0 w ↦
          let led = ap length (led_some ns l.i (omega arith)) in
          omega (arith, l.invariant.next, w.put_byte-end.ensures.next, length-append (numbers_text (take l.i ns)) (comma ∷ []))
      | else-i-gt0 w ↦ let led = ap length (led_none ns l.i (omega arith)) in omega (arith, l.invariant.next)
    ]

pub loop-i-preserved : goal.loop-i-preserved
loop-i-preserved c =
    let l = c.loop-i in
    let ns = c.args.numbers.now in
    let room = line_room ns l.i (omega arith) in
    let number = c.put_number-end.ensures in
    let before : Put (led ns l.i) c.args.at c.args.out.now c.if-i-gt0.end c.if-i-gt0.out = elim c.if-i-gt0.branch [
      | then-i-gt0 w ↦
          let comma = w.put_byte-end.ensures in
          let led = ap length (led_some ns l.i (omega arith)) in
          rw (led_some ns l.i (omega arith), w.end-is, w.out-is)
          (put_more l.invariant comma (omega (arith, l.invariant.next, comma.next, length-append (numbers_text (take l.i ns)) (44 ∷ []))))
      | else-i-gt0 w ↦ rw (led_none ns l.i (omega arith), w.end-is, w.out-is) l.invariant
    ]
    in
    rw (numbers_more ns l.i (omega arith)) (put_more before number (omega (arith, number.next)))

pub returns : goal.returns
returns c =
    let l = c.loop-i in
    let ns = c.args.numbers.now in
    let all = rw (take_all l.i ns (omega arith)) at l.invariant in
    put_more all c.put_bytes.ensures (omega (arith, c.requires, all.next, c.put_bytes.ensures.next, length-append (numbers_text ns) (cr ∷ lf ∷ [])))
