-- `sheet_export::printing::put_quoted` meets its contract.
use mathlib.Core.Path.{sym}
use Prim.Native.Nat.{◌≤◌}
use native.Mathlib.Omega.{arith}
use lib.ListN.{length}
use lib.Seq.{length-take-le}
use Rattle.catalogue.proofs.Scanning.{front_fits}
use Rattle.text.proofs.Puts.{put_more}
use Rattle.sheet_export.proofs.Printed.{take_front}
use Rattle.sheet_export.proofs.printing.put_quoted.Goals as goal

pub slice_bounds-put_bytes-end : goal.slice_bounds-put_bytes-end
slice_bounds-put_bytes-end c =
    let n = c.args.number.now in
    let signs = c.signs_of-signs.ensures in
    let fits = front_fits n in
    let few : c.signs_of-signs.result ≤ length n = omega arith in
    let some = length-take-le c.signs_of-signs.result n few in
    sym some

pub put_bytes-end-requires : goal.put_bytes-end-requires
put_bytes-end-requires c =
    let n = c.args.number.now in
    let signs = c.signs_of-signs.ensures in
    let fits = front_fits n in
    let few : c.signs_of-signs.result ≤ length n = omega arith in
    let some = length-take-le c.signs_of-signs.result n few in
    omega (arith, c.requires, c.put_byte-from.ensures.next)

pub put_byte-next-requires : goal.put_byte-next-requires
put_byte-next-requires c =
    let n = c.args.number.now in
    let signs = c.signs_of-signs.ensures in
    let fits = front_fits n in
    let few : c.signs_of-signs.result ≤ length n = omega arith in
    let some = length-take-le c.signs_of-signs.result n few in
    omega (arith, c.requires, c.put_byte-from.ensures.next, c.put_bytes-end.ensures.next)

pub put_byte-requires : goal.put_byte-requires
put_byte-requires c =
    let n = c.args.number.now in
    let signs = c.signs_of-signs.ensures in
    let fits = front_fits n in
    let few : c.signs_of-signs.result ≤ length n = omega arith in
    let some = length-take-le c.signs_of-signs.result n few in
    omega (arith, c.requires, c.put_byte-from.ensures.next, c.put_bytes-end.ensures.next, c.put_byte-next.ensures.next)

pub returns : goal.returns
returns c =
    let n = c.args.number.now in
    let signs = c.signs_of-signs.ensures in
    let fits = front_fits n in
    let few : c.signs_of-signs.result ≤ length n = omega arith in
    let some = length-take-le c.signs_of-signs.result n few in
    let first = c.put_byte-from.ensures in
    let number = c.put_bytes-end.ensures in
    let close = c.put_byte-next.ensures in
    let comma = c.put_byte.ensures in
    let tail = put_more close comma (omega (arith, c.requires, first.next, number.next, close.next, comma.next)) in
    let rest = put_more number tail (omega (arith, c.requires, first.next, number.next, close.next, comma.next)) in
    rw (take_front n c.signs_of-signs.result signs) at (put_more first rest (omega (arith, c.requires, first.next, number.next, close.next, comma.next)))
