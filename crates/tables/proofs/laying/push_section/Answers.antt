-- A table is its count and its records.
use mathlib.Core.Path.{◌≡◌, ap}
use mathlib.Core.List.{[], ◌∷◌}
use Prim.Native.Nat.{◌+◌}
use native.Mathlib.Omega.{arith}
use lib.ListN.{length}
use Rattle.tables.specs.inside.Held.{limited}
use Rattle.tables.specs.declared.File.{File}
use Rattle.tables.specs.Layout.{joined, section_of, record_in}
use Rattle.tables.proofs.Appending.{appended_count, appended_more}
use Rattle.tables.proofs.Joining.{length_section, record_limited, count_limited}
use Rattle.tables.proofs.laying.push_section.Goals as goal

pub overflow_cast-n : goal.overflow_cast-n
overflow_cast-n c = omega (arith, c.count_of-n.ensures, count_limited c.args.t c.args.part)

pub push-counted-requires : goal.push-counted-requires
push-counted-requires c = omega (arith, length_section (limited c.args.t) c.args.part)

pub push_records-requires : goal.push_records-requires
push_records-requires c =
    let a = c.args in
    let n = c.count_of-n in
    let whole : length (section_of (limited a.t) a.part) ≡ 1 + length (joined (record_in a.t a.part) n.result) =
    rw n.ensures (rw (record_limited a.t a.part) at (length_section (limited a.t) a.part)) in
    omega (arith, whole, ap (λ (x : File). x.count) c.push-counted.ensures, appended_count a.f (n.result ∷ []), c.requires)

pub returns : goal.returns
unfolding section_of
returns c =
    let a = c.args in
    let n = c.count_of-n in
    rw (c.push_records.ensures, c.push-counted.ensures, n.ensures, ← record_limited a.t a.part, appended_more)
