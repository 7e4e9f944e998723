-- `vertex::gaps::close_with` meets its contract.
use mathlib.Core.Path.{◌≡◌, ◌∙◌}
use Prim.Native.Nat.{◌+◌, ◌-◌, ◌≤◌}
use native.Mathlib.Omega.{arith}
use Rattle.schedule.specs.Quantities.{device}
use Rattle.flat.specs.inside.Flat.{recorder_of}
use Rattle.keys.specs.inside.Keys.{extra}
use Rattle.vertex.proofs.gaps.close_with.Goals as goal

pub overflow_sub-h : goal.overflow_sub-h
overflow_sub-h c =
    let room : (c.args.end ≤ c.args.h) × (c.args.first + (c.args.h - c.args.end) ≤ (recorder_of c.args.r.now).horizon) = let p = c.requires.1.1 in (p.1.0, omega (arith, p.0, p.1.0, p.1.1)) in
    omega (arith, room.0)

pub overflow_add-first : goal.overflow_add-first
overflow_add-first c =
    let room : (c.args.end ≤ c.args.h) × (c.args.first + (c.args.h - c.args.end) ≤ (recorder_of c.args.r.now).horizon) = let p = c.requires.1.1 in (p.1.0, omega (arith, p.0, p.1.0, p.1.1)) in
    omega (arith, room.1, c.requires.0.valid.few_ticks)

pub extra_of-close-requires : goal.extra_of-close-requires
extra_of-close-requires c =
    let room : (c.args.end ≤ c.args.h) × (c.args.first + (c.args.h - c.args.end) ≤ (recorder_of c.args.r.now).horizon) = let p = c.requires.1.1 in (p.1.0, omega (arith, p.0, p.1.0, p.1.1)) in
    let r = room.1 in
    (omega (arith, c.requires.1.0, c.requires.0.valid.few_devices), (omega (arith, r, c.requires.0.valid.few_ticks), omega (arith, r, c.requires.0.room.reach (omega (arith, c.requires.1.0)))))

pub returns-then-is_unused : goal.returns-then-is_unused
returns-then-is_unused c = (rw (← c.is_unused.ensures, c.if-is_unused.true), omega arith)

pub returns-else-is_unused : goal.returns-else-is_unused
returns-else-is_unused c =
    let room : (c.args.end ≤ c.args.h) × (c.args.first + (c.args.h - c.args.end) ≤ (recorder_of c.args.r.now).horizon) = let p = c.requires.1.1 in (p.1.0, omega (arith, p.0, p.1.0, p.1.1)) in
    let a = c.args in
    let g = a.first + (a.h - a.end) in
    let is : c.extra_of-close.result ≡ extra (device (recorder_of a.r.now) a.k) (a.first + (a.h - a.end))
    = c.extra_of-close.ensures ∙ c.requires.0.extras a.k g c.requires.1.0 room.1 in
    (rw (← c.is_unused.ensures, c.if-is_unused.false) is, omega (arith, is, c.requires.0.extra_most a.k g c.requires.1.0 room.1))
