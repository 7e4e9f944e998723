use mathlib.Core.Path.{◌≡◌, refl, ◌∙◌}
use Prim.Native.Nat.{ℕ, ◌+◌, ◌-◌, ◌*◌, ◌<◌}
use mathlib.Core.List.{List}
use native.Mathlib.Omega.{arith}
use Rattle.base.specs.Bytes.{pair_at}
use Rattle.request.specs.Euclid.{lcm_of}
use Rattle.request.specs.Format.{lcm_from}
use Rattle.request.specs.inside.Held.{SoundTasks}
use Rattle.request.proofs.Checked.{sound_first, sound_next}
use Rattle.request.proofs.Multiples.{lcm_none, lcm_more, le_lcm_from}
use Rattle.request.proofs.horizon.task_horizon.Goals as goal

-- The tasks after task i, and the least common multiple with them.
rest : (s : List ℕ) (n from i : ℕ) → i < n → SoundTasks s (n - i) (from + i * 5) → SoundTasks s (n - (i + 1)) (from + (i + 1) * 5)
rest s n from i l ok =
    let e : n - (i + 1) ≡ n - i - 1 = omega arith in
    let f : from + (i + 1) * 5 ≡ from + i * 5 + 5 = omega arith in
    rw (e, f) (sound_next _ _ _ (omega arith) ok)

step : (s : List ℕ) (n from i h : ℕ) → i < n → lcm_from s (n - i) (from + i * 5) h ≡ lcm_from s (n - (i + 1)) (from + (i + 1) * 5) (lcm_of h (pair_at s (from + i * 5)))
step s n from i h l =
    let e : n - (i + 1) ≡ n - i - 1 = omega arith in
    let f : from + (i + 1) * 5 ≡ from + i * 5 + 5 = omega arith in
    rw (e, f) (lcm_more s (n - i) (from + i * 5) h (omega arith))

pub loop-i-init : goal.loop-i-init
loop-i-init c =
    let e : c.args.tasks - 0 ≡ c.args.tasks = omega arith in
    let f : c.args.from + 0 ≡ c.args.from = omega arith in
    rw (e, f) (c.requires, omega arith, refl)

pub pair_at-period-requires : goal.pair_at-period-requires
pair_at-period-requires c = omega (arith, c.requires.there)

pub lcm-h-requires : goal.lcm-h-requires
lcm-h-requires c =
    let l = c.loop-i in
    let p = sound_first _ _ _ (omega arith) l.invariant.0 in
    rw (c.from.ensures, c.pair_at-period.ensures) (l.invariant.1, p.1, p.0)

pub returns-then-h-gt4096 : goal.returns-then-h-gt4096
returns-then-h-gt4096 c =
    let l = c.loop-i in
    let a = c.args in
    let t : l.i < a.tasks = omega arith in
    let more = rw (← c.pair_at-period.ensures, ← c.from.ensures, ← c.lcm-h.ensures) at (step a.s.now a.tasks a.from l.i l.h t) in
    omega (arith, more, le_lcm_from a.s.now (a.tasks - (l.i + 1)) (a.from + (l.i + 1) * 5) c.lcm-h.result (λ i m. ((rest a.s.now a.tasks a.from l.i t l.invariant.0).periods i m).0))

pub loop-i-preserved : goal.loop-i-preserved
loop-i-preserved c =
    let l = c.loop-i in
    let a = c.args in
    let t : l.i < a.tasks = omega arith in
    (rest a.s.now a.tasks a.from l.i t l.invariant.0, omega arith, rw (c.lcm-h.ensures, c.from.ensures, c.pair_at-period.ensures) (l.invariant.2 ∙ step a.s.now a.tasks a.from l.i l.h t))

pub returns : goal.returns
returns c =
    let l = c.loop-i in
    omega (arith, lcm_none c.args.s.now (c.args.tasks - l.i) (c.args.from + l.i * 5) l.h (omega arith))
