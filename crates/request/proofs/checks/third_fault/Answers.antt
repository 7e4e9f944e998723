-- `request::checks::third_fault` meets its contract: both moves have one time, so that the second test for 4 says nothing new.
use mathlib.Core.Path.{◌≡◌, refl, ap, ◌∙◌}
use mathlib.Core.Bool.{Bool, true, false, cond}
use mathlib.Core.List.{List}
use Prim.Native.Nat.{ℕ, ◌+◌, ◌-◌, ◌<◌, ◌≤◌}
use native.Mathlib.Omega.{arith}
use lib.Dec.{eqb, ltb}
use lib.ListN.{length}
use Rattle.base.specs.Bytes.{byte_at}
use Rattle.base.specs.Refusals.{first_that}
use Rattle.base.proofs.Paths.{lt_then, lt_else, paths}
use Rattle.tables.specs.declared.Kind.TheVariants.{Third}
use Rattle.tables.specs.declared.DeviceRecord.{DeviceRecord}
use Rattle.tables.specs.Records.{device_at, device_size}
use Rattle.request.specs.Format.{powers_table, device_table}
use Rattle.request.proofs.checks.third_fault.Goals as goal
use Rattle.request.proofs.checks.third_fault.Goals.{then-levels-eq0-via-then-levels-eq0, then-levels-eq0-via-else-levels-eq0+then-levels-gt4}

module _ (s : List ℕ) (at : ℕ) where
  abbrev levels : ℕ
  levels = byte_at s (at + 5)

  abbrev short : Bool
  short = ltb (length s - at) (device_size Third s at)

  -- The table from its last lines on.
  abbrev powers : ℕ
  powers = first_that (powers_table (device_at Third s at))

  abbrev there : ℕ
  there = cond short 1 powers

  abbrev few : ℕ
  few = cond (ltb 4 levels) 26 there

  abbrev some : ℕ
  some = cond (eqb levels 0) 26 few

  abbrev whole : ℕ
  whole = first_that (device_table short (device_at Third s at))

  table : cond (eqb (byte_at s at) 0) 4 some ≡ whole
  unfolding device_table
  table = go (eqb (byte_at s at) 0) some
    where
      go : (a : Bool) (n : ℕ) → ◌≡◌ {A = ℕ} (cond a 4 n) (cond a 4 (cond a 4 n))
      go true n = refl
      go false n = refl

  by : {r : ℕ} → r ≡ cond (eqb (byte_at s at) 0) 4 some → r ≡ whole
  by e = e ∙ table

  -- After the level count: how much of the record is there.
  module _ (size : ℕ) (e : size ≡ device_size Third s at) where
    lacking : length s - at < size → 1 ≡ there
    lacking h = lt_then (length s - at) (device_size Third s at) 1 powers (rw e at h) refl

    judged : {r : ℕ} → size ≤ length s - at → r ≡ powers → r ≡ there
    judged h f = lt_else (length s - at) (device_size Third s at) 1 powers (rw e at h) f

pub returns-then-time-eq0 : goal.returns-then-time-eq0
returns-then-time-eq0 c = let a = c.args in by a.s.now a.at (search paths)

pub returns-then-levels-eq0 : goal.returns-then-levels-eq0
returns-then-levels-eq0 c =
    let a = c.args in
    by a.s.now a.at
    (elim c.then-levels-eq0.branch [
      | then-levels-eq0-via-then-levels-eq0 w ↦ search paths depth 9
      | then-levels-eq0-via-else-levels-eq0+then-levels-gt4 w ↦ search paths depth 9
    ])

pub returns-then-there-size : goal.returns-then-there-size
returns-then-there-size c =
    let a = c.args in
    by a.s.now a.at (search (paths, lacking a.s.now a.at _ c.device_size-size.ensures c.if-there-size.true) depth 9)

pub device_at-requires : goal.device_at-requires
device_at-requires c = omega (arith, c.device_size-size.ensures)

pub returns : goal.returns
returns c =
    let a = c.args in
    let powers = c.powers_check.ensures ∙ ap (λ (d : DeviceRecord). first_that (powers_table d)) c.device_at.ensures in
    by a.s.now a.at (search (paths, judged a.s.now a.at _ c.device_size-size.ensures c.if-there-size.false powers) depth 9)
