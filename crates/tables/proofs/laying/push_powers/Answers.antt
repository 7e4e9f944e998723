-- `tables::laying::push_powers` meets its contract: each power after those before it.
use mathlib.Core.Path.{◌≡◌, ◌∙◌}
use mathlib.Core.List.{List, ◌++◌}
use Prim.Native.Nat.{ℕ, ◌+◌}
use native.Mathlib.Omega.{arith}
use lib.ListN.{length, length-append}
use Rattle.tables.specs.declared.DeviceRecord.{DeviceRecord}
use Rattle.tables.specs.Records.{power_bytes, powers_bytes}
use Rattle.tables.proofs.Appending.{counted, appended_more}
use Rattle.tables.proofs.laying.push_powers.Goals as goal

-- Each has room where all have.
module _ (d : DeviceRecord) where
  abbrev p : ℕ → ℕ → List ℕ
  p i power = power_bytes d.levels i power

  abbrev p₀ : List ℕ
  p₀ = p 0 d.ps

  abbrev p₁ : List ℕ
  p₁ = p 1 d.ps2

  abbrev p₂ : List ℕ
  p₂ = p 2 d.ps3

  abbrev p₃ : List ℕ
  p₃ = p 3 d.ps4

  long : length (powers_bytes d) ≡ length p₀ + length p₁ + length p₂ + length p₃
  long = omega (arith, length-append p₀ (p₁ ++ (p₂ ++ p₃)), length-append p₁ (p₂ ++ p₃), length-append p₂ p₃)

pub push_power-b-requires : goal.push_power-b-requires
push_power-b-requires c =
    let d = c.args.d in
    omega (arith, long d, c.requires, counted _ _ _ c.push_power-a.ensures)

pub push_power-c-requires : goal.push_power-c-requires
push_power-c-requires c =
    let d = c.args.d in
    omega (arith, long d, c.requires, counted _ _ _ c.push_power-a.ensures, counted _ _ _ c.push_power-b.ensures)

pub push_power-requires : goal.push_power-requires
push_power-requires c =
    let d = c.args.d in
    omega (arith, long d, c.requires, counted _ _ _ c.push_power-a.ensures, counted _ _ _ c.push_power-b.ensures, counted _ _ _ c.push_power-c.ensures)

pub returns : goal.returns
returns c =
    let d = c.args.d in
    rw (c.push_power.ensures, c.push_power-c.ensures, c.push_power-b.ensures, c.push_power-a.ensures)
    (appended_more _ (p₂ d) (p₃ d) ∙ appended_more _ (p₁ d) _ ∙ appended_more _ (p₀ d) _)
