-- By how much the rest may fall, as the lent numbers have it and as the vertex has it; and a vertex that waits, which they show as well.
use mathlib.Core.Path.{◌≡◌}
use mathlib.Core.List.{List}
use Prim.Native.Nat.{ℕ, ◌≤◌, ◌<◌}
use lib.Dec.{eqb}
use Rattle.base.proofs.Additions.{sum_same}
use Rattle.schedule.specs.declared.Recorder.{Recorder}
use Rattle.schedule.specs.Quantities.{Valid}
use Rattle.schedule.specs.Visiting.{Vertex, last_end}
use Rattle.value.specs.inside.Leasts.{drop_at, drop_of, waited}
use Rattle.value.proofs.Waits.{waited_reached}
use Rattle.vertex.proofs.Showing.{both}
use Rattle.least.specs.inside.Shown.{fall_by, falls_by, Shows}

module _ (R : Recorder) (valid : Valid R) (l : List ℕ) (a m : ℕ) (v : Vertex) (h : Shows R l a m v) where
  fall_shown : (rise fall : ℕ → ℕ) (j k : ℕ) → k < R.devices.count → fall_by R rise fall l j k ≡ drop_at R rise fall v.placed j k
  unfolding fall_by drop_at
  fall_shown rise fall j k b = rw (h.ends k b, both R.round (eqb (last_end R k 0 v.placed) 0))

  pub falls_shown : (rise fall : ℕ → ℕ) (j : ℕ) → falls_by R rise fall l j ≡ drop_of R rise fall v j
  falls_shown rise fall j = sum_same R.devices.count (fall_by R rise fall l j) (drop_at R rise fall v.placed j) (fall_shown rise fall j)

  pub waited_shown : (u : ℕ) → v.time ≤ u → u ≤ R.horizon → Shows R l a m (waited R v u)
  waited_shown u q b =
      record {
        reached = waited_reached R m v h.reached u q b;
        long = h.long;
        set = h.set;
        ends = h.ends;
        firsts = h.firsts;
        aheads = h.aheads;
        load = h.load;
      }
