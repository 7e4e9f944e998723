-- What the visit may remember of a vertex: by how much the best lies above its floor, and how many vertices its children count where they leave the best.
use Rattle.std.specs.Prelude.{◌≡◌, List, ℕ, ◌+◌, ◌<◌}
use Rattle.std.proofs.Math.Option.{Option, none, some}
use Rattle.schedule.specs.declared.Recorder.{Recorder}
use Rattle.schedule.specs.Visiting.{Visited, plan_energy}

-- So many vertices more, and the same best.
abbrev pub more : ℕ → Visited → Visited
more n st = record { count = st.count + n; best = st.best }

-- The slack x of a best above the floor f: 0 where there is no best; and else by how much it lies above the floor, which is not 0.
unfoldable pub Slack : Recorder → ℕ → Option (List ℕ) → ℕ → Type 0
Slack R f none x = x ≡ 0
Slack R f (some s) x = (0 < x) × (plan_energy R s ≡ f + x)
