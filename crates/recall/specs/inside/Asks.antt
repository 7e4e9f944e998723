-- What was asked of a vertex.
use Rattle.std.specs.Prelude.{◌≡◌, List, ℕ, suc, IfSome}
use Rattle.schedule.specs.declared.Recorder.{Recorder}
use Rattle.schedule.specs.Visiting.{Vertex, Visited, choices, floor, visit}
use Rattle.vertex.specs.inside.Shown.{Shows}
use Rattle.stored.specs.inside.Naming.{key_by}
use Rattle.recall.specs.declared.asking.Asked.{Asked}
use Rattle.recall.specs.inside.Slack.{more, Slack}
use Rattle.recall.specs.inside.Entries.{slacked_by}

-- The key of the numbers l with the slack; and so many vertices are counted below each vertex that they show, where the best has that slack and stays.
pub record Asks (R : Recorder) (cap : ℕ → ℕ) (l : List ℕ) (jobs time slack : ℕ) (a : Asked) : Type 0 where
  pub key : a.key ≡ slacked_by (key_by R cap l jobs time) slack
  pub told :
      IfSome a.count
      (λ n. (m : ℕ) (u : Vertex) → Shows R l jobs (suc m) u → u.time ≡ time → (st : Visited) → Slack R (floor R u) st.best slack
      → choices R (visit R m) u st ≡ more n st)
