-- What an entry says.
use Rattle.std.specs.Prelude.{◌≡◌, ℕ, suc, ◌<◌}
use Rattle.schedule.specs.declared.Recorder.{Recorder}
use Rattle.schedule.specs.Visiting.{Vertex, Visited, choices, floor, visit}
use Rattle.schedule.proofs.Tree.{Reached}
use Rattle.stored.specs.declared.Key.{Key}
use Rattle.stored.specs.inside.Naming.{Named}
use Rattle.recall.specs.inside.Slack.{more, Slack}
use Rattle.recall.specs.inside.Entries.{slacked_by}

-- Below each vertex that has the key and the slack of q, n vertices are counted and the best is left as it is; a count of 0 says nothing.
unfoldable pub Counts : Recorder → (ℕ → ℕ) → Key → ℕ → Type 0
Counts R cap q n =
    0 < n → (k : Key) (x : ℕ) → q ≡ slacked_by k x → (m : ℕ) (v : Vertex) → Reached R (suc m) v → Named R cap k v → (st : Visited) → Slack R (floor R v) st.best x
    → choices R (visit R m) v st ≡ more n st
