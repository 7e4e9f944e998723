-- One observation makes an entry right: what was counted below one vertex is counted below every vertex with its key and its slack.
use mathlib.Core.Path.{◌≡◌, sym, ap, ◌∙◌, subst}
use Prim.Native.Nat.{ℕ, suc, ◌+◌, ◌*◌, ◌≤◌, ◌<◌}
use native.Mathlib.Omega.{arith}
use Rattle.schedule.specs.declared.Recorder.{Recorder}
use Rattle.schedule.specs.Quantities.{jobs, Valid}
use Rattle.schedule.specs.Visiting.{Vertex, Visited, choices, floor, visit}
use Rattle.schedule.proofs.Tree.{Reached}
use Rattle.latest.specs.inside.Sparing.{set_of}
use Rattle.latest.proofs.Spared.{reached_set}
use Rattle.latest.proofs.Tabled.{power_few}
use Rattle.keys.specs.inside.Keys.{Caps}
use Rattle.stored.specs.declared.Key.{Key}
use Rattle.stored.specs.inside.Naming.{Named}
use Rattle.stored.proofs.Keyed.{named_same}
use Rattle.recall.specs.inside.Slack.{more, Slack}
use Rattle.recall.specs.inside.Entries.{slacked_by}
use Rattle.recall.specs.inside.Counts.{Counts}
use Rattle.recall.proofs.Beside.{choices_counted}

module _ (R : Recorder) (valid : Valid R) (cap : ℕ → ℕ) where
  -- The head of a key leaves room for the slack.
  pub named_head : (m : ℕ) (v : Vertex) → Reached R m v → (k : Key) → Named R cap k v → k.head < 536870912
  named_head m v h k e =
      let few : set_of v.unplaced < 65536 = omega (arith, (reached_set R valid m v h).0, power_few (jobs R) valid.few_jobs) in
      omega (arith, e.head, h.time, valid.few_ticks)

  -- A key with a slack tells both.
  slack_told : (k k' : Key) (x x' : ℕ) → k.head < 536870912 → k'.head < 536870912 → slacked_by k x ≡ slacked_by k' x' → (k.head ≡ k'.head) × (x ≡ x')
  unfolding slacked_by
  slack_told k k' x x' b b' e = apart k.head k'.head x x' b b' (ap (λ (q : Key). q.head) e)
    where
      apart : (a a' x x' : ℕ) → a < 536870912 → a' < 536870912 → a + 536870912 * x ≡ a' + 536870912 * x' → (a ≡ a') × (x ≡ x')
      apart a a' x x' b b' e = (omega arith, omega arith)

  named_told : (k k' : Key) (x x' : ℕ) (w : Vertex) → slacked_by k x ≡ slacked_by k' x' → k.head ≡ k'.head → Named R cap k' w → Named R cap k w
  unfolding slacked_by
  named_told k k' x x' w e f h =
      record {
        head = h.head ∙ sym f;
        idle = h.idle ∙ sym (ap (λ (q : Key). q.idle) e);
        idle4 = h.idle4 ∙ sym (ap (λ (q : Key). q.idle4) e);
        first = h.first ∙ sym (ap (λ (q : Key). q.first) e);
        first4 = h.first4 ∙ sym (ap (λ (q : Key). q.first4) e);
      }

  pub counts_none : (q : Key) → Counts R cap q 0
  unfolding Counts
  counts_none q z = absurd (omega arith)

  pub named_counts :
      Caps R cap → ((k : ℕ) → k < R.devices.count → cap k ≤ 4096) → (m : ℕ) (v : Vertex) → Reached R (suc m) v → (k : Key) → Named R cap k v
      → (x : ℕ) (st : Visited) → Slack R (floor R v) st.best x → (n : ℕ) → choices R (visit R m) v st ≡ more n st → Counts R cap (slacked_by k x) n
  unfolding Counts
  named_counts caps low m v h k e x st s n seen z k' x' q m' w h' e' st' s' =
      let told = slack_told k k' x x' (named_head (suc m) v h k e) (named_head (suc m') w h' k' e') q in
      let same = named_same R valid cap caps low (suc m) (suc m') v w h h' k e (named_told k k' x x' w q told.0 e') in
      let size : m ≡ m' = omega (arith, same.0) in
      subst (λ (i : ℕ). choices R (visit R i) w st' ≡ more n st') size
      (choices_counted R valid cap caps m v w h (subst (λ (i : ℕ). Reached R (suc i) w) (sym size) h') same.1 x st st' s
      (subst (Slack R (floor R w) st'.best) (sym told.1) s') n seen)
