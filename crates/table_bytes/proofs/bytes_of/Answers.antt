-- `table_bytes::bytes_of` meets its contract.
use mathlib.Core.Path.{◌≡◌, ap, ◌∙◌}
use mathlib.Core.List.{◌++◌}
use Prim.Native.Nat.{ℕ, ◌≤◌}
use native.Mathlib.Omega.{arith}
use lib.ListN.{length, length-append}
use Rattle.tables.specs.declared.Kind.{Kind}
use Rattle.tables.specs.declared.Tables.{Tables}
use Rattle.tables.specs.declared.File.{File}
use Rattle.tables.specs.declared.TableName.TheVariants.{Devices, Tasks, Jobs}
use Rattle.tables.specs.Layout.{joined, record_in}
use Rattle.tables.specs.inside.Held.{held, appended}
use Rattle.tables.proofs.Appending.{appended_more, held_more}
use Rattle.tables.proofs.Joining.{length_devices, length_tasks, length_jobs}
use Rattle.table_bytes.specs.TableBytes.{head_of, table_bytes, Few}
use Rattle.tables.proofs.Appending.{counted}
use Rattle.table_bytes.proofs.bytes_of.Goals as goal

-- How many bytes there are at most after each part.
nine : (f : File) (k : Kind) (horizon d t j : ℕ) → f ≡ held (head_of k horizon d t j) → f.count ≡ 9
unfolding held
nine f k horizon d t j e = ap (λ (x : File). x.count) e

module _ (T : Tables) (few : Few T) where
  after_devices : (f g : File) → f.count ≡ 9 → g ≡ appended f (joined (record_in T Devices) T.devices.count) → g.count ≤ 121
  after_devices f g n e = omega (arith, few.devices, counted _ _ _ e, length_devices T T.devices.count)

  after_tasks : (f g : File) → f.count ≤ 121 → g ≡ appended f (joined (record_in T Tasks) T.tasks.count) → g.count ≤ 161
  after_tasks f g n e = omega (arith, few.tasks, counted _ _ _ e, length_tasks T T.tasks.count)

pub push_records-second-requires : goal.push_records-second-requires
push_records-second-requires c =
    let t = c.args.t in
    omega (arith, nine _ _ _ _ _ _ c.head-first.ensures, c.requires.devices, length_devices t t.devices.count)

pub push_records-third-requires : goal.push_records-third-requires
push_records-third-requires c =
    let t = c.args.t in
    omega (arith, after_devices t c.requires _ _ (nine _ _ _ _ _ _ c.head-first.ensures) c.push_records-second.ensures, c.requires.tasks, length_tasks t t.tasks.count)

pub push_records-requires : goal.push_records-requires
push_records-requires c =
    let t = c.args.t in
    let before = after_devices t c.requires _ _ (nine _ _ _ _ _ _ c.head-first.ensures) c.push_records-second.ensures in
    omega (arith, after_tasks t c.requires _ _ before c.push_records-third.ensures, c.requires.jobs, length_jobs t t.jobs.count)

pub returns : goal.returns
unfolding table_bytes
returns c =
    let t = c.args.t in
    let p = c.requires in
    let before = after_devices t p _ _ (nine _ _ _ _ _ _ c.head-first.ensures) c.push_records-second.ensures in
    let h = head_of t.kind t.horizon t.devices.count t.tasks.count t.jobs.count in
    let ds = joined (record_in t Devices) t.devices.count in
    let ts = joined (record_in t Tasks) t.tasks.count in
    let js = joined (record_in t Jobs) t.jobs.count in
    let all : length (ds ++ (ts ++ js)) ≤ 264 =
    omega (arith, p.devices, p.tasks, p.jobs, length-append ds (ts ++ js), length-append ts js, length_devices t t.devices.count, length_tasks t t.tasks.count, length_jobs t t.jobs.count) in (
      rw (c.push_records.ensures, c.push_records-third.ensures, c.push_records-second.ensures, c.head-first.ensures)
          (appended_more _ ts js ∙ appended_more (held h) ds (ts ++ js) ∙ held_more h (ds ++ (ts ++ js)) (omega (arith, all))),
      omega (arith, after_tasks t p _ _ before c.push_records-third.ensures, p.jobs, counted _ _ _ c.push_records.ensures, length_jobs t t.jobs.count),
    )
