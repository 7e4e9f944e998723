-- The mark of the kind, the horizon field, then the three tables.
use mathlib.Core.Path.{◌≡◌, ap, ◌∙◌}
use mathlib.Core.List.{[]}
use Prim.Native.Nat.{◌≤◌}
use native.Mathlib.Omega.{arith}
use Rattle.tables.specs.declared.File.{File}
use Rattle.tables.specs.declared.Tables.{Tables}
use Rattle.tables.specs.declared.TableName.TheVariants.{Devices, Tasks, Jobs}
use Rattle.base.specs.Bytes.{pair_bytes}
use Rattle.tables.specs.Layout.{marker, section_of, layout_of, bytes_of}
use Rattle.tables.specs.inside.Held.{limited, held, appended}
use Rattle.tables.proofs.Appending.{counted, appended_more, held_all}
use Rattle.tables.proofs.Joining.{length_marker, devices_short, tasks_short, jobs_short, limited_fits}
use Rattle.tables.proofs.laying.file_of.Goals as goal

-- How many bytes there are at most after each part.
none : (e : File) → e ≡ held [] → e.count ≡ 0
unfolding held
none e h = ap (λ (f : File). f.count) h

module _ (t : Tables) where
  marked : (e m : File) → e ≡ held [] → m ≡ appended e (marker t.kind) → m.count ≤ 2
  marked e m h k = omega (arith, none _ h, counted _ _ _ k, length_marker t.kind)

  headed : (m a : File) → m.count ≤ 2 → a ≡ appended m (pair_bytes t.horizon) → a.count ≤ 4
  headed m a l k = omega (arith, counted _ _ _ k)

  devices_laid : (a b : File) → a.count ≤ 4 → b ≡ appended a (section_of (limited t) Devices) → b.count ≤ 131
  devices_laid a b l k = omega (arith, counted _ _ _ k, devices_short t)

  tasks_laid : (b c : File) → b.count ≤ 131 → c ≡ appended b (section_of (limited t) Tasks) → c.count ≤ 177
  tasks_laid b c l k = omega (arith, counted _ _ _ k, tasks_short t)

pub push_marker-marked-requires : goal.push_marker-marked-requires
push_marker-marked-requires c = omega (arith, none _ c.empty.ensures)

pub push_pair-a-requires : goal.push_pair-a-requires
push_pair-a-requires c = omega (arith, marked c.args.t _ _ c.empty.ensures c.push_marker-marked.ensures)

pub push_section-b-requires : goal.push_section-b-requires
push_section-b-requires c =
    let t = c.args.t in
    omega (arith, headed t _ _ (marked t _ _ c.empty.ensures c.push_marker-marked.ensures) c.push_pair-a.ensures, devices_short t)

pub push_section-c-requires : goal.push_section-c-requires
push_section-c-requires c =
    let t = c.args.t in
    omega (arith, devices_laid t _ _ (headed t _ _ (marked t _ _ c.empty.ensures c.push_marker-marked.ensures) c.push_pair-a.ensures) c.push_section-b.ensures, tasks_short t)

pub push_section-requires : goal.push_section-requires
push_section-requires c =
    let t = c.args.t in
    let before = devices_laid t _ _ (headed t _ _ (marked t _ _ c.empty.ensures c.push_marker-marked.ensures) c.push_pair-a.ensures) c.push_section-b.ensures in
    omega (arith, tasks_laid t _ _ before c.push_section-c.ensures, jobs_short t)

pub returns : goal.returns
unfolding bytes_of layout_of limited
returns c =
    let t = c.args.t in
    let T = limited t in
    let first = c.push_marker-marked.ensures ∙ ap (λ (f : File). appended f (marker T.kind)) c.empty.ensures in
    rw (c.push_section.ensures, c.push_section-c.ensures, c.push_section-b.ensures, c.push_pair-a.ensures, first)
    (appended_more _ (section_of T Tasks) (section_of T Jobs) ∙ appended_more _ (section_of T Devices) _ ∙ appended_more _ (pair_bytes T.horizon) _
    ∙ appended_more (held []) (marker T.kind) _ ∙ held_all (bytes_of T) (limited_fits t))
