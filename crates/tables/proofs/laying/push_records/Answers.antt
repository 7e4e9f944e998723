use mathlib.Core.Path.{◌≡◌, refl, ap, ◌∙◌}
use Prim.Native.Nat.{ℕ, ◌≤◌, ◌<◌, ◌+◌}
use native.Mathlib.Omega.{arith}
use lib.ListN.{length, length-append}
use Rattle.tables.specs.inside.Held.{appended}
use Rattle.tables.specs.declared.File.{File}
use Rattle.tables.specs.declared.Tables.{Tables}
use Rattle.tables.specs.declared.TableName.{TableName}
use Rattle.tables.specs.Layout.{joined, record_in}
use Rattle.tables.proofs.Appending.{appended_count, appended_more}
use Rattle.tables.proofs.Joining.{joined_more, joined_le}
use Rattle.tables.proofs.laying.push_records.Goals as goal

-- The next record has room in what all of them ask for.
fits :
    (T : Tables) (p : TableName) (f : File) (n k : ℕ) (out : File) → out ≡ appended f (joined (record_in T p) k) → k < n
    → f.count + length (joined (record_in T p) n) ≤ 297 → out.count + length (record_in T p k) ≤ 297
fits T p f n k out o l room =
    let g = record_in T p in
    let more : length (joined g (k + 1)) ≡ length (joined g k) + length (g k) = ap length (joined_more g k) ∙ length-append (joined g k) (g k) in
    let most : length (joined g (k + 1)) ≤ length (joined g n) = joined_le g (k + 1) n (omega arith) in
    omega (arith, ap (λ (x : File). x.count) o, appended_count f (joined g k))

pub loop-k-init : goal.loop-k-init
unfolding joined appended
loop-k-init c = refl

pub push_record-out-requires : goal.push_record-out-requires
push_record-out-requires c =
    let l = c.loop-k in
    let a = c.args in
    fits a.t a.part a.f a.n l.k l.out l.invariant (omega arith) c.requires

pub loop-k-preserved : goal.loop-k-preserved
loop-k-preserved c = rw (c.push_record-out.ensures, c.loop-k.invariant, appended_more, joined_more)
