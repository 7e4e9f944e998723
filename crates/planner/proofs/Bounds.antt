-- No plan of a request file costs more than 2,147,450,880 (rule 7), since each power of it is a number of two bytes: so every energy that is answered fits 32 bits.
use mathlib.Core.Path.{refl, subst}
use mathlib.Core.List.{List}
use Prim.Native.Nat.{ℕ, ◌+◌, ◌*◌, ◌<◌, ◌≤◌}
use native.Mathlib.Omega.{arith}
use Rattle.base.specs.Bytes.{byte_at}
use Rattle.base.proofs.Arrays.{get_d_held, get_d_up_to, length_up_to}
use Rattle.schedule.specs.declared.Recorder.{Recorder}
use Rattle.schedule.specs.Quantities.{no_device, device}
use Rattle.schedule.specs.Listing.{Costs}
use Rattle.schedule.proofs.Bounds.{plan_energy_most}
use Rattle.schedule.proofs.Outcome.{costs_only}
use Rattle.tables.specs.declared.Kind.{Kind}
use Rattle.tables.specs.declared.Kind.TheVariants.{First, Second, Third}
use Rattle.tables.specs.Records.{device_at}
use Rattle.tables.specs.Layout.{kind_of, body_of, device_place, Bytes}
use Rattle.tables.proofs.Back.{body_bytes}
use Rattle.request.specs.Format.{devices_in, vacant_device, recorder_as, read_of}
use Rattle.request.proofs.Accepted.{accepted_valid, accepted_as}
use Rattle.planner.specs.declared.Answer.{Answer}
use Rattle.planner.specs.Promises.{stops, passes, faulty, feasible, gives_such, refused, read, found, Reads, Judged, Rowed, Searched, VerdictOf, RowsOf, SearchOf}

-- A number of two bytes.
pair_most : (a b : ℕ) → a < 256 → b < 256 → a * 256 + b ≤ 65535
pair_most a b h l = omega arith

power_most : (k : Kind) (s : List ℕ) → Bytes s → (at : ℕ) → (device_at k s at).pw ≤ 65535
power_most First s b at = pair_most (byte_at s (at + 1)) (byte_at s (at + 1 + 1)) (b (at + 1)) (b (at + 1 + 1))
power_most Second s b at = pair_most (byte_at s (at + 2)) (byte_at s (at + 2 + 1)) (b (at + 2)) (b (at + 2 + 1))
power_most Third s b at = pair_most (byte_at s (at + 1)) (byte_at s (at + 1 + 1)) (b (at + 1)) (b (at + 1 + 1))

powers_as : (k : Kind) (s : List ℕ) → Bytes s → (i : ℕ) → i < (recorder_as k s).devices.count → (device (recorder_as k s) i).pw ≤ 65535
unfolding recorder_as
powers_as k s b i l =
    let m : i < byte_at s 2 = rw length_up_to at l in
    rw (get_d_held 8 vacant_device (devices_in k s) i no_device l, get_d_up_to _ _ _ _ m) (power_most k s b (device_place k s i))

module _ (file : List ℕ) (b : Bytes file) (R : Recorder) (r : Reads file R) where
  pub powers_most : (k : ℕ) → k < R.devices.count → (device R k).pw ≤ 65535
  unfolding read_of
  powers_most =
      subst (λ (Q : Recorder). (k : ℕ) → k < Q.devices.count → (device Q k).pw ≤ 65535) (accepted_as (kind_of file) (body_of file) R r).1
      (powers_as (kind_of file) (body_of file) (body_bytes file b))

  pub energy_most : (s : List ℕ) (e : ℕ) → Costs R s e → e ≤ 2147450880
  energy_most s e c =
      let valid = accepted_valid file R r in
      rw (costs_only R valid c) (plan_energy_most R valid powers_most s)

-- ---- what is answered

module _ (file : List ℕ) (b : Bytes file) (R : Recorder) (r : Reads file R) where
  judged_of : (starts : List ℕ) (a : Answer) → VerdictOf starts R a → a.energy ≤ 2147450880
  judged_of starts a (stops h) = omega arith
  judged_of starts a (passes h (faulty f)) = omega arith
  judged_of starts a (passes h (feasible f (gives_such {x = e} c))) = energy_most file b R r starts e c

  rowed_of : (starts lent : List ℕ) (a : Answer) (after : List ℕ) → RowsOf starts lent R a after → a.energy ≤ 2147450880
  rowed_of starts lent a after (stops h) = omega arith
  rowed_of starts lent a after (passes h (stops l)) = omega arith
  rowed_of starts lent a after (passes h (passes l (faulty f))) = omega arith
  rowed_of starts lent a after (passes h (passes l (feasible f (gives_such {x = rows} g)))) =
      energy_most file b R r starts _ (record { rows = rows; least = g; sums = refl })

  searched_of : (budget : ℕ) (lent : List ℕ) (a : Answer) (after : List ℕ) → SearchOf budget lent R a after → a.energy ≤ 2147450880
  searched_of budget lent a after (stops h) = omega arith
  searched_of budget lent a after (passes h (stops l)) = omega arith
  searched_of budget lent a after (passes h (passes l (stops n))) = omega arith
  searched_of budget lent a after (passes h (passes l (passes n (found {s = s} {e = e} f)))) = energy_most file b R r s e f.costs

module _ (file : List ℕ) (b : Bytes file) where
  pub judged_most : (starts : List ℕ) (a : Answer) → Judged file starts a → a.energy ≤ 2147450880
  judged_most starts a (refused r) = omega arith
  judged_most starts a (read {R = R} r t) = judged_of file b R r starts a t

  pub rowed_most : (starts lent : List ℕ) (a : Answer) (after : List ℕ) → Rowed file starts lent a after → a.energy ≤ 2147450880
  rowed_most starts lent a after (refused r) = omega arith
  rowed_most starts lent a after (read {R = R} r t) = rowed_of file b R r starts lent a after t

  pub searched_most : (budget : ℕ) (lent : List ℕ) (a : Answer) (after : List ℕ) → Searched file budget lent a after → a.energy ≤ 2147450880
  searched_most budget lent a after (refused r) = omega arith
  searched_most budget lent a after (read {R = R} r t) = searched_of file b R r budget lent a after t
