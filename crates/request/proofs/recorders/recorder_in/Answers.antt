-- `request::recorders::recorder_in` meets its contract.
use mathlib.Core.Path.{◌≡◌}
use Prim.Native.Nat.{◌+◌, ◌≤◌}
use native.Mathlib.Omega.{arith}
use Rattle.base.specs.Bytes.{byte_at}
use Rattle.base.proofs.Records.{after_from_lem}
use Rattle.tables.specs.Records.{device_size}
use Rattle.tables.specs.Layout.{task_count, tasks_place}
use Rattle.request.specs.Format.{horizon_in, recorder_as}
use Rattle.request.specs.inside.Held.{SoundTasks}
use Rattle.request.proofs.Checked.{tasks_sound, jobs_room}
use Rattle.request.proofs.Faultless.{Faultless, faultless, length_jobs}
use Rattle.request.proofs.Packed.{packed_held}
use Rattle.request.proofs.recorders.recorder_in.Goals as goal

pub bounds-s-2 : goal.bounds-s-2
bounds-s-2 c =
    let ok : Faultless c.args.kind c.args.s.now = faultless _ _ c.requires in
    omega (arith, ok)

pub overflow_cast-n : goal.overflow_cast-n
overflow_cast-n c =
    let ok : Faultless c.args.kind c.args.s.now = faultless _ _ c.requires in
    omega (arith, ok)

pub device_place-place-requires : goal.device_place-place-requires
device_place-place-requires c =
    let ok : Faultless c.args.kind c.args.s.now = faultless _ _ c.requires in
    omega (arith, ok)

pub bounds-s-place : goal.bounds-s-place
bounds-s-place c =
    let ok : Faultless c.args.kind c.args.s.now = faultless _ _ c.requires in
    rw c.device_place-place.ensures ok.tasks_there

pub overflow_cast-tasks : goal.overflow_cast-tasks
overflow_cast-tasks c =
    let ok : Faultless c.args.kind c.args.s.now = faultless _ _ c.requires in
    rw c.device_place-place.ensures (omega (arith, ok))

pub overflow_add-place : goal.overflow_add-place
overflow_add-place c =
    let ok : Faultless c.args.kind c.args.s.now = faultless _ _ c.requires in
    rw c.device_place-place.ensures (omega (arith, ok))

pub horizon_of-h-requires : goal.horizon_of-h-requires
horizon_of-h-requires c =
    let ok : Faultless c.args.kind c.args.s.now = faultless _ _ c.requires in
    let from-three : 3 ≤ tasks_place c.args.kind c.args.s.now = let a = c.args in after_from_lem (device_size a.kind a.s.now) (byte_at a.s.now 2) 3 in
    let sound : (let s = c.args.s.now in let k = c.args.kind in SoundTasks s (task_count k s) (tasks_place k s + 1)) = tasks_sound _ _ _ _ (omega (arith, ok)) ok.task_records in
    rw c.device_place-place.ensures (sound, omega (arith, from-three))

pub devices_of-devices-requires : goal.devices_of-devices-requires
devices_of-devices-requires c =
    let ok : Faultless c.args.kind c.args.s.now = faultless _ _ c.requires in
    let k = ok in
    (k.few_devices, omega (arith, k.tasks_there))

pub overflow_add-place-2 : goal.overflow_add-place-2
overflow_add-place-2 c =
    let ok : Faultless c.args.kind c.args.s.now = faultless _ _ c.requires in
    rw c.device_place-place.ensures (omega (arith, ok))

pub overflow_add-place-3 : goal.overflow_add-place-3
overflow_add-place-3 c =
    let ok : Faultless c.args.kind c.args.s.now = faultless _ _ c.requires in
    rw c.device_place-place.ensures (omega (arith, ok))

pub overflow_mul-tasks : goal.overflow_mul-tasks
overflow_mul-tasks c =
    let ok : Faultless c.args.kind c.args.s.now = faultless _ _ c.requires in
    rw c.device_place-place.ensures (omega (arith, ok))

pub overflow_add-place-4 : goal.overflow_add-place-4
overflow_add-place-4 c =
    let ok : Faultless c.args.kind c.args.s.now = faultless _ _ c.requires in
    rw c.device_place-place.ensures (omega (arith, ok.jobs.there, ok))

pub jobs_of-jobs-requires : goal.jobs_of-jobs-requires
jobs_of-jobs-requires c =
    let ok : Faultless c.args.kind c.args.s.now = faultless _ _ c.requires in
    let sound : (let s = c.args.s.now in let k = c.args.kind in SoundTasks s (task_count k s) (tasks_place k s + 1)) = tasks_sound _ _ _ _ (omega (arith, ok)) ok.task_records in
    let same : c.horizon_of-h.result ≡ horizon_in c.args.kind c.args.s.now = let e = rw c.device_place-place.ensures at c.horizon_of-h.ensures in
    omega (arith, ok.jobs) in
    let k = ok in
    let room = jobs_room _ _ _ _ _ (omega (arith, k.jobs.there)) k.jobs.records in
    let h = same in
    rw c.device_place-place.ensures (sound, omega (arith, k.jobs), h, room)

pub returns : goal.returns
unfolding recorder_as
returns c =
    let ok : Faultless c.args.kind c.args.s.now = faultless _ _ c.requires in
    let same : c.horizon_of-h.result ≡ horizon_in c.args.kind c.args.s.now = let e = rw c.device_place-place.ensures at c.horizon_of-h.ensures in
    omega (arith, ok.jobs) in
    let few = length_jobs _ _ _ _ _ ok.jobs in
    rw (c.jobs_of-jobs.ensures, c.device_place-place.ensures, packed_held _ few, c.devices_of-devices.ensures, same, c.sleeps_in.ensures)
