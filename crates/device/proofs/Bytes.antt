-- Rows as bytes: those of a gap, and what a buffer holds as run by run, gap by gap and use by use they are written at the front of what is left.
use mathlib.Core.Path.{◌≡◌, refl, sym, ap, ◌∙◌}
use mathlib.Core.Bool.{Bool, false}
use mathlib.Core.List.{List, [], ◌∷◌, ◌++◌, append_assoc, append-nil, map, map-append}
use Prim.Native.Nat.{ℕ, zero, suc, ◌+◌, ◌-◌, ◌*◌, ◌≤◌, ◌<◌}
use native.Mathlib.Nat.{zero-sub, sub-zero, sub_self, suc-sub-suc}
use native.Mathlib.Omega.{arith}
use borrow.Rule.Slice.PartMut.{put_mid}
use lib.ListN.{length, length-map, length-drop, length-append, length-replicate, replicate, take, drop}
use lib.Seq.{take-nil, drop-nil, drop_at, drop-drop, length-take-le}
use Rattle.base.proofs.Filling.{Filled, filled_tail}
use Rattle.device.specs.declared.Device.{Device}
use Rattle.device.specs.declared.Sleeps.{Sleeps}
use Rattle.device.specs.declared.Uses.{Uses}
use Rattle.device.specs.Row.{byte_of, trip, gap_row, row_of, pattern}
use Rattle.device.specs.Row as Row
use Rattle.device.specs.inside.Trips.{shared, trip_bytes, around}
use Rattle.device.specs.inside.Uses.{begin, end, used_in, after_from, front, idle, Spaced}
use Rattle.device.proofs.Prefix.{map_replicate}
use Rattle.device.proofs.Chosen.{length_gap, gap_none}
use Rattle.device.proofs.Spacing.{row_use, last_front, row_whole}

pub length_gap_bytes : (sleeps : Sleeps) (d : Device) (g : ℕ) → length (map (byte_of sleeps) (gap_row d g)) ≡ g
length_gap_bytes sleeps d g = length-map (gap_row d g) (byte_of sleeps) ∙ length_gap d g

-- Down to level m, the stay there, and up.
pub bytes_trip : (sleeps : Sleeps) (d : Device) (m g : ℕ)
    → map (byte_of sleeps) (trip d m g) ≡ trip_bytes (d.shut * m) (g - (d.shut * m + d.wake * m)) (d.wake * m) (byte_of sleeps (Row.at m))
unfolding trip
bytes_trip sleeps d m g = simp (map-append, map_replicate, append_assoc)

-- A writer that makes n bytes was lent the whole, and r says how many it took.
pub written_first : {l m : List ℕ} {n r : ℕ} (made : List ℕ) → length made ≡ n → (r ≡ n) × (m ≡ made ++ drop n l) → Filled l r made m
written_first {l} made long e = record { long = long ∙ sym e.0; is = e.1 ∙ ap (λ (k : ℕ). made ++ drop k l) (sym e.0) }

-- All that is left was lent to a writer that makes n bytes, and r says how many it took.
pub written_on :
    {l₀ front l m : List ℕ} {at n r : ℕ} → Filled l₀ at front l → (made : List ℕ) → length made ≡ n → at + n ≤ length l₀
    → (r ≡ n) × (m ≡ made ++ drop n (take (length l - at) (drop at l))) → Filled l₀ (at + r) (front ++ made) (put_mid at (length l - at) l m)
written_on {l₀} {front} {l} {m} {at} {n} {r} w made long room e =
    filled_tail w made (at + r) (omega arith) (omega arith) m (e.1 ∙ ap (λ (k : ℕ). made ++ drop k (take (length l - at) (drop at l))) (sym long))

-- What is written on after a part of it was written is written on from the start.
pub filled_begun : {l₀ head l : List ℕ} {b : ℕ} → Filled l₀ b head l → Filled l b head l
filled_begun {l₀} {head} {l} {b} w = record { long = w.long; is = w.is ∙ ap (λ (r : List ℕ). head ++ r) (sym (ap (drop b) w.is ∙ drop_at head (drop b l₀) b w.long)) }

pub filled_since : {l₀ head l front m : List ℕ} {b at : ℕ} → Filled l₀ b head l → Filled l at front m → b ≤ at → Filled l₀ at front m
filled_since {l₀} {head} {l} {front} {m} {b} {at} w v h =
    let e : b + (at - b) ≡ at = omega arith in
    let same : drop b l ≡ drop b l₀ = ap (drop b) w.is ∙ drop_at head (drop b l₀) b w.long in
    let on : (r : List ℕ) → drop (at - b) (drop b r) ≡ drop at r = λ r. drop-drop (at - b) b r ∙ ap (λ (k : ℕ). drop k r) e in
    record { long = v.long; is = v.is ∙ ap (λ (r : List ℕ). front ++ r) (sym (on l) ∙ ap (drop (at - b)) same ∙ on l₀) }

-- The bytes of the row from tick b on and before tick e.
abbrev pub bytes : Sleeps → Uses → Device → ℕ → ℕ → List ℕ
bytes sleeps u d b e = map (byte_of sleeps) (row_of false d (pattern (used_in u) b (e - b)))

pub bytes_none : (sleeps : Sleeps) (u : Uses) (d : Device) (b : ℕ) → bytes sleeps u d b b ≡ []
bytes_none sleeps u d b = rw (sub_self, gap_none d)

-- Use by use: the gap before it and the use.
pub bytes_use : (sleeps : Sleeps) (u : Uses) (h : ℕ) → Spaced u h → (d : Device) (b : ℕ) → b ≤ begin u 0 → (i at : ℕ) → i < u.count → at ≡ after_from b u i
    → bytes sleeps u d b (end u i) ≡ (bytes sleeps u d b at ++ map (byte_of sleeps) (gap_row d (begin u i - at))) ++ replicate (end u i - begin u i) 87
bytes_use sleeps u h ok d b hb i at l e = ap (map (byte_of sleeps)) (row_use u h ok b hb d i at l e) ∙ simp (map-append, map_replicate, append_assoc)

-- ---- a part of a list

-- Of a list the places from x on and before y.
abbrev part : {A : Type 0} → ℕ → ℕ → List A → List A
part x y l = take (y - x) (drop x l)

map_drop : {A B : Type 0} (f : A → B) (n : ℕ) (l : List A) → map f (drop n l) ≡ drop n (map f l)
map_drop f zero l = refl
map_drop f (suc n) [] = refl
map_drop f (suc n) (x ∷ l) = map_drop f n l

map_take : {A B : Type 0} (f : A → B) (n : ℕ) (l : List A) → map f (take n l) ≡ take n (map f l)
map_take f zero l = refl
map_take f (suc n) [] = refl
map_take {B = B} f (suc n) (x ∷ l) = ap {B = List B} (λ r. f x ∷ r) (map_take f n l)

one_more : (p q : ℕ) → q ≤ p → suc p - q ≡ suc (p - q)
one_more p q h = omega arith

-- Of a run and what follows it: so much of the run lies before y and not before x.
part_run : {A : Type 0} (p : ℕ) (a : A) (t : List A) (x y : ℕ) → part x y (replicate p a ++ t) ≡ replicate (shared p x y) a ++ part (x - p) (y - p) t
unfolding shared
part_run zero a t x y = rw (zero-sub, zero-sub, sub-zero, sub-zero)
part_run (suc p) a t zero zero =
    let n : (suc p - 0) - (suc p - 0) ≡ 0 = omega arith in
    let z : 0 - suc p ≡ 0 = omega arith in
    rw (n, z)
part_run {A} (suc p) a t zero (suc y) =
    let n : (suc p - 0) - (suc p - suc y) ≡ suc ((p - 0) - (p - y)) = rw (suc-sub-suc, sub-zero, sub-zero) (one_more p (p - y) (omega arith)) in
    let z : 0 - suc p ≡ 0 - p = zero-sub (suc p) ∙ sym (zero-sub p) in
    let w : suc y - suc p ≡ y - p = suc-sub-suc y p in
    let s : suc y - 0 ≡ suc (y - 0) = sub-zero (suc y) ∙ ap suc (sym (sub-zero y)) in
    rw (n, z, w, s) (ap {B = List A} (λ r. a ∷ r) (part_run p a t zero y))
part_run (suc p) a t (suc x) zero =
    let n : (suc p - suc x) - (suc p - 0) ≡ 0 = omega arith in
    rw (n, zero-sub (suc x), zero-sub (suc p), zero-sub (suc x - suc p))
part_run (suc p) a t (suc x) (suc y) = rw (suc-sub-suc p x, suc-sub-suc p y, suc-sub-suc x p, suc-sub-suc y p, suc-sub-suc y x) (part_run p a t x y)

-- Of a trip.
part_trip : (down stay up b x y : ℕ)
    → (replicate (shared down x y) 68 ++ replicate (shared stay (x - down) (y - down)) b) ++ replicate (shared up (x - (down + stay)) (y - (down + stay))) 85
    ≡ part x y (trip_bytes down stay up b)
part_trip down stay up b x y =
    let downs : List ℕ = replicate down 68 in
    let stays : List ℕ = replicate stay b in
    let ups : List ℕ = replicate up 85 in
    let l : List ℕ = replicate (shared down x y) 68 in
    let m : List ℕ = replicate (shared stay (x - down) (y - down)) b in
    let r : List ℕ = replicate (shared up (x - (down + stay)) (y - (down + stay))) 85 in
    let beyond : (t : ℕ) → (t - down) - stay ≡ t - (down + stay) = λ t. omega arith in
    let none : part {A = ℕ} (x - (down + stay) - up) (y - (down + stay) - up) [] ≡ [] = rw (drop-nil, take-nil) in
    let third : part (x - (down + stay)) (y - (down + stay)) ups ≡ r
    = ap (part (x - (down + stay)) (y - (down + stay))) (sym (append-nil ups)) ∙ part_run up 85 [] (x - (down + stay)) (y - (down + stay)) ∙ rw (none, append-nil) in
    let second : part (x - down) (y - down) (stays ++ ups) ≡ m ++ r = part_run stay b ups (x - down) (y - down) ∙ rw (beyond x, beyond y, third) in
    let first : part x y (downs ++ (stays ++ ups)) ≡ l ++ (m ++ r) = part_run down 68 (stays ++ ups) x y ∙ rw second in
    append_assoc l m r ∙ sym first ∙ ap (part x y) (sym (append_assoc downs stays ups))

part_on : {A : Type 0} (x n : ℕ) (l : List A) → part x (x + n) l ≡ take n (drop x l)
part_on x n l = let e : (x + n) - x ≡ n = omega arith in rw e

-- Of a trip, n ticks from tick x on: run by run, and how many these are.
pub taken_trip : (down stay up b x n : ℕ)
    → (replicate (shared down x (x + n)) 68 ++ replicate (shared stay (x - down) (x + n - down)) b)
    ++ replicate (shared up (x - (down + stay)) (x + n - (down + stay))) 85
    ≡ take n (drop x (trip_bytes down stay up b))
taken_trip down stay up b x n = part_trip down stay up b x (x + n) ∙ part_on x n (trip_bytes down stay up b)

pub shared_trip : (down stay up x n : ℕ) → x + n ≤ down + stay + up
    → shared down x (x + n) + shared stay (x - down) (x + n - down) + shared up (x - (down + stay)) (x + n - (down + stay)) ≡ n
shared_trip down stay up x n h =
    let trip : List ℕ = trip_bytes down stay up 0 in
    let long : length trip ≡ down + stay + up = simp (length-append, length-replicate) in
    let whole : length (take n (drop x trip)) ≡ n = length-take-le n (drop x trip) (omega (arith, length-drop x trip)) in
    let parts = ap length (taken_trip down stay up 0 x n) in
    let counts : length {A = ℕ} ((replicate (shared down x (x + n)) 68 ++ replicate (shared stay (x - down) (x + n - down)) 0)
    ++ replicate (shared up (x - (down + stay)) (x + n - (down + stay))) 85)
    ≡ shared down x (x + n) + shared stay (x - down) (x + n - down) + shared up (x - (down + stay)) (x + n - (down + stay)) = simp (length-append, length-replicate) in
    sym counts ∙ parts ∙ whole

-- The bytes of the whole row.
pub row_around : (sleeps : Sleeps) (u : Uses) (h : ℕ) (ok : Spaced u h) (d : Device) (round : Bool) → idle round u ≡ false
    → map (byte_of sleeps) (row_of round d (pattern (used_in u) 0 h)) ≡ around sleeps d u (front round u) (h - after_from (front round u) u u.count)
unfolding around
row_around sleeps u h ok d round e =
    ap (map (byte_of sleeps)) (row_whole u h ok d round e) ∙ rw (last_front u h ok round e) (simp (map-append, map_drop, map_take))
