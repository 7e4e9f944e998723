-- The key of the numbers that are lent is that of the vertex that they show; and vertices with one key in words have the same key.
use mathlib.Core.Path.{◌≡◌, refl, sym, ap, ◌∙◌, subst}
use mathlib.Core.Bool.{Bool, true, false, cond, ◌&&◌}
use mathlib.Core.List.{List}
use mathlib.Core.Logic.{by_cases}
use Prim.Native.Nat.{ℕ, zero, suc, ◌+◌, ◌-◌, ◌*◌, ◌≤◌, ◌<◌, min}
use native.Mathlib.Decide.{dec_lt}
use native.Mathlib.Nat.{add-zero}
use native.Mathlib.Omega.{arith}
use lib.Dec.{ltb}
use lib.ListN.{length}
use borrow.Author.Tests.{lt-ltb, ltb-true}
use Rattle.base.proofs.Cases.{cond_cases, test_cases}
use Rattle.schedule.specs.declared.Recorder.{Recorder}
use Rattle.schedule.specs.Quantities.{jobs, Valid}
use Rattle.schedule.specs.Visiting.{Vertex}
use Rattle.schedule.proofs.Tree.{Reached}
use Rattle.latest.specs.inside.Latest.{jobs_of}
use Rattle.latest.specs.inside.Sparing.{set_of}
use Rattle.latest.proofs.Spared.{reached_set}
use Rattle.latest.proofs.Tabled.{power_few}
use Rattle.keys.specs.inside.Keys.{Caps, SameKey}
use Rattle.keys.proofs.Words.{needed_ticks, ready_time}
use Rattle.value.specs.inside.Stored.{idle_key, first_key}
use Rattle.value.proofs.Recalls.{told_same, idle_key_most, first_key_most}
use Rattle.stored.specs.declared.Key.{Key}
use Rattle.vertex.specs.inside.Shown.{end_at, first_at, ahead_at, fresh, Shows}
use Rattle.stored.specs.inside.Naming.{idle_by, first_by, four, key_by, of_devices, Named}

-- ---- four numbers in a word

four_same : (f g : ℕ → ℕ) → ((k : ℕ) → f k ≡ g k) → (k : ℕ) → four f k ≡ four g k
four_same f g e k = rw (e k, e (k + 1), e (k + 2), e (k + 3))

-- Numbers of sixteen bits are told apart.
four_tells : (f g : ℕ → ℕ) → ((k : ℕ) → f k < 65536) → ((k : ℕ) → g k < 65536) → (a : ℕ) → four f a ≡ four g a → (i : ℕ) → i < 4 → f (a + i) ≡ g (a + i)
four_tells f g b b' a e = go
  where
    each :
        (x y z u x' y' z' u' : ℕ) → y < 65536 → z < 65536 → u < 65536 → y' < 65536 → z' < 65536 → u' < 65536
        → ((x * 65536 + y) * 65536 + z) * 65536 + u ≡ ((x' * 65536 + y') * 65536 + z') * 65536 + u' → (x ≡ x') × (y ≡ y') × (z ≡ z') × (u ≡ u')
    each x y z u x' y' z' u' b c d b' c' d' e = (omega arith, omega arith, omega arith, omega arith)

    all : (f a ≡ g a) × (f (a + 1) ≡ g (a + 1)) × (f (a + 2) ≡ g (a + 2)) × (f (a + 3) ≡ g (a + 3))
    all =
        each (f a) (f (a + 1)) (f (a + 2)) (f (a + 3)) (g a) (g (a + 1)) (g (a + 2)) (g (a + 3)) (b (a + 1)) (b (a + 2)) (b (a + 3)) (b' (a + 1)) (b' (a + 2))
        (b' (a + 3)) e

    go : (i : ℕ) → i < 4 → f (a + i) ≡ g (a + i)
    go zero l = rw (add-zero a) all.0
    go (suc zero) l = all.1
    go (suc (suc zero)) l = all.2
    go (suc (suc (suc zero))) l = all.3
    go (suc (suc (suc (suc i)))) l = absurd (omega arith)

-- The numbers of eight devices in two words.
eight_tells :
    (f g : ℕ → ℕ) → ((k : ℕ) → f k < 65536) → ((k : ℕ) → g k < 65536) → four f 0 ≡ four g 0 → four f 4 ≡ four g 4 → (k : ℕ) → k < 8 → f k ≡ g k
eight_tells f g b b' e e' k l =
    by_cases (dec_lt k 4)
    (λ q. let z : 0 + k ≡ k = omega arith in subst (λ (i : ℕ). f i ≡ g i) z (four_tells f g b b' 0 e k q))
    (λ q. let z : 4 + (k - 4) ≡ k = omega arith in subst (λ (i : ℕ). f i ≡ g i) z (four_tells f g b b' 4 e' (k - 4) (omega arith)))

-- ---- the numbers of a device

and_cond : (x y : Bool) → (x && y) ≡ cond x y false
and_cond true y = refl
and_cond false y = refl

module _ (R : Recorder) (cap : ℕ → ℕ) where
  -- By how many ticks a device has been idle, and when it was first used, where it is there.
  idles : Vertex → ℕ → ℕ
  idles v = of_devices R (λ k. idle_key R (λ i t u. t) cap k v)

  firsts : Vertex → ℕ → ℕ
  firsts v = of_devices R (λ k. first_key R (λ i t u. t) cap k v)

  module _ (low : (k : ℕ) → k < R.devices.count → cap k ≤ 4096) where
    few : (f : ℕ → ℕ) → ((k : ℕ) → f k ≤ cap k) → (k : ℕ) → of_devices R f k < 65536
    few f most k =
        cond_cases (λ (n : ℕ). n < 65536) (ltb k R.devices.count)
        (λ q. omega (arith, most k, low k (ltb-true k R.devices.count q))) (λ q. omega arith)

  -- Of a device that is there.
  there : (f : ℕ → ℕ) (k : ℕ) → k < R.devices.count → of_devices R f k ≡ f k
  there f k b = rw (lt-ltb k R.devices.count b)

  same_there : (f g : ℕ → ℕ) (k : ℕ) → k < R.devices.count → of_devices R f k ≡ of_devices R g k → f k ≡ g k
  same_there f g k b e = sym (there f k b) ∙ e ∙ there g k b

  module _ (valid : Valid R) (l : List ℕ) (a m : ℕ) (v : Vertex) (h : Shows R l a m v) where
    idle_shown :
        (k : ℕ) → k < R.devices.count
        → idle_key R (λ i t u. t) cap k v
        ≡ cond (ltb 0 (ahead_at l k)) (cond (fresh R l k) 0 (min (v.time - end_at l k) (cap k))) (min (first_at l k + (R.horizon - end_at l k)) (cap k))
    unfolding idle_key
    idle_shown k b =
        rw (
          h.ends k b,
          h.firsts k b,
          h.aheads k b,
          needed_ticks R k v.unplaced (λ j i. valid.runs j (h.reached.known j i)),
          and_cond,
        )

    first_shown : (k : ℕ) → k < R.devices.count → first_key R (λ i t u. t) cap k v ≡ cond (ltb 0 (ahead_at l k)) (min (first_at l k) (cap k)) 0
    unfolding first_key
    first_shown k b = rw (h.firsts k b, h.aheads k b, needed_ticks R k v.unplaced (λ j i. valid.runs j (h.reached.known j i)))

    idles_shown : (k : ℕ) → idles v k ≡ idle_by R cap l v.time k
    unfolding idle_by idles
    idles_shown k =
        test_cases
        (λ (t : Bool). ltb k R.devices.count ≡ t → cond t (idle_key R (λ i t u. t) cap k v) 0
        ≡ cond t (cond (ltb 0 (ahead_at l k)) (cond (fresh R l k) 0 (min (v.time - end_at l k) (cap k))) (min (first_at l k + (R.horizon - end_at l k)) (cap k))) 0)
        (ltb k R.devices.count) (λ _ q. idle_shown k (ltb-true k R.devices.count q)) (λ _ q. refl) refl

    firsts_shown : (k : ℕ) → firsts v k ≡ first_by R cap l k
    unfolding first_by firsts
    firsts_shown k =
        test_cases
        (λ (t : Bool). ltb k R.devices.count ≡ t → cond t (first_key R (λ i t u. t) cap k v) 0 ≡ cond t (cond (ltb 0 (ahead_at l k)) (min (first_at l k) (cap k)) 0) 0)
        (ltb k R.devices.count) (λ _ q. first_shown k (ltb-true k R.devices.count q)) (λ _ q. refl) refl

-- ---- the key

module _ (R : Recorder) (valid : Valid R) (cap : ℕ → ℕ) (caps : Caps R cap) (low : (k : ℕ) → k < R.devices.count → cap k ≤ 4096) where
  pub key_named : (l : List ℕ) (a m : ℕ) (v : Vertex) → Shows R l a m v → Named R cap (key_by R cap l a v.time) v
  unfolding key_by idles firsts
  key_named l a m v h =
      record {
        head = ap (λ (n : ℕ). n + 65536 * v.time) h.set;
        idle = four_same (idles R cap v) (idle_by R cap l v.time) (idles_shown R cap valid l a m v h) 0;
        idle4 = four_same (idles R cap v) (idle_by R cap l v.time) (idles_shown R cap valid l a m v h) 4;
        first = four_same (firsts R cap v) (first_by R cap l) (firsts_shown R cap valid l a m v h) 0;
        first4 = four_same (firsts R cap v) (first_by R cap l) (firsts_shown R cap valid l a m v h) 4;
      }

  set_few : (m : ℕ) (v : Vertex) → Reached R m v → set_of v.unplaced < 65536
  set_few m v h = omega (arith, (reached_set R valid m v h).0, power_few (jobs R) valid.few_jobs)

  -- Two vertices with one stored key have the same key, and as many jobs unplaced,
  pub named_same :
      (m n : ℕ) (v w : Vertex) → Reached R m v → Reached R n w → (q : Key) → Named R cap q v → Named R cap q w → (m ≡ n) × SameKey R cap v w
  unfolding idles firsts
  named_same m n v w h h' q e e' = (
    size,
    told_same R valid (λ k t u. t) (ready_time R) cap caps m v w h (subst (λ (i : ℕ). Reached R i w) (sym size) h')
        (record { time = v.time; unplaced = v.unplaced; idle = λ k. idle_key R (λ i t u. t) cap k v; first = λ k. first_key R (λ i t u. t) cap k v })
        (record { time = refl; unplaced = refl; idle = λ k b. refl; first = λ k b. refl })
        (record { time = sym head.1; unplaced = sym unplaced; idle = idle; first = first }),
  )
    where
      apart : (a a' t t' : ℕ) → a < 65536 → a' < 65536 → a + 65536 * t ≡ a' + 65536 * t' → (a ≡ a') × (t ≡ t')
      apart a a' t t' b b' e = (omega arith, omega arith)

      head : (set_of v.unplaced ≡ set_of w.unplaced) × (v.time ≡ w.time)
      head =
          apart (set_of v.unplaced) (set_of w.unplaced) v.time w.time (set_few m v h) (set_few n w h') (e.head ∙ sym e'.head)

      unplaced : v.unplaced ≡ w.unplaced
      unplaced = sym (reached_set R valid m v h).1 ∙ ap (jobs_of R) head.0 ∙ (reached_set R valid n w h').1

      size : m ≡ n
      size = sym h.size ∙ ap length unplaced ∙ h'.size

      idle : (k : ℕ) → k < R.devices.count → idle_key R (λ i t u. t) cap k w ≡ idle_key R (λ i t u. t) cap k v
      idle k b =
          sym (same_there R cap (λ k. idle_key R (λ i t u. t) cap k v) (λ k. idle_key R (λ i t u. t) cap k w) k b
          (eight_tells (idles R cap v) (idles R cap w)
          (few R cap low (λ k. idle_key R (λ i t u. t) cap k v) (λ k. idle_key_most R (λ i t u. t) cap k v))
          (few R cap low (λ k. idle_key R (λ i t u. t) cap k w) (λ k. idle_key_most R (λ i t u. t) cap k w))
          (e.idle ∙ sym e'.idle) (e.idle4 ∙ sym e'.idle4) k (omega (arith, valid.few_devices))))

      first : (k : ℕ) → k < R.devices.count → first_key R (λ i t u. t) cap k w ≡ first_key R (λ i t u. t) cap k v
      first k b =
          sym (same_there R cap (λ k. first_key R (λ i t u. t) cap k v) (λ k. first_key R (λ i t u. t) cap k w) k b
          (eight_tells (firsts R cap v) (firsts R cap w)
          (few R cap low (λ k. first_key R (λ i t u. t) cap k v) (λ k. first_key_most R (λ i t u. t) cap k v))
          (few R cap low (λ k. first_key R (λ i t u. t) cap k w) (λ k. first_key_most R (λ i t u. t) cap k w))
          (e.first ∙ sym e'.first) (e.first4 ∙ sym e'.first4) k (omega (arith, valid.few_devices))))
