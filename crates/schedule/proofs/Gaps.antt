-- The gap form of a device's energy: what the gaps and the uses along a sequence of places cost. In a list it is the least energy of the device's legal rows; for
-- either rule: Rounds.
use mathlib.Core.Path.{◌≡◌, refl, sym, ap, ◌∙◌, subst}
use mathlib.Core.Bool.{Bool, true, false, cond, ◌&&◌, ◌||◌, and-false, or_assoc, or_comm}
use mathlib.Core.List.{List, [], ◌∷◌, ◌++◌, map}
use mathlib.Core.Logic.{⊎_elim}
use Prim.Native.Nat.{ℕ, zero, suc, ◌+◌, ◌-◌, ◌*◌, ◌≤◌, ◌<◌}
use native.Mathlib.Omega.{arith}
use lib.Dec.{leb, ltb, eqb}
use lib.ListN.{length, replicate}
use borrow.Author.Tests.{eqb-true, eqb-false, le-leb, lt-leb, lt-ltb, le-ltb}
use Rattle.base.specs.Lists.{In, up_from, remove}
use Rattle.base.proofs.Cases.{cond_cases, test_cases}
use Rattle.base.proofs.Numbers.{length_nil, length_remove, length_up}
use Rattle.base.proofs.Ranges.{up_to_map}
use Rattle.device.specs.declared.Device.{Device}
use Rattle.device.specs.Row.{energy_of, gap_cost, pattern}
use Rattle.device.proofs.Pattern.{Ended, fresh, placed, pattern_place, pattern_close, pattern_alike, ended_place}
use Rattle.device.proofs.Least.{energy_none, energy_place, energy_close}
use Rattle.schedule.specs.declared.Recorder.{Recorder}
use Rattle.schedule.specs.Quantities.{device, jobs, run, uses}
use Rattle.schedule.specs.Listing.{start, Place, place, used, places, uses_of, soonest, ordered, running}
use Rattle.schedule.specs.Visiting.{last_end}
use Rattle.schedule.proofs.Runs.{InTurn, soonest_in}

-- What the places cost on device k, where its last use before them ended at tick e: the gap before each use, and the use.
unfoldable pub paid_from : Recorder → ℕ → ℕ → List Place → ℕ
paid_from R k e [] = 0
paid_from R k e (p ∷ r) =
    cond (uses R k p.job)
    (gap_cost (device R k) (p.start - e) + (device R k).pw * run R p.job + paid_from R k (p.start + run R p.job) r)
    (paid_from R k e r)

-- ---- one use more

-- One use of c ticks from tick x on, where the uses before it end at tick e.
one_use :
    (d : Device) (f : ℕ → Bool) (e x c : ℕ) → e ≤ x → 1 ≤ c → Ended (pattern f 0 e) → ((t : ℕ) → e ≤ t → t < x → f t ≡ false)
    → ((t : ℕ) → x ≤ t → t < x + c → f t ≡ true)
    → Ended (pattern f 0 (x + c)) × (energy_of false d (pattern f 0 (x + c)) ≡ energy_of false d (pattern f 0 e) + (gap_cost d (x - e) + d.pw * c))
one_use d f e x zero l some u free busy = absurd (omega arith)
one_use d f e x (suc c) l some u free busy =
    let whole : e + (x - e + suc c) ≡ x + suc c = omega arith in
    let parts : pattern f 0 (x + suc c) ≡ pattern f 0 e ++ placed (x - e) c =
    ap (pattern f 0) (sym whole) ∙ pattern_place f 0 e (x - e) c (λ t m n. free t (omega arith) (omega arith)) (λ t m n. busy t (omega arith) (omega arith)) in (
      subst Ended (sym parts) (ended_place (pattern f 0 e) (x - e) c),
      ap (energy_of false d) parts ∙ energy_place d u (x - e) c,
    )

module _ (R : Recorder) (k : ℕ) where
  -- A tick of the first place, one after it, and one where the job does not use the device.
  pub used_here : (p : Place) (r : List Place) (t : ℕ) → uses R k p.job ≡ true → p.start ≤ t → t < p.start + run R p.job → used R k (p ∷ r) t ≡ true
  unfolding used
  used_here p r t q l m = rw (q, le-leb p.start t l, lt-ltb t (p.start + run R p.job) m)

  used_after : (p : Place) (r : List Place) (t : ℕ) → p.start + run R p.job ≤ t → used R k (p ∷ r) t ≡ used R k r t
  unfolding used
  used_after p r t l = rw (le-ltb t (p.start + run R p.job) l, and-false, and-false)

  pub used_beside : (p : Place) (r : List Place) (t : ℕ) → uses R k p.job ≡ false → used R k (p ∷ r) t ≡ used R k r t
  unfolding used
  used_beside p r t q = rw q

  -- Before the places begin no tick is used.
  pub used_before_lem : (r : List Place) (t h x : ℕ) → InTurn R t h r → x < t → used R k r x ≡ false
  unfolding used
  used_before_lem [] t h x w l = refl
  used_before_lem (p ∷ r) t h x w l =
      rw (lt-leb p.start x (omega (arith, w.0)), and-false) (used_before_lem r (p.start + run R p.job) h x w.2 (omega (arith, w.0)))

  -- The last use is over when the places are.
  pub last_by : (r : List Place) (e t h : ℕ) → InTurn R t h r → e ≤ t → last_end R k e r ≤ h
  unfolding last_end
  last_by [] e t h w l = omega (arith, w)
  last_by (p ∷ r) e t h w l =
      cond_cases (λ x. last_end R k x r ≤ h) (uses R k p.job)
      (λ q. last_by r (p.start + run R p.job) (p.start + run R p.job) h w.2 (omega arith))
      (λ q. last_by r e (p.start + run R p.job) h w.2 (omega (arith, w.0)))

  -- ---- the gap form is the least energy

  -- f says which ticks are used. From e to e' they cost `paid`, and from e' on none is used.
  abbrev Settles : (ℕ → Bool) → ℕ → ℕ → ℕ → Type 0
  Settles f e e' paid =
      Ended (pattern f 0 e') × (energy_of false (device R k) (pattern f 0 e') ≡ energy_of false (device R k) (pattern f 0 e) + paid)
      × ((x : ℕ) → e' ≤ x → f x ≡ false)

  paid_settles :
      (r : List Place) (f : ℕ → Bool) (e t h : ℕ) → InTurn R t h r → e ≤ t → Ended (pattern f 0 e) → ((x : ℕ) → e ≤ x → f x ≡ used R k r x)
      → Settles f e (last_end R k e r) (paid_from R k e r)
  unfolding paid_from last_end used
  paid_settles [] f e t h w l u same = (u, omega arith, same)
  paid_settles (p ∷ r) f e t h w l u same =
      let x = p.start in
      let c = run R p.job in
      test_cases (λ b. Settles f e (last_end R k (cond b (x + c) e) r)
      (cond b (gap_cost (device R k) (x - e) + (device R k).pw * c + paid_from R k (x + c) r) (paid_from R k e r)))
      (uses R k p.job)
      (λ q.
      let free : (y : ℕ) → e ≤ y → y < x → f y ≡ false = λ y m n. same y m ∙ used_before_lem (p ∷ r) x h y (omega arith, w.1, w.2) n in
      let busy : (y : ℕ) → x ≤ y → y < x + c → f y ≡ true = λ y m n. same y (omega (arith, w.0)) ∙ used_here p r y q m n in
      let first = one_use (device R k) f e x c (omega (arith, w.0)) w.1 u free busy in
      let rest = paid_settles r f (x + c) (x + c) h w.2 (omega arith) first.0 (λ y m. same y (omega (arith, w.0)) ∙ used_after p r y m) in
      (rest.0, omega (arith, first.1, rest.1), rest.2))
      (λ q. paid_settles r f e (x + c) h w.2 (omega (arith, w.0)) u (λ y m. same y m ∙ used_beside p r y q))

  pub settled : (r : List Place) (h : ℕ) → InTurn R 0 h r → Settles (used R k r) 0 (last_end R k 0 r) (paid_from R k 0 r)
  settled r h w = paid_settles r (used R k r) 0 0 h w (omega arith) fresh (λ x l. refl)

  -- The ticks before the end of the last use, and all ticks up to the end h.
  pub paid_is : (r : List Place) (h : ℕ) → InTurn R 0 h r → energy_of false (device R k) (pattern (used R k r) 0 (last_end R k 0 r)) ≡ paid_from R k 0 r
  paid_is r h w = omega (arith, (settled r h w).1, energy_none (device R k))

  pub close_is :
      (r : List Place) (h : ℕ) → InTurn R 0 h r
      → energy_of false (device R k) (pattern (used R k r) 0 h) ≡ paid_from R k 0 r + gap_cost (device R k) (h - last_end R k 0 r)
  close_is r h w =
      let e = last_end R k 0 r in
      let whole : e + (h - e) ≡ h = omega (arith, last_by r 0 0 h w (omega arith)) in
      let parts : pattern (used R k r) 0 h ≡ pattern (used R k r) 0 e ++ replicate (h - e) false =
      ap (pattern (used R k r) 0) (sym whole) ∙ pattern_close (used R k r) 0 e (h - e) (λ t l m. (settled r h w).2 t (omega arith)) in
      ap (energy_of false (device R k)) parts ∙ energy_close (device R k) (settled r h w).0 (h - e)
      ∙ ap (λ (n : ℕ). n + gap_cost (device R k) (h - e)) (paid_is r h w)

  -- ---- one place after the other

  pub last_append : (r r' : List Place) (e : ℕ) → last_end R k e (r ++ r') ≡ last_end R k (last_end R k e r) r'
  unfolding last_end
  last_append [] r' e = refl
  last_append (p ∷ r) r' e = last_append r r' (cond (uses R k p.job) (p.start + run R p.job) e)

  pub paid_append : (r r' : List Place) (e : ℕ) → paid_from R k e (r ++ r') ≡ paid_from R k e r + paid_from R k (last_end R k e r) r'
  unfolding paid_from last_end
  paid_append [] r' e = omega arith
  paid_append (p ∷ r) r' e =
      let x = p.start in
      let c = run R p.job in
      let one = gap_cost (device R k) (x - e) + (device R k).pw * c in
      test_cases (λ b. cond b (one + paid_from R k (x + c) (r ++ r')) (paid_from R k e (r ++ r'))
      ≡ cond b (one + paid_from R k (x + c) r) (paid_from R k e r) + paid_from R k (last_end R k (cond b (x + c) e) r) r')
      (uses R k p.job)
      (λ q. omega (arith, paid_append r r' (x + c)))
      (λ q. paid_append r r' e)

  -- What placing one job more does to the two numbers.
  pub last_snoc :
      (r : List Place) (p : Place) → last_end R k 0 (r ++ p ∷ []) ≡ cond (uses R k p.job) (p.start + run R p.job) (last_end R k 0 r)
  unfolding last_end
  last_snoc r p = last_append r (p ∷ []) 0

  pub paid_snoc :
      (r : List Place) (p : Place) (e : ℕ)
      → paid_from R k e (r ++ p ∷ [])
      ≡ cond (uses R k p.job)
      (paid_from R k e r + (gap_cost (device R k) (p.start - last_end R k e r) + (device R k).pw * run R p.job))
      (paid_from R k e r)
  unfolding paid_from
  paid_snoc r p e =
      let one = gap_cost (device R k) (p.start - last_end R k e r) + (device R k).pw * run R p.job in
      paid_append r (p ∷ []) e
      ∙ test_cases (λ b. paid_from R k e r + cond b (one + 0) 0 ≡ cond b (paid_from R k e r + one) (paid_from R k e r)) (uses R k p.job)
      (λ q. omega arith) (λ q. omega arith)

  -- ---- the running order uses the same ticks as the jobs in order of number

  -- One of the jobs may stand first.
  used_first :
      (s : List ℕ) (j : ℕ) (u : List ℕ) → In j u → (t : ℕ)
      → used R k (map (λ i. place i (start s i)) u) t ≡ used R k (place j (start s j) ∷ map (λ i. place i (start s i)) (remove j u)) t
  unfolding used remove
  used_first s j (i ∷ u) m t =
      let busy : ℕ → Bool = λ n. uses R k n && (leb (start s n) t && ltb t (start s n + run R n)) in
      cond_cases (λ w. (busy i || used R k (map (λ n. place n (start s n)) u) t) ≡ (busy j || used R k (map (λ n. place n (start s n)) w) t)) (eqb i j)
      (λ q. rw (eqb-true i j q))
      (λ q. ⊎_elim (λ e. absurd (eqb-false i j q (sym e)))
      (λ w. swap (busy i) (busy j) _ _ (used_first s j u w t)) m)
    where
      swap : (a b c d : Bool) → c ≡ (b || d) → (a || c) ≡ (b || (a || d))
      swap a b c d e = ap (λ (x : Bool). a || x) e ∙ sym (or_assoc a b d) ∙ ap (λ (x : Bool). x || d) (or_comm a b) ∙ or_assoc b a d
  used_first s j [] m t = elim m [ ]

  used_ordered :
      (m : ℕ) (s : List ℕ) (u : List ℕ) → length u ≡ m → (t : ℕ) → used R k (ordered m s u) t ≡ used R k (map (λ i. place i (start s i)) u) t
  unfolding used ordered
  used_ordered zero s u e t = rw (length_nil u e)
  used_ordered (suc m) s [] e t = refl
  used_ordered (suc m) s (i ∷ u) e t =
      let j = soonest s i u in
      let i' = soonest_in s i u in
      ap (λ (b : Bool). (uses R k j && (leb (start s j) t && ltb t (start s j + run R j))) || b)
      (used_ordered m s (remove j (i ∷ u)) (omega (arith, length_remove j (i ∷ u) i')) t)
      ∙ sym (used_first s j (i ∷ u) i' t)

  pub used_running : (s : List ℕ) (t : ℕ) → used R k (places R s) t ≡ used R k (running R s) t
  used_running s t =
      ap (λ (r : List Place). used R k r t) (up_to_map (λ j. place j (start s j)) (jobs R))
      ∙ sym (used_ordered (jobs R) s (up_from 0 (jobs R)) (length_up 0 (jobs R)) t)

  pub uses_running : (s : List ℕ) → uses_of R s k ≡ pattern (used R k (running R s)) 0 R.horizon
  uses_running s = pattern_alike (used R k (places R s)) (used R k (running R s)) 0 R.horizon (λ t l m. used_running s t)
