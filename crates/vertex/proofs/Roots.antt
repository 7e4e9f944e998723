-- The numbers of the root: no device has been used, and each has the ticks of all jobs to come.
use mathlib.Core.Path.{◌≡◌, refl, ◌∙◌, subst}
use mathlib.Core.Bool.{Bool, cond}
use mathlib.Core.List.{List, []}
use Prim.Native.Nat.{ℕ, zero, suc, ◌+◌, ◌-◌, ◌^◌, ◌<◌}
use native.Mathlib.Decide.{ℕ_discrete}
use native.Mathlib.Omega.{arith}
use lib.ListN.{get_or, set, length, replicate, length-set}
use lib.Seq.{get_or-set_same, get_or-set_other}
use Rattle.base.specs.Lists.{padded, up_from}
use Rattle.base.specs.Sums.{total, sum}
use Rattle.base.proofs.Additions.{sum_up}
use Rattle.base.proofs.Arrays.{get_d_padded}
use Rattle.base.proofs.Cases.{test_cases}
use Rattle.schedule.specs.declared.Recorder.{Recorder}
use Rattle.schedule.specs.Quantities.{Valid, jobs, run}
use Rattle.schedule.specs.Visiting.{root, last_end, first_start, since, ticks}
use Rattle.schedule.proofs.Tree.{root_reached}
use Rattle.latest.specs.inside.Sparing.{set_of}
use Rattle.vertex.specs.inside.Shown.{load_at, Shows}

-- Of the first n devices the ticks of all jobs stand there, and before them all is 0.
pub record Rooted (R : Recorder) (n : ℕ) (v : List ℕ) : Type 0 where
  pub long : length v ≡ 25
  pub none : (i : ℕ) → i < 16 → get_or v i 0 ≡ 0
  pub load : load_at v ≡ sum (jobs R) (run R)
  pub same : (k : ℕ) → k < n → get_or v (16 + k) 0 ≡ sum (jobs R) (ticks R k)

no_number : (i : ℕ) → ◌≡◌ {A = ℕ} (get_or (replicate 25 0) i 0) 0
unfolding padded
no_number i = get_d_padded 25 0 [] i

module _ (R : Recorder) where
  pub rooted_none : (x : ℕ) → x ≡ sum (jobs R) (run R) → Rooted R 0 (set (replicate 25 0) 24 x)
  rooted_none x e =
      record {
        long = rw length-set;
        none = λ i b. get_or-set_other (replicate 25 0) 24 i x 0 (λ (q : i ≡ 24). omega (arith, b, q)) ∙ no_number i;
        load = get_or-set_same (replicate 25 0) 24 x 0 (omega arith) ∙ e;
        same = λ k b. absurd (omega arith);
      }

  pub rooted_more : (n : ℕ) (v : List ℕ) → n < 8 → Rooted R n v → (x : ℕ) → x ≡ sum (jobs R) (ticks R n) → Rooted R (n + 1) (set v (16 + n) x)
  rooted_more n v b h x is =
      record {
        long = rw length-set h.long;
        none = λ i m. get_or-set_other v (16 + n) i x 0 (λ (e : i ≡ 16 + n). omega (arith, m, e)) ∙ h.none i m;
        load = get_or-set_other v (16 + n) 24 x 0 (λ (e : 24 ≡ 16 + n). omega (arith, b, e)) ∙ h.load;
        same = λ k m. elim (ℕ_discrete k n) [
          | yes e ↦ rw e (get_or-set_same v (16 + n) x 0 (omega (arith, b, h.long)) ∙ is)
          | no ne ↦ get_or-set_other v (16 + n) (16 + k) x 0 (λ (e : 16 + k ≡ 16 + n). ne (omega (arith, e))) ∙ h.same k (omega (arith, m, ne))
        ];
      }

  -- All devices: the root is shown.
  pub rooted_shown : Valid R → (v : List ℕ) → Rooted R R.devices.count v → Shows R v (set_of (root R).unplaced) (jobs R) (root R)
  unfolding last_end since first_start
  rooted_shown valid v h =
      record {
        reached = root_reached R valid;
        long = h.long;
        set = refl;
        ends = λ k b. h.none k (omega (arith, b, valid.few_devices));
        firsts = λ k b. h.none (8 + k) (omega (arith, b, valid.few_devices)) ∙ test_cases (λ (r : Bool). ◌≡◌ {A = ℕ} 0 (cond r 0 0)) R.round (λ q. refl) (λ q. refl);
        aheads = λ k b. h.same k b ∙ sum_up (ticks R k) (jobs R);
        load = h.load ∙ sum_up (run R) (jobs R);
      }

-- ---- the set of all jobs

all_from : (lo k : ℕ) → total (λ j. 2 ^ j) (up_from lo k) + 2 ^ lo ≡ 2 ^ (lo + k)
all_from lo zero = let e : lo + 0 ≡ lo = omega arith in rw e (omega arith)
all_from lo (suc k) = let e : lo + suc k ≡ suc lo + k = omega arith in rw e (omega (arith, all_from (suc lo) k))

pub set_all : (R : Recorder) → set_of (root R).unplaced ≡ 2 ^ jobs R - 1
set_all R =
    let e : 0 + jobs R ≡ jobs R = omega arith in
    let w : set_of (root R).unplaced + 1 ≡ 2 ^ jobs R = subst (λ (n : ℕ). set_of (up_from 0 (jobs R)) + 1 ≡ 2 ^ n) e (all_from 0 (jobs R)) in
    omega arith
