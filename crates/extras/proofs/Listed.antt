-- The lists laid: the devices of a job one after the other, and job by job.
use mathlib.Core.Path.{◌≡◌, refl, ap, ◌∙◌}
use mathlib.Core.Bool.{true}
use mathlib.Core.List.{List}
use mathlib.Core.Logic.{⊎_elim}
use Prim.Native.Nat.{ℕ, ◌+◌, ◌*◌, ◌<◌, ◌≤◌}
use native.Mathlib.Nat.{eq-or-lt_of_le}
use native.Mathlib.Omega.{arith}
use lib.ListN.{get_or, set, length, length-set}
use lib.Seq.{get_or-set_same, get_or-set_other}
use Rattle.schedule.specs.declared.Recorder.{Recorder}
use Rattle.schedule.specs.Quantities.{uses}
use Rattle.extras.specs.inside.Jobs.{used_count_at, last_of, last_at, used_at, used_below, OfJob}
use Rattle.extras.specs.inside.Parts.{LaidJob, LaidJobs}
use Rattle.extras.proofs.Uses.{used_most, used_before_lem}

-- ---- one job: the first n devices

pub record ListedTo (R : Recorder) (j n : ℕ) (l₀ l : List ℕ) : Type 0 where
  pub long : length l ≡ length l₀
  pub at : (k : ℕ) → k < n → uses R k j ≡ true → used_at l j (used_below R j k) ≡ k
  pub kept : (i : ℕ) → (72 + 8 * j ≤ i → i < 80 + 8 * j → ⊥) → get_or l i 0 ≡ get_or l₀ i 0

module _ {R : Recorder} {j : ℕ} {l₀ : List ℕ} where
  pub listed_none : ListedTo R j 0 l₀ l₀
  listed_none = record { long = refl; at = λ k h u. absurd (omega arith); kept = λ i h. refl }

  module _ (job : j < 16) (room : 208 ≤ length l₀) where
    pub listed_next : {n i : ℕ} {l : List ℕ} → ListedTo R j n l₀ l → n < 8 → i ≡ used_below R j n → ListedTo R j (n + 1) l₀ (set l (72 + 8 * j + i) n)
    unfolding used_at
    listed_next {n} {i} {l} b few e = record {
      long = length-set l (72 + 8 * j + i) n ∙ b.long;
      at =
          λ k h u. ⊎_elim (λ (q : k ≡ n). rw (q, ← e) here)
          (λ q. other (72 + 8 * j + used_below R j k) (λ p. absurd (omega (arith, e, used_before_lem R j n k q u))) ∙ b.at k q u)
          (eq-or-lt_of_le {n = k} {m = n} (omega arith));
      kept = λ p h. other p (λ q. h (omega arith) (omega (arith, e, used_most R j n))) ∙ b.kept p h;
    }
      where
        here : get_or (set l (72 + 8 * j + i) n) (72 + 8 * j + i) 0 ≡ n
        here = get_or-set_same l (72 + 8 * j + i) n 0 (omega (arith, b.long, e, used_most R j n))

        other : (p : ℕ) → (p ≡ 72 + 8 * j + i → ⊥) → get_or (set l (72 + 8 * j + i) n) p 0 ≡ get_or l p 0
        other p h = get_or-set_other l (72 + 8 * j + i) p n 0 h

    pub listed_all : {n i x : ℕ} {l : List ℕ} → ListedTo R j n l₀ l → n ≡ R.devices.count → n ≤ 8 → i ≡ used_below R j n → x ≡ last_of R j
        → LaidJob R j l₀ (set (set l (40 + j) i) (56 + j) x)
    unfolding used_at used_count_at last_at
    listed_all {n} {i} {x} {l} b all few e last = record {
      long = simp length-set b.long;
      lists = record {
        last = get_or-set_same (set l (40 + j) i) (56 + j) x 0 (simp length-set (omega (arith, b.long))) ∙ last;
        count =
            get_or-set_other (set l (40 + j) i) (56 + j) (40 + j) x 0 (λ q. absurd (omega arith))
            ∙ get_or-set_same l (40 + j) i 0 (omega (arith, b.long)) ∙ e ∙ ap (used_below R j) all;
        at = λ k h u. other (72 + 8 * j + used_below R j k) (λ q. absurd (omega arith)) (λ q. absurd (omega arith)) ∙ b.at k (omega (arith, all)) u;
      };
      kept = λ p ne ne' h. other p ne ne' ∙ b.kept p h;
    }
      where
        other : (p : ℕ) → (p ≡ 40 + j → ⊥) → (p ≡ 56 + j → ⊥) → get_or (set (set l (40 + j) i) (56 + j) x) p 0 ≡ get_or l p 0
        other p ne ne' = get_or-set_other (set l (40 + j) i) (56 + j) p x 0 ne' ∙ get_or-set_other l (40 + j) p i 0 ne

-- ---- the first n jobs

module _ {R : Recorder} {l₀ : List ℕ} where
  pub jobs_none : LaidJobs R 0 l₀ l₀
  jobs_none = record { long = refl; lists = λ j h. absurd (omega arith); kept = λ i h. refl }

  pub jobs_next : {n : ℕ} {l l' : List ℕ} → LaidJobs R n l₀ l → LaidJob R n l l' → n < 16 → R.devices.count ≤ 8 → LaidJobs R (n + 1) l₀ l'
  unfolding used_at used_count_at last_at
  jobs_next {n} {l} {l'} b w last few = record {
    long = w.long ∙ b.long;
    lists = λ j h. ⊎_elim (λ (q : j ≡ n). rw q w.lists) (λ q. still j q (b.lists j q)) (eq-or-lt_of_le {n = j} {m = n} (omega arith));
    kept = λ i h. w.kept i (λ q. h (omega arith) (omega arith)) (λ q. h (omega arith) (omega arith)) (λ p q. h (omega arith) (omega arith)) ∙ b.kept i h;
  }
    where
      still : (j : ℕ) → j < n → OfJob R j l → OfJob R j l'
      still j less t = record {
        last = w.kept (56 + j) (λ q. absurd (omega arith)) (λ q. absurd (omega arith)) (λ p q. absurd (omega arith)) ∙ t.last;
        count = w.kept (40 + j) (λ q. absurd (omega arith)) (λ q. absurd (omega arith)) (λ p q. absurd (omega arith)) ∙ t.count;
        at =
            λ k h u.
            let m = used_most R j k in
            w.kept (72 + 8 * j + used_below R j k) (λ q. absurd (omega arith)) (λ q. absurd (omega arith)) (λ p q. absurd (omega (arith, m, few))) ∙ t.at k h u;
      }
