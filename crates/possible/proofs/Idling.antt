-- The jobs of a recorder made to use no device, one after the other.
use mathlib.Core.Path.{◌≡◌, refl, ap, ◌∙◌}
use mathlib.Core.Bool.{false}
use mathlib.Core.List.{List, []}
use mathlib.Core.Logic.{◌⊎◌, inl, inr, ⊎_elim, by_cases}
use Prim.Native.Nat.{ℕ, ◌+◌, ◌<◌}
use native.Mathlib.Decide.{ℕ_discrete, dec_lt}
use native.Mathlib.Omega.{arith}
use lib.ListN.{get_or, set, length, get_or-eq_default}
use lib.Seq.{get_or-set_same, get_or-set_other, set_out}
use Rattle.base.specs.Lists.{padded}
use Rattle.base.proofs.Arrays.{get_d_padded}
use Rattle.schedule.specs.declared.Job.{Job}
use Rattle.schedule.specs.Quantities.{no_job}
use Rattle.possible.specs.inside.Bare.{idle_job}

-- The jobs w are those of l, and the first n of them use no device.
pub record Idled (n : ℕ) (l w : List Job) : Type 0 where
  pub releases : (j : ℕ) → (get_or w j no_job).release ≡ (get_or l j no_job).release
  pub deadlines : (j : ℕ) → (get_or w j no_job).deadline ≡ (get_or l j no_job).deadline
  pub runs : (j : ℕ) → (get_or w j no_job).run ≡ (get_or l j no_job).run
  pub idle : (j k : ℕ) → j < n → get_or (get_or w j no_job).uses k false ≡ false

pub idled_none : (l : List Job) → Idled 0 l l
idled_none l = record { releases = λ j. refl; deadlines = λ j. refl; runs = λ j. refl; idle = λ j k b. absurd (omega (arith, b)) }

module _ (w : List Job) (n : ℕ) where
  abbrev x : Job
  x = idle_job (get_or w n no_job)

  -- Job n is replaced, or there is none.
  either : (get_or (set w n x) n no_job ≡ x) ⊎ ((set w n x ≡ w) × (get_or w n no_job ≡ no_job))
  either =
      elim (dec_lt n (length w)) [
        | yes b ↦ inl (get_or-set_same w n x no_job b)
        | no b ↦ inr (set_out w n x (omega (arith, b)), get_or-eq_default w no_job (omega (arith, b)))
      ]

  same_number : (f : Job → ℕ) → ((q : Job) → f (idle_job q) ≡ f q) → (j : ℕ) → f (get_or (set w n x) j no_job) ≡ f (get_or w j no_job)
  same_number f h j =
      by_cases (ℕ_discrete j n)
      (λ e. rw e (⊎_elim (λ q. ap f q ∙ h (get_or w n no_job)) (λ q. ap (λ (v : List Job). f (get_or v n no_job)) q.0) either))
      (λ ne. ap f (get_or-set_other w n j x no_job ne))

  unused : (k : ℕ) → get_or (get_or (set w n x) n no_job).uses k false ≡ false
  unfolding padded
  unused k =
      ⊎_elim (λ q. ap (λ (v : Job). get_or v.uses k false) q ∙ get_d_padded 8 false [] k)
      (λ q. ap (λ (v : List Job). get_or (get_or v n no_job).uses k false) q.0 ∙ ap (λ (v : Job). get_or v.uses k false) q.1) either

  pub idled_more : (l : List Job) → Idled n l w → Idled (n + 1) l (set w n x)
  idled_more l h =
      record {
        releases = λ j. same_number (λ q. q.release) (λ q. refl) j ∙ h.releases j;
        deadlines = λ j. same_number (λ q. q.deadline) (λ q. refl) j ∙ h.deadlines j;
        runs = λ j. same_number (λ q. q.run) (λ q. refl) j ∙ h.runs j;
        idle = λ j k b. by_cases (ℕ_discrete j n)
            (λ e. rw e (unused k))
            (λ ne. ap (λ (v : Job). get_or v.uses k false) (get_or-set_other w n j x no_job ne) ∙ h.idle j k (omega (arith, b, ne)));
      }
