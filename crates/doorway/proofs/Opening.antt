-- Laws of every door: no second outcome, and start times of which no more are handed on than decide the answer.
use mathlib.Core.Path.{◌≡◌, refl, sym, ap, subst, ◌∙◌}
use mathlib.Core.Bool.{Bool, true, false}
use mathlib.Core.List.{List, ◌++◌}
use Prim.Native.Nat.{ℕ, ◌*◌, ◌/◌, ◌≤◌, ◌<◌, min}
use native.Mathlib.Omega.{arith}
use lib.Dec.{leb}
use lib.IntN.{ℤ}
use lib.ListN.{length, take, drop}
use lib.Seq.{take-append-le, length-take-le}
use borrow.Author.Tests.{leb-true, leb-false}
use Rattle.base.specs.Bytes.{pair_at}
use Rattle.base.proofs.Arrays.{length_up_to}
use Rattle.schedule.specs.declared.Recorder.{Recorder}
use Rattle.schedule.specs.Quantities.{Valid}
use Rattle.request.proofs.Accepted.{accepted_valid, refused_number}
use Rattle.planner.specs.declared.Answer.{Answer}
use Rattle.planner.specs.Promises.{OfFile, refused, read, VerdictOf, Judged, MarginsOf}
use Rattle.planner.specs.Promises as P
use Rattle.planner.proofs.Reading.{same_recorder, not_both}
use Rattle.planner.proofs.Refusing.{One, unless_alike}
use Rattle.calls.specs.Bytes.{spread, starts_in}
use Rattle.calls.specs.Calls.{told, Spelled, kept, given, twos}
use Rattle.calls.proofs.Crossing.{own_starts}
use Rattle.calls.proofs.Only.{one_spelled}
use Rattle.doorway.specs.Doors.{Door, shut, answered, starts_of}
use Rattle.doorway.specs.inside.Handing.{Handed, whole, many}

-- An open door, by what is told.
pub answered_as : {L Open : Type 0} (result : List ℕ) (lent : L) (Then : Answer → L → Type 0) {a b : Answer} {after : L} {n : ℕ} {r : List ℕ}
    → (n ≡ b.number) × (r ≡ told b result) → b ≡ a → Open → Then a after → Door Open result lent Then n r after
answered_as result lent Then m e o t = rw (m.0, m.1, e) (answered o t)

-- ---- no second outcome

pub only_door : {L Open : Type 0} (result : List ℕ) (lent : L) (Then : Answer → L → Type 0) → One Then
    → {n n' : ℕ} {r r' : List ℕ} {l l' : L} → Door Open result lent Then n r l → Door Open result lent Then n' r' l' → (n ≡ n') × (r ≡ r') × (l ≡ l')
only_door result lent Then one (shut c) (shut c') = (refl, refl, refl)
only_door result lent Then one (shut c) (answered o' t') = absurd (c o')
only_door result lent Then one (answered o t) (shut c') = absurd (c' o)
only_door result lent Then one (answered {a = a} {after = l} o t) (answered {a = a'} {after = l'} o' t') =
    let e = one a a' l l' t t' in
    (ap (λ (b : Answer). b.number) e.0, ap (λ (b : Answer). told b result) e.0, e.1)

-- What is spelled for a file is one thing, if what its operation fills is.
pub only_spelled : {P L : Type 0} (file : List ℕ) (places : P) (lent : L) (Then : Recorder → Answer → P → Type 0) (written : Recorder → Answer → P → L)
    → One (OfFile file places Then) → One (OfFile file lent (λ R. Spelled lent (written R) (Then R)))
only_spelled file places lent Then written one a a' l l' (refused r) (refused r') = ((one _ _ places places (refused r) (refused r')).0, refl)
only_spelled file places lent Then written one a a' l l' (refused r) (read r' t') = absurd (not_both file r r')
only_spelled file places lent Then written one a a' l l' (read r t) (refused r') = absurd (not_both file r' r)
only_spelled file places lent Then written one a a' l l' (read {R = R} r t) (read r' t') =
    one_spelled lent (written R) (Then R) (λ b b' p p' x x'. one b b' p p' (read r x) (read r x')) a a' l l' t
    (subst (λ (X : Recorder). Spelled lent (written X) (Then X) a' l') (same_recorder file r' r) t')

-- ---- start times

handed_starts : (bytes : List ℕ) (n : ℕ) → n ≡ min (length bytes / 2) 17 → Handed (starts_of bytes) (starts_in bytes n)
handed_starts bytes n e = go (leb (length bytes / 2) 16) refl
  where
    long : (m : ℕ) → length (starts_in bytes m) ≡ m
    long m = length_up_to (λ j. pair_at bytes (j * 2)) m

    go : (b : Bool) → leb (length bytes / 2) 16 ≡ b → Handed (starts_of bytes) (starts_in bytes n)
    go true h =
        let few = leb-true (length bytes / 2) 16 h in
        let same : length bytes / 2 ≡ n = omega arith in
        subst (λ (m : ℕ). Handed (starts_of bytes) (starts_in bytes m)) same whole
    go false h =
        let more = leb-false (length bytes / 2) 16 h in
        many {some = starts_in bytes n} (omega (arith, long n)) (omega (arith, long (length bytes / 2)))

-- The start times read into the front of a list z, and taken from it.
pub handed_own : (bytes z own : List ℕ) (n : ℕ) → n ≤ length z → n ≡ min (length bytes / 2) 17 → own ≡ starts_in bytes (length (take n z))
    → Handed (starts_of bytes) (take n (own ++ drop n z))
handed_own bytes z own n h m e = subst (Handed (starts_of bytes)) (sym (own_starts bytes z own n h e)) (handed_starts bytes n m)

-- An outcome for what is handed on is one for all: what is to be shown is only that of more start times than any file has jobs the cases of an operation say
-- one thing.
pub all_handed : {L : Type 0} (file : List ℕ) (lent : L) (Then : List ℕ → Recorder → Answer → L → Type 0)
    → ((R : Recorder) → Valid R → (s s' : List ℕ) → 16 < length s → 16 < length s' → (a : Answer) (l : L) → Then s R a l → Then s' R a l)
    → {all some : List ℕ} → Handed all some → {a : Answer} {l : L} → OfFile file lent (Then some) a l → OfFile file lent (Then all) a l
all_handed file lent Then more whole p = p
all_handed file lent Then more (many h h') (refused r) = refused r
all_handed file lent Then more {all = all} (many {some = some} h h') (read {R = R} {a = a} {after = l} r t) =
    read r (more R (accepted_valid file R r) some all h h' a l t)

-- The same of what is spelled.
pub spelled_as : {P L : Type 0} (lent : L) (written : Answer → P → L) (Then Then' : Answer → P → Type 0) → ((a : Answer) (p : P) → Then a p → Then' a p)
    → {a : Answer} {l : L} → Spelled lent written Then a l → Spelled lent written Then' a l
spelled_as lent written Then Then' to (kept {a = a} {places = p} n t) = kept n (to a p t)
spelled_as lent written Then Then' to (given {a = a} {places = p} z t) = given z (to a p t)

pub spelled_all : {P L : Type 0} (file : List ℕ) (lent : L) (written : Recorder → Answer → P → L) (Then : List ℕ → Recorder → Answer → P → Type 0)
    → ((R : Recorder) → Valid R → (s s' : List ℕ) → 16 < length s → 16 < length s' → (a : Answer) (p : P) → Then s R a p → Then s' R a p)
    → {all some : List ℕ} → Handed all some
    → {a : Answer} {l : L} → OfFile file lent (λ R. Spelled lent (written R) (Then some R)) a l → OfFile file lent (λ R. Spelled lent (written R) (Then all R)) a l
spelled_all file lent written Then more h p =
    all_handed file lent (λ s R. Spelled lent (written R) (Then s R))
    (λ R v s s' g g' a l. spelled_as lent (written R) (Then s R) (Then s' R) (λ b q. more R v s s' g g' b q)) h p

-- The verdict and the margins.
many_verdict : (R : Recorder) → Valid R → (s s' : List ℕ) → 16 < length s → 16 < length s' → {a : Answer} → VerdictOf s R a → VerdictOf s' R a
many_verdict R v s s' h h' = unless_alike (λ e. omega (arith, e, h, v.few_jobs)) (λ e. omega (arith, e, h', v.few_jobs))

pub judged_all : (file : List ℕ) {all some : List ℕ} → Handed all some → {a : Answer} → Judged file some a → Judged file all a
judged_all file h p = all_handed {L = Unit {0}} file tt (λ s R a u. VerdictOf s R a) (λ R v s s' h h' a u. many_verdict R v s s' h h') h p

pub many_margins : (R : Recorder) → Valid R → (lent : List ℤ) (s s' : List ℕ) → 16 < length s → 16 < length s' → {a : Answer} {l : List ℤ}
    → MarginsOf s lent R a l → MarginsOf s' lent R a l
many_margins R v lent s s' h h' = unless_alike (λ e. omega (arith, e, h, v.few_jobs)) (λ e. omega (arith, e, h', v.few_jobs))

-- ---- places of one's own

-- From places of one's own to lent bytes: a refusal keeps these, and a success is to be shown for the recorder that the file is read as.
pub kept_places : {P L : Type 0} (file : List ℕ) (own : P) (lent : L) (Then : Recorder → Answer → P → Type 0) (Then' : Recorder → Answer → L → Type 0)
    → ((R : Recorder) → Valid R → (a : Answer) (p : P) → (a.number ≡ 0 → ⊥) → Then R a p → Then' R a lent)
    → {a : Answer} {p : P} → (a.number ≡ 0 → ⊥) → OfFile file own Then a p → OfFile file lent Then' a lent
kept_places file own lent Then Then' to n (refused r) = refused r
kept_places file own lent Then Then' to n (read {R = R} {a = a} {after = p} r t) = read r (to R (accepted_valid file R r) a p n t)

pub given_places : {P L : Type 0} (file : List ℕ) (own : P) (lent : L) (Then : Recorder → Answer → P → Type 0) (Then' : Recorder → Answer → L → Type 0)
    (a : Answer) (p : P) (after : L) → ((R : Recorder) → Valid R → Then R a p → Then' R a after) → a.number ≡ 0 → OfFile file own Then a p → OfFile file lent Then' a after
given_places file own lent Then Then' a p after to z (refused {n = n} r) = absurd (omega (arith, z, refused_number file n r))
given_places file own lent Then Then' a p after to z (read {R = R} r t) = read r (to R (accepted_valid file R r) t)

-- Start times that were filled into the front of a list, and their first n spread over lent bytes.
pub twos_front : (filled rest lent after : List ℕ) (n j : ℕ) → j ≡ n → n ≤ length filled
    → after ≡ spread (take j (filled ++ rest)) ++ drop (length (take j (filled ++ rest)) * 2) lent → after ≡ twos filled n lent
twos_front filled rest lent after n j same h e = e ∙ rw (same, take-append-le n filled rest h, length-take-le n filled h)
