-- The four parts of a place put one after the other, each into the bytes as the one before it left them.
use mathlib.Core.Path.{◌≡◌}
use mathlib.Core.List.{List, [], ◌∷◌, ◌++◌}
use Prim.Native.Nat.{ℕ, ◌≤◌}
use native.Mathlib.Omega.{arith}
use lib.ListN.{length, take, drop, get_or}
use borrow.Rule.Slice.PartMut.{put_mid}
use Rattle.base.proofs.Filling.{filled_first, filled_part}
use Rattle.faults.specs.Places.{Judged}
use Rattle.calls.specs.Bytes.{big}
use Rattle.calls.proofs.Digits.{length_big}
use Rattle.calls_fault.specs.FaultCall.{code_in, record_in, eighteen}

abbrev parts_of : Judged → List ℕ
parts_of f = code_in f.place ∷ record_in f.place ∷ f.from ∷ f.to ∷ []

pub place_told :
    (f : Judged) (l m₁ m₂ m₃ m₄ ps : List ℕ) → 18 ≤ length l → ps ≡ parts_of f
    → m₁ ≡ big (length (take 1 l)) (get_or ps 0 0)
    → (let l₁ = m₁ ++ drop 1 l in m₂ ≡ big (length (take 1 (drop 1 l₁))) (get_or ps 1 0))
    → (let l₂ = put_mid 1 1 (m₁ ++ drop 1 l) m₂ in m₃ ≡ big (length (take 8 (drop 2 l₂))) (get_or ps 2 0))
    → (let l₃ = put_mid 2 8 (put_mid 1 1 (m₁ ++ drop 1 l) m₂) m₃ in m₄ ≡ big (length (take 8 (drop 10 l₃))) (get_or ps 3 0))
    → put_mid 10 8 (put_mid 2 8 (put_mid 1 1 (m₁ ++ drop 1 l) m₂) m₃) m₄ ≡ eighteen f ++ drop 18 l
place_told f l m₁ m₂ m₃ m₄ ps h e e₁ e₂ e₃ e₄ =
    let put : ℕ → ℕ → List ℕ = λ i k. big k (get_or ps i 0) in
    let long : (i k : ℕ) → length (put i k) ≡ k = λ i k. length_big k (get_or ps i 0) in
    let w₁ = filled_first (put 0) (long 0) l 1 (omega arith) m₁ e₁ in
    let w₂ = filled_part (put 1) (long 1) w₁ 1 2 (omega arith) (omega arith) m₂ e₂ in
    let w₃ = filled_part (put 2) (long 2) w₂ 8 10 (omega arith) (omega arith) m₃ e₃ in
    let w₄ = filled_part (put 3) (long 3) w₃ 8 18 (omega arith) (omega arith) m₄ e₄ in
    rw e at w₄.is
