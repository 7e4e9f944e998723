-- The facts that others cite, in the words of specs/Row: the row by the rule for gaps is the row given, and the only one, by either rule; what each job placed adds
-- to a row and to its energy; and in a round what the gap over the seam adds.
use mathlib.Core.Path.{◌≡◌, sym, ap, ◌∙◌}
use mathlib.Core.Bool.{Bool, true, false}
use mathlib.Core.List.{List, [], ◌∷◌, ◌++◌, append_assoc, append-nil}
use Prim.Native.Nat.{ℕ, zero, suc, ◌+◌, ◌*◌, ◌≤◌}
use native.Mathlib.Omega.{arith}
use native.Mathlib.Nat.{add-zero, add-suc, suc-add, zero-add}
use lib.ListN.{length, take, drop, replicate, length-append, length-replicate, replicate-append-replicate, take-append-drop}
use lib.Seq.{take-append-add, drop-append-add}
use Rattle.base.proofs.Additions.{total_append, total_replicate}
use Rattle.device.specs.declared.Device.{Device}
use Rattle.device.specs.Row.{Sound, Letter, at, W, State, level, stays, rests, Goes, over, used, free, at_work, Forever, LegalRow, power, energy, moving, LeastRow, gap_cost, gap_row, row_from, round_from, row_of, energy_of}
use Rattle.device.proofs.Pattern.{Ended, ended_rest, placed}
use Rattle.device.proofs.Prefix.{length_row_from, row_from_place, row_from_close, total_place, total_close}
use Rattle.device.proofs.Rows.{Beats, row_legal, row_beats}
use Rattle.device.proofs.Chosen.{length_gap, gap_none}
pub use Rattle.device.proofs.Chosen.{gap_low, gap_most}
use Rattle.device.proofs.Levels.{machine, machine_works, best_gap}
use Rattle.device.proofs.Depths.{cheapest}
use Rattle.device.proofs.Round as O

module _ (d : Device) where
  -- A row of the specs is one of the theory.
  to : {s z : State} {u : List Bool} {r : List Letter} → Goes d s u r z → O.Goes (machine d) s u r z
  to over = O.over
  to (used st g) = O.works st (to g)
  to (free st g) = O.moves st (to g)

  back : {s z : State} {u : List Bool} {r : List Letter} → O.Goes (machine d) s u r z → Goes d s u r z
  back O.over = over
  back (O.works st g) = used st (back g)
  back (O.moves st g) = free st (back g)

  -- A state at the seam that comes back to itself is enough for ever; and where a tick is used there is one.
  pub seam_forever : {s : State} {u : List Bool} {r : List Letter} → Goes d s u r s → Forever d u r
  seam_forever {s} g = record { seam = λ i. s; goes = λ i. g }

  pub one_seam : (u u' : List Bool) {r : List Letter} → Forever d (u ++ true ∷ u') r → (s : State) × Goes d s (u ++ true ∷ u') r s
  one_seam u u' f =
      let o = O.one_seam (machine d) (machine_works d) u u' (record { seam = f.seam; goes = λ i. to (f.goes i) }) in
      (o.seam, back o.goes)

  module _ (ok : Sound d) where
    -- Legal, and beats every legal row, by either rule.
    row_best : (round : Bool) (u : List Bool) → LegalRow round d u (row_of round d u)
        × ((r : List Letter) → LegalRow round d u r → Beats (power d) moving (row_of round d u) r)
    row_best false u =
        let g = O.legal_goes (machine d) (row_legal (machine d) (power d) moving (gap_row d) (machine_works d) (best_gap d ok) u) in (
          record { last = g.0; goes = back g.1; ends = g.2 },
          λ r l. row_beats (machine d) (power d) moving (gap_row d) (machine_works d) (best_gap d ok) u r (O.goes_legal (machine d) (to l.goes) l.ends),
        )
    row_best true u =
        let t = O.theorem_round (machine d) (power d) moving (gap_row d) (machine_works d) (best_gap d ok) (at d.levels) (level d.levels) (cheapest d ok) u in
        (record { seam = t.0.seam; goes = λ i. back (t.0.goes i) }, λ r l. t.1 r (record { seam = l.seam; goes = λ i. to (l.goes i) }))

    -- THEOREM (rules 37, 38 and 86 to 88): for every pattern of use the row by the rule for gaps is the row given,
    pub row_least : (round : Bool) (u : List Bool) → LeastRow round d u (row_of round d u)
    row_least round u =
        let b = row_best round u in
        record { legal = b.0; least = λ r l. (b.1 r l).0; shallowest = λ r l h. (b.1 r l).1 h }

    -- and there is no other.
    pub least_is_row : (round : Bool) {u : List Bool} {r : List Letter} → LeastRow round d u r → r ≡ row_of round d u
    least_is_row round {u} {r} l =
        let b = row_best round u in
        let e = l.least (row_of round d u) b.0 in
        (b.1 r l.legal).2 e (l.shallowest (row_of round d u) b.0 (b.1 r l.legal).0)

    pub least_energy : (round : Bool) {u : List Bool} {r : List Letter} → LeastRow round d u r → energy d r ≡ energy_of round d u
    least_energy round l = ap (energy d) (least_is_row round l)

    -- Working throughout is legal by either rule, so no least row costs more than the working power a tick.
    all_work : (u : List Bool) → Goes d (level 0) u (replicate (length u) W) (level 0)
    all_work [] = over
    all_work (true ∷ u) = used (stays {k = 0} rests (omega arith)) (all_work u)
    all_work (false ∷ u) = free (stays {k = 0} rests (omega arith)) (all_work u)

    pub energy_most : (round : Bool) (u : List Bool) → energy_of round d u ≤ d.pw * length u
    energy_most round u = omega (arith, (row_least round u).least (replicate (length u) W) (legal round), total_replicate (power d) (length u) W)
      where
        legal : (round : Bool) → LegalRow round d u (replicate (length u) W)
        legal false = record { last = level 0; goes = all_work u; ends = at_work }
        legal true = seam_forever (all_work u)

  abbrev round : ℕ → List Bool → List Letter
  round = round_from W (gap_row d) (at d.levels)

  -- A row has one letter for each tick (rule 30).
  length_round : (g : ℕ) (u : List Bool) → length (round g u) ≡ g + length u
  length_round g [] = omega (arith, length-replicate g (at d.levels))
  length_round g (true ∷ u) =
      let n = length u in
      let q = row_from W (gap_row d) 0 (u ++ replicate g false) in
      let whole : length q ≡ length (take n q) + length (drop n q) = sym (ap length (take-append-drop n q)) ∙ length-append (take n q) (drop n q) in
      let all : length q ≡ 0 + length (u ++ replicate g false) = length_row_from W (gap_row d) (length_gap d) 0 (u ++ replicate g false) in
      omega (arith, length-append (drop n q) (W ∷ take n q), length-append u (replicate g false), length-replicate g false)
  length_round g (false ∷ u) = omega (arith, length_round (suc g) u)

  pub length_row : (round : Bool) (u : List Bool) → length (row_of round d u) ≡ length u
  length_row false u = omega (arith, length_row_from W (gap_row d) (length_gap d) 0 u)
  length_row true u = omega (arith, length_round 0 u)

  -- Job by job: a job of c + 1 ticks placed n ticks after the last use, and the gap after the last job.
  pub energy_none : energy_of false d [] ≡ 0
  energy_none = ap (energy d) (gap_none d)

  module _ {u : List Bool} (e : Ended u) (n : ℕ) where
    pub row_place : (c : ℕ) → row_of false d (u ++ placed n c) ≡ row_of false d u ++ (gap_row d n ++ replicate (suc c) W)
    row_place c = row_from_place W (gap_row d) (gap_none d) e n c

    pub row_close : row_of false d (u ++ replicate n false) ≡ row_of false d u ++ gap_row d n
    row_close = row_from_close W (gap_row d) (gap_none d) e n

    pub energy_place : (c : ℕ) → energy_of false d (u ++ placed n c) ≡ energy_of false d u + (gap_cost d n + d.pw * suc c)
    unfolding gap_cost
    energy_place c = total_place W (gap_row d) (gap_none d) (power d) e n c

    pub energy_close : energy_of false d (u ++ replicate n false) ≡ energy_of false d u + gap_cost d n
    unfolding gap_cost
    energy_close = total_close W (gap_row d) (gap_none d) (power d) e n

  -- A row that is one gap.
  gap_from : (a n : ℕ) → row_from W (gap_row d) a (replicate n false) ≡ gap_row d (a + n)
  gap_from a zero = rw add-zero
  gap_from a (suc n) = rw (add-suc, ← suc-add) (gap_from (suc a) n)

  pub row_gap : (g : ℕ) → row_of false d (replicate g false) ≡ gap_row d g
  row_gap g = gap_from 0 g ∙ ap (gap_row d) (zero-add g)

  -- A round: g more unused ticks before the rest; a round without a use.
  round_skip : (b g : ℕ) (u : List Bool) → round g (replicate b false ++ u) ≡ round (g + b) u
  round_skip zero g u = rw add-zero
  round_skip (suc b) g u = rw (add-suc, ← suc-add) (round_skip b (suc g) u)

  pub round_never : (h : ℕ) → row_of true d (replicate h false) ≡ replicate h (at d.levels)
  round_never h = ap (round 0) (sym (append-nil (replicate h false))) ∙ round_skip h 0 [] ∙ ap (λ (n : ℕ). replicate n (at d.levels)) (zero-add h)

  -- A round with a use, b ticks after its beginning, and the last n ticks after its end: at both ends stand the two parts of one gap.
  pub round_row : (p : List Bool) → Ended (true ∷ p) → (b n : ℕ)
      → row_of true d (replicate b false ++ (true ∷ p ++ replicate n false))
      ≡ drop n (gap_row d (n + b)) ++ (row_of false d (true ∷ p) ++ take n (gap_row d (n + b)))
  round_row p e b n =
      let z = gap_none d in
      let fill = gap_row d (n + b) in
      let row = row_from W (gap_row d) 0 p in
      let q = row_from W (gap_row d) 0 ((p ++ replicate n false) ++ replicate b false) in
      let m = length (p ++ replicate n false) in
      let whole : (p ++ replicate n false) ++ replicate b false ≡ p ++ replicate (n + b) false = rw (append_assoc, replicate-append-replicate) in
      let filled : q ≡ row ++ fill = ap (row_from W (gap_row d) 0) whole ∙ row_from_close W (gap_row d) z (ended_rest e) (n + b) in
      let long : length row ≡ length p = omega (arith, length_row_from W (gap_row d) (length_gap d) 0 p) in
      let many : m ≡ length row + n = omega (arith, length-append p (replicate n false), length-replicate n false) in
      let front : take m q ≡ row ++ take n fill = rw (filled, many) (take-append-add row fill n) in
      let back : drop m q ≡ drop n fill = rw (filled, many) (drop-append-add row fill n) in
      let first : row_of false d (true ∷ p) ≡ W ∷ row = rw z in
      round_skip b 0 (true ∷ p ++ replicate n false) ∙ rw (zero-add, front, back, first)

  -- What stands between the two parts of a gap, and the gap.
  pub seam_energy : (r : List Letter) (g n : ℕ) → energy d (drop n (gap_row d g) ++ (r ++ take n (gap_row d g))) ≡ energy d r + gap_cost d g
  unfolding gap_cost
  seam_energy r g n =
      let fill = gap_row d g in
      omega (
        arith,
        total_append (power d) (drop n fill) (r ++ take n fill),
        total_append (power d) r (take n fill),
        ap (energy d) (take-append-drop n fill),
        total_append (power d) (take n fill) (drop n fill),
      )

  -- So the round costs what the uses and the gaps between them cost, and that one gap.
  pub round_close : (p : List Bool) → Ended (true ∷ p) → (b n : ℕ)
      → energy_of true d (replicate b false ++ (true ∷ p ++ replicate n false)) ≡ energy_of false d (true ∷ p) + gap_cost d (n + b)
  round_close p e b n = ap (energy d) (round_row p e b n) ∙ seam_energy (row_of false d (true ∷ p)) (n + b) n

  -- A gap before the first use, where it is one of its own: without it the rest costs so much less.
  front_from : (g a : ℕ) (p : List Bool) → energy d (row_from W (gap_row d) g (replicate a false ++ true ∷ p)) ≡ gap_cost d (g + a) + energy_of false d (true ∷ p)
  unfolding gap_cost
  front_from g zero p = rw (add-zero, gap_none d, total_append)
  front_from g (suc a) p = rw (add-suc, ← suc-add) (front_from (suc g) a p)

  pub energy_front : (a : ℕ) (p : List Bool) → energy_of false d (replicate a false ++ true ∷ p) ≡ gap_cost d a + energy_of false d (true ∷ p)
  energy_front a p = front_from 0 a p ∙ rw zero-add
