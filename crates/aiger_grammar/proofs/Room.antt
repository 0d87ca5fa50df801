-- The greatest variable of a checked circuit leaves room for its inputs, latches and gates.
use Rattle.std.proofs.Common.{◌≡◌, ℕ, zero, suc, ◌+◌, ◌≤◌, cond, eqb, leb, List, [], ◌∷◌, ◌++◌, map, length, refl, ap, ◌∙◌, inl, inr, arith, length-append}
use Rattle.std.specs.List.{All, AllByRecursion, count_by}
use Rattle.std.proofs.lemmas.Bool.{cases_eq, cases_lt, eq-eqb, ne_eqb, le-leb, lt-leb}
use Rattle.std.proofs.lemmas.List.{length-map}
use Rattle.std.proofs.lemmas.List.Sums.{sum_by-cons}
use Rattle.std.proofs.lemmas.List.Elements.{recursion_from_All}
use Rattle.aig_semantics.specs.Circuits.{IsChecked, defined}
use Rattle.aig_semantics.proofs.Lists.{AllDiffer}
use Rattle.circuit.proofs.Counting.{count, count-differ}
use Rattle.aiger_grammar.specs.Models.{Model}
use Rattle.aiger_grammar.specs.Texts.{HasRoom}

-- how many of the numbers are at most n
abbrev low : ℕ → List ℕ → ℕ
low n vs = count_by (λ v. leb v n) vs

low-cons : (n v : ℕ) (vs : List ℕ) → low n (v ∷ vs) ≡ cond (leb v n) 1 0 + low n vs
low-cons n v vs = sum_by-cons (λ w. cond (leb w n) 1 0) v vs

count-cons : (u v : ℕ) (vs : List ℕ) → count u (v ∷ vs) ≡ cond (eqb v u) 1 0 + count u vs
count-cons u v vs = sum_by-cons (λ w. cond (eqb w u) 1 0) v vs

none_low : (vs : List ℕ) → AllByRecursion (λ v. (1 ≤ v)) vs → low 0 vs ≡ 0
none_low [] all = refl
none_low (v ∷ vs) all =
    low-cons 0 v vs ∙ ap (λ t. cond t 1 0 + low 0 vs) (lt-leb v 0 (omega (arith, all.0))) ∙ ap (λ k. 0 + k) (none_low vs all.1)

all_low : (n : ℕ) (vs : List ℕ) → AllByRecursion (λ v. (v ≤ n)) vs → low n vs ≡ length vs
all_low n [] all = refl
all_low n (v ∷ vs) all =
    let step : low n (v ∷ vs) ≡ 1 + low n vs = low-cons n v vs ∙ ap (λ t. cond t 1 0 + low n vs) (le-leb v n all.0) in
    let rest : low n vs ≡ length vs = all_low n vs all.1 in
    omega (arith, step, rest)

-- whether a number is at most n + 1: it is at most n, or it is n + 1
one_more : (n v : ℕ) → cond (leb v (suc n)) 1 0 ≡ cond (leb v n) 1 0 + cond (eqb v (suc n)) 1 0
one_more n v =
    elim (cases_eq v (suc n)) [
      | inl e ↦ rw (le-leb v (suc n) (omega arith), lt-leb v n (omega arith), eq-eqb v (suc n) e) refl
      | inr ne ↦ elim (cases_lt v (suc n)) [
        | inl lt ↦ rw (le-leb v (suc n) (omega arith), le-leb v n (omega arith), ne_eqb v (suc n) ne) refl
        | inr ge ↦ rw (lt-leb v (suc n) (omega arith), lt-leb v n (omega arith), ne_eqb v (suc n) ne) refl
      ]
    ]

low_more : (n : ℕ) (vs : List ℕ) → low (suc n) vs ≡ low n vs + count (suc n) vs
low_more n [] = refl
low_more n (v ∷ vs) =
    let a : low (suc n) (v ∷ vs) ≡ cond (leb v (suc n)) 1 0 + low (suc n) vs = low-cons (suc n) v vs in
    let b : low n (v ∷ vs) ≡ cond (leb v n) 1 0 + low n vs = low-cons n v vs in
    let c : count (suc n) (v ∷ vs) ≡ cond (eqb v (suc n)) 1 0 + count (suc n) vs = count-cons (suc n) v vs in
    let d : low (suc n) vs ≡ low n vs + count (suc n) vs = low_more n vs in
    let e : cond (leb v (suc n)) 1 0 ≡ cond (leb v n) 1 0 + cond (eqb v (suc n)) 1 0 = one_more n v in
    omega (arith, a, b, c, d, e)

few_low : (n : ℕ) (vs : List ℕ) → AllDiffer vs → AllByRecursion (λ v. (1 ≤ v)) vs → low n vs ≤ n
few_low zero vs apart all = let e : low 0 vs ≡ 0 = none_low vs all in omega (arith, e)
few_low (suc n) vs apart all =
    let e : low (suc n) vs ≡ low n vs + count (suc n) vs = low_more n vs in
    omega (arith, e, few_low n vs apart all, count-differ (suc n) vs apart)

-- numbers from 1 to n that differ are at most n
pub few : (n : ℕ) (vs : List ℕ) → AllDiffer vs → All (λ v. (1 ≤ v) × (v ≤ n)) vs → length vs ≤ n
few n vs apart all =
    let e : low n vs ≡ length vs = all_low n vs (recursion_from_All (λ v. v ≤ n) vs (λ k d below. (all k d below).1)) in
    omega (arith, e, few_low n vs apart (recursion_from_All (λ v. 1 ≤ v) vs (λ k d below. (all k d below).0)))

pub has_room : (m : Model) → IsChecked m.circuit → HasRoom m
has_room m checked =
    let c = m.circuit in
    let latches = map (λ latch. latch.var) c.latches in
    let gates = map (λ gate. gate.var) c.gates in
    let a : length (defined c) ≡ length (c.inputs ++ latches) + length gates = length-append (c.inputs ++ latches) gates in
    let b : length (c.inputs ++ latches) ≡ length c.inputs + length latches = length-append c.inputs latches in
    let l : length latches ≡ length c.latches = length-map c.latches (λ latch. latch.var) in
    let g : length gates ≡ length c.gates = length-map c.gates (λ gate. gate.var) in
    omega (arith, few c.max (defined c) checked.once checked.in_range, a, b, l, g)
