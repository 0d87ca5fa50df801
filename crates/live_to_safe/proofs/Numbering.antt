-- The variables of the new latches and gates are numbered in their order.
use Rattle.std.proofs.Common.{◌≡◌, ℕ, suc, ◌+◌, ◌*◌, ◌≤◌, List, [], ◌∷◌, ◌++◌, map, length, refl, sym, ap, ◌∙◌, arith, length-append}
use Rattle.std.specs.List.{range_with_len}
use Rattle.std.proofs.lemmas.List.{map-append}
use Rattle.aig_semantics.specs.declared.parts.Latch.{Latch}
use Rattle.aig_semantics.specs.declared.parts.Gate.{Gate}
use Rattle.aig_semantics.specs.declared.limits.TheConstants.{MAX_VARIABLE}
use Rattle.aiger_grammar.proofs.Ranges.{range_append}
use Rattle.live_to_safe.specs.declared.sizes.Sizes.{Sizes}
use Rattle.live_to_safe.specs.Numbers.{saved, seen, saving, latch_gate, literal_gate, bad_gate, greatest}
use Rattle.live_to_safe.specs.Watching.{numbered, for_each, copy_latch, seen_latch, new_latches, saving_gates, latch_gates, literal_gates, chain, back_and_seen, new_gates}
use Rattle.live_to_safe.proofs.Lists.{cons-same, numbered-length, numbered-vars}

-- ---- latches

pub latch_vars : (z : Sizes) → map (λ latch. latch.var) (new_latches z) ≡ range_with_len (z.variables + 2) (1 + z.latches + z.literals)
latch_vars z =
    let copies = numbered (copy_latch z) 0 z.latches in
    let seens = numbered (seen_latch z) 0 z.literals in
    let a : z.variables + 3 + 0 ≡ z.variables + 3 = omega arith in
    let b : z.variables + 3 + z.latches + 0 ≡ z.variables + 3 + z.latches = omega arith in
    let first = numbered-vars (copy_latch z) (λ latch. latch.var) (z.variables + 3) 0 z.latches (λ i. refl) ∙ ap (λ x. range_with_len x z.latches) a in
    let second = numbered-vars (seen_latch z) (λ latch. latch.var) (z.variables + 3 + z.latches) 0 z.literals (λ i. refl) ∙ ap (λ x. range_with_len x z.literals) b in
    let rest : map (λ latch. latch.var) (copies ++ seens) ≡ range_with_len (z.variables + 3) (z.latches + z.literals) =
    map-append (λ latch. latch.var) copies seens
    ∙ ap (λ xs. xs ++ map (λ latch. latch.var) seens) first
    ∙ ap (λ xs. range_with_len (z.variables + 3) z.latches ++ xs) second
    ∙ range_append (z.variables + 3) z.latches z.literals
    in
    let c : z.variables + 3 ≡ z.variables + 2 + 1 = omega arith in
    let d : suc (z.latches + z.literals) ≡ 1 + z.latches + z.literals = omega arith in
    ap (λ xs. (z.variables + 2) ∷ xs) (rest ∙ ap (λ x. range_with_len x (z.latches + z.literals)) c)
    ∙ ap (range_with_len (z.variables + 2)) d

-- ---- gates

six : (v : ℕ) → range_with_len v 6 ≡ v ∷ (v + 1) ∷ (v + 2) ∷ (v + 3) ∷ (v + 4) ∷ (v + 5) ∷ []
six v =
    cons-same v v _ _ refl
    (cons-same (v + 1) (v + 1) _ _ refl
    (cons-same (v + 1 + 1) (v + 2) _ _ (omega arith)
    (cons-same (v + 1 + 1 + 1) (v + 3) _ _ (omega arith)
    (cons-same (v + 1 + 1 + 1 + 1) (v + 4) _ _ (omega arith)
    (cons-same (v + 1 + 1 + 1 + 1 + 1) (v + 5) [] [] (omega arith) refl)))))

pub latch_gate_vars : (z : Sizes) (k : ℕ) (latches : List Latch)
    → map (λ gate. gate.var) (for_each (latch_gates z) k latches) ≡ range_with_len (latch_gate z k) (6 * length latches)
latch_gate_vars z k [] = refl
latch_gate_vars z k (latch ∷ latches) =
    let v = latch_gate z k in
    let e : latch_gate z (k + 1) ≡ latch_gate z k + 6 = omega arith in
    let d : 6 + 6 * length latches ≡ 6 * suc (length latches) = omega arith in
    map-append (λ gate. gate.var) (latch_gates z k latch) (for_each (latch_gates z) (k + 1) latches)
    ∙ ap (λ xs. xs ++ map (λ gate. gate.var) (for_each (latch_gates z) (k + 1) latches)) (sym (six v))
    ∙ ap (λ xs. range_with_len v 6 ++ xs) (latch_gate_vars z (k + 1) latches ∙ ap (λ x. range_with_len x (6 * length latches)) e)
    ∙ range_append v 6 (6 * length latches)
    ∙ ap (range_with_len v) d

pub literal_gate_vars : (z : Sizes) (k : ℕ) (literals : List ℕ)
    → map (λ gate. gate.var) (for_each (literal_gates z) k literals) ≡ range_with_len (literal_gate z k) (2 * length literals)
literal_gate_vars z k [] = refl
literal_gate_vars z k (literal ∷ literals) =
    let v = literal_gate z k in
    let e : literal_gate z (k + 1) ≡ literal_gate z k + 2 = omega arith in
    let d : 2 + 2 * length literals ≡ 2 * suc (length literals) = omega arith in
    map-append (λ gate. gate.var) (literal_gates z k literal) (for_each (literal_gates z) (k + 1) literals)
    ∙ ap (λ xs. range_with_len v 2 ++ xs) (literal_gate_vars z (k + 1) literals ∙ ap (λ x. range_with_len x (2 * length literals)) e)
    ∙ range_append v 2 (2 * length literals)
    ∙ ap (range_with_len v) d

pub chain_vars : (v so_far : ℕ) (literals : List ℕ) → map (λ gate. gate.var) (chain v so_far literals) ≡ range_with_len v (length literals)
chain_vars v so_far [] = refl
chain_vars v so_far (literal ∷ literals) = ap (λ xs. v ∷ xs) (chain_vars (v + 1) (2 * v) literals)

pub back_length : (z : Sizes) → length (back_and_seen z) ≡ z.latches + z.literals
back_length z =
    let a = numbered-length (λ i. 2 * (latch_gate z i + 5)) 0 z.latches in
    let b = numbered-length (λ m. 2 * seen z m) 0 z.literals in
    let e = length-append (numbered (λ i. 2 * (latch_gate z i + 5)) 0 z.latches) (numbered (λ m. 2 * seen z m) 0 z.literals) in
    omega (arith, a, b, e)

-- the chain ends within the limit
pub chain_fits : (z : Sizes) (v : ℕ) (literals : List ℕ) → v ≡ bad_gate z → literals ≡ back_and_seen z → greatest z ≤ MAX_VARIABLE → v + length literals ≤ MAX_VARIABLE + 1
chain_fits z v literals is are fits =
    let size : length literals ≡ length (back_and_seen z) = ap length are in
    omega (arith, is, size, back_length z, fits)

pub gate_vars : (z : Sizes) (latches : List Latch) (literals : List ℕ) → length latches ≡ z.latches → length literals ≡ z.literals
    → map (λ gate. gate.var) (new_gates z latches literals) ≡ range_with_len (saving z) (2 + 7 * z.latches + 3 * z.literals)
gate_vars z latches literals l q =
    let var : Gate → ℕ = λ gate. gate.var in
    let one = for_each (latch_gates z) 0 latches in
    let two = for_each (literal_gates z) 0 literals in
    let three = chain (bad_gate z) (2 * saved z) (back_and_seen z) in
    let s = saving z in
    let a : latch_gate z 0 ≡ saving z + 2 = omega arith in
    let b : 6 * length latches ≡ 6 * z.latches = omega (arith, l) in
    let c : literal_gate z 0 ≡ saving z + (2 + 6 * z.latches) = omega arith in
    let d : 2 * length literals ≡ 2 * z.literals = omega (arith, q) in
    let e : bad_gate z ≡ saving z + (2 + 6 * z.latches + 2 * z.literals) = omega arith in
    let f : 2 + 6 * z.latches + 2 * z.literals + (z.latches + z.literals) ≡ 2 + 7 * z.latches + 3 * z.literals = omega arith in
    let of_one : map var one ≡ range_with_len (saving z + 2) (6 * z.latches) =
    latch_gate_vars z 0 latches ∙ ap (λ x. range_with_len x (6 * length latches)) a ∙ ap (range_with_len (saving z + 2)) b
    in
    let of_two : map var two ≡ range_with_len (saving z + (2 + 6 * z.latches)) (2 * z.literals) =
    literal_gate_vars z 0 literals ∙ ap (λ x. range_with_len x (2 * length literals)) c ∙ ap (range_with_len (saving z + (2 + 6 * z.latches))) d
    in
    let of_three : map var three ≡ range_with_len (saving z + (2 + 6 * z.latches + 2 * z.literals)) (z.latches + z.literals) =
    chain_vars (bad_gate z) (2 * saved z) (back_and_seen z) ∙ ap (λ x. range_with_len x (length (back_and_seen z))) e
    ∙ ap (range_with_len (saving z + (2 + 6 * z.latches + 2 * z.literals))) (back_length z)
    in
    let upto_one : map var (saving_gates z ++ one) ≡ range_with_len (saving z) (2 + 6 * z.latches) =
    map-append var (saving_gates z) one ∙ ap (λ xs. range_with_len (saving z) 2 ++ xs) of_one ∙ range_append (saving z) 2 (6 * z.latches)
    in
    let upto_two : map var (saving_gates z ++ one ++ two) ≡ range_with_len (saving z) (2 + 6 * z.latches + 2 * z.literals) =
    map-append var (saving_gates z ++ one) two ∙ ap (λ xs. xs ++ map var two) upto_one
    ∙ ap (λ xs. range_with_len (saving z) (2 + 6 * z.latches) ++ xs) of_two ∙ range_append (saving z) (2 + 6 * z.latches) (2 * z.literals)
    in
    map-append var (saving_gates z ++ one ++ two) three ∙ ap (λ xs. xs ++ map var three) upto_two
    ∙ ap (λ xs. range_with_len (saving z) (2 + 6 * z.latches + 2 * z.literals) ++ xs) of_three
    ∙ range_append (saving z) (2 + 6 * z.latches + 2 * z.literals) (z.latches + z.literals)
    ∙ ap (range_with_len (saving z)) f
