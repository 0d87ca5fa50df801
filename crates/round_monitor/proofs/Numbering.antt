-- The variables of the new latches and gates are numbered in their order.
use Rattle.std.proofs.Common.{◌≡◌, ℕ, zero, suc, ◌+◌, ◌-◌, ◌*◌, ◌≤◌, List, [], ◌∷◌, ◌++◌, map, length, refl, ap, ◌∙◌, arith, length-append}
use Rattle.std.specs.List.{range_with_len}
use Rattle.std.proofs.lemmas.List.{map-append}
use Rattle.aig_semantics.specs.declared.parts.Gate.{Gate}
use Rattle.aig_semantics.specs.declared.limits.TheConstants.{MAX_VARIABLE}
use Rattle.aiger_grammar.proofs.Ranges.{range_append}
use Rattle.live_to_safe.specs.Watching.{numbered, for_each}
use Rattle.live_to_safe.proofs.Lists.{cons-same, numbered-length, numbered-vars}
use Rattle.live_to_safe.proofs.Numbering.{chain_vars}
use Rattle.round_monitor.specs.declared.sizes.Sizes.{Sizes}
use Rattle.round_monitor.specs.Numbers.{missing, ending, counter_gate, greatest}
use Rattle.round_monitor.specs.Watching.{each_of, seen_latch, counter_latch, new_latches, missing_gate, all_gates, none_missing, next_seen_gate, later_counter_gates, counter_gates, new_gates}

-- ---- latches

pub latch_vars : (z : Sizes) → map (λ latch. latch.var) (new_latches z) ≡ range_with_len (z.variables + 1) (z.literals + z.counters)
latch_vars z =
    let seens = numbered (seen_latch z) 0 z.literals in
    let counters = numbered (counter_latch z) 0 z.counters in
    let a : z.variables + 1 + 0 ≡ z.variables + 1 = omega arith in
    let b : z.variables + 1 + z.literals + 0 ≡ z.variables + 1 + z.literals = omega arith in
    let first = numbered-vars (seen_latch z) (λ latch. latch.var) (z.variables + 1) 0 z.literals (λ i. refl) ∙ ap (λ x. range_with_len x z.literals) a in
    let second = numbered-vars (counter_latch z) (λ latch. latch.var) (z.variables + 1 + z.literals) 0 z.counters (λ i. refl) ∙ ap (λ x. range_with_len x z.counters) b in
    map-append (λ latch. latch.var) seens counters
    ∙ ap (λ xs. xs ++ map (λ latch. latch.var) counters) first
    ∙ ap (λ xs. range_with_len (z.variables + 1) z.literals ++ xs) second
    ∙ range_append (z.variables + 1) z.literals z.counters

pub latches-length : (z : Sizes) → length (new_latches z) ≡ z.literals + z.counters
latches-length z =
    let a = numbered-length (seen_latch z) 0 z.literals in
    let b = numbered-length (counter_latch z) 0 z.counters in
    let e = length-append (numbered (seen_latch z) 0 z.literals) (numbered (counter_latch z) 0 z.counters) in
    omega (arith, a, b, e)

-- ---- gates

missing_vars : (z : Sizes) (k : ℕ) (literals : List ℕ)
    → map (λ gate. gate.var) (for_each (missing_gate z) k literals) ≡ range_with_len (missing z k) (length literals)
missing_vars z k [] = refl
missing_vars z k (literal ∷ literals) =
    let e : missing z (k + 1) ≡ missing z k + 1 = omega arith in
    ap (λ xs. missing z k ∷ xs) (missing_vars z (k + 1) literals ∙ ap (λ x. range_with_len x (length literals)) e)

all_vars : (v n : ℕ) (literals : List ℕ) → n ≡ length literals - 1 → map (λ gate. gate.var) (all_gates v literals) ≡ range_with_len v n
all_vars v n [] is =
    let none : 0 ≡ n = omega (arith, is) in
    ap (range_with_len v) none
all_vars v n (literal ∷ literals) is =
    let e : length literals ≡ n = omega (arith, is) in
    chain_vars v literal literals ∙ ap (range_with_len v) e

later_vars : (z : Sizes) (i n : ℕ) → map (λ gate. gate.var) (each_of (later_counter_gates z) i n) ≡ range_with_len (counter_gate z i + 1) (2 * n)
later_vars z i zero = refl
later_vars z i (suc n) =
    let v = counter_gate z i in
    let e : counter_gate z (i + 1) + 1 ≡ counter_gate z i + 1 + 1 + 1 = omega arith in
    let d : counter_gate z i + 2 ≡ counter_gate z i + 1 + 1 = omega arith in
    let f : suc (suc (2 * n)) ≡ 2 * suc n = omega arith in
    ap (λ xs. (counter_gate z i + 1) ∷ xs)
    (cons-same (counter_gate z i + 2) (counter_gate z i + 1 + 1) (map (λ gate. gate.var) (each_of (later_counter_gates z) (i + 1) n)) (range_with_len (counter_gate z i + 1 + 1 + 1) (2 * n)) d
    (later_vars z (i + 1) n ∙ ap (λ x. range_with_len x (2 * n)) e))
    ∙ ap (range_with_len (counter_gate z i + 1)) f

pub none_missing-length : (z : Sizes) → length (none_missing z) ≡ z.literals
none_missing-length z = numbered-length (λ m. 2 * missing z m + 1) 0 z.literals

-- the chain ends within the limit
pub chain_fits : (z : Sizes) (v : ℕ) (literals : List ℕ) → v ≡ ending z → literals ≡ none_missing z → greatest z ≤ MAX_VARIABLE → v + length literals ≤ MAX_VARIABLE + 1
chain_fits z v literals is are fits =
    let size : length literals ≡ z.literals = ap length are ∙ none_missing-length z in
    omega (arith, is, size, fits)

-- how many gates there are
abbrev pub gate_count : Sizes → ℕ
gate_count z = z.literals + (z.literals - 1) + z.literals + (suc (2 * (z.counters - 1)))

pub gate_vars : (z : Sizes) (literals : List ℕ) → length literals ≡ z.literals
    → map (λ gate. gate.var) (new_gates z literals) ≡ range_with_len (z.variables + 1 + (z.literals + z.counters)) (gate_count z)
gate_vars z literals q =
    let var : Gate → ℕ = λ gate. gate.var in
    let one = for_each (missing_gate z) 0 literals in
    let two = all_gates (ending z) (none_missing z) in
    let three = numbered (next_seen_gate z) 0 z.literals in
    let four = counter_gates z in
    let s : ℕ = z.variables + 1 + (z.literals + z.counters) in
    let l : ℕ = z.literals - 1 in
    let a : missing z 0 ≡ s = omega arith in
    let b : ending z ≡ s + z.literals = omega arith in
    let d : ending z + l + 0 ≡ s + (z.literals + l) = omega arith in
    let e : counter_gate z 0 ≡ s + (z.literals + l + z.literals) = omega arith in
    let n : l ≡ length (none_missing z) - 1 = omega (arith, none_missing-length z) in
    let of_one : map var one ≡ range_with_len s z.literals =
    missing_vars z 0 literals ∙ ap (λ x. range_with_len x (length literals)) a ∙ ap (range_with_len s) q
    in
    let of_two : map var two ≡ range_with_len (s + z.literals) l = all_vars (ending z) l (none_missing z) n ∙ ap (λ x. range_with_len x l) b in
    let of_three : map var three ≡ range_with_len (s + (z.literals + l)) z.literals =
    numbered-vars (next_seen_gate z) var (ending z + l) 0 z.literals (λ i. refl) ∙ ap (λ x. range_with_len x z.literals) d
    in
    let of_four : map var four ≡ range_with_len (s + (z.literals + l + z.literals)) (suc (2 * (z.counters - 1))) =
    ap (λ xs. counter_gate z 0 ∷ xs) (later_vars z 0 (z.counters - 1)) ∙ ap (λ x. range_with_len x (suc (2 * (z.counters - 1)))) e
    in
    let upto_two : map var (one ++ two) ≡ range_with_len s (z.literals + l) =
    map-append var one two ∙ ap (λ xs. xs ++ map var two) of_one ∙ ap (λ xs. range_with_len s z.literals ++ xs) of_two ∙ range_append s z.literals l
    in
    let upto_three : map var (one ++ two ++ three) ≡ range_with_len s (z.literals + l + z.literals) =
    map-append var (one ++ two) three ∙ ap (λ xs. xs ++ map var three) upto_two
    ∙ ap (λ xs. range_with_len s (z.literals + l) ++ xs) of_three ∙ range_append s (z.literals + l) z.literals
    in
    map-append var (one ++ two ++ three) four ∙ ap (λ xs. xs ++ map var four) upto_three
    ∙ ap (λ xs. range_with_len s (z.literals + l + z.literals) ++ xs) of_four
    ∙ range_append s (z.literals + l + z.literals) (suc (2 * (z.counters - 1)))

-- with latches and gates the variables go up to the greatest
pub greatest-is : (z : Sizes) → greatest z ≡ z.variables + ((z.literals + z.counters) + gate_count z)
greatest-is z = omega arith
