-- A block that lies higher.
use Rattle.std.proofs.Common.{◌≡◌, ℕ, ◌+◌, not, List, [], ◌∷◌, ◌++◌, map, refl, ap, ap₂, ◌∙◌, arith}
use Rattle.std.specs.List.{flat_map}
use Rattle.std.proofs.lemmas.List.{map-append}
use Rattle.aig_semantics.specs.declared.parts.Latch.{Latch}
use Rattle.aig_semantics.specs.declared.parts.Gate.{Gate}
use Rattle.aig_semantics.specs.Literals.{variable_of, is_negated}
use Rattle.aig_semantics.specs.Circuits.{Circuit}
use Rattle.proof_semantics.specs.Clauses.{negation}
use Rattle.proof_semantics.specs.declared.literals.Lit.{Lit}
use Rattle.cnf_unroll.specs.Numbers.{number, next_number, plus, minus, literal_in_block}
use Rattle.cnf_unroll.specs.Blocks.{gate_clauses, unit_clause, latch_clauses, block_clauses}
use Rattle.lasso_clauses.specs.Moving.{moved_literal, moved}

number_moved : (base v : ℕ) → base + number 0 v ≡ number base v
number_moved base v = omega arith

next_moved : (c : Circuit) (base v : ℕ) → base + next_number c 0 v ≡ next_number c base v
next_moved c base v = omega arith

literal_moved : (base l : ℕ) → moved_literal base (literal_in_block 0 l) ≡ literal_in_block base l
literal_moved base l = λ i. record { var = number_moved base (variable_of l) i; positive = not (is_negated l) }

gate_moved : (base : ℕ) (gate : Gate) → map (moved base) (gate_clauses 0 gate) ≡ gate_clauses base gate
gate_moved base gate =
    let clauses : ℕ → Lit → Lit → List (List Lit) = λ g a b. (minus g ∷ a ∷ []) ∷ (minus g ∷ b ∷ []) ∷ (plus g ∷ negation a ∷ negation b ∷ []) ∷ [] in
    λ i. clauses (number_moved base gate.var i) (literal_moved base gate.rhs0 i) (literal_moved base gate.rhs1 i)

latch_moved : (c : Circuit) (base : ℕ) (latch : Latch) → map (moved base) (latch_clauses c 0 latch) ≡ latch_clauses c base latch
latch_moved c base latch =
    let clauses : ℕ → Lit → List (List Lit) = λ s n. (minus s ∷ n ∷ []) ∷ (plus s ∷ negation n ∷ []) ∷ [] in
    λ i. clauses (next_moved c base latch.var i) (literal_moved base latch.next i)

units_moved : (base : ℕ) (ls : List ℕ) → map (moved base) (map (unit_clause 0) ls) ≡ map (unit_clause base) ls
units_moved base [] = refl
units_moved base (l ∷ ls) = ap₂ (λ x y. (x ∷ []) ∷ y) (literal_moved base l) (units_moved base ls)

all_moved : {X : Type 0} (base : ℕ) (f g : X → List (List Lit)) → ((x : X) → map (moved base) (f x) ≡ g x) → (xs : List X) → map (moved base) (flat_map f xs) ≡ flat_map g xs
all_moved base f g same [] = refl
all_moved base f g same (x ∷ xs) = map-append (moved base) (f x) (flat_map f xs) ∙ ap₂ (λ a b. a ++ b) (same x) (all_moved base f g same xs)

both_moved : (base : ℕ) (xs ys us vs : List (List Lit)) → map (moved base) xs ≡ us → map (moved base) ys ≡ vs → map (moved base) (xs ++ ys) ≡ us ++ vs
both_moved base xs ys us vs a b = map-append (moved base) xs ys ∙ ap₂ (λ s t. s ++ t) a b

head_moved : (base : ℕ) → map (moved base) ((minus (number 0 0) ∷ []) ∷ []) ≡ (minus (number base 0) ∷ []) ∷ []
head_moved base = ap (λ n. (minus n ∷ []) ∷ []) (number_moved base 0)

pub block_moved : (c : Circuit) (base : ℕ) → map (moved base) (block_clauses c 0) ≡ block_clauses c base
block_moved c base =
    let head : ℕ → List (List Lit) = λ b. (minus (number b 0) ∷ []) ∷ [] in
    let gates : ℕ → List (List Lit) = λ b. flat_map (gate_clauses b) c.gates in
    let units : ℕ → List (List Lit) = λ b. map (unit_clause b) c.constraints in
    let latches : ℕ → List (List Lit) = λ b. flat_map (latch_clauses c b) c.latches in
    both_moved base (head 0 ++ gates 0 ++ units 0) (latches 0) (head base ++ gates base ++ units base) (latches base)
    (both_moved base (head 0 ++ gates 0) (units 0) (head base ++ gates base) (units base)
    (both_moved base (head 0) (gates 0) (head base) (gates base) (head_moved base) (all_moved base (gate_clauses 0) (gate_clauses base) (gate_moved base) c.gates))
    (units_moved base c.constraints))
    (all_moved base (latch_clauses c 0) (latch_clauses c base) (latch_moved c base) c.latches)
