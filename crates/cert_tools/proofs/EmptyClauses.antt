-- Which obligations and skeleton clauses have an empty clause: those over an entry, or a used reach entry, that has one.
use Rattle.std.proofs.Common.{◌≡◌, ℕ, zero, suc, ◌+◌, Bool, true, false, ◌||◌, List, [], ◌∷◌, ◌++◌, map, flat_map, length, refl, ap, ap₂, ◌∙◌, arith}
use Rattle.std.specs.Prelude.{slice_index_or, max}
use Rattle.std.proofs.lemmas.List.Folds.{list_any-append}
use Rattle.aig_semantics.specs.Circuits.{Circuit, fair_literals}
use Rattle.proof_semantics.specs.declared.literals.Lit.{Lit}
use Rattle.proof_semantics.specs.Proofs.{is_empty}
use Rattle.fair_semantics.specs.declared.entries.Kind.{Kind}
use Rattle.fair_semantics.specs.declared.entries.Kind.TheVariants.{Reach, Wall}
use Rattle.fair_semantics.specs.declared.entries.Use.{Use}
use Rattle.fair_semantics.specs.Entries.{Entry, Numbered}
use Rattle.cnf_unroll.specs.Numbers.{minus, block_size, state_place, successor_place, block_places, clause_at_place, set_at_place}
use Rattle.cnf_unroll.specs.Blocks.{gate_clauses, unit_clause, latch_clauses, block_clauses, step_clauses}
use Rattle.cnf_unroll.specs.Uses.{Numbering, free_from, named_sides, denials, marked, wall_at, closing, wall_over, wall_clauses, reach_clauses, use_clauses, after_use, uses_clauses}
use Rattle.cnf_unroll.specs.Obligations.{units, after_step, obligation_clauses, broken_literals, blocks_clauses, blocks_places, literals_clauses, block_count, after_blocks, skeleton_clauses}
use Rattle.cert_tools.specs.Empty.{has_empty, entry_empties, uses_empty}

abbrev Clauses : Type 0
Clauses = List (List Lit)

both_none : (xs ys : Clauses) → has_empty xs ≡ false → has_empty ys ≡ false → has_empty (xs ++ ys) ≡ false
both_none xs ys a b = list_any-append is_empty xs ys ∙ ap₂ (λ p q. p || q) a b

first_none : (xs ys : Clauses) → has_empty xs ≡ false → has_empty (xs ++ ys) ≡ has_empty ys
first_none xs ys a = list_any-append is_empty xs ys ∙ ap (λ p. p || has_empty ys) a

or_false : (b : Bool) → (b || false) ≡ b
or_false true = refl
or_false false = refl

or_twice : (b : Bool) → (b || b) ≡ b
or_twice true = refl
or_twice false = refl

second_none : (xs ys : Clauses) → has_empty ys ≡ false → has_empty (xs ++ ys) ≡ has_empty xs
second_none xs ys b = list_any-append is_empty xs ys ∙ ap (λ q. has_empty xs || q) b ∙ or_false (has_empty xs)

map_none : {X : Type 0} (f : X → List Lit) → ((x : X) → is_empty (f x) ≡ false) → (xs : List X) → has_empty (map f xs) ≡ false
map_none f each [] = refl
map_none f each (x ∷ xs) = ap₂ (λ p q. p || q) (each x) (map_none f each xs)

flat_none : {X : Type 0} (f : X → Clauses) → ((x : X) → has_empty (f x) ≡ false) → (xs : List X) → has_empty (flat_map f xs) ≡ false
flat_none f each [] = refl
flat_none f each (x ∷ xs) = both_none (f x) (flat_map f xs) (each x) (flat_none f each xs)

-- ---- blocks

block_none : (c : Circuit) (base : ℕ) → has_empty (block_clauses c base) ≡ false
block_none c base =
    both_none (((minus (base + 1 + 0) ∷ []) ∷ [] ++ flat_map (gate_clauses base) c.gates) ++ map (unit_clause base) c.constraints) (flat_map (latch_clauses c base) c.latches)
    (both_none ((minus (base + 1 + 0) ∷ []) ∷ [] ++ flat_map (gate_clauses base) c.gates) (map (unit_clause base) c.constraints)
    (both_none ((minus (base + 1 + 0) ∷ []) ∷ []) (flat_map (gate_clauses base) c.gates) refl (flat_none (gate_clauses base) (λ gate. refl) c.gates))
    (map_none (unit_clause base) (λ literal. refl) c.constraints))
    (flat_none (latch_clauses c base) (λ latch. refl) c.latches)

blocks_none : (c : Circuit) (base n : ℕ) → has_empty (blocks_clauses c base n) ≡ false
blocks_none c base zero = refl
blocks_none c base (suc n) = both_none (block_clauses c base) (blocks_clauses c (base + block_size c) n) (block_none c base) (blocks_none c (base + block_size c) n)

literals_none : (c : Circuit) (base : ℕ) (literals : List ℕ) → has_empty (literals_clauses c base literals) ≡ false
literals_none c base [] = refl
literals_none c base (literal ∷ literals) = literals_none c (base + block_size c) literals

-- ---- uses

clause_same : (place : List ℕ) (clause : List Lit) → is_empty (clause_at_place place clause) ≡ is_empty clause
clause_same place [] = refl
clause_same place (l ∷ clause) = refl

placed : (place : List ℕ) (set : Clauses) → has_empty (set_at_place place set) ≡ has_empty set
placed place [] = refl
placed place (clause ∷ set) = ap₂ (λ p q. p || q) (clause_same place clause) (placed place set)

reach_same : (set : Clauses) (place : List ℕ) (places : List (List ℕ)) → has_empty (reach_clauses set (place ∷ places)) ≡ has_empty set
reach_same set place [] = second_none (set_at_place place set) [] refl ∙ placed place set
reach_same set place (next ∷ places) =
    list_any-append is_empty (set_at_place place set) (reach_clauses set (next ∷ places))
    ∙ ap₂ (λ p q. p || q) (placed place set) (reach_same set next places) ∙ or_twice (has_empty set)

denials_none : (d : ℕ) (clause : List Lit) → has_empty (denials d clause) ≡ false
denials_none d [] = refl
denials_none d (l ∷ clause) = denials_none d clause

wall_at_none : (z : ℕ) (place : List ℕ) (d : ℕ) (set : Clauses) → has_empty (wall_at z place d set) ≡ false
wall_at_none z place d [] = refl
wall_at_none z place d (clause ∷ set) =
    both_none (marked z d (clause_at_place place clause)) (wall_at z place (d + 1) set)
    (denials_none d (clause_at_place place clause)) (wall_at_none z place (d + 1) set)

wall_over_none : (z : ℕ) (names : List Lit) (set : Clauses) (d : ℕ) (places : List (List ℕ)) → has_empty (wall_over z names set d places) ≡ false
wall_over_none z names set d [] = refl
wall_over_none z names set d (place ∷ places) =
    both_none (wall_at z place d set ++ closing z d set names ∷ []) (wall_over z names set (d + length set) places)
    (both_none (wall_at z place d set) (closing z d set names ∷ []) (wall_at_none z place d set) refl)
    (wall_over_none z names set (d + length set) places)

wall_none : (z : ℕ) (names : List Lit) (set : Clauses) (places : List (List ℕ)) → has_empty (wall_clauses z names set places) ≡ false
wall_none z names set places =
    both_none (map (λ name. minus z ∷ name ∷ []) names) (wall_over z names set (z + 1) places) (map_none (λ name. minus z ∷ name ∷ []) (λ name. refl) names)
    (wall_over_none z names set (z + 1) places)

use_same : (place : List ℕ) (places : List (List ℕ)) (n : Numbering) (e : Entry) (kind : Kind) → has_empty (use_clauses (place ∷ places) n e kind) ≡ entry_empties e kind
use_same place places n e Reach = reach_same e.clauses place places
use_same place places n e Wall = wall_none n.free (named_sides n.sides e.uses) e.clauses (place ∷ places)

uses_same : (place : List ℕ) (places : List (List ℕ)) (n : Numbering) (us : List Numbered) → has_empty (uses_clauses (place ∷ places) n us) ≡ uses_empty us
uses_same place places n [] = refl
uses_same place places n (u ∷ us) =
    list_any-append is_empty (use_clauses (place ∷ places) n u.entry u.entry.kind) (uses_clauses (place ∷ places) (after_use (place ∷ places) n u u.entry.kind) us)
    ∙ ap₂ (λ p q. p || q) (use_same place places n u.entry u.entry.kind) (uses_same place places (after_use (place ∷ places) n u u.entry.kind) us)

-- ---- both lists

units_none : (literals : List Lit) → has_empty (units literals) ≡ false
units_none literals = map_none (λ l. l ∷ []) (λ l. refl) literals

pub obligation_empty : (c : Circuit) (us : List Numbered) (own : List Use) (set : Clauses) (i : ℕ) → has_empty (obligation_clauses c us own set i) ≡ (uses_empty us || has_empty set)
obligation_empty c us own set i =
    let uses : Clauses = uses_clauses (block_places c 0) (free_from (block_size c + 1)) us in
    let names : Clauses = units (named_sides (after_step c us).sides own) in
    let here : Clauses = set_at_place (state_place c 0) set in
    second_none (((step_clauses c ++ uses) ++ names) ++ here) (units (broken_literals c (slice_index_or set i []))) (units_none (broken_literals c (slice_index_or set i [])))
    ∙ list_any-append is_empty ((step_clauses c ++ uses) ++ names) here
    ∙ ap₂ (λ p q. p || q)
    (second_none (step_clauses c ++ uses) names (units_none (named_sides (after_step c us).sides own))
    ∙ first_none (step_clauses c) uses (block_none c 0) ∙ uses_same (state_place c 0) (successor_place c 0 ∷ []) (free_from (block_size c + 1)) us)
    (placed (state_place c 0) set)

over_blocks : (c : Circuit) (n : ℕ) (m : Numbering) (us : List Numbered) → has_empty (uses_clauses (blocks_places c 0 (suc n)) m us) ≡ uses_empty us
over_blocks c n m us = uses_same (state_place c 0) (successor_place c 0 ∷ blocks_places c (0 + block_size c) n) m us

one_block : (literals : List ℕ) → (n : ℕ) × (block_count literals ≡ suc n)
one_block [] = (0, refl)
one_block (literal ∷ literals) = (length literals, (let size : max 1 (suc (length literals)) ≡ suc (length literals) = omega arith in size))

pub skeleton_empty : (c : Circuit) (j : ℕ) (us : List Numbered) → has_empty (skeleton_clauses c j us) ≡ uses_empty us
skeleton_empty c j us =
    let literals : List ℕ = fair_literals c j in
    let n : ℕ = block_count literals in
    let m : Numbering = free_from (after_blocks c 0 n + 1) in
    let (k, is) = one_block literals in
    first_none (blocks_clauses c 0 n ++ literals_clauses c 0 literals) (uses_clauses (blocks_places c 0 n) m us)
    (both_none (blocks_clauses c 0 n) (literals_clauses c 0 literals) (blocks_none c 0 n) (literals_none c 0 literals))
    ∙ ap (λ x. has_empty (uses_clauses (blocks_places c 0 x) m us)) is
    ∙ over_blocks c k m us
