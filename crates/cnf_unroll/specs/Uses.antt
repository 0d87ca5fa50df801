-- The clauses of used entries over places: they hold exactly where each reach entry holds the state of every place, and
-- each wall has the states of all places on one side. A wall has a number of its own, its side, which is true where they
-- are inside; each of its clauses has at each place a mark, which is true only where the clause is false there. The sides
-- of walls that a wall names bound it: its inside lies within them.
use Rattle.std.specs.Prelude.{ℕ, ◌+◌, ◌==◌, List, [], ◌∷◌, ◌++◌, map, length, Option, Some, None, if◌then◌else◌}
use Rattle.std.specs.List.{flat_map}
use Rattle.proof_semantics.specs.Clauses.{negation}
use Rattle.proof_semantics.specs.declared.literals.Lit.{Lit}
use Rattle.fair_semantics.specs.declared.entries.Kind.{Kind}
use Rattle.fair_semantics.specs.declared.entries.Kind.TheVariants.{Reach, Wall}
use Rattle.fair_semantics.specs.declared.entries.Side.{Side}
use Rattle.fair_semantics.specs.declared.entries.Side.TheVariants.{Any, In, Out}
use Rattle.fair_semantics.specs.declared.entries.Use.{Use}
use Rattle.fair_semantics.specs.Entries.{Entry, Numbered}
use Rattle.cnf_unroll.specs.Numbers.{plus, minus, clause_at_place, set_at_place}

-- the clause is false where the mark d is true
abbrev pub denials : ℕ → List Lit → List (List Lit)
denials d clause = map (λ l. minus d ∷ negation l ∷ []) clause

-- the clause holds where the side z is true, and is false where the mark d is
abbrev pub marked : ℕ → ℕ → List Lit → List (List Lit)
marked z d clause = (minus z ∷ clause) ∷ [] ++ denials d clause

-- a wall's clauses at a place, with the marks d, d + 1 and so on
abbrev pub wall_at : ℕ → List ℕ → ℕ → List (List Lit) → List (List Lit)
wall_at z place d [] = []
wall_at z place d (clause ∷ set) = marked z d (clause_at_place place clause) ++ wall_at z place (d + 1) set

abbrev pub marks : ℕ → List (List Lit) → List Lit
marks d [] = []
marks d (clause ∷ set) = plus d ∷ marks (d + 1) set

-- where the side z is false, a mark is true or a named side is missed
abbrev pub closing : ℕ → ℕ → List (List Lit) → List Lit → List Lit
closing z d set names = plus z ∷ [] ++ marks d set ++ map negation names

abbrev pub wall_over : ℕ → List Lit → List (List Lit) → ℕ → List (List ℕ) → List (List Lit)
wall_over z names set d [] = []
wall_over z names set d (place ∷ places) =
    wall_at z place d set ++ closing z d set names ∷ [] ++ wall_over z names set (d + length set) places

-- the number after the marks
abbrev pub after_marks : List (List Lit) → ℕ → List (List ℕ) → ℕ
after_marks set d [] = d
after_marks set d (place ∷ places) = after_marks set (d + length set) places

-- a wall whose inside lies within these named sides
abbrev pub wall_clauses : ℕ → List Lit → List (List Lit) → List (List ℕ) → List (List Lit)
wall_clauses z names set places = map (λ name. minus z ∷ name ∷ []) names ++ wall_over z names set (z + 1) places

abbrev pub reach_clauses : List (List Lit) → List (List ℕ) → List (List Lit)
reach_clauses set places = flat_map (λ place. set_at_place place set) places

-- The sides of the walls so far, by the numbers of their entries: none yet, and one more.
abbrev pub no_sides : ℕ → Option ℕ
no_sides entry = None

abbrev pub with_side : (ℕ → Option ℕ) → ℕ → ℕ → ℕ → Option ℕ
with_side sides number z entry = if entry == number then Some z else sides entry

-- the side of a wall with this number that a use names, as a literal
abbrev pub named_literal : Side → Option ℕ → List Lit
named_literal In (Some z) = plus z ∷ []
named_literal Out (Some z) = minus z ∷ []
named_literal In None = []
named_literal Out None = []
named_literal Any z = []

-- the sides that an entry names by its uses, in their order
abbrev pub named_sides : (ℕ → Option ℕ) → List Use → List Lit
named_sides sides uses = flat_map (λ u. named_literal u.side (sides u.entry)) uses

-- What is counted on from use to use: the next free number, and the sides of the walls so far.
pub record Numbering : Type 0 where
  pub free : ℕ
  pub sides : ℕ → Option ℕ

-- numbers are free from this one on
abbrev pub free_from : ℕ → Numbering
free_from n = record { free = n; sides = no_sides }

abbrev pub use_clauses : List (List ℕ) → Numbering → Entry → Kind → List (List Lit)
use_clauses places n e Reach = reach_clauses e.clauses places
use_clauses places n e Wall = wall_clauses n.free (named_sides n.sides e.uses) e.clauses places

abbrev pub after_use : List (List ℕ) → Numbering → Numbered → Kind → Numbering
after_use places n u Reach = n
after_use places n u Wall = record {
  free = after_marks u.entry.clauses (n.free + 1) places;
  sides = with_side n.sides u.number n.free;
}

-- the clauses of the used entries in their order, and what is counted after them
abbrev pub uses_clauses : List (List ℕ) → Numbering → List Numbered → List (List Lit)
uses_clauses places n [] = []
uses_clauses places n (u ∷ us) = use_clauses places n u.entry u.entry.kind ++ uses_clauses places (after_use places n u u.entry.kind) us

abbrev pub after_uses : List (List ℕ) → Numbering → List Numbered → Numbering
after_uses places n [] = n
after_uses places n (u ∷ us) = after_uses places (after_use places n u u.entry.kind) us
