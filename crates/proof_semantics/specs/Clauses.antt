-- What literals and clauses mean under a total assignment of truth values to variables: propositional logic in
-- conjunctive normal form.
use Rattle.std.specs.Prelude.{◌≡◌, ℕ, Bool, true, false, not, ◌&&◌, List, slice_get, nat_eq}
use Rattle.std.specs.List.{list_any, list_all}
use Rattle.std.specs.Option.{unwrap_or}
use Rattle.proof_semantics.specs.declared.literals.Lit.{Lit}

-- the same truth value
abbrev pub bool_eq : Bool → Bool → Bool
bool_eq true b = b
bool_eq false b = not b

-- the same literal
abbrev pub lit_eq : Lit → Lit → Bool
lit_eq a b = nat_eq a.var b.var && bool_eq a.positive b.positive

-- the literal that is true exactly where the given one is false
abbrev pub negation : Lit → Lit
negation a = record { var = a.var; positive = not a.positive }

-- the truth value of a literal under an assignment
abbrev pub literal_value : (ℕ → Bool) → Lit → Bool
literal_value v a = bool_eq a.positive (v a.var)

-- A clause is a list of literals. It is true where one of them is.
abbrev pub clause_value : (ℕ → Bool) → List Lit → Bool
clause_value v clause = list_any (literal_value v) clause

-- A cube is a list of literals. It is true where all of them are.
abbrev pub cube_value : (ℕ → Bool) → List Lit → Bool
cube_value v cube = list_all (literal_value v) cube

-- A list of clauses is true where every clause is.
abbrev pub clauses_value : (ℕ → Bool) → List (List Lit) → Bool
clauses_value v clauses = list_all (clause_value v) clauses

-- every assignment that makes the clauses true makes the clause true
abbrev pub IsImplied : List (List Lit) → List Lit → Type 0
IsImplied clauses clause = (v : ℕ → Bool) → clauses_value v clauses ≡ true → clause_value v clause ≡ true

-- no assignment makes the clauses true
abbrev pub IsUnsatisfiable : List (List Lit) → Type 0
IsUnsatisfiable clauses = (v : ℕ → Bool) → clauses_value v clauses ≡ false

-- the assignment that a list of values stands for: variable n has the value at place n, and is false past the end
abbrev pub values_of : List Bool → ℕ → Bool
values_of values n = unwrap_or (slice_get values n) false

-- the literal is one of the list
abbrev pub has_literal : List Lit → Lit → Bool
has_literal lits a = list_any (lit_eq a) lits

-- each literal of the one is a literal of the other
abbrev pub is_part : List Lit → List Lit → Bool
is_part part whole = list_all (has_literal whole) part

-- Some literal stands beside its negation: a clause that is true always, a cube that never is.
abbrev pub has_opposites : List Lit → Bool
has_opposites lits = list_any (λ a. has_literal lits (negation a)) lits

-- some clause of the list is a part of the clause
abbrev pub is_subsumed : List (List Lit) → List Lit → Bool
is_subsumed clauses clause = list_any (λ part. is_part part clause) clauses
