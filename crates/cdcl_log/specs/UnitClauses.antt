-- Literals as clauses.
use Rattle.std.specs.Prelude.{List, [], ◌∷◌, map}
use Rattle.proof_semantics.specs.declared.literals.Lit.{Lit}

-- each literal as a clause of its own
abbrev pub unit_clauses : List Lit → List (List Lit)
unit_clauses lits = map (λ a. a ∷ []) lits
