-- Scaffolding of inner functions. The numbers of the unit clauses that stand behind the clauses of a solver.
use Rattle.std.specs.Prelude.{ℕ, suc, ◌+◌, List, [], ◌∷◌, if◌then◌else◌}
use Rattle.proof_semantics.specs.Clauses.{lit_eq}
use Rattle.proof_semantics.specs.declared.literals.Lit.{Lit}

-- how many literals stand before the first that is this one
abbrev pub place_of : List Lit → Lit → ℕ
place_of [] a = 0
place_of (b ∷ units) a = if lit_eq a b then 0 else suc (place_of units a)

-- the number of a literal's unit clause, where the units stand behind so many clauses
abbrev pub unit_number : ℕ → List Lit → Lit → ℕ
unit_number first units a = first + place_of units a + 1
