-- Scaffolding of inner functions. Clauses whose numbers lie higher.
use Rattle.std.specs.Prelude.{ℕ, ◌+◌, List, map}
use Rattle.proof_semantics.specs.declared.literals.Lit.{Lit}

-- a literal, and a clause, whose numbers lie so much higher
abbrev pub moved_literal : ℕ → Lit → Lit
moved_literal base l = record { var = base + l.var; positive = l.positive }

abbrev pub moved : ℕ → List Lit → List Lit
moved base clause = map (moved_literal base) clause
