-- When a solver counts. Unit propagation (Davis, Putnam, 1960) from the assumptions alone comes first, and to its end.
use Rattle.std.specs.Prelude.{◌≡◌, ℕ, None, List}
use Rattle.edge.specs.declared.solve_end.SolveEnd.{SolveEnd}
use Rattle.edge.specs.declared.solve_end.SolveEnd.TheVariants.{Spent as SpentEnd, Memory}
use Rattle.proof_semantics.specs.Propagation.{hints_fault}
use Rattle.proof_semantics.specs.declared.literals.Lit.{Lit}
use Rattle.cnf.specs.Clauses.{clause_numbered}

-- Along some hints unit propagation from the literals ends in a false clause.
abbrev pub IsRefutedAtOnce : List (List Lit) → List Lit → Type 0
IsRefutedAtOnce clauses lits = (hints : List ℕ) × (hints_fault (clause_numbered clauses) lits hints ≡ None)

-- it is no limit that was reached
abbrev pub IsNoLimit : SolveEnd → Type 0
IsNoLimit (SpentEnd spent) = ⊥
IsNoLimit Memory = Unit {0}
