-- Scaffolding of inner functions. Propagation that comes to rest: what it leaves is refuted by no hints.
use Rattle.std.specs.Prelude.{◌≡◌, true, List, ◌⊎◌}
use Rattle.edge.specs.declared.solve_end.SolveEnd.{SolveEnd}
use Rattle.proof_semantics.specs.Clauses.{has_literal}
use Rattle.proof_semantics.specs.declared.literals.Lit.{Lit}
use Rattle.cdcl_trail.specs.Trails.{Step}
use Rattle.cdcl_trail.specs.Propagation.{is_true, is_complete}
use Rattle.cdcl.specs.Counting.{IsNoLimit}
use Rattle.cdcl_log.specs.LoggedClauses.{LoggedClauses}

-- Under some steps each of the literals is true and no clause is unit or false.
pub record ComesToRest (clauses : List (List Lit)) (lits : List Lit) : Type 0 where
  pub steps : List Step
  pub complete : is_complete clauses steps ≡ true
  pub assumed : (a : Lit) → has_literal lits a ≡ true → is_true steps a ≡ true

-- Nothing was learned, or propagation from the literals came to rest.
abbrev pub IsRested : List Lit → LoggedClauses → LoggedClauses → Type 0
IsRested lits start now = (now ≡ start) ⊎ ComesToRest start.clauses lits

-- It is no limit, or propagation from the literals came to rest.
abbrev pub IsLimitedAtRest : List Lit → LoggedClauses → SolveEnd → Type 0
IsLimitedAtRest lits start end = IsNoLimit end ⊎ ComesToRest start.clauses lits
