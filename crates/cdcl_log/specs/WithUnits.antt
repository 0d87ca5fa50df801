-- Scaffolding of inner functions. The clauses that a solver holds, and unit clauses behind them.
use Rattle.std.specs.Prelude.{ℕ, ◌+◌, List, [], ◌∷◌, ◌++◌, Option, None}
use Rattle.proof_semantics.specs.declared.literals.Lit.{Lit}
use Rattle.cdcl_log.specs.LoggedClauses.{LoggedClauses}
use Rattle.cdcl_log.specs.UnitClauses.{unit_clauses}

-- unit clauses have no hints
abbrev pub no_sources : List Lit → List (Option (List ℕ))
no_sources [] = []
no_sources (a ∷ units) = None ∷ no_sources units

abbrev pub with_units : LoggedClauses → List Lit → LoggedClauses
with_units logged units = record {
  clauses = logged.clauses ++ unit_clauses units;
  sources = logged.sources ++ no_sources units;
}
