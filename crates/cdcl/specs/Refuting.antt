-- What a solver answers to a question whose assumptions are clauses of the list that a proof refutes.
use Rattle.std.specs.Prelude.{◌≡◌, true, List, ◌++◌}
use Rattle.proof_semantics.specs.Clauses.{clauses_value}
use Rattle.proof_semantics.specs.Proofs.{Refutes}
use Rattle.proof_semantics.specs.declared.literals.Lit.{Lit}
use Rattle.cdcl.specs.Asking.{assigned}
use Rattle.cdcl_log.specs.UnitClauses.{unit_clauses}
use Rattle.cdcl.specs.declared.asking.Refuted.{Refuted}
use Rattle.cdcl.specs.declared.asking.Refuted.TheVariants.{Sat, Unsat}

-- The list is the added clauses, and behind them the units: the values that the solver tells make it true, or the lines
-- refute it.
abbrev pub IsRefuted : List (List Lit) → List Lit → List Lit → Refuted → Type 0
IsRefuted added units values Sat = clauses_value (assigned values) (added ++ unit_clauses units) ≡ true
IsRefuted added units values (Unsat lines) = Refutes (added ++ unit_clauses units) lines
