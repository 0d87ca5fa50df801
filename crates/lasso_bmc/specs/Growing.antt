-- What the solver of a search has, which grows by a position at a time (Eén, Sörensson, 2003).
use Rattle.std.specs.Prelude.{◌≡◌, ◌&&◌, ◌++◌, [], ℕ, Bool}
use Rattle.aig_semantics.specs.Circuits.{Circuit, fair_literals}
use Rattle.proof_semantics.specs.Clauses.{clauses_value}
use Rattle.lasso_clauses.specs.Clauses.{positions_clauses}
use Rattle.lasso_bmc.specs.declared.deepening.Deepening.{Deepening}

-- how many positions it has
abbrev pub positions_in : Deepening → ℕ
positions_in d = d.positions

-- The clauses of all positions of the deepening are true exactly where those of the solver and those kept beside it are.
abbrev pub IsGrown : Circuit → ℕ → Deepening → Type 0
IsGrown c j d =
    (v : ℕ → Bool) → clauses_value v (positions_clauses c (fair_literals c j) d.positions)
    ≡ (clauses_value v d.solver.added && clauses_value v d.rest.items)

-- The solver has what was kept beside it too, and no position more.
pub record IsCompleted (old new : Deepening) : Type 0 where
  pub added : new.solver.added ≡ old.solver.added ++ old.rest.items
  pub rest : new.rest.items ≡ []
  pub positions : new.positions ≡ old.positions
