-- Scaffolding of inner functions. What a bounded search over a cone keeps.
use Rattle.std.specs.Prelude.{◌≡◌, ◌<◌, ℕ, length, IfSome}
use Rattle.aig_semantics.specs.Circuits.{Circuit}
use Rattle.lasso_bmc.specs.declared.deepening.Deepening.{Deepening}
use Rattle.lasso_bmc.specs.Growing.{IsGrown, positions_in}
use Rattle.lasso_bmc.specs.Searching.{HasNoneWithin}
use Rattle.lasso_bmc.specs.declared.cone_searching.ConeSearch.TheInside.{Inside}

-- A solver that has the clauses of so many positions, and no fair lasso has at most so many.
pub record IsUpTo (c : Circuit) (done : ℕ) (d : Deepening) : Type 0 where
  pub grown : IsGrown c 0 d
  pub positions : positions_in d ≡ done
  pub none : HasNoneWithin c 0 done

-- The circuit has a property, which the solver is asked for, where there is one.
pub record IsSearching (s : Inside) : Type 0 where
  pub property : 0 < length s.circuit.justice
  pub solver : IfSome s.solver (IsUpTo s.circuit s.done)
