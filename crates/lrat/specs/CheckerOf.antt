-- Scaffolding of inner functions. What a checker keeps between two lines.
use Rattle.std.specs.Prelude.{◌≡◌, []}
use Rattle.proof_semantics.specs.Proofs.{IsSound}
use Rattle.lrat.specs.declared.checker.Checker.TheInside.{Inside}

-- Nothing is assumed, and what is held is implied.
pub record IsReady (c : Inside) : Type 0 where
  pub unmarked : c.marks ≡ []
  pub sound : IsSound c.store
