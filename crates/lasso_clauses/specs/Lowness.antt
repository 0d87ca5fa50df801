-- Scaffolding of inner functions. Moments whose numbers are below 2^63.
use Rattle.std.specs.Prelude.{◌^◌, ◌<◌, IfSome}
use Rattle.lasso_clauses.specs.declared.moments.Moment.{Moment}

pub record IsLow (at : Moment) : Type 0 where
  pub base : at.base < 2 ^ 62
  pub before : IfSome at.before (λ b. b < 2 ^ 62)
