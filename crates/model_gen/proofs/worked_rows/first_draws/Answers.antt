use Rattle.std.proofs.Common.{refl}
use Rattle.model_gen.specs.Draws.{next_state, state_after, draw}
use Rattle.model_gen.proofs.worked_rows.first_draws.Goals as goal

pub returns-clause-zero : goal.returns-clause-zero
unfolding next_state state_after draw
returns-clause-zero c = refl

pub returns-clause-one : goal.returns-clause-one
unfolding next_state state_after draw
returns-clause-one c = refl

pub returns-clause-greatest : goal.returns-clause-greatest
unfolding next_state state_after draw
returns-clause-greatest c = refl
