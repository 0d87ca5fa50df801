-- The cube of the starts of a search (scaffolding).
use Rattle.std.specs.Prelude.{List}
use Rattle.aig_semantics.specs.Circuits.{Circuit}
use Rattle.proof_semantics.specs.declared.literals.Lit.{Lit}
use Rattle.fair_semantics.specs.States.{initial_cube}
use Rattle.ic3_generalise.specs.Cubes.{value_literals}
use Rattle.ic3_semantics.specs.declared.questions.Start.{Start}
use Rattle.ic3_semantics.specs.declared.questions.Start.TheVariants.{Initial, State}

-- the initial cube, or all literals of a state
abbrev pub start_cube : Circuit → Start → List Lit
start_cube c Initial = initial_cube c
start_cube c (State from) = value_literals 0 from
