-- The words of the command `rounds MODEL K [--property N] [--conflicts C] [--steps S]`.
use Rattle.std.specs.Prelude.{ℕ, List, codes}
use Rattle.clap.specs.Walk.{Row}
use Rattle.clap.specs.Simple.{App, new_app, with_rule}
use Rattle.command_lines.specs.declared.commands.counting.RoundsRequest.{RoundsRequest}
use Rattle.command_lines.specs.Words.{wanted, wanted_number, number_option, IsGiven, IsNumberGiven, IsNumberOr}
use Rattle.command_lines.specs.Solve.{default_request}

abbrev pub rounds_command : App
rounds_command =
    with_rule (with_rule (with_rule (with_rule (with_rule (new_app (codes "rounds")) (wanted (codes "MODEL")))
    (wanted_number (codes "K") 1 64)) (number_option (codes "property") 0 4294967295))
    (number_option (codes "conflicts") 0 4294967295)) (number_option (codes "steps") 0 4294967295)

-- the name and the number of rounds that are given, and the other numbers, with the defaults of `solve` for those that are not
pub record MeansRounds (rows : List Row) (model : List ℕ) (request : RoundsRequest) : Type 0 where
  pub model_name : IsGiven rows (codes "MODEL") model
  pub rounds : IsNumberGiven rows (codes "K") 1 64 request.k
  pub property : IsNumberOr rows (codes "property") 0 4294967295 default_request.property request.property
  pub conflicts : IsNumberOr rows (codes "conflicts") 0 4294967295 default_request.conflicts request.conflicts
  pub steps : IsNumberOr rows (codes "steps") 0 4294967295 default_request.steps request.steps
