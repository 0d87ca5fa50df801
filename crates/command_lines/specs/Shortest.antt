-- The words of the command `shortest MODEL [--property N] [--conflicts C] [--depth D]`.
use Rattle.std.specs.Prelude.{ℕ, List, codes}
use Rattle.clap.specs.Walk.{Row}
use Rattle.clap.specs.Simple.{App, new_app, with_rule}
use Rattle.command_lines.specs.declared.commands.bounding.ShortestRequest.{ShortestRequest}
use Rattle.command_lines.specs.Words.{wanted, number_option, IsGiven, IsNumberOr}
use Rattle.command_lines.specs.Solve.{default_request}

abbrev pub shortest_command : App
shortest_command =
    with_rule (with_rule (with_rule (with_rule (new_app (codes "shortest")) (wanted (codes "MODEL")))
    (number_option (codes "property") 0 4294967295)) (number_option (codes "conflicts") 0 4294967295))
    (number_option (codes "depth") 0 65536)

-- the name and the numbers that are given, with the defaults of `solve` for those that are not, and of 100 positions
pub record MeansShortest (rows : List Row) (model : List ℕ) (request : ShortestRequest) : Type 0 where
  pub model_name : IsGiven rows (codes "MODEL") model
  pub property : IsNumberOr rows (codes "property") 0 4294967295 default_request.property request.property
  pub conflicts : IsNumberOr rows (codes "conflicts") 0 4294967295 default_request.conflicts request.conflicts
  pub depth : IsNumberOr rows (codes "depth") 0 65536 100 request.depth
