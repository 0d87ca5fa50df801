-- The words of the command
-- `solve MODEL [--property N] [--workers W] [--conflicts C] [--steps S] [--skeletons K] [--lassos N] [--depth D] [--all] [--resume ANSWER]`.
use Rattle.std.specs.Prelude.{◌≡◌, ℕ, List, Option, codes, false}
use Rattle.clap.specs.Walk.{Row}
use Rattle.clap.specs.Simple.{App, new_app, with_rule}
use Rattle.command_lines.specs.declared.commands.solving.SolveRequest.{SolveRequest}
use Rattle.command_lines.specs.Words.{wanted, number_option, text_option, flag, IsGiven, given_in, IsNumberOr, flag_in}

abbrev pub solve_command : App
solve_command =
    with_rule (with_rule (with_rule (with_rule (with_rule (with_rule (with_rule (with_rule (with_rule (with_rule (new_app (codes "solve")) (wanted (codes "MODEL")))
    (number_option (codes "property") 0 4294967295)) (number_option (codes "workers") 1 64))
    (number_option (codes "conflicts") 0 4294967295)) (number_option (codes "steps") 0 4294967295))
    (number_option (codes "skeletons") 0 65536)) (number_option (codes "lassos") 0 63)) (number_option (codes "depth") 0 65536))
    (flag (codes "all"))) (text_option (codes "resume"))

-- what is asked for where only a model is named
abbrev pub default_request : SolveRequest
default_request = record { property = 0; workers = 1; conflicts = 1000000; steps = 100000; skeletons = 10000; lassos = 0; depth = 100; all = false }

-- the name and the numbers that are given, with the defaults of those that are not, whether all properties are asked for, and
-- the name of an answer, if one is given
pub record MeansSolve (rows : List Row) (model : List ℕ) (request : SolveRequest) (resume : Option (List ℕ)) : Type 0 where
  pub model_name : IsGiven rows (codes "MODEL") model
  pub property : IsNumberOr rows (codes "property") 0 4294967295 default_request.property request.property
  pub workers : IsNumberOr rows (codes "workers") 1 64 default_request.workers request.workers
  pub conflicts : IsNumberOr rows (codes "conflicts") 0 4294967295 default_request.conflicts request.conflicts
  pub steps : IsNumberOr rows (codes "steps") 0 4294967295 default_request.steps request.steps
  pub skeletons : IsNumberOr rows (codes "skeletons") 0 65536 default_request.skeletons request.skeletons
  pub lassos : IsNumberOr rows (codes "lassos") 0 63 default_request.lassos request.lassos
  pub depth : IsNumberOr rows (codes "depth") 0 65536 default_request.depth request.depth
  pub each : flag_in rows (codes "all") ≡ request.all
  pub answer_name : given_in rows (codes "resume") ≡ resume
