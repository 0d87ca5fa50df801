-- The words of the command `demo SEED SIZE`.
use Rattle.std.specs.Prelude.{List, codes}
use Rattle.clap.specs.Walk.{Row}
use Rattle.clap.specs.Simple.{App, new_app, with_rule}
use Rattle.command_lines.specs.declared.commands.demonstrating.DemoRequest.{DemoRequest}
use Rattle.command_lines.specs.Words.{wanted_number, IsNumberGiven}

abbrev pub demo_command : App
demo_command =
    with_rule (with_rule (new_app (codes "demo")) (wanted_number (codes "SEED") 0 4294967295)) (wanted_number (codes "SIZE") 1 256)

-- the numbers that are given
pub record MeansDemo (rows : List Row) (request : DemoRequest) : Type 0 where
  pub seed_number : IsNumberGiven rows (codes "SEED") 0 4294967295 request.seed
  pub size_number : IsNumberGiven rows (codes "SIZE") 1 256 request.size
