-- The words of the command `wave MODEL ANSWER [--property N]`.
use Rattle.std.specs.Prelude.{ℕ, List, codes}
use Rattle.clap.specs.Walk.{Row}
use Rattle.clap.specs.Simple.{App, new_app, with_rule}
use Rattle.command_lines.specs.Words.{wanted, number_option, IsNumberOr}
use Rattle.command_lines.specs.Check.{MeansCheck}

abbrev pub wave_command : App
wave_command =
    with_rule (with_rule (with_rule (new_app (codes "wave")) (wanted (codes "MODEL"))) (wanted (codes "ANSWER")))
    (number_option (codes "property") 0 4294967295)

-- the names that are given, as those of `check` are, and the number of a property, 0 where none is given
pub record MeansWave (rows : List Row) (model answer : List ℕ) (property : ℕ) : Type 0 where
  pub names : MeansCheck rows model answer
  pub number : IsNumberOr rows (codes "property") 0 4294967295 0 property
