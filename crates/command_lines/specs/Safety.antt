-- The words of the command `safety MODEL [--property N]`.
use Rattle.std.specs.Prelude.{ℕ, List, codes}
use Rattle.clap.specs.Walk.{Row}
use Rattle.clap.specs.Simple.{App, new_app, with_rule}
use Rattle.command_lines.specs.Words.{wanted, number_option, IsGiven, IsNumberOr}

abbrev pub safety_command : App
safety_command = with_rule (with_rule (new_app (codes "safety")) (wanted (codes "MODEL"))) (number_option (codes "property") 0 4294967295)

-- the name that is given, and the number, which is 0 where none is given
pub record MeansSafety (rows : List Row) (model : List ℕ) (property : ℕ) : Type 0 where
  pub model_name : IsGiven rows (codes "MODEL") model
  pub number : IsNumberOr rows (codes "property") 0 4294967295 0 property
