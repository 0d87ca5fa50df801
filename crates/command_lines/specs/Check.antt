-- The words of the command `check MODEL ANSWER`.
use Rattle.std.specs.Prelude.{ℕ, List, codes}
use Rattle.clap.specs.Walk.{Row}
use Rattle.clap.specs.Simple.{App, new_app, with_rule}
use Rattle.command_lines.specs.Words.{wanted, IsGiven}

abbrev pub check_command : App
check_command = with_rule (with_rule (new_app (codes "check")) (wanted (codes "MODEL"))) (wanted (codes "ANSWER"))

-- the names that are given
pub record MeansCheck (rows : List Row) (model answer : List ℕ) : Type 0 where
  pub model_name : IsGiven rows (codes "MODEL") model
  pub answer_name : IsGiven rows (codes "ANSWER") answer
