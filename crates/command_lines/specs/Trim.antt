-- The words of the command `trim MODEL ANSWER`.
use Rattle.std.specs.Prelude.{ℕ, List, codes}
use Rattle.clap.specs.Walk.{Row}
use Rattle.clap.specs.Simple.{App, new_app, with_rule}
use Rattle.command_lines.specs.Words.{wanted}
use Rattle.command_lines.specs.Check.{MeansCheck}

abbrev pub trim_command : App
trim_command = with_rule (with_rule (new_app (codes "trim")) (wanted (codes "MODEL"))) (wanted (codes "ANSWER"))

-- the names that are given, as those of `check` are
abbrev pub MeansTrim : List Row → List ℕ → List ℕ → Type 0
MeansTrim rows model answer = MeansCheck rows model answer
