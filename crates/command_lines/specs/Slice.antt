-- The words of the command `slice MODEL [--property N]`.
use Rattle.std.specs.Prelude.{ℕ, List, codes}
use Rattle.clap.specs.Walk.{Row}
use Rattle.clap.specs.Simple.{App, new_app, with_rule}
use Rattle.command_lines.specs.Words.{wanted, number_option}
use Rattle.command_lines.specs.Safety.{MeansSafety}

abbrev pub slice_command : App
slice_command = with_rule (with_rule (new_app (codes "slice")) (wanted (codes "MODEL"))) (number_option (codes "property") 0 4294967295)

-- the name and the number that are given, as those of `safety` are
abbrev pub MeansSlice : List Row → List ℕ → ℕ → Type 0
MeansSlice rows model property = MeansSafety rows model property
