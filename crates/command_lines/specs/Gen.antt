-- The words of the command `gen KIND SEED SIZE [--binary]`.
use Rattle.std.specs.Prelude.{◌≡◌, ℕ, List, codes}
use Rattle.clap.specs.Walk.{Row}
use Rattle.clap.specs.Simple.{App, new_app, with_rule}
use Rattle.command_lines.specs.declared.commands.generating.GenKind.{GenKind}
use Rattle.command_lines.specs.declared.commands.generating.GenKind.TheVariants.{Ring, Scramble}
use Rattle.command_lines.specs.declared.commands.generating.GenRequest.{GenRequest}
use Rattle.command_lines.specs.Words.{wanted, wanted_number, flag, IsGiven, IsNumberGiven, flag_in}

abbrev pub gen_command : App
gen_command =
    with_rule (with_rule (with_rule (with_rule (new_app (codes "gen")) (wanted (codes "KIND")))
    (wanted_number (codes "SEED") 0 4294967295)) (wanted_number (codes "SIZE") 1 256)) (flag (codes "binary"))

abbrev pub name_of_kind : GenKind → List ℕ
name_of_kind Ring = codes "ring"
name_of_kind Scramble = codes "scramble"

-- the values that are given are this request
pub record MeansGen (rows : List Row) (request : GenRequest) : Type 0 where
  pub kind_name : IsGiven rows (codes "KIND") (name_of_kind request.kind)
  pub seed_number : IsNumberGiven rows (codes "SEED") 0 4294967295 request.seed
  pub size_number : IsNumberGiven rows (codes "SIZE") 1 256 request.size
  pub form : flag_in rows (codes "binary") ≡ request.binary
