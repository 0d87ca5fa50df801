-- The words of the command `export MODEL ANSWER ENTRY CLAUSE [--lrat]`.
use Rattle.std.specs.Prelude.{◌≡◌, ℕ, List, codes}
use Rattle.clap.specs.Walk.{Row}
use Rattle.clap.specs.Simple.{App, new_app, with_rule}
use Rattle.command_lines.specs.declared.commands.exporting.ExportRequest.{ExportRequest}
use Rattle.command_lines.specs.Words.{wanted, wanted_number, flag, IsNumberGiven, flag_in}
use Rattle.command_lines.specs.Check.{MeansCheck}

abbrev pub export_command : App
export_command =
    with_rule (with_rule (with_rule (with_rule (with_rule (new_app (codes "export")) (wanted (codes "MODEL"))) (wanted (codes "ANSWER")))
    (wanted_number (codes "ENTRY") 0 4294967295)) (wanted_number (codes "CLAUSE") 0 4294967295)) (flag (codes "lrat"))

-- the numbers of the item that are given, and whether its proof is asked for
pub record IsItemGiven (rows : List Row) (request : ExportRequest) : Type 0 where
  pub entry_number : IsNumberGiven rows (codes "ENTRY") 0 4294967295 request.entry
  pub clause_number : IsNumberGiven rows (codes "CLAUSE") 0 4294967295 request.clause
  pub form : flag_in rows (codes "lrat") ≡ request.lrat

-- the names that are given, as those of `check` are, and the item
abbrev pub MeansExport : List Row → List ℕ → List ℕ → ExportRequest → Type 0
MeansExport rows model answer request = MeansCheck rows model answer × IsItemGiven rows request
