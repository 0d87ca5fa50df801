-- Scaffolding of inner functions: what `export` comes to for the end of the loading of the answer.
use Rattle.std.specs.Prelude.{◌≡◌, Result, Ok, Err}
use Rattle.aig_semantics.specs.Circuits.{Circuit}
use Rattle.command_lines.specs.declared.commands.exporting.ExportRequest.{ExportRequest}
use Rattle.certificate.specs.declared.ends.AnswerEnd.{AnswerEnd}
use Rattle.certificate.specs.declared.ends.AnswerEnd.TheVariants as ends
use Rattle.certificate.specs.declared.loaded.Loaded.{Loaded}
use Rattle.plain_commands.specs.declared.status.Status.{Status}
use Rattle.plain_commands.specs.declared.status.Status.TheVariants as statuses
use Rattle.plain_commands.specs.declared.texts.Ending.{Ending}
use Rattle.plain_commands.specs.Written.{IsWritten}
use Rattle.plain_commands.specs.Export.{EndsItem}
use Rattle.plain_commands.specs.Texts.{text_of}

-- it ends so for the item, or memory was refused
abbrev pub IsItemEnd : Circuit → Loaded → ExportRequest → Result Ending Status → Type 0
IsItemEnd c loaded request (Ok ending) = EndsItem c loaded request ending.status ending.text.items
IsItemEnd c loaded request (Err other) = other ≡ statuses.Memory

abbrev pub IsExportEnd : Circuit → ExportRequest → Result Loaded AnswerEnd → Result Ending Status → Type 0
IsExportEnd c request (Ok loaded) result = IsItemEnd c loaded request result
IsExportEnd c request (Err (ends.Refused fault)) result = IsWritten result (statuses.Refused fault) (text_of (statuses.Refused fault))
IsExportEnd c request (Err ends.ReadFault) result = result ≡ Err statuses.ReadFault
IsExportEnd c request (Err ends.Memory) result = result ≡ Err statuses.Memory
