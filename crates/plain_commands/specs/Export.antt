-- The command `export MODEL ANSWER ENTRY CLAUSE [--lrat]`: what it gives. An item of the answer, which is the obligation of a
-- clause of an entry or the refutation, is written for other checkers: its clauses in the DIMACS format, or the lines of the
-- proof that refutes them.
use Rattle.std.specs.Prelude.{◌≡◌, ◌⊎◌, ℕ, List, Option}
use Rattle.aig_semantics.specs.Circuits.{Circuit}
use Rattle.aiger_grammar.specs.Models.{Model}
use Rattle.command_lines.specs.declared.commands.exporting.ExportRequest.{ExportRequest}
use Rattle.certificate.specs.declared.ends.AnswerFault.{AnswerFault}
use Rattle.certificate.specs.declared.loaded.Loaded.{Loaded}
use Rattle.certificate.specs.Ends.{IsRefused}
use Rattle.certificate.specs.Loading.{HoldsAnswer}
use Rattle.cert_tools.specs.Exported.{HasItem, IsExported}
use Rattle.plain_commands.specs.declared.status.Status.{Status}
use Rattle.plain_commands.specs.declared.status.Status.TheVariants as statuses
use Rattle.plain_commands.specs.declared.status.Done.TheVariants.{Printed}
use Rattle.plain_commands.specs.ModelTexts.{IsModelText, OfModel}
use Rattle.plain_commands.specs.ModelGiven.{OfText, OfSomeText, SaysBadModel}
use Rattle.plain_commands.specs.Texts.{text_of}

-- the answer that is held has the item, which is printed, or it has no such item
abbrev pub DecidesItem : Loaded → ExportRequest → Status → Type 0
DecidesItem loaded request status =
    (HasItem loaded request.entry request.clause × (status ≡ statuses.Done Printed))
    ⊎ ((HasItem loaded request.entry request.clause → ⊥) × (status ≡ statuses.NoItem request.entry request.clause))

-- the same with the text that is written: the item's, or the status' own
abbrev pub EndsItem : Circuit → Loaded → ExportRequest → Status → List ℕ → Type 0
EndsItem c loaded request status text =
    (HasItem loaded request.entry request.clause × (status ≡ statuses.Done Printed)
    × IsExported c loaded request.entry request.clause request.lrat text)
    ⊎ ((HasItem loaded request.entry request.clause → ⊥) × (status ≡ statuses.NoItem request.entry request.clause)
    × (text ≡ text_of status))

-- so it ends for what the answer has, or the answer is refused as `check` refuses it
abbrev pub EndsExport : Circuit → List ℕ → ExportRequest → Status → List ℕ → Type 0
EndsExport c claimed request status text =
    ((loaded : Loaded) × HoldsAnswer c claimed loaded × EndsItem c loaded request status text)
    ⊎ ((fault : AnswerFault) × IsRefused c claimed fault × (status ≡ statuses.Refused fault) × (text ≡ text_of status))

-- what is so of the texts that the shelf tells where `export` ends with this status, and writes this text: MODEL is bad; or
-- it is a model's, and of the answer it is so. There is no other status.
abbrev pub GivesExport : Option (List ℕ) → Option (List ℕ) → ExportRequest → Status → List ℕ → Type 0
GivesExport model answer request status text =
    (SaysBadModel OfSomeText model status × (text ≡ text_of status))
    ⊎ OfSomeText model (λ bytes. (m : Model) × IsModelText m bytes
    × OfSomeText answer (λ claimed. EndsExport m.circuit claimed request status text))

-- the status that the answer decides
abbrev pub DecidesAnswer : Circuit → List ℕ → ExportRequest → Status → Type 0
DecidesAnswer c claimed request status =
    ((loaded : Loaded) × HoldsAnswer c claimed loaded × DecidesItem loaded request status)
    ⊎ ((fault : AnswerFault) × IsRefused c claimed fault × (status ≡ statuses.Refused fault))

-- the status that both texts decide, where they are told
abbrev pub DecidesExport : Option (List ℕ) → Option (List ℕ) → ExportRequest → Status → Type 0
DecidesExport model answer request status =
    SaysBadModel OfText model status
    ⊎ OfText model (λ text. OfText answer (λ claimed. OfModel text (λ c. DecidesAnswer c claimed request status)))
