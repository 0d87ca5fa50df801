-- The command `gen KIND SEED SIZE [--binary]`: what it gives.
use Rattle.std.specs.Prelude.{◌≡◌, ◌≤◌, ℕ, Bool, true, false, List, length}
use Rattle.aig_semantics.specs.declared.limits.TheConstants.{MAX_MODEL_BYTES}
use Rattle.aiger_grammar.specs.Models.{Model}
use Rattle.aiger_grammar.specs.Spelling.{ascii_text, HasAsciiForm, binary_text}
use Rattle.aiger_grammar.specs.BinaryTexts.{HasBinaryForm}
use Rattle.model_gen.specs.Generated.{ring_model, scramble_model}
use Rattle.command_lines.specs.declared.commands.generating.GenKind.{GenKind}
use Rattle.command_lines.specs.declared.commands.generating.GenKind.TheVariants.{Ring, Scramble}
use Rattle.command_lines.specs.declared.commands.generating.GenRequest.{GenRequest}
use Rattle.plain_commands.specs.declared.status.Status.{Status}
use Rattle.plain_commands.specs.declared.status.Status.TheVariants as statuses
use Rattle.plain_commands.specs.declared.status.Done.TheVariants.{Printed}
use Rattle.plain_commands.specs.ModelTexts.{IsTextIn}

abbrev pub generated : GenKind → ℕ → ℕ → Model
generated Ring seed size = ring_model seed size
generated Scramble seed size = scramble_model seed size

-- the model that is asked for
abbrev pub asked_model : GenRequest → Model
asked_model request = generated request.kind request.seed request.size

abbrev pub text_in : Bool → Model → List ℕ
text_in true m = binary_text m
text_in false m = ascii_text m

-- the bytes stand for the model in this form, however long they are
abbrev pub StandsIn : Bool → Model → List ℕ → Type 0
StandsIn true m text = HasBinaryForm m text
StandsIn false m text = HasAsciiForm m text

-- the text is that of the model that is asked for; it stands for it, and is read as it where it is not too long
pub record IsTextOfRequest (request : GenRequest) (text : List ℕ) : Type 0 where
  pub spelled : text ≡ text_in request.binary (asked_model request)
  pub stands : StandsIn request.binary (asked_model request) text
  pub read : length text ≤ MAX_MODEL_BYTES → IsTextIn request.binary (asked_model request) text

-- the text of the model is printed. There is no other status.
abbrev pub GivesGen : GenRequest → Status → List ℕ → Type 0
GivesGen request status text = (status ≡ statuses.Done Printed) × IsTextOfRequest request text

-- the status that the request decides
abbrev pub DecidesGen : GenRequest → Status → Type 0
DecidesGen request status = status ≡ statuses.Done Printed
