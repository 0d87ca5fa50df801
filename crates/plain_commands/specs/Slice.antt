-- The command `slice MODEL [--property N]`: what it gives. What lies in a property's cone is written as a model
-- with this one property (cone of influence; Clarke, Grumberg, Peled, Model Checking, 1999).
use Rattle.std.specs.Prelude.{◌≡◌, ◌⊎◌, ◌≤◌, ◌<◌, ◌↔◌, ℕ, List, length, Option}
use Rattle.aig_semantics.specs.declared.limits.TheConstants.{MAX_MODEL_BYTES}
use Rattle.aig_semantics.specs.Circuits.{Circuit}
use Rattle.aiger_grammar.specs.Models.{Model}
use Rattle.aiger_grammar.specs.Spelling.{ascii_text, HasAsciiForm}
use Rattle.aiger_grammar.specs.AsciiTexts.{IsAsciiTextOf}
use Rattle.live_to_safe.specs.BadRuns.{HasFairLasso}
use Rattle.slice.specs.Slicing.{IsSlice}
use Rattle.plain_commands.specs.declared.status.Status.{Status}
use Rattle.plain_commands.specs.declared.status.Status.TheVariants as statuses
use Rattle.plain_commands.specs.declared.status.Done.TheVariants.{Printed}
use Rattle.plain_commands.specs.ModelTexts.{IsModelText, OfModel}
use Rattle.plain_commands.specs.ModelGiven.{OfText, OfSomeText, SaysBadModel}
use Rattle.plain_commands.specs.Texts.{text_of}

-- The text is that of the slice; it stands for it, and is read as it where it is not too long. The slice has a fair lasso of
-- its one property exactly where the model has one of property j.
pub record IsSliceText (m : Model) (j : ℕ) (text : List ℕ) : Type 0 where
  pub slice : Model
  pub is_slice : IsSlice m j slice
  pub spelled : text ≡ ascii_text slice
  pub stands : HasAsciiForm slice text
  pub read : length text ≤ MAX_MODEL_BYTES → IsAsciiTextOf slice text
  pub exact : HasFairLasso slice.circuit 0 ↔ HasFairLasso m.circuit j

-- the property is not there, or its slice is printed
abbrev pub DecidesSliceOf : Circuit → ℕ → Status → Type 0
DecidesSliceOf c j status =
    ((status ≡ statuses.NoProperty j) × (length c.justice ≤ j)) ⊎ ((status ≡ statuses.Done Printed) × (j < length c.justice))

-- the same with the text that is written: the status' own, or the slice's
abbrev pub EndsSlice : Model → ℕ → Status → List ℕ → Type 0
EndsSlice m j status text =
    (((status ≡ statuses.NoProperty j) × (length m.circuit.justice ≤ j)) × (text ≡ text_of status))
    ⊎ (((status ≡ statuses.Done Printed) × (j < length m.circuit.justice)) × IsSliceText m j text)

-- What is so of the text that the shelf tells where `slice` ends with this status, and writes this text: MODEL is bad; or it
-- is a model's, and of the model it is so. There is no other status.
abbrev pub GivesSlice : Option (List ℕ) → ℕ → Status → List ℕ → Type 0
GivesSlice model j status text =
    (SaysBadModel OfSomeText model status × (text ≡ text_of status))
    ⊎ OfSomeText model (λ bytes. (m : Model) × IsModelText m bytes × EndsSlice m j status text)

-- the status that the text decides, where it is told
abbrev pub DecidesSlice : Option (List ℕ) → ℕ → Status → Type 0
DecidesSlice model j status =
    SaysBadModel OfText model status ⊎ OfText model (λ bytes. OfModel bytes (λ c. DecidesSliceOf c j status))
