-- The command `safety MODEL [--property N]`: what it gives. A property of MODEL is written as a model with one
-- bad state literal, after Biere, Artho, Schuppan, Liveness Checking as Safety Checking (FMICS 2002).
use Rattle.std.specs.Prelude.{◌≡◌, ◌⊎◌, ◌≤◌, ◌↔◌, ℕ, List, length, Option}
use Rattle.aig_semantics.specs.declared.limits.TheConstants.{MAX_MODEL_BYTES}
use Rattle.aig_semantics.specs.Circuits.{Circuit}
use Rattle.aiger_grammar.specs.Spelling.{ascii_text, HasAsciiForm}
use Rattle.aiger_grammar.specs.AsciiTexts.{IsAsciiTextOf}
use Rattle.live_to_safe.specs.BadRuns.{HasBadRun, HasFairLasso}
use Rattle.live_to_safe.specs.Numbers.{sizes_of, greatest}
use Rattle.live_to_safe.specs.Translation.{safety_model}
use Rattle.live_to_safe.specs.Ends.{IsTranslatable, IsTooLarge}
use Rattle.plain_commands.specs.declared.status.Status.{Status}
use Rattle.plain_commands.specs.declared.status.Status.TheVariants as statuses
use Rattle.plain_commands.specs.declared.status.Done.TheVariants.{Printed}
use Rattle.plain_commands.specs.ModelTexts.{OfModel}
use Rattle.plain_commands.specs.ModelGiven.{OfText, OfSomeText, SaysBadModel}
use Rattle.plain_commands.specs.Texts.{text_of}

-- The text is that of the translation; it stands for it, and is read as it where it is not too long. The translation has a
-- bad run exactly where the circuit has a fair lasso of the property.
pub record IsSafetyText (c : Circuit) (j : ℕ) (text : List ℕ) : Type 0 where
  pub spelled : text ≡ ascii_text (safety_model c j)
  pub stands : HasAsciiForm (safety_model c j) text
  pub read : length text ≤ MAX_MODEL_BYTES → IsAsciiTextOf (safety_model c j) text
  pub exact : HasBadRun (safety_model c j) ↔ HasFairLasso c j

-- the property is not there, its translation is too large, or it is printed
abbrev pub DecidesFor : Circuit → ℕ → Status → Type 0
DecidesFor c j status =
    ((status ≡ statuses.NoProperty j) × (length c.justice ≤ j))
    ⊎ (((status ≡ statuses.TooLarge (greatest (sizes_of c j))) × IsTooLarge c j)
    ⊎ ((status ≡ statuses.Done Printed) × IsTranslatable c j))

-- the same with the text that is written: the status' own, or the translation's
abbrev pub EndsSafety : Circuit → ℕ → Status → List ℕ → Type 0
EndsSafety c j status text =
    (((status ≡ statuses.NoProperty j) × (length c.justice ≤ j)) × (text ≡ text_of status))
    ⊎ ((((status ≡ statuses.TooLarge (greatest (sizes_of c j))) × IsTooLarge c j) × (text ≡ text_of status))
    ⊎ (((status ≡ statuses.Done Printed) × IsTranslatable c j) × IsSafetyText c j text))

-- What is so of the text that the shelf tells where `safety` ends with this status, and writes this text: MODEL is bad; or
-- it is a model's, and of its circuit it is so. There is no other status.
abbrev pub GivesSafety : Option (List ℕ) → ℕ → Status → List ℕ → Type 0
GivesSafety model j status text =
    (SaysBadModel OfSomeText model status × (text ≡ text_of status))
    ⊎ OfSomeText model (λ bytes. OfModel bytes (λ c. EndsSafety c j status text))

-- the status that the text decides, where it is told
abbrev pub DecidesSafety : Option (List ℕ) → ℕ → Status → Type 0
DecidesSafety model j status =
    SaysBadModel OfText model status ⊎ OfText model (λ bytes. OfModel bytes (λ c. DecidesFor c j status))
