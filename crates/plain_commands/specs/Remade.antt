-- The commands that print a text made of a good answer, `convert` and `trim`: what they give, where it is said of the circuit
-- and the text of the answer which text is made.
use Rattle.std.specs.Prelude.{◌≡◌, ◌⊎◌, ℕ, List, Option, Result, Ok, Err}
use Rattle.aig_semantics.specs.Circuits.{Circuit}
use Rattle.aiger_grammar.specs.Models.{Model}
use Rattle.certificate.specs.declared.ends.Accepted.{Accepted}
use Rattle.certificate.specs.declared.ends.AnswerEnd.{AnswerEnd}
use Rattle.certificate.specs.declared.ends.AnswerEnd.TheVariants as ends
use Rattle.certificate.specs.declared.ends.AnswerFault.{AnswerFault}
use Rattle.certificate.specs.Ends.{DecidesEnd, IsRefused}
use Rattle.plain_commands.specs.declared.status.Status.{Status}
use Rattle.plain_commands.specs.declared.status.Status.TheVariants as statuses
use Rattle.plain_commands.specs.declared.status.Done.TheVariants.{Printed}
use Rattle.plain_commands.specs.ModelTexts.{IsModelText, OfModel}
use Rattle.plain_commands.specs.ModelGiven.{OfText, OfSomeText, SaysBadModel}
use Rattle.plain_commands.specs.Texts.{text_of}

-- the text that is made of the answer is printed, or the answer is refused as `check` refuses it
abbrev pub EndsRemade : (Circuit → List ℕ → List ℕ → Type 0) → Model → List ℕ → Status → List ℕ → Type 0
EndsRemade Made m claimed status text =
    ((status ≡ statuses.Done Printed) × Made m.circuit claimed text)
    ⊎ ((fault : AnswerFault) × IsRefused m.circuit claimed fault × (status ≡ statuses.Refused fault) × (text ≡ text_of status))

-- what is so of the texts that the shelf tells where the command ends with this status, and writes this text: MODEL is bad;
-- or it is a model's, and of the answer it is so. There is no other status.
abbrev pub GivesRemade : (Circuit → List ℕ → List ℕ → Type 0) → Option (List ℕ) → Option (List ℕ) → Status → List ℕ → Type 0
GivesRemade Made model answer status text =
    (SaysBadModel OfSomeText model status × (text ≡ text_of status))
    ⊎ OfSomeText model (λ bytes. (m : Model) × IsModelText m bytes × OfSomeText answer (λ claimed. EndsRemade Made m claimed status text))

-- the status for the end of the check of the answer
abbrev pub remade_status : Result Accepted AnswerEnd → Status
remade_status (Ok accepted) = statuses.Done Printed
remade_status (Err (ends.Refused fault)) = statuses.Refused fault
remade_status (Err ends.ReadFault) = statuses.ReadFault
remade_status (Err ends.Memory) = statuses.Memory

-- the status that both texts decide, where they are told
abbrev pub DecidesRemade : Option (List ℕ) → Option (List ℕ) → Status → Type 0
DecidesRemade model answer status =
    SaysBadModel OfText model status
    ⊎ ((end : Result Accepted AnswerEnd) × (status ≡ remade_status end)
    × OfText model (λ text. OfText answer (λ claimed. OfModel text (λ c. DecidesEnd c claimed end))))
