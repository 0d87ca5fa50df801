-- The command `wave MODEL ANSWER [--property N]`: what it gives.
use Rattle.std.specs.Prelude.{◌≡◌, ◌⊎◌, ℕ, Bool, true, false, List, Option, Result, Ok, Err}
use Rattle.aig_semantics.specs.declared.traces.Lasso.{Lasso as LassoOf}
use Rattle.aig_semantics.specs.Circuits.{Circuit}
use Rattle.aiger_grammar.specs.Models.{Model}
use Rattle.certificate.specs.declared.ends.Accepted.{Accepted}
use Rattle.certificate.specs.declared.ends.Accepted.TheVariants.{Lasso, Holds}
use Rattle.certificate.specs.declared.ends.AnswerEnd.{AnswerEnd}
use Rattle.certificate.specs.declared.ends.AnswerEnd.TheVariants as ends
use Rattle.certificate.specs.declared.ends.AnswerFault.{AnswerFault}
use Rattle.certificate.specs.declared.ends.AnswerFault.TheVariants.{UnknownStatus}
use Rattle.certificate.specs.Answers.{IsGood}
use Rattle.certificate.specs.Ends.{DecidesEnd, IsRefused}
use Rattle.certificate.specs.Lassos.{HasGoodLasso}
use Rattle.sheet_answers.specs.declared.ends.JudgeEnd.{JudgeEnd}
use Rattle.sheet_answers.specs.Reading.{opens_as_sheet}
use Rattle.sheet_commands.specs.declared.blocks.BlockLasso.{BlockLasso}
use Rattle.sheet_commands.specs.Blocks.{DecidesBlock}
use Rattle.waves.specs.Dumps.{waves_text}
use Rattle.plain_commands.specs.declared.status.Status.{Status}
use Rattle.plain_commands.specs.declared.status.Status.TheVariants as statuses
use Rattle.plain_commands.specs.declared.status.Done.TheVariants.{Printed}
use Rattle.plain_commands.specs.ModelTexts.{IsModelText, OfModel}
use Rattle.plain_commands.specs.ModelGiven.{OfText, OfSomeText, SaysBadModel}
use Rattle.plain_commands.specs.Check.{status_of_end}
use Rattle.plain_commands.specs.Texts.{text_of}

-- the answer is refused as `check` refuses it, or is a good certificate, which has no lasso
abbrev pub HasNoWaves : Model → List ℕ → AnswerFault → Type 0
HasNoWaves m claimed fault =
    IsRefused m.circuit claimed fault
    ⊎ ((fault ≡ UnknownStatus) × (n : ℕ) × (entries : ℕ) × IsGood m.circuit claimed (Holds n entries))

-- the waves of the lasso that the stimulus of the answer stands for are printed, or the answer is refused
abbrev pub EndsWaved : Model → List ℕ → Status → List ℕ → Type 0
EndsWaved m claimed status text =
    ((n : ℕ) × (lasso : LassoOf) × HasGoodLasso m.circuit claimed n lasso × (status ≡ statuses.Done Printed) × (text ≡ waves_text m n lasso))
    ⊎ ((fault : AnswerFault) × HasNoWaves m claimed fault × (status ≡ statuses.Refused fault) × (text ≡ text_of status))

-- The same of a sheet, and the block of property n: it is refused as `check` refuses it; for the property where it has no such
-- block; or as of unknown status where the block has no stimulus.
abbrev pub EndsBlockWaved : Model → List ℕ → ℕ → Status → List ℕ → Type 0
EndsBlockWaved m claimed n status text =
    ((found : BlockLasso) × DecidesBlock m.circuit claimed n (Ok found) × (status ≡ statuses.Done Printed)
    × (text ≡ waves_text m found.property found.lasso))
    ⊎ ((end : JudgeEnd) × DecidesBlock m.circuit claimed n (Err end) × (status ≡ status_of_end end) × (text ≡ text_of status))

abbrev pub EndsWaveAs : Bool → Model → List ℕ → ℕ → Status → List ℕ → Type 0
EndsWaveAs true m claimed n status text = EndsBlockWaved m claimed n status text
EndsWaveAs false m claimed n status text = EndsWaved m claimed status text

abbrev pub EndsWave : Model → List ℕ → ℕ → Status → List ℕ → Type 0
EndsWave m claimed n status text = EndsWaveAs (opens_as_sheet claimed) m claimed n status text

-- what is so of the texts that the shelf tells where `wave` ends with this status, and writes this text: MODEL is bad; or
-- it is a model's, and of the answer it is so. There is no other status.
abbrev pub GivesWave : Option (List ℕ) → Option (List ℕ) → ℕ → Status → List ℕ → Type 0
GivesWave model answer n status text =
    (SaysBadModel OfSomeText model status × (text ≡ text_of status))
    ⊎ OfSomeText model (λ bytes. (m : Model) × IsModelText m bytes × OfSomeText answer (λ claimed. EndsWave m claimed n status text))

-- the status for the end of the check of an answer: of a certificate there are no waves
abbrev pub wave_status : Result Accepted AnswerEnd → Status
wave_status (Ok (Lasso property positions from)) = statuses.Done Printed
wave_status (Ok (Holds property entries)) = statuses.Refused UnknownStatus
wave_status (Err (ends.Refused fault)) = statuses.Refused fault
wave_status (Err ends.ReadFault) = statuses.ReadFault
wave_status (Err ends.Memory) = statuses.Memory

-- the status for the end of the reading of a block
abbrev pub block_status : Result BlockLasso JudgeEnd → Status
block_status (Ok found) = statuses.Done Printed
block_status (Err end) = status_of_end end

-- the text of ANSWER decides the status, of a sheet by the block of property n
abbrev pub DecidesWaveAs : Bool → Circuit → List ℕ → ℕ → Status → Type 0
DecidesWaveAs true c claimed n status = (end : Result BlockLasso JudgeEnd) × (status ≡ block_status end) × DecidesBlock c claimed n end
DecidesWaveAs false c claimed n status = (end : Result Accepted AnswerEnd) × (status ≡ wave_status end) × DecidesEnd c claimed end

-- the status that both texts decide, where they are told
abbrev pub DecidesWave : Option (List ℕ) → Option (List ℕ) → ℕ → Status → Type 0
DecidesWave model answer n status =
    SaysBadModel OfText model status
    ⊎ OfText model (λ text. OfText answer (λ claimed. OfModel text (λ c. DecidesWaveAs (opens_as_sheet claimed) c claimed n status)))
