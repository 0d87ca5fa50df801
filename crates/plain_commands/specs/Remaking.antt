-- Scaffolding of inner functions: what a command that makes a text of an answer comes to.
use Rattle.std.specs.Prelude.{◌≡◌, ℕ, List, Result, Ok, Err}
use Rattle.aig_semantics.specs.Circuits.{Circuit}
use Rattle.certificate.specs.declared.ends.AnswerEnd.{AnswerEnd}
use Rattle.certificate.specs.declared.ends.AnswerEnd.TheVariants as ends
use Rattle.certificate.specs.declared.loaded.Loaded.{Loaded}
use Rattle.certificate.specs.Loading.{HoldsAnswer}
use Rattle.plain_commands.specs.declared.status.Status.{Status}
use Rattle.plain_commands.specs.declared.status.Status.TheVariants as statuses
use Rattle.plain_commands.specs.declared.status.Done.TheVariants.{Printed}
use Rattle.plain_commands.specs.declared.texts.Ending.{Ending}
use Rattle.plain_commands.specs.Written.{IsWritten}
use Rattle.plain_commands.specs.Texts.{text_of}

-- the text is made of each answer of which this is held
abbrev pub IsMadeOf : (Circuit → List ℕ → List ℕ → Type 0) → Circuit → Loaded → List ℕ → Type 0
IsMadeOf Made c loaded text = (claimed : List ℕ) → HoldsAnswer c claimed loaded → Made c claimed text

-- such a text is printed, or memory was refused
abbrev pub IsMade : (List ℕ → Type 0) → Result Ending Status → Type 0
IsMade P (Ok ending) = (ending.status ≡ statuses.Done Printed) × P ending.text.items
IsMade P (Err other) = other ≡ statuses.Memory

abbrev pub IsRemade : (Circuit → List ℕ → List ℕ → Type 0) → Circuit → Result Loaded AnswerEnd → Result Ending Status → Type 0
IsRemade Made c (Ok loaded) result = IsMade (IsMadeOf Made c loaded) result
IsRemade Made c (Err (ends.Refused fault)) result = IsWritten result (statuses.Refused fault) (text_of (statuses.Refused fault))
IsRemade Made c (Err ends.ReadFault) result = result ≡ Err statuses.ReadFault
IsRemade Made c (Err ends.Memory) result = result ≡ Err statuses.Memory
