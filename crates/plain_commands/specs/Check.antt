-- The command `check MODEL ANSWER`: what it gives.
use Rattle.std.specs.Prelude.{◌≡◌, ◌⊎◌, ℕ, List, Option, Result, Ok, Err}
use Rattle.certificate.specs.declared.ends.Accepted.{Accepted}
use Rattle.certificate.specs.declared.ends.Accepted.TheVariants as accepted
use Rattle.certificate.specs.declared.ends.AnswerEnd.TheVariants as answers
use Rattle.round_answers.specs.declared.ends.Judged.{Judged as TextJudged}
use Rattle.round_answers.specs.declared.ends.Judged.TheVariants as texts
use Rattle.round_answers.specs.declared.ends.JudgeEnd.TheVariants as text_ends
use Rattle.sheet_answers.specs.declared.ends.Judged.{Judged}
use Rattle.sheet_answers.specs.declared.ends.Judged.TheVariants as judged
use Rattle.sheet_answers.specs.declared.ends.JudgeEnd.{JudgeEnd}
use Rattle.sheet_answers.specs.declared.ends.JudgeEnd.TheVariants as ends
use Rattle.sheet_answers.specs.Ends.{Decides as DecidesText, ShowsText}
use Rattle.plain_commands.specs.declared.status.Status.{Status}
use Rattle.plain_commands.specs.declared.status.Status.TheVariants as statuses
use Rattle.plain_commands.specs.declared.status.Done.{Done}
use Rattle.plain_commands.specs.declared.status.Done.TheVariants as done
use Rattle.plain_commands.specs.ModelTexts.{OfModel}
use Rattle.plain_commands.specs.ModelGiven.{Taking, OfText, OfSomeText, SaysBadModel}
use Rattle.plain_commands.specs.Texts.{text_of}

-- what was done where an answer was accepted
abbrev pub done_of : Accepted → Done
done_of (accepted.Lasso property positions from) = done.Lasso property positions from
done_of (accepted.Holds property entries) = done.Holds property entries

-- what was done where a text was accepted that is no sheet: an answer, or a text about rounds
abbrev pub done_of_text : TextJudged → Done
done_of_text (texts.Answer found) = done_of found
done_of_text (texts.Rounds property k reached) = done.Rounds property k reached

-- what was done where any text was accepted
abbrev pub done_by : Judged → Done
done_by (judged.Text found) = done_of_text found
done_by (judged.Sheet counts entries) = done.All counts.lassos counts.holds counts.unknown entries

-- the status where a text was refused, or where the run ended before it was judged
abbrev pub status_of_end : JudgeEnd → Status
status_of_end (ends.Text (text_ends.Answer (answers.Refused fault))) = statuses.Refused fault
status_of_end (ends.Text (text_ends.Answer answers.ReadFault)) = statuses.ReadFault
status_of_end (ends.Text (text_ends.Answer answers.Memory)) = statuses.Memory
status_of_end (ends.Text (text_ends.TooLarge variable)) = statuses.TooLarge variable
status_of_end (ends.Block property fault) = statuses.RefusedBlock property fault

-- the status for the end of the check of a text
abbrev pub status_of : Result Judged JudgeEnd → Status
status_of (Ok found) = statuses.Done (done_by found)
status_of (Err end) = status_of_end end

-- MODEL is bad; or ANSWER is accepted or refused for the circuit of MODEL, or is about rounds of a property whose monitor would
-- be too large. There is no other status.
abbrev pub JudgesAs : Taking → Option (List ℕ) → Option (List ℕ) → Status → Type 0
JudgesAs Of model answer status =
    SaysBadModel Of model status
    ⊎ ((end : Result Judged JudgeEnd) × (status ≡ status_of end)
    × Of model (λ text. Of answer (λ claimed. OfModel text (λ c. DecidesText c claimed end))))

-- what is so of the texts that the shelf tells where `check` ends with this status, and writes this text
abbrev pub GivesCheck : Option (List ℕ) → Option (List ℕ) → Status → List ℕ → Type 0
GivesCheck model answer status text = JudgesAs OfSomeText model answer status × (text ≡ text_of status)

-- the status that both texts decide, where they are told
abbrev pub DecidesCheck : Option (List ℕ) → Option (List ℕ) → Status → Type 0
DecidesCheck model answer status = JudgesAs OfText model answer status

-- MODEL is the text of a model, and of its circuit what the accepted text shows is true: there is such a fair lasso of the
-- property, or there is none; or some initial run has so many rounds of it, or none has; or there is a block for each property,
-- as many of each kind as are told, and what they say is so
abbrev pub ShownByCheck : Option (List ℕ) → Judged → Type 0
ShownByCheck model found = OfSomeText model (λ text. OfModel text (λ c. ShowsText c found))
