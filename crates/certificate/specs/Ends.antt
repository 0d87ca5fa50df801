-- How the check of an answer ends: what decides it, and what is known of it.
use Rattle.std.specs.Prelude.{◌≡◌, ◌≤◌, ◌<◌, ◌⊎◌, ℕ, Bool, true, false, List, length, Option, Result, Ok, Err}
use Rattle.aig_semantics.specs.declared.traces.Stimulus.{Stimulus}
use Rattle.aig_semantics.specs.Circuits.{Circuit}
use Rattle.aig_semantics.specs.Stimuli.{StandsFor}
use Rattle.stimulus.specs.Faults.{HasReplayFault}
use Rattle.answer_lines.specs.Left.{most_bytes}
use Rattle.edge.specs.Told.{MayBe}
use Rattle.unless_memory.specs.Answers.{GivesSome}
use Rattle.certificate.specs.declared.ends.Accepted.{Accepted}
use Rattle.certificate.specs.declared.ends.Accepted.TheVariants.{Lasso, Holds}
use Rattle.certificate.specs.declared.ends.AnswerFault.{AnswerFault}
use Rattle.certificate.specs.declared.ends.AnswerFault.TheVariants.{Shape, Replay, TooLong}
use Rattle.certificate.specs.declared.ends.AnswerEnd.{AnswerEnd}
use Rattle.certificate.specs.declared.ends.AnswerEnd.TheVariants as ends
use Rattle.certificate.specs.Lines.{end_of, kept_readable}
use Rattle.certificate.specs.Answers.{IsGood}
use Rattle.certificate.specs.Reading.{State, Status, Dotted, Ended, Stepped, read_lines}

-- the fault of a replay is the answer's
abbrev pub IsReplayFault : Circuit → ℕ → Stimulus → AnswerFault → Type 0
IsReplayFault c n s (Replay fault) = HasReplayFault c n s fault
IsReplayFault c n s _ = ⊥

-- the state, at the end of a text, is that of a good answer, which shows this
abbrev pub IsGoodAtEnd : Circuit → State → Accepted → Type 0
IsGoodAtEnd c (Dotted n s) (Lasso property positions from) = (property ≡ n) × StandsFor c n s positions from
IsGoodAtEnd c (Ended b) (Holds property entries) = (property ≡ b.property) × (entries ≡ length b.entries)
IsGoodAtEnd c _ _ = ⊥

-- The fault of a text that ends in a state, where a line behind the last one would have this number: of its stimulus, or
-- the line that is still wanted.
abbrev pub IsFaultAtEnd : Circuit → State → ℕ → AnswerFault → Type 0
IsFaultAtEnd c (Dotted n s) number fault = IsReplayFault c n s fault
IsFaultAtEnd c (Ended b) number fault = ⊥
IsFaultAtEnd c _ number fault = fault ≡ Shape number

-- the lines that end within the limit have this fault, or have none, and then a longer text is too long, and another
-- ends with its fault
abbrev pub IsFirstFault : Circuit → List ℕ → Stepped → AnswerFault → Type 0
IsFirstFault c text (Err first) fault = fault ≡ first
IsFirstFault c text (Ok s) fault =
    ((most_bytes < length text) × (fault ≡ TooLong)) ⊎ ((length text ≤ most_bytes) × IsFaultAtEnd c s (end_of text) fault)

-- The text is no good answer, and this is its first fault.
abbrev pub IsRefused : Circuit → List ℕ → AnswerFault → Type 0
IsRefused c text fault = IsFirstFault c text (read_lines c Status (kept_readable text)) fault

-- The lines of the text, which is within the limit, end in a state that is good. (That this is so exactly of good texts
-- is a law; inner functions speak of it.)
abbrev pub ReadsWell : Circuit → List ℕ → Accepted → Type 0
ReadsWell c text accepted =
    (length text ≤ most_bytes) × (s : State) × (read_lines c Status (kept_readable text) ≡ Ok s) × IsGoodAtEnd c s accepted

-- the reading of the text ends so
abbrev pub ReadsAs : Circuit → List ℕ → Result Accepted AnswerEnd → Type 0
ReadsAs c text (Ok accepted) = ReadsWell c text accepted
ReadsAs c text (Err (ends.Refused fault)) = IsRefused c text fault
ReadsAs c text (Err ends.ReadFault) = ⊥
ReadsAs c text (Err ends.Memory) = ⊥

-- the text decides this end of its check
abbrev pub DecidesEnd : Circuit → List ℕ → Result Accepted AnswerEnd → Type 0
DecidesEnd c text (Ok accepted) = IsGood c text accepted
DecidesEnd c text (Err (ends.Refused fault)) = IsRefused c text fault
DecidesEnd c text (Err ends.ReadFault) = ⊥
DecidesEnd c text (Err ends.Memory) = ⊥

-- what the end of a check says of the text that the shelf may hold; a failed read says nothing of it
abbrev pub SaysOfAnswer : Circuit → Option (List ℕ) → Result Accepted AnswerEnd → Type 0
SaysOfAnswer c told end = (end ≡ Err ends.ReadFault) ⊎ ((text : List ℕ) × MayBe told text × DecidesEnd c text end)

-- the same, unless memory is refused
abbrev pub CheckSays : Circuit → Option (List ℕ) → Result Accepted AnswerEnd → Type 0
CheckSays c told result = GivesSome (Err ends.Memory) (SaysOfAnswer c told) result

-- this end comes, unless memory is refused or a read fails
abbrev pub EndsWith : Result Accepted AnswerEnd → Result Accepted AnswerEnd → Type 0
EndsWith result verdict = GivesSome (Err ends.Memory) (λ end. (end ≡ verdict) ⊎ (end ≡ Err ends.ReadFault)) result

-- the call ended with a failed read
abbrev pub has_unread : {T : Type 0} → Result T AnswerEnd → Bool
has_unread (Ok read) = false
has_unread (Err (ends.Refused fault)) = false
has_unread (Err ends.ReadFault) = true
has_unread (Err ends.Memory) = false
