-- How the check of a text ends: what decides it, and what is known of it.
use Rattle.std.specs.Prelude.{◌≡◌, ◌≤◌, ◌<◌, ◌⊎◌, ℕ, Bool, true, false, List, length, Option, Some, None, Result, Ok, Err}
use Rattle.aig_semantics.specs.declared.traces.Stimulus.{Stimulus}
use Rattle.aig_semantics.specs.Circuits.{Circuit}
use Rattle.aig_semantics.specs.Stimuli.{StandsFor}
use Rattle.stimulus.specs.declared.ends.ReplayFault.{ReplayFault}
use Rattle.stimulus.specs.Faults.{HasReplayFault}
use Rattle.answer_lines.specs.Left.{most_bytes}
use Rattle.edge.specs.Told.{MayBe}
use Rattle.unless_memory.specs.Answers.{GivesSome}
use Rattle.certificate.specs.declared.ends.AnswerFault.TheVariants.{Shape, TooLong}
use Rattle.certificate.specs.declared.ends.AnswerEnd.{AnswerEnd}
use Rattle.certificate.specs.declared.ends.AnswerEnd.TheVariants as answer_ends
use Rattle.certificate.specs.Lines.{end_of, kept_readable}
use Rattle.round_answers.specs.declared.ends.Judged.{Judged as TextJudged}
use Rattle.round_answers.specs.declared.ends.JudgeEnd.{JudgeEnd as TextEnd}
use Rattle.round_answers.specs.declared.ends.JudgeEnd.TheVariants as text_ends
use Rattle.round_answers.specs.Answers.{IsGoodText as IsGoodOther, ShowsText as OtherShows}
use Rattle.round_answers.specs.Ends.{Decides as OtherDecides, has_unread as other_unread}
use Rattle.sheet_answers.specs.declared.ends.BlockFault.{BlockFault}
use Rattle.sheet_answers.specs.declared.ends.Judged.{Judged}
use Rattle.sheet_answers.specs.declared.ends.Judged.TheVariants.{Text, Sheet as SheetOf}
use Rattle.sheet_answers.specs.declared.ends.JudgeEnd.{JudgeEnd}
use Rattle.sheet_answers.specs.declared.ends.JudgeEnd.TheVariants as ends
use Rattle.sheet_answers.specs.Sheets.{IsSheetWith, ShowsSheet}
use Rattle.sheet_answers.specs.Reading.{Fault, Plain, InBlock, State, First, Done, Replays, Stepped, opens_as_sheet, read_lines}

-- The text is good for this: as a sheet of so many blocks of each kind and entries, or as another text.
abbrev pub IsGoodText : Circuit → List ℕ → Judged → Type 0
IsGoodText c text (Text judged) = IsGoodOther c text judged
IsGoodText c text (SheetOf counts entries) = IsSheetWith c text counts entries

-- What it shows.
abbrev pub ShowsText : Circuit → Judged → Type 0
ShowsText c (Text judged) = OtherShows c judged
ShowsText c (SheetOf counts entries) = ShowsSheet c counts

-- what replay says of a stimulus for property n: it stands for a fair lasso, or this is its first fault
abbrev pub IsReplayed : Circuit → ℕ → Stimulus → Option ReplayFault → Type 0
IsReplayed c n s None = (positions : ℕ) × (from : ℕ) × StandsFor c n s positions from
IsReplayed c n s (Some fault) = HasReplayFault c n s fault

-- that is so of each stimulus
abbrev pub AreReplays : Circuit → Replays → Type 0
AreReplays c replays = (n : ℕ) (s : Stimulus) → IsReplayed c n s (replays n s)

-- the fault of a text that ends in a state, where a line behind the last one would have this number
abbrev pub IsFaultAtEnd : State → ℕ → Fault → Type 0
IsFaultAtEnd (Done t entries) number fault = ⊥
IsFaultAtEnd _ number fault = fault ≡ Plain (Shape number)

-- the lines that end within the limit have this fault, or have none, and then a longer text is too long, and another ends with
-- its fault
abbrev pub IsFirstFault : List ℕ → Stepped → Fault → Type 0
IsFirstFault text (Err first) fault = fault ≡ first
IsFirstFault text (Ok s) fault =
    ((most_bytes < length text) × (fault ≡ Plain TooLong)) ⊎ ((length text ≤ most_bytes) × IsFaultAtEnd s (end_of text) fault)

-- The text is no good sheet, and this is its first fault.
abbrev pub IsRefused : Circuit → List ℕ → Fault → Type 0
IsRefused c text fault =
    (replays : Replays) × AreReplays c replays × IsFirstFault text (read_lines c replays First (kept_readable text)) fault

-- the end tells a fault of a sheet, and this is so of it
abbrev pub TellsFault : (Fault → Type 0) → JudgeEnd → Type 0
TellsFault P (ends.Text (text_ends.Answer (answer_ends.Refused fault))) = P (Plain fault)
TellsFault P (ends.Text (text_ends.Answer answer_ends.ReadFault)) = ⊥
TellsFault P (ends.Text (text_ends.Answer answer_ends.Memory)) = ⊥
TellsFault P (ends.Text (text_ends.TooLarge variable)) = ⊥
TellsFault P (ends.Block n fault) = P (InBlock n fault)

-- the check of another text ends so
abbrev pub TextDecides : Circuit → List ℕ → JudgeEnd → Type 0
TextDecides c text (ends.Text end) = OtherDecides c text (Err end)
TextDecides c text (ends.Block n fault) = ⊥

-- The text is refused: as a sheet where its first line begins so, else as another text.
abbrev pub RefusesAs : Bool → Circuit → List ℕ → JudgeEnd → Type 0
RefusesAs true c text end = TellsFault (IsRefused c text) end
RefusesAs false c text end = TextDecides c text end

-- the text decides this end of its check
abbrev pub Decides : Circuit → List ℕ → Result Judged JudgeEnd → Type 0
Decides c text (Ok judged) = IsGoodText c text judged
Decides c text (Err end) = RefusesAs (opens_as_sheet text) c text end

-- as the check of an answer ends
abbrev pub answer_end : AnswerEnd → JudgeEnd
answer_end end = ends.Text (text_ends.Answer end)

-- the ends that say nothing of the text
abbrev pub read_failed : JudgeEnd
read_failed = answer_end answer_ends.ReadFault

abbrev pub refused_memory : JudgeEnd
refused_memory = answer_end answer_ends.Memory

-- a read failed, or memory was refused
abbrev pub IsUnended : JudgeEnd → Type 0
IsUnended end = (end ≡ read_failed) ⊎ (end ≡ refused_memory)

abbrev pub read_fault : Result Judged JudgeEnd
read_fault = Err read_failed

abbrev pub no_memory : Result Judged JudgeEnd
no_memory = Err refused_memory

-- what an end says of the text that the shelf may hold, and that decides it, unless memory is refused; a failed read says
-- nothing of it
abbrev pub SaysOf : {T : Type 0} → (List ℕ → Result T JudgeEnd → Type 0) → Option (List ℕ) → Result T JudgeEnd → Type 0
SaysOf DecidesIt told result =
    GivesSome (Err refused_memory) (λ end. (end ≡ Err read_failed) ⊎ ((text : List ℕ) × MayBe told text × DecidesIt text end)) result

-- what the end of a check says of it
abbrev pub JudgeSays : Circuit → Option (List ℕ) → Result Judged JudgeEnd → Type 0
JudgeSays c told result = SaysOf (Decides c) told result

-- this end comes, unless memory is refused or a read fails
abbrev pub EndsWith : {T : Type 0} → Result T JudgeEnd → Result T JudgeEnd → Type 0
EndsWith result verdict = GivesSome (Err refused_memory) (λ end. (end ≡ verdict) ⊎ (end ≡ Err read_failed)) result

-- the call ended with a failed read
abbrev pub end_unread : JudgeEnd → Bool
end_unread (ends.Text (text_ends.Answer (answer_ends.Refused fault))) = false
end_unread (ends.Text (text_ends.Answer answer_ends.ReadFault)) = true
end_unread (ends.Text (text_ends.Answer answer_ends.Memory)) = false
end_unread (ends.Text (text_ends.TooLarge variable)) = false
end_unread (ends.Block n fault) = false

abbrev pub has_unread : {T : Type 0} → Result T JudgeEnd → Bool
has_unread (Ok judged) = false
has_unread (Err end) = end_unread end
