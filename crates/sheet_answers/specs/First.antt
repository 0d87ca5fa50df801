-- Scaffolding of inner functions: how the reading of a text ends, from its first line on.
use Rattle.std.specs.Prelude.{◌≡◌, ◌≤◌, ◌⊎◌, ℕ, ◌-◌, Bool, true, false, List, [], ◌∷◌, length, Option, Some, None, Result, Ok, Err, codes}
use Rattle.std.specs.Str.{bytes_eq}
use Rattle.aig_semantics.specs.Circuits.{Circuit}
use Rattle.edge.specs.Told.{IfTold, MayBe}
use Rattle.answer_lines.specs.Left.{Reading, left_of, most_bytes, IsTooLong}
use Rattle.unless_memory.specs.Answers.{Gives, GivesSome}
use Rattle.certificate.specs.declared.ends.AnswerFault.TheVariants.{TooLong, UnknownStatus}
use Rattle.certificate.specs.declared.ends.AnswerEnd.TheVariants as answer_ends
use Rattle.certificate.specs.Lines.{kept_readable}
use Rattle.round_answers.specs.declared.ends.Judged.{Judged as TextJudged}
use Rattle.round_answers.specs.declared.ends.JudgeEnd.{JudgeEnd as TextEnd}
use Rattle.round_answers.specs.declared.ends.JudgeEnd.TheVariants as text_ends
use Rattle.round_answers.specs.Ends.{Decides as OtherDecides, JudgeSays as OtherSays, EndsWith as OtherEndsWith}
use Rattle.sheet_answers.specs.declared.ends.Judged.{Judged}
use Rattle.sheet_answers.specs.declared.ends.Judged.TheVariants.{Text, Sheet}
use Rattle.sheet_answers.specs.declared.found.Accepted.{Accepted}
use Rattle.sheet_answers.specs.declared.found.Found.{Found}
use Rattle.sheet_answers.specs.declared.found.Found.TheVariants as finds
use Rattle.sheet_answers.specs.declared.ends.JudgeEnd.{JudgeEnd}
use Rattle.sheet_answers.specs.declared.ends.JudgeEnd.TheVariants as ends
use Rattle.sheet_answers.specs.Reading.{State, First, Versioned, Listing, Between, Refuting, Proving, Showing, Done, Fault, Replays, opens_as_sheet, read_lines}
use Rattle.sheet_answers.specs.Ends.{AreReplays, IsFirstFault, TellsFault, refused_memory}
use Rattle.sheet_answers.specs.Seen.{IsGoodAtEnd, OfEnd}

-- the end of the check of another text, as one of a text
abbrev pub as_text : Result TextJudged TextEnd → Result Judged JudgeEnd
as_text (Ok judged) = Ok (Text judged)
as_text (Err end) = Err (ends.Text end)

abbrev pub unknown : Result TextJudged TextEnd
unknown = Err (text_ends.Answer (answer_ends.Refused UnknownStatus))

-- the check of the text that the shelf may hold, as of another text, may end with an unknown status, and with nothing else, want
-- of memory and failed reads aside
pub record IsUnknown (c : Circuit) (told : Option (List ℕ)) : Type 0 where
  pub says : OtherSays c told unknown
  pub exactly : (text : List ℕ) (verdict : Result TextJudged TextEnd) → told ≡ Some text → OtherDecides c text verdict → OtherEndsWith unknown verdict

-- the text that the shelf tells is no sheet
abbrev pub IsOther : Option (List ℕ) → Type 0
IsOther told = IfTold told (λ text. opens_as_sheet text ≡ false)

-- what is accepted, as the check of a text says it
abbrev pub judged : Accepted → Judged
judged a = Sheet a.counts a.entries

-- the end of the reading of a text as a sheet, where its status as another text is unknown
abbrev pub as_told : Result Found JudgeEnd → Result Judged JudgeEnd
as_told (Ok (finds.Sheet a)) = Ok (judged a)
as_told (Ok finds.Other) = as_text unknown
as_told (Err end) = Err end

-- the reading of the text as a sheet ends so
abbrev pub ReadsAs : Circuit → Replays → List ℕ → Result Accepted JudgeEnd → Type 0
ReadsAs c replays text (Ok a) =
    (length text ≤ most_bytes) × (s : State) × (read_lines c replays First (kept_readable text) ≡ Ok s) × IsGoodAtEnd s a
ReadsAs c replays text (Err end) = TellsFault (IsFirstFault text (read_lines c replays First (kept_readable text))) end

-- it ends so, and in no other way, want of memory aside
pub record Decided (c : Circuit) (result : Result Accepted JudgeEnd) (text : List ℕ) : Type 0 where
  pub found : (replays : Replays) → AreReplays c replays → GivesSome (Err refused_memory) (ReadsAs c replays text) result
  pub exactly : (replays : Replays) (verdict : Result Accepted JudgeEnd) → AreReplays c replays → ReadsAs c replays text verdict
      → Gives (Err refused_memory) verdict result

-- that is so of a text that the shelf may hold, which is a sheet by its first line
abbrev pub Says : Circuit → Option (List ℕ) → Result Accepted JudgeEnd → Type 0
Says c told result = (text : List ℕ) × MayBe told text × (opens_as_sheet text ≡ true) × Decided c result text

-- what the reading of a text answers: none, where it is no sheet; a failed read and want of memory say nothing
abbrev pub TellsEndOf : Circuit → Option (List ℕ) → JudgeEnd → Type 0
TellsEndOf c told (ends.Text (text_ends.Answer (answer_ends.Refused fault))) =
    Says c told (Err (ends.Text (text_ends.Answer (answer_ends.Refused fault))))
TellsEndOf c told (ends.Text (text_ends.Answer answer_ends.ReadFault)) = Unit {0}
TellsEndOf c told (ends.Text (text_ends.Answer answer_ends.Memory)) = Unit {0}
TellsEndOf c told (ends.Text (text_ends.TooLarge variable)) = ⊥
TellsEndOf c told (ends.Block n fault) = Says c told (Err (ends.Block n fault))

abbrev pub TellsText : Circuit → Option (List ℕ) → Result Found JudgeEnd → Type 0
TellsText c told (Ok finds.Other) = IsOther told
TellsText c told (Ok (finds.Sheet a)) = Says c told (Ok a)
TellsText c told (Err end) = TellsEndOf c told end

-- a line of the sheet was read
abbrev pub IsLater : State → Type 0
IsLater First = ⊥
IsLater Versioned = Unit {0}
IsLater (Listing s) = Unit {0}
IsLater (Between t entries) = Unit {0}
IsLater (Refuting t entries) = Unit {0}
IsLater (Proving t s) = Unit {0}
IsLater (Showing t entries s) = Unit {0}
IsLater (Done t entries) = Unit {0}

-- the line is not the first that is not skipped, or opens a sheet
abbrev pub IsAnyway : State → Bool → Bool → Type 0
IsAnyway s skipped opens = IsLater s ⊎ ((skipped ≡ true) ⊎ (opens ≡ true))

-- the text ends; or its next line, where none but skipped ones were read, is too long
abbrev pub IsEnd : State → Option (List ℕ) → Reading → Type 0
IsEnd s told r =
    IfTold told (λ text. left_of r text ≡ [])
    ⊎ ((s ≡ First) × (r.last ≡ false) × IfTold told (λ text. IsTooLong (most_bytes - r.taken) (left_of r text)))

-- what is said of a next line that was not given: it is too long behind the first, and the text goes on; or a read failed, or
-- memory was refused
abbrev pub OfLines : State → Option (List ℕ) → Reading → JudgeEnd → Type 0
OfLines s told r (ends.Text (text_ends.Answer (answer_ends.Refused fault))) =
    (fault ≡ TooLong) × IsLater s × (r.last ≡ false) × IfTold told (λ text. IsTooLong (most_bytes - r.taken) (left_of r text))
OfLines s told r (ends.Text (text_ends.Answer answer_ends.ReadFault)) = Unit {0}
OfLines s told r (ends.Text (text_ends.Answer answer_ends.Memory)) = Unit {0}
OfLines s told r (ends.Text (text_ends.TooLarge variable)) = ⊥
OfLines s told r (ends.Block n fault) = ⊥
