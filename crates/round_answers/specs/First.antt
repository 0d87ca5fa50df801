-- Scaffolding of inner functions: how the reading of a text ends, from its first line on.
use Rattle.std.specs.Prelude.{◌≡◌, ◌⊎◌, ℕ, ◌-◌, Bool, true, false, List, [], Option, Some, None, Result, Ok, Err}
use Rattle.aig_semantics.specs.Circuits.{Circuit}
use Rattle.edge.specs.Told.{IfTold, MayBe}
use Rattle.answer_lines.specs.Left.{Reading, left_of, most_bytes, IsTooLong}
use Rattle.unless_memory.specs.Answers.{Gives, GivesSome}
use Rattle.certificate.specs.declared.ends.Accepted.{Accepted}
use Rattle.certificate.specs.declared.ends.AnswerFault.TheVariants.{TooLong, UnknownStatus}
use Rattle.certificate.specs.declared.ends.AnswerEnd.{AnswerEnd}
use Rattle.certificate.specs.declared.ends.AnswerEnd.TheVariants as ends
use Rattle.certificate.specs.Lines.{kept_readable, bare}
use Rattle.certificate.specs.Ends.{DecidesEnd, CheckSays, EndsWith as AnswerEndsWith}
use Rattle.round_answers.specs.declared.ends.Judged.{Judged}
use Rattle.round_answers.specs.declared.ends.Judged.TheVariants.{Answer as Answered}
use Rattle.round_answers.specs.declared.ends.JudgeEnd.{JudgeEnd}
use Rattle.round_answers.specs.declared.ends.JudgeEnd.TheVariants.{Answer, TooLarge as LargerThan}
use Rattle.round_answers.specs.Texts.{is_about_rounds}
use Rattle.round_answers.specs.Reading.{State, First, Named, Chosen, Running, Listing, Stop, Fault, TooLarge}
use Rattle.round_answers.specs.Ends.{ReadsAs, no_memory}
use Rattle.round_answers.specs.Telling.{KnowsMonitor}

-- the end of the check of an answer, as one of a text
abbrev pub as_judged : Result Accepted AnswerEnd → Result Judged JudgeEnd
as_judged (Ok accepted) = Ok (Answered accepted)
as_judged (Err end) = Err (Answer end)

abbrev pub unknown_status : Result Accepted AnswerEnd
unknown_status = Err (ends.Refused UnknownStatus)

-- the check of an answer may end with an unknown status, and with nothing else, want of memory and failed reads aside
pub record IsUnknown (c : Circuit) (told : Option (List ℕ)) : Type 0 where
  pub says : CheckSays c told unknown_status
  pub exactly : (text : List ℕ) (verdict : Result Accepted AnswerEnd) → told ≡ Some text → DecidesEnd c text verdict
      → AnswerEndsWith unknown_status verdict

-- the end of the reading of a text as one about rounds, where its status as an answer is unknown
abbrev pub as_told : Result (Option Judged) JudgeEnd → Result Judged JudgeEnd
as_told (Ok (Some judged)) = Ok judged
as_told (Ok None) = Err (Answer (ends.Refused UnknownStatus))
as_told (Err end) = Err end

-- a text is about rounds
abbrev pub is_about : List ℕ → Bool
is_about text = is_about_rounds (bare (kept_readable text))

-- the text that the shelf tells is not
abbrev pub IsOther : Option (List ℕ) → Type 0
IsOther told = IfTold told (λ text. is_about text ≡ false)

-- the reading of the text as one about rounds ends so, and in no other way, want of memory aside
pub record Decided (c : Circuit) (result : Result Judged JudgeEnd) (text : List ℕ) : Type 0 where
  pub found : GivesSome no_memory (ReadsAs c text) result
  pub exactly : (verdict : Result Judged JudgeEnd) → ReadsAs c text verdict → Gives no_memory verdict result

-- that is so of a text that the shelf may hold, which is about rounds
abbrev pub Says : Circuit → Option (List ℕ) → Result Judged JudgeEnd → Type 0
Says c told result = (text : List ℕ) × MayBe told text × (is_about text ≡ true) × Decided c result text

-- what the reading of a text answers: none, where it is not about rounds; a failed read and want of memory say nothing
abbrev pub TellsText : Circuit → Option (List ℕ) → Result (Option Judged) JudgeEnd → Type 0
TellsText c told (Ok None) = IsOther told
TellsText c told (Ok (Some judged)) = Says c told (Ok judged)
TellsText c told (Err (Answer (ends.Refused fault))) = Says c told (Err (Answer (ends.Refused fault)))
TellsText c told (Err (Answer ends.ReadFault)) = Unit {0}
TellsText c told (Err (Answer ends.Memory)) = Unit {0}
TellsText c told (Err (LargerThan variable)) = Says c told (Err (LargerThan variable))

-- what is known of the monitor behind an answer
abbrev pub KnowsOf : Circuit → Option Judged → Type 0
KnowsOf c None = Unit {0}
KnowsOf c (Some judged) = KnowsMonitor c judged

-- the call ended with a failed read
abbrev pub is_unread : {T : Type 0} → Result T JudgeEnd → Bool
is_unread (Ok read) = false
is_unread (Err (Answer (ends.Refused fault))) = false
is_unread (Err (Answer ends.ReadFault)) = true
is_unread (Err (Answer ends.Memory)) = false
is_unread (Err (LargerThan variable)) = false

-- a line of the rounds was read
abbrev pub IsLater : State → Type 0
IsLater First = ⊥
IsLater (Named k) = Unit {0}
IsLater (Chosen k n) = Unit {0}
IsLater (Running k n run) = Unit {0}
IsLater (Listing k n listed) = Unit {0}

-- the line is not the first that is not skipped, or opens a text about rounds
abbrev pub IsAnyway : State → Bool → Bool → Type 0
IsAnyway s skipped opens = IsLater s ⊎ ((skipped ≡ true) ⊎ (opens ≡ true))

-- the text ends; or its next line, where none but skipped ones were read, is too long
abbrev pub IsEnd : State → Option (List ℕ) → Reading → Type 0
IsEnd s told r =
    IfTold told (λ text. left_of r text ≡ [])
    ⊎ ((s ≡ First) × (r.last ≡ false) × IfTold told (λ text. IsTooLong (most_bytes - r.taken) (left_of r text)))

-- what is said of what stops the reading at a line, if it is not want of memory; no read is made there
abbrev pub OfStop : (Stop → Type 0) → JudgeEnd → Type 0
OfStop P (Answer (ends.Refused fault)) = P (Fault fault)
OfStop P (Answer ends.ReadFault) = ⊥
OfStop P (Answer ends.Memory) = Unit {0}
OfStop P (LargerThan variable) = P (TooLarge variable)

-- what is said of a next line that was not given: it is too long behind the first, and the text goes on; or a read failed, or
-- memory was refused
abbrev pub OfLines : State → Option (List ℕ) → Reading → JudgeEnd → Type 0
OfLines s told r (Answer (ends.Refused fault)) =
    (fault ≡ TooLong) × IsLater s × (r.last ≡ false) × IfTold told (λ text. IsTooLong (most_bytes - r.taken) (left_of r text))
OfLines s told r (Answer ends.ReadFault) = Unit {0}
OfLines s told r (Answer ends.Memory) = Unit {0}
OfLines s told r (LargerThan variable) = ⊥
