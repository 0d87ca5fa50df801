-- Scaffolding of inner functions: how the reading of a text ends, line by line.
use Rattle.std.specs.Prelude.{◌≡◌, ◌-◌, ◌⊎◌, ℕ, false, List, Option, Result, Err}
use Rattle.aig_semantics.specs.Circuits.{Circuit}
use Rattle.edge.specs.Told.{IfTold, MayBe}
use Rattle.answer_lines.specs.declared.ends.LinesEnd.{LinesEnd}
use Rattle.answer_lines.specs.declared.ends.LinesEnd.TheVariants as lines
use Rattle.answer_lines.specs.Left.{Reading, left_of, most_bytes, IsTooLong}
use Rattle.unless_memory.specs.Answers.{GivesSome}
use Rattle.certificate.specs.declared.ends.Accepted.{Accepted}
use Rattle.certificate.specs.declared.ends.AnswerFault.TheVariants.{TooLong}
use Rattle.certificate.specs.declared.ends.AnswerEnd.{AnswerEnd}
use Rattle.certificate.specs.declared.ends.AnswerEnd.TheVariants as ends
use Rattle.certificate.specs.Ends.{ReadsAs}

-- the end of an answer whose next line was not given
abbrev pub end_of_lines : LinesEnd → AnswerEnd
end_of_lines lines.ReadFault = ends.ReadFault
end_of_lines lines.TooLong = ends.Refused TooLong
end_of_lines lines.Memory = ends.Memory

-- what such an end says of what was left of the text: the next line is too long, and the text goes on
abbrev pub OfLines : Option (List ℕ) → Reading → AnswerEnd → Type 0
OfLines told r (ends.Refused fault) =
    (fault ≡ TooLong) × (r.last ≡ false) × IfTold told (λ text. IsTooLong (most_bytes - r.taken) (left_of r text))
OfLines told r ends.ReadFault = Unit {0}
OfLines told r ends.Memory = Unit {0}

-- the end of the reading of the text that the shelf may hold; a failed read says nothing of it
abbrev pub SaysOfText : Circuit → Option (List ℕ) → Result Accepted AnswerEnd → Type 0
SaysOfText c told end = (end ≡ Err ends.ReadFault) ⊎ ((text : List ℕ) × MayBe told text × ReadsAs c text end)

-- the same, unless memory is refused
abbrev pub ReadingSays : Circuit → Option (List ℕ) → Result Accepted AnswerEnd → Type 0
ReadingSays c told result = GivesSome (Err ends.Memory) (SaysOfText c told) result
