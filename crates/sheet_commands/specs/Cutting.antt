-- Scaffolding of inner functions: a block of a sheet as an answer of its own, cut out of the sheet's lines, and judged.
use Rattle.std.specs.Prelude.{◌≡◌, ◌⊎◌, ℕ, List, [], ◌∷◌, length, codes, Option, None, Some, Result, Ok, Err, if◌then◌else◌, nat_le}
use Rattle.std.specs.Str.{bytes_eq}
use Rattle.aig_semantics.specs.declared.traces.Lasso.{Lasso as LassoOf}
use Rattle.aig_semantics.specs.Circuits.{Circuit}
use Rattle.text_grammar.specs.Lines.{ended_lines}
use Rattle.certificate.specs.declared.ends.Accepted.{Accepted}
use Rattle.certificate.specs.declared.ends.Accepted.TheVariants.{Lasso, Holds}
use Rattle.certificate.specs.declared.ends.AnswerEnd.{AnswerEnd}
use Rattle.certificate.specs.declared.ends.AnswerFault.{AnswerFault}
use Rattle.certificate.specs.declared.ends.AnswerFault.TheVariants.{NoProperty, UnknownStatus}
use Rattle.certificate_texts.specs.Writing.{property_line}
use Rattle.certificate.specs.Answers.{IsGood}
use Rattle.certificate.specs.Ends.{IsRefused}
use Rattle.certificate.specs.Lassos.{HasGoodLasso}
use Rattle.sheet_answers.specs.declared.ends.JudgeEnd.{JudgeEnd}
use Rattle.sheet_answers.specs.Sheets.{lasso_line}
use Rattle.sheet_answers.specs.Ends.{answer_end}
use Rattle.sheet_commands.specs.declared.blocks.BlockLasso.{BlockLasso}
use Rattle.sheet_commands.specs.Blocks.{refused}

-- the lines behind the first that is this one
abbrev pub lines_after : List ℕ → List (List ℕ) → Option (List (List ℕ))
lines_after line [] = None
lines_after line (first ∷ lines) = if bytes_eq first line then Some lines else lines_after line lines

-- the lines up to the first that is a dot, and that
abbrev pub to_dot : List (List ℕ) → List (List ℕ)
to_dot [] = []
to_dot (line ∷ lines) = line ∷ (if bytes_eq line (codes ".") then [] else to_dot lines)

-- the answer with the stimulus of these lines, up to the dot
abbrev pub answer_of : ℕ → List (List ℕ) → List ℕ
answer_of n rows = ended_lines (codes "1" ∷ property_line n ∷ to_dot rows)

abbrev pub answer_behind : ℕ → Option (List (List ℕ)) → Option (List ℕ)
answer_behind n None = None
answer_behind n (Some rows) = Some (answer_of n rows)

-- The answer that the block of property n stands for, of a sheet with these lines: the lines behind the one that opens a block
-- with a stimulus of it. There is none where its block has a refutation, or nothing.
abbrev pub answer_in : ℕ → List (List ℕ) → Option (List ℕ)
answer_in n lines = answer_behind n (lines_after (lasso_line n) lines)

-- why there is no lasso of a property: it is not there, or its block has none
abbrev pub no_lasso : Circuit → ℕ → JudgeEnd
no_lasso c n = if nat_le (length c.justice) n then refused (NoProperty n) else refused UnknownStatus

-- an answer is good for this lasso, or is refused so; a certificate has none
abbrev pub DecidesLasso : Circuit → List ℕ → Result BlockLasso JudgeEnd → Type 0
DecidesLasso c answer (Ok found) = HasGoodLasso c answer found.property found.lasso
DecidesLasso c answer (Err end) =
    ((fault : AnswerFault) × IsRefused c answer fault × (end ≡ refused fault))
    ⊎ ((n : ℕ) × (entries : ℕ) × IsGood c answer (Holds n entries) × (end ≡ refused UnknownStatus))

-- the block of property n stands for this answer, which decides, or for none
abbrev pub DecidesCut : Circuit → ℕ → Option (List ℕ) → Result BlockLasso JudgeEnd → Type 0
DecidesCut c n None result = result ≡ Err (no_lasso c n)
DecidesCut c n (Some answer) result = DecidesLasso c answer result

-- where a stimulus is accepted its lasso was kept
abbrev pub HasItsLasso : Result Accepted AnswerEnd → Option LassoOf → Type 0
HasItsLasso (Ok (Lasso n positions from)) kept = (lasso : LassoOf) × (kept ≡ Some lasso)
HasItsLasso (Ok (Holds n entries)) kept = Unit {0}
HasItsLasso (Err end) kept = Unit {0}

abbrev pub lasso_in : ℕ → Option LassoOf → Result BlockLasso JudgeEnd
lasso_in n None = Err (refused UnknownStatus)
lasso_in n (Some lasso) = Ok (record { property = n; lasso = lasso })

abbrev pub lasso_by : Result Accepted AnswerEnd → Option LassoOf → Result BlockLasso JudgeEnd
lasso_by (Ok (Lasso n positions from)) kept = lasso_in n kept
lasso_by (Ok (Holds n entries)) kept = Err (refused UnknownStatus)
lasso_by (Err end) kept = Err (answer_end end)
