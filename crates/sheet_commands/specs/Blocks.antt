-- The lasso of a block of a sheet: how its reading ends. The format of sheets is this program's own.
use Rattle.std.specs.Prelude.{◌≡◌, ◌⊎◌, ℕ, Bool, true, false, List, length, slice_get, Option, None, Some, Result, Ok, Err}
use Rattle.aig_semantics.specs.declared.traces.Stimulus.{Stimulus}
use Rattle.aig_semantics.specs.Circuits.{Circuit}
use Rattle.aig_semantics.specs.Stimuli.{StandsFor}
use Rattle.edge.specs.Told.{MayBe}
use Rattle.unless_memory.specs.Answers.{GivesSome}
use Rattle.certificate.specs.declared.ends.AnswerEnd.TheVariants as answer_ends
use Rattle.certificate.specs.declared.ends.AnswerFault.{AnswerFault}
use Rattle.certificate.specs.declared.ends.AnswerFault.TheVariants.{NoProperty, UnknownStatus}
use Rattle.certificate.specs.Lassos.{lasso_of}
use Rattle.sheet_answers.specs.declared.blocks.Block.{Block}
use Rattle.sheet_answers.specs.declared.blocks.Block.TheVariants.{Lasso, Holds, Open}
use Rattle.sheet_answers.specs.declared.ends.JudgeEnd.{JudgeEnd}
use Rattle.sheet_answers.specs.Sheets.{Sheet, IsTextOf}
use Rattle.sheet_answers.specs.Reading.{opens_as_sheet}
use Rattle.sheet_answers.specs.Ends.{answer_end, read_failed, refused_memory, Decides, SaysOf, EndsWith}
use Rattle.sheet_commands.specs.declared.blocks.BlockLasso.{BlockLasso}

-- the text has this fault
abbrev pub refused : AnswerFault → JudgeEnd
refused fault = answer_end (answer_ends.Refused fault)

-- what is found is the lasso of property n that the stimulus stands for
abbrev pub IsLassoOf : Circuit → ℕ → Stimulus → BlockLasso → Type 0
IsLassoOf c n s found =
    (found.property ≡ n) × StandsFor c n s (length found.lasso.inputs) found.lasso.from
    × (found.lasso ≡ lasso_of s (length found.lasso.inputs) found.lasso.from)

-- The block of property n decides: where it has a stimulus its lasso is found, where it has a refutation or nothing the status
-- is unknown, and where there is no such block there is no such property.
abbrev pub DecidesIn : Circuit → ℕ → Option Block → Result BlockLasso JudgeEnd → Type 0
DecidesIn c n (Some (Lasso s)) (Ok found) = IsLassoOf c n s found
DecidesIn c n (Some (Lasso s)) (Err end) = ⊥
DecidesIn c n (Some (Holds r)) result = result ≡ Err (refused UnknownStatus)
DecidesIn c n (Some Open) result = result ≡ Err (refused UnknownStatus)
DecidesIn c n None result = result ≡ Err (refused (NoProperty n))

-- a text that may be a sheet: it is that of a good one, whose block of the property decides; or it is refused as its check
-- refuses it
abbrev pub DecidesSheet : Circuit → List ℕ → ℕ → Result BlockLasso JudgeEnd → Type 0
DecidesSheet c text n result =
    ((sheet : Sheet) × IsTextOf c sheet text × DecidesIn c n (slice_get sheet.blocks n) result)
    ⊎ ((end : JudgeEnd) × Decides c text (Err end) × (result ≡ Err end))

-- where the first line opens no sheet the status is unknown
abbrev pub DecidesBlockAs : Bool → Circuit → List ℕ → ℕ → Result BlockLasso JudgeEnd → Type 0
DecidesBlockAs true c text n result = DecidesSheet c text n result
DecidesBlockAs false c text n result = result ≡ Err (refused UnknownStatus)

-- The text decides this end of the reading of the lasso of its block of property n.
abbrev pub DecidesBlock : Circuit → List ℕ → ℕ → Result BlockLasso JudgeEnd → Type 0
DecidesBlock c text n result = DecidesBlockAs (opens_as_sheet text) c text n result

-- the ends that say nothing of the text
abbrev pub read_fault : Result BlockLasso JudgeEnd
read_fault = Err read_failed

abbrev pub no_memory : Result BlockLasso JudgeEnd
no_memory = Err refused_memory

-- what is answered is so, of the text that the shelf may hold
abbrev pub BlockSays : Circuit → Option (List ℕ) → ℕ → Result BlockLasso JudgeEnd → Type 0
BlockSays c told n result = SaysOf (λ text end. DecidesBlock c text n end) told result

-- this end comes, unless memory is refused or a read fails
abbrev pub EndsBlock : Result BlockLasso JudgeEnd → Result BlockLasso JudgeEnd → Type 0
EndsBlock result verdict = EndsWith result verdict
