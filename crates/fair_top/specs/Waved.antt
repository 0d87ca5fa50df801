-- Scaffolding of inner functions: what `wave` comes to for a model and the end of the check of its answer.
use Rattle.std.specs.Prelude.{◌≡◌, ◌<◌, ℕ, List, length, Option, Some, Result, Ok, Err}
use Rattle.aig_semantics.specs.declared.traces.Lasso.{Lasso as LassoOf}
use Rattle.aig_semantics.specs.declared.traces.Stimulus.{Stimulus}
use Rattle.aig_semantics.specs.Stimuli.{StandsFor}
use Rattle.aiger_grammar.specs.Models.{Model}
use Rattle.certificate.specs.declared.ends.Accepted.{Accepted}
use Rattle.certificate.specs.declared.ends.Accepted.TheVariants.{Lasso, Holds}
use Rattle.certificate.specs.declared.ends.AnswerEnd.{AnswerEnd}
use Rattle.certificate.specs.declared.ends.AnswerEnd.TheVariants as ends
use Rattle.certificate.specs.declared.ends.AnswerFault.TheVariants.{UnknownStatus}
use Rattle.certificate.specs.Lassos.{lasso_of}
use Rattle.waves.specs.Dumps.{waves_text}
use Rattle.plain_commands.specs.declared.status.Status.{Status}
use Rattle.plain_commands.specs.declared.status.Status.TheVariants as statuses
use Rattle.plain_commands.specs.declared.status.Done.TheVariants.{Printed}
use Rattle.plain_commands.specs.declared.texts.Ending.{Ending}
use Rattle.plain_commands.specs.Texts.{text_of}
use Rattle.plain_commands.specs.ModelGiven.{OfSomeText}
use Rattle.plain_commands.specs.Answering.{IsSilent}
use Rattle.fair_top.specs.Wave.{EndsBlockWaved}
use Rattle.plain_commands.specs.Written.{IsWritten}

-- it is one that a stimulus for property n stands for
abbrev pub IsGoodLasso : Model → ℕ → LassoOf → Type 0
IsGoodLasso m n lasso =
    (n < length m.circuit.justice) × (stimulus : Stimulus) × StandsFor m.circuit n stimulus (length lasso.inputs) lasso.from
    × (lasso ≡ lasso_of stimulus (length lasso.inputs) lasso.from)

-- where a stimulus is accepted its lasso was kept
abbrev pub CarriesLasso : Model → Result Accepted AnswerEnd → Option LassoOf → Type 0
CarriesLasso m (Ok (Lasso n positions from)) kept = (lasso : LassoOf) × (kept ≡ Some lasso) × IsGoodLasso m n lasso
CarriesLasso m (Ok (Holds n entries)) kept = Unit {0}
CarriesLasso m (Err end) kept = Unit {0}

abbrev pub IsWaved : Model → Result Accepted AnswerEnd → Option LassoOf → Result Ending Status → Type 0
IsWaved m (Ok (Lasso n positions from)) kept result =
    (lasso : LassoOf) → kept ≡ Some lasso → IsWritten result (statuses.Done Printed) (waves_text m n lasso)
IsWaved m (Ok (Holds n entries)) kept result = IsWritten result (statuses.Refused UnknownStatus) (text_of (statuses.Refused UnknownStatus))
IsWaved m (Err (ends.Refused fault)) kept result = IsWritten result (statuses.Refused fault) (text_of (statuses.Refused fault))
IsWaved m (Err ends.ReadFault) kept result = result ≡ Err statuses.ReadFault
IsWaved m (Err ends.Memory) kept result = result ≡ Err statuses.Memory

-- the end of the check of an answer whose status is unknown
abbrev pub unknown : Result Accepted AnswerEnd
unknown = Err (ends.Refused UnknownStatus)

-- the waves of a block's lasso, of a text that the shelf may hold, or why there are none; or the run is silent
abbrev pub BlockWaved : Model → Option (List ℕ) → ℕ → Result Ending Status → Type 0
BlockWaved m told n (Ok ending) = OfSomeText told (λ claimed. EndsBlockWaved m claimed n ending.status ending.text.items)
BlockWaved m told n (Err status) = IsSilent status
