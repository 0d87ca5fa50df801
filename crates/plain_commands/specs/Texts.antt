-- What each status writes, and the number with which the program ends.
use Rattle.std.specs.Prelude.{ℕ, false, true, Bool, ◌+◌, ◌-◌, List, [], ◌∷◌, ◌++◌, length, take, drop, Option, None, Some, decimal, codes}
use Rattle.edge.specs.Units.{Spendings}
use Rattle.wall_store.specs.declared.outcomes.Served.{Served}
use Rattle.search_reports.specs.declared.limits.Report.{Report}
use Rattle.circuit.specs.declared.faults.ModelFault.{ModelFault}
use Rattle.circuit.specs.declared.faults.ModelFault.TheVariants.{Header, Number, Range, Undefined, Twice, Cycle, Truncated, Limit, Trailing, Symbol}
use Rattle.stimulus.specs.declared.ends.ReplayFault.{ReplayFault}
use Rattle.stimulus.specs.declared.ends.ReplayFault.TheVariants.{Shape, Width, NotInitial, Constraint, NoFairLoop, NoProperty}
use Rattle.proof_semantics.specs.declared.faults.LratFault.{LratFault}
use Rattle.proof_semantics.specs.declared.faults.LratFault.TheVariants as proofs
use Rattle.entry.specs.declared.faults.EntryFault.{EntryFault}
use Rattle.entry.specs.declared.faults.EntryFault.TheVariants as entries
use Rattle.command_lines.specs.declared.commands.TheConstants.{USAGE}
use Rattle.plain_commands.specs.declared.status.Status.{Status}
use Rattle.plain_commands.specs.declared.status.Status.TheVariants as statuses
use Rattle.plain_commands.specs.declared.status.Done.{Done}
use Rattle.plain_commands.specs.declared.status.Done.TheVariants.{Lasso, Holds, Rounds, All, NoneWithin, Printed, Demo}
use Rattle.certificate.specs.declared.ends.AnswerFault.{AnswerFault}
use Rattle.certificate.specs.declared.ends.AnswerFault.TheVariants as answers
use Rattle.sheet_answers.specs.declared.ends.BlockFault.{BlockFault}
use Rattle.sheet_answers.specs.declared.ends.BlockFault.TheVariants as blocks

abbrev pub exit_number : Status → ℕ
exit_number (statuses.Done done) = 0
exit_number (statuses.Refused fault) = 1
exit_number (statuses.RefusedBlock n fault) = 1
exit_number (statuses.Unknown report) = 2
exit_number (statuses.OpenRounds property spent) = 2
exit_number (statuses.OpenDepth done spent) = 2
exit_number (statuses.BadModel fault) = 3
exit_number statuses.ReadFault = 4
exit_number statuses.WriteFault = 5
exit_number statuses.Memory = 6
exit_number (statuses.NoProperty n) = 8
exit_number (statuses.TooLarge n) = 9
exit_number (statuses.NoItem entry clause) = 10
exit_number statuses.Usage = 64

-- one line, of words, a number and a line feed
abbrev pub line_with : List ℕ → ℕ → List ℕ
line_with words n = words ++ decimal n ++ codes "\n"

abbrev pub bad_model_text : ModelFault → List ℕ
bad_model_text (Header place) = line_with (codes "model refused header ") place
bad_model_text (Number place) = line_with (codes "model refused number ") place
bad_model_text (Range place) = line_with (codes "model refused range ") place
bad_model_text (Undefined variable) = line_with (codes "model refused undefined ") variable
bad_model_text (Twice variable) = line_with (codes "model refused twice ") variable
bad_model_text (Cycle variable) = line_with (codes "model refused cycle ") variable
bad_model_text (Truncated place) = line_with (codes "model refused truncated ") place
bad_model_text (Limit place) = line_with (codes "model refused limit ") place
bad_model_text (Trailing place) = line_with (codes "model refused trailing ") place
bad_model_text (Symbol place) = line_with (codes "model refused symbol ") place

-- one line, of words and what is wrong with a stimulus; never Shape or NoProperty, since the lines of an answer are judged before
abbrev pub replay_text : List ℕ → ReplayFault → List ℕ
replay_text words (Width item) = line_with (words ++ codes "width item ") item
replay_text words (NotInitial latch) = line_with (words ++ codes "initial latch ") latch
replay_text words (Constraint position) = line_with (words ++ codes "constraint position ") position
replay_text words NoFairLoop = words ++ codes "no fair loop\n"
replay_text words (Shape line) = line_with (words ++ codes "shape line ") line
replay_text words NoProperty = words ++ codes "property\n"

-- one line, of words and what is wrong with a line of a proof
abbrev pub proof_fault_text : List ℕ → LratFault → List ℕ
proof_fault_text words proofs.BadLine = words ++ codes "bad line\n"
proof_fault_text words proofs.IdOrder = words ++ codes "id order\n"
proof_fault_text words (proofs.NoClause id) = line_with (words ++ codes "no clause ") id
proof_fault_text words (proofs.NotUnit id) = line_with (words ++ codes "not unit ") id
proof_fault_text words proofs.NoConflict = words ++ codes "no conflict\n"
proof_fault_text words proofs.RatRefused = words ++ codes "rat\n"
proof_fault_text words proofs.Unfinished = words ++ codes "unfinished\n"

-- one line, of words that name an entry and what is wrong with it
abbrev pub entry_fault_text : List ℕ → EntryFault → List ℕ
entry_fault_text words (entries.BadUse n) = line_with (words ++ codes " use ") n
entry_fault_text words (entries.NotLatch literal) = line_with (words ++ codes " literal ") literal
entry_fault_text words (entries.Base clause) = line_with (words ++ codes " base ") clause
entry_fault_text words (entries.Proof clause line fault) =
    proof_fault_text (words ++ codes " clause " ++ decimal clause ++ codes " proof line " ++ decimal line ++ codes " ") fault

abbrev pub refusal_text : AnswerFault → List ℕ
refusal_text (answers.Shape line) = line_with (codes "refused shape line ") line
refusal_text (answers.NoProperty n) = line_with (codes "refused property ") n
refusal_text (answers.Replay fault) = replay_text (codes "refused ") fault
refusal_text (answers.Entry entry fault) = entry_fault_text (codes "refused entry " ++ decimal entry) fault
refusal_text (answers.RefuteUse n) = line_with (codes "refused refutation use ") n
refusal_text (answers.Refutation line fault) = proof_fault_text (codes "refused refutation line " ++ decimal line ++ codes " ") fault
refusal_text answers.TooLong = codes "refused too long\n"
refusal_text (answers.Trailing line) = line_with (codes "refused trailing line ") line
refusal_text answers.UnknownStatus = codes "refused unknown status\n"
refusal_text (answers.FewRounds n) = line_with (codes "refused rounds ") n

-- one line, of words that name the block of a sheet and what is wrong with it
abbrev pub block_fault_text : List ℕ → BlockFault → List ℕ
block_fault_text words (blocks.Replay fault) = replay_text words fault
block_fault_text words (blocks.RefuteUse n) = line_with (words ++ codes "use ") n
block_fault_text words (blocks.Refutation line fault) = proof_fault_text (words ++ codes "line " ++ decimal line ++ codes " ") fault

-- how a line about rounds ends
abbrev pub ending_word : Bool → List ℕ
ending_word true = codes " reached\n"
ending_word false = codes " fewer\n"

-- what `check` writes of an accepted answer, of a text about rounds, or of a sheet; and what `shortest` writes where there is no lasso
abbrev pub done_text : Done → List ℕ
done_text (Lasso property positions from) =
    codes "accepted lasso j" ++ decimal property ++ codes " positions " ++ decimal positions ++ codes " loop " ++ decimal from ++ codes "\n"
done_text (Holds property entries) =
    codes "accepted certificate j" ++ decimal property ++ codes " entries " ++ decimal entries ++ codes "\n"
done_text (Rounds property k reached) =
    codes "accepted rounds " ++ decimal k ++ codes " j" ++ decimal property ++ ending_word reached
done_text (All lassos holds unknown entries) =
    codes "accepted sheet lassos " ++ decimal lassos ++ codes " holds " ++ decimal holds ++ codes " unknown " ++ decimal unknown
    ++ codes " entries " ++ decimal entries ++ codes "\n"
done_text (NoneWithin property depth) = line_with (codes "no lasso within " ++ decimal depth ++ codes " j") property
done_text Printed = []
done_text (Demo board) = []

-- the limit of a count, as a number: one that says that there is none where there is none
abbrev pub limit_number : Option ℕ → ℕ
limit_number None = 4294967295
limit_number (Some n) = n

-- what the worker with this number has spent
abbrev pub worker_text : ℕ → Spendings → List ℕ
worker_text w spent =
    codes "c worker " ++ decimal w ++ codes " conflicts " ++ decimal spent.conflicts ++ codes " of "
    ++ decimal (limit_number spent.conflict_limit) ++ codes " steps " ++ decimal spent.steps ++ codes " of "
    ++ decimal (limit_number spent.step_limit) ++ codes "\n"

-- the workers from this number on
abbrev pub workers_text : ℕ → List Spendings → List ℕ
workers_text w [] = []
workers_text w (spent ∷ more) = worker_text w spent ++ workers_text (w + 1) more

-- what the lasso worker with this number has spent, and how many positions it has done of those that it asks for
abbrev pub lasso_text : ℕ → ℕ → Spendings → ℕ → List ℕ
lasso_text depth w spent done =
    codes "c worker " ++ decimal w ++ codes " conflicts " ++ decimal spent.conflicts ++ codes " of "
    ++ decimal (limit_number spent.conflict_limit) ++ codes " depth " ++ decimal done ++ codes " of " ++ decimal depth ++ codes "\n"

-- the lasso workers from this number on
abbrev pub lassos_text : ℕ → ℕ → List Spendings → List ℕ → List ℕ
lassos_text depth w [] depths = []
lassos_text depth w (spent ∷ more) [] = []
lassos_text depth w (spent ∷ more) (done ∷ depths) = lasso_text depth w spent done ++ lassos_text depth (w + 1) more depths

-- how many workers of a report are no lasso workers, which are the last ones
abbrev pub round_workers_in : Report → ℕ
round_workers_in report = length report.workers - length report.depths

-- the first property that a board serves
abbrev pub first_property : List Served → ℕ
first_property [] = 0
first_property (s ∷ served) = s.property

-- an answer of status 2: the property, how many entries the list has of those that it may have, and what each worker has
-- spent
abbrev pub unknown_text : Report → List ℕ
unknown_text report =
    codes "2\nj" ++ decimal (first_property report.board.served) ++ codes "\nc entries " ++ decimal (length report.board.entries)
    ++ codes " of " ++ decimal report.board.limit ++ codes "\n" ++ workers_text 0 (take (round_workers_in report) report.workers)
    ++ lassos_text report.depth (round_workers_in report) (drop (round_workers_in report) report.workers) report.depths ++ codes ".\n"

-- the same of a search for rounds of a property, by one worker whose list has no entries
abbrev pub open_text : ℕ → Spendings → List ℕ
open_text property spent =
    codes "2\nj" ++ decimal property ++ codes "\nc entries 0 of 65536\n" ++ worker_text 0 spent ++ codes ".\n"

-- the same of a search for a shortest lasso of a property, by one worker: up to how many positions there is none, of those that
-- were asked for
abbrev pub depth_text : ℕ → ℕ → ℕ → Spendings → List ℕ
depth_text property most depth spent =
    codes "2\nj" ++ decimal property ++ codes "\nc entries 0 of 0\n" ++ lasso_text depth 0 spent most ++ codes ".\n"

-- The text that a status tells, where the command has none of its own: `solve` writes the answer for a verdict, and where all
-- properties are asked for the sheet, `gen` the model, `demo` its summary, and `shortest` where its search is cut short. The usage
-- text is the code's constant here, and `Ends` has it word for word.
abbrev pub text_of : Status → List ℕ
text_of (statuses.Done done) = done_text done
text_of (statuses.Refused fault) = refusal_text fault
text_of (statuses.RefusedBlock n fault) = block_fault_text (codes "refused block " ++ decimal n ++ codes " ") fault
text_of (statuses.Unknown report) = unknown_text report
text_of (statuses.OpenRounds property spent) = open_text property spent
text_of (statuses.OpenDepth done spent) = []
text_of (statuses.BadModel fault) = bad_model_text fault
text_of statuses.ReadFault = []
text_of statuses.WriteFault = []
text_of statuses.Memory = []
text_of (statuses.NoProperty n) = line_with (codes "no property ") n
text_of (statuses.TooLarge n) = line_with (codes "too large ") n
text_of (statuses.NoItem entry clause) = line_with (codes "no item " ++ decimal entry ++ codes " ") clause
text_of statuses.Usage = USAGE.now
