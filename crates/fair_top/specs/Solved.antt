-- Scaffolding of inner functions: what `solve` comes to for a circuit.
use Rattle.std.specs.Prelude.{◌≡◌, ◌⊎◌, ◌≤◌, ℕ, Bool, true, false, All, List, Option, Result, IfOk, IfErr, length}
use Rattle.unless_memory.specs.Answers.{GivesSome}
use Rattle.aig_semantics.specs.Circuits.{Circuit}
use Rattle.certificate.specs.declared.ends.Accepted.{Accepted}
use Rattle.certificate.specs.Answers.{IsGood, Shows}
use Rattle.entry.specs.declared.origins.Origin.TheVariants.{Given}
use Rattle.entry.specs.CheckedEntries.{CheckedEntry}
use Rattle.wall_store.specs.Boards.{BoardState, most_entries, IsSoundList}
use Rattle.given_entries.specs.Beginning.{told_of}
use Rattle.search_reports.specs.declared.limits.Report.{Report}
use Rattle.fair_workers.specs.Runs.{AreLimits, AreServed, ServesOne, IsAnswer, IsAnswered, IsEnded, IsReport}
use Rattle.search_reports.specs.declared.limits.Ended.{Ended}
use Rattle.command_lines.specs.declared.commands.solving.SolveRequest.{SolveRequest}
use Rattle.plain_commands.specs.declared.status.Status.{Status}
use Rattle.plain_commands.specs.declared.status.Status.TheVariants as statuses
use Rattle.sheet_answers.specs.declared.ends.Judged.TheVariants as judged
use Rattle.sheet_answers.specs.declared.counts.Counts.{Counts}
use Rattle.sheet_answers.specs.Sheets.{IsSheetWith, ShowsSheet}
use Rattle.sheet_commands.specs.Boards.{IsSheetOf}
use Rattle.plain_commands.specs.Check.{done_of, done_by}
use Rattle.command_lines.specs.Commands.{Request, Solve}
use Rattle.fair_top.specs.Solve.{limits_of, task_for, task_of, most_of, property_of, IsWithinList, BeginsWithGiven, IsSheetOfReport, HasAsked, IsSolved}
use Rattle.plain_commands.specs.Spelled.{IsWrittenAs}
use Rattle.plain_commands.specs.Answering.{IsCutShort}
use Rattle.plain_commands.specs.Texts.{text_of}

-- the text is a good answer for the property of the circuit, as `solve` spells it, with at most so many entries, the status
-- says what `check` says of it, and that is true
abbrev pub IsPrinted : Circuit → SolveRequest → ℕ → Status → List ℕ → Type 0
IsPrinted c request most status text =
    (found : Accepted) × (status ≡ statuses.Done (done_of found)) × (property_of found ≡ request.property)
    × IsWithinList most found × IsGood c text found × IsWrittenAs c text found × Shows c found

-- the status carries a report of workers
abbrev pub EndsUnknown : Circuit → SolveRequest → List CheckedEntry → Status → Type 0
EndsUnknown c request given status =
    (report : Report) × (status ≡ statuses.Unknown report) × IsReport (task_of c request given) report

-- the same of a list that may have begun with these entries: a certificate has them in front
abbrev pub IsPrintedFor : Circuit → SolveRequest → List CheckedEntry → Status → List ℕ → Type 0
IsPrintedFor c request given status text =
    (found : Accepted) × (status ≡ statuses.Done (done_of found)) × (property_of found ≡ request.property)
    × IsWithinList (most_of request given) found × IsGood c text found × IsWrittenAs c text found × Shows c found
    × BeginsWithGiven given found text

-- the text is the sheet of the board, a good one of the circuit without an open block, the status says what `check` says of it, and
-- that is true
abbrev pub IsSheetPrinted : Circuit → BoardState → Status → List ℕ → Type 0
IsSheetPrinted c b status text =
    (counts : Counts) × (entries : ℕ) × (status ≡ statuses.Done (done_by (judged.Sheet counts entries)))
    × (entries ≡ length b.entries) × IsSheetWith c text counts entries × (counts.unknown ≡ 0) × IsSheetOf c b counts text × ShowsSheet c counts

-- the same of a board with an outcome of each property, whose list began with these entries
abbrev pub IsSheetPrintedFor : Circuit → SolveRequest → List CheckedEntry → Status → List ℕ → Type 0
IsSheetPrintedFor c request given status text =
    (b : BoardState) × IsAnswered (task_of c request given) b × IsSheetPrinted c b status text

-- the status carries a report of workers, and the text is the sheet of its board
abbrev pub EndsOpen : Circuit → SolveRequest → List CheckedEntry → Status → List ℕ → Type 0
EndsOpen c request given status text =
    (report : Report) × (status ≡ statuses.Unknown report) × IsReport (task_of c request given) report × IsSheetOfReport c report text

abbrev pub EndsAs : Bool → Circuit → SolveRequest → List CheckedEntry → Status → List ℕ → Type 0
EndsAs false c request given status text =
    IsPrintedFor c request given status text ⊎ (EndsUnknown c request given status × (text ≡ text_of status))
EndsAs true c request given status text =
    IsSheetPrintedFor c request given status text ⊎ EndsOpen c request given status text

abbrev pub EndsFor : Circuit → SolveRequest → List CheckedEntry → Status → List ℕ → Type 0
EndsFor c request given status text = EndsAs request.all c request given status text

-- A search may begin with the list: it is not too long, each entry is sound behind those before it, and none is a worker's.
pub record MayBegin (c : Circuit) (given : List CheckedEntry) : Type 0 where
  pub few : length given ≤ most_entries
  pub sound : IsSoundList c given
  pub origins : All (λ e. e.origin ≡ Given) given

-- what the words of a request are tested for
abbrev pub AreWithin : SolveRequest → Type 0
AreWithin request = AreLimits (limits_of request)

-- a verdict, or a report, unless memory is refused or a read or write fails
abbrev pub SolvesUnlessCut : Bool → Status → Type 0
SolvesUnlessCut all status = GivesSome statuses.Memory (λ end. IsSolved all end ⊎ IsCutShort end) status

-- where `solve` is asked for, of a model that has the property, and of an answer that gives entries, the status is that of a
-- verdict or of a report
abbrev pub SolvesAsked : (List ℕ → Option (List ℕ)) → Request → Status → Type 0
SolvesAsked held (Solve model request resume) status = HasAsked (held model) (told_of held resume) request → SolvesUnlessCut request.all status
SolvesAsked held _ status = Unit {0}

-- A call lets workers search for an answer to a request over a circuit, for the served properties, by a list that begins with
-- given entries, whatever it is handed for the three: it may be made where the request is within its limits, the properties may be
-- served, one alone where there are to be lasso workers, and the search may begin with the list, and answers what workers leave.
pub record IsSearch {Handle : Type 0} (circuit_of : Handle → Circuit) (served_of : Handle → List ℕ) (given_of : Handle → List CheckedEntry)
    (Pre : Handle → SolveRequest → Type 0) (Post : Handle → SolveRequest → Result Report Ended → Type 0) : Type 0 where
  pub called : (q : Handle) (request : SolveRequest) → AreWithin request → AreServed (circuit_of q) (served_of q)
      → ServesOne (limits_of request) (served_of q) → MayBegin (circuit_of q) (given_of q) → Pre q request
  pub answer : (q : Handle) (request : SolveRequest) (result : Result Report Ended) → Post q request result
      → IfOk result (IsAnswer (task_for (circuit_of q) (served_of q) request (given_of q)))
  pub ended : (q : Handle) (request : SolveRequest) (result : Result Report Ended) → Post q request result
      → IfErr result (IsEnded (task_for (circuit_of q) (served_of q) request (given_of q)))
