-- The command `solve MODEL [--property N] [--workers W] [--conflicts C] [--steps S] [--skeletons K] [--lassos N] [--depth D]
-- [--all] [--resume ANSWER]`: what it gives. The search is FAIR (Bradley, Somenzi, Hassan, Zhang, 2011); that one list serves
-- all properties, and may begin with the entries of an answer, is this program's.
use Rattle.std.specs.Prelude.{◌≡◌, ◌⊎◌, ◌≤◌, ◌<◌, ◌+◌, min, ℕ, Bool, true, false, List, [], ◌∷◌, ◌++◌, length, take, Option, None, Some, if◌then◌else◌}
use Rattle.aig_semantics.specs.declared.traces.Lasso.{Lasso}
use Rattle.aig_semantics.specs.Circuits.{Circuit}
use Rattle.aig_semantics.specs.Stimuli.{StandsFor}
use Rattle.stimulus.specs.Texts.{answer_text}
use Rattle.certificate.specs.declared.ends.Accepted.{Accepted}
use Rattle.certificate.specs.declared.ends.Accepted.TheVariants as accepted
use Rattle.certificate.specs.Answers.{IsGood}
use Rattle.sheet_answers.specs.declared.ends.Judged.{Judged}
use Rattle.certificate_texts.specs.Writing.{certificate_text}
use Rattle.certificate.specs.Writing.{certificate_of}
use Rattle.entry.specs.declared.refutations.Refutation.{Refutation}
use Rattle.entry.specs.CheckedEntries.{CheckedEntry}
use Rattle.lasso_join.specs.Prefixes.{stimulus_of}
use Rattle.wall_store.specs.Boards.{BoardState, most_entries}
use Rattle.wall_store.specs.declared.outcomes.Outcome.{Outcome}
use Rattle.wall_store.specs.declared.outcomes.Outcome.TheVariants as outcomes
use Rattle.sheet_answers.specs.declared.ends.JudgeEnd.{JudgeEnd}
use Rattle.sheet_answers.specs.declared.counts.Counts.{Counts}
use Rattle.sheet_answers.specs.declared.ends.Judged.TheVariants as judged
use Rattle.sheet_answers.specs.Sheets.{IsSheetWith, ShowsSheet}
use Rattle.sheet_commands.specs.Each.{property_numbers}
use Rattle.sheet_commands.specs.Boards.{IsSheetOf}
use Rattle.given_entries.specs.Beginning.{BeginsWith, HasNoList}
use Rattle.search_reports.specs.declared.limits.Limits.{Limits}
use Rattle.search_reports.specs.declared.limits.Report.{Report}
use Rattle.fair_workers.specs.Runs.{Task, IsAnswered, IsReport}
use Rattle.command_lines.specs.declared.commands.solving.SolveRequest.{SolveRequest}
use Rattle.plain_commands.specs.declared.status.Status.{Status}
use Rattle.plain_commands.specs.declared.status.Status.TheVariants as statuses
use Rattle.plain_commands.specs.Check.{done_of, done_by, status_of_end, ShownByCheck}
use Rattle.plain_commands.specs.ModelTexts.{OfModel}
use Rattle.plain_commands.specs.ModelGiven.{Taking, OfText, OfSomeText, SaysBadModel}
use Rattle.plain_commands.specs.Texts.{text_of}
use Rattle.plain_commands.specs.Spelled.{IsWrittenAs}

-- what the workers may spend; where all properties are asked for, none is a lasso worker
abbrev pub limits_of : SolveRequest → Limits
limits_of request = record {
  workers = request.workers;
  conflicts = request.conflicts;
  steps = request.steps;
  skeletons = request.skeletons;
  lassos = if request.all then 0 else request.lassos;
  depth = request.depth;
}

-- the properties that are asked for: all of the circuit, or the one of this number
abbrev pub asked_in : Bool → Circuit → ℕ → List ℕ
asked_in true c n = property_numbers c
asked_in false c n = n ∷ []

-- what workers are asked for, who serve these properties, by a list that begins with this one
abbrev pub task_for : Circuit → List ℕ → SolveRequest → List CheckedEntry → Task
task_for c properties request given = record {
  circuit = c;
  properties = properties;
  limits = limits_of request;
  given = given;
}

abbrev pub task_of : Circuit → SolveRequest → List CheckedEntry → Task
task_of c request given = task_for c (asked_in request.all c request.property) request given

-- all properties are asked for, or one that the circuit has
abbrev pub HasProperty : Circuit → SolveRequest → Type 0
HasProperty c request = (request.all ≡ true) ⊎ (request.property < length c.justice)

-- one is asked for that it does not have
abbrev pub LacksProperty : Circuit → SolveRequest → Type 0
LacksProperty c request = (request.all ≡ false) × (length c.justice ≤ request.property)

-- How many entries their list may have: it may grow by as many as are asked for, and no list has more than 65,536.
abbrev pub most_of : SolveRequest → List CheckedEntry → ℕ
most_of request given = min (length given + request.skeletons) most_entries

-- the claim holds of no text where no answer is named, and else of the answer's
abbrev pub OfAnswer : Taking → Option (Option (List ℕ)) → (Option (List ℕ) → Type 0) → Type 0
OfAnswer Of None Claim = Claim None
OfAnswer Of (Some told) Claim = Of told (λ text. Claim (Some text))

-- the property that an answer is for
abbrev pub property_of : Accepted → ℕ
property_of (accepted.Lasso property positions from) = property
property_of (accepted.Holds property entries) = property

-- the circuit has no such property, and the status says so; where all are asked for it never does
abbrev pub SaysNoProperty : Taking → Option (List ℕ) → SolveRequest → Status → Type 0
SaysNoProperty Of model request status =
    (status ≡ statuses.NoProperty request.property)
    × Of model (λ text. OfModel text (λ c. LacksProperty c request))

-- the circuit has what is asked for, and an answer is named that gives no entries: the status says its first fault, as `check`
-- says it, and of a stimulus that its status is unknown
abbrev pub RefusesAnswer : Taking → Option (List ℕ) → Option (Option (List ℕ)) → SolveRequest → Status → Type 0
RefusesAnswer Of model answer request status =
    (end : JudgeEnd) × (status ≡ status_of_end end)
    × Of model (λ text. OfAnswer Of answer (λ claimed. OfModel text (λ c. HasProperty c request × HasNoList c claimed end)))

-- the answer with the stimulus of a lasso, cut where it first stands for one
abbrev pub IsStimulusOf : Circuit → ℕ → Lasso → List ℕ → Type 0
IsStimulusOf c j lasso answer =
    (positions : ℕ) × (from : ℕ) × StandsFor c j (stimulus_of lasso) positions from
    × (answer ≡ answer_text j (record { latches = lasso.start; inputs = take positions lasso.inputs }))

-- The text that `solve` prints of an outcome of property j over these entries: of a lasso its stimulus, of a refutation
-- the certificate of the entries with it.
abbrev pub IsTextOfOutcome : Circuit → ℕ → List CheckedEntry → Option Outcome → List ℕ → Type 0
IsTextOfOutcome c j entries (Some (outcomes.Lasso lasso)) answer = IsStimulusOf c j lasso answer
IsTextOfOutcome c j entries (Some (outcomes.Holds refutation)) answer = answer ≡ certificate_text j (certificate_of entries refutation)
IsTextOfOutcome c j entries None answer = ⊥

-- a certificate has at most so many entries
abbrev pub IsWithinList : ℕ → Accepted → Type 0
IsWithinList most (accepted.Lasso n positions from) = Unit {0}
IsWithinList most (accepted.Holds n entries) = entries ≤ most

-- a certificate is that of a list which begins with these entries, and of a refutation
abbrev pub BeginsWithGiven : List CheckedEntry → Accepted → List ℕ → Type 0
BeginsWithGiven given (accepted.Lasso n positions from) text = Unit {0}
BeginsWithGiven given (accepted.Holds n entries) text =
    (found : List CheckedEntry) × (refutation : Refutation) × (text ≡ certificate_text n (certificate_of (given ++ found) refutation))

-- The text is a good answer of the circuit, spelled as `solve` writes it. A certificate is that of a list which begins with
-- the entries of the named answer, and has no more entries than that list may have.
abbrev pub IsAnswerBy : Circuit → Option (List ℕ) → SolveRequest → Accepted → List ℕ → Type 0
IsAnswerBy c claimed request found text =
    IsGood c text found × IsWrittenAs c text found
    × (given : List CheckedEntry) × BeginsWith c claimed given × IsWithinList (most_of request given) found × BeginsWithGiven given found text

-- The text is such an answer for the property, and the status says what `check` says of it.
abbrev pub PrintsAnswer : Option (List ℕ) → Option (Option (List ℕ)) → SolveRequest → Status → List ℕ → Type 0
PrintsAnswer model answer request status text =
    (found : Accepted) × (status ≡ statuses.Done (done_of found)) × (property_of found ≡ request.property)
    × OfSomeText model (λ bytes. OfAnswer OfSomeText answer (λ claimed. OfModel bytes (λ c. IsAnswerBy c claimed request found text)))

-- The report is one of workers whose list began with the entries of the named answer, and that were asked for what the circuit
-- has: it is full and leaves a skeleton of each open property, or each worker has spent its conflicts or its steps, a lasso
-- worker its conflicts or its depth.
abbrev pub IsReportBy : Circuit → Option (List ℕ) → SolveRequest → Report → Type 0
IsReportBy c claimed request report =
    HasProperty c request × (given : List CheckedEntry) × BeginsWith c claimed given × IsReport (task_of c request given) report

-- The status carries such a report.
abbrev pub SaysUnknown : Option (List ℕ) → Option (Option (List ℕ)) → SolveRequest → Status → Type 0
SaysUnknown model answer request status =
    (report : Report) × (status ≡ statuses.Unknown report)
    × OfSomeText model (λ bytes. OfAnswer OfSomeText answer (λ claimed. OfModel bytes (λ c. IsReportBy c claimed request report)))

-- Where all properties are asked for, the text is a sheet.

-- The text is a good sheet of the circuit, none of whose blocks is open. It is that of a board of workers whose list began with the
-- entries of the named answer, and that have an outcome of each property.
abbrev pub IsSheetBy : Circuit → Option (List ℕ) → SolveRequest → Counts → ℕ → List ℕ → Type 0
IsSheetBy c claimed request counts entries text =
    IsSheetWith c text counts entries × (counts.unknown ≡ 0)
    × (given : List CheckedEntry) × BeginsWith c claimed given
    × (b : BoardState) × IsAnswered (task_of c request given) b × (entries ≡ length b.entries) × IsSheetOf c b counts text

-- The text is such a sheet, and the status says what `check` says of it.
abbrev pub PrintsSheet : Option (List ℕ) → Option (Option (List ℕ)) → SolveRequest → Status → List ℕ → Type 0
PrintsSheet model answer request status text =
    (counts : Counts) × (entries : ℕ) × (status ≡ statuses.Done (done_by (judged.Sheet counts entries)))
    × OfSomeText model (λ bytes. OfAnswer OfSomeText answer (λ claimed. OfModel bytes (λ c. IsSheetBy c claimed request counts entries text)))

-- The text is the sheet of the report's board, open exactly where the board has no outcome, and a good one; what its blocks say is
-- so.
abbrev pub IsSheetOfReport : Circuit → Report → List ℕ → Type 0
IsSheetOfReport c report text =
    (counts : Counts) × IsSheetOf c report.board counts text × IsSheetWith c text counts (length report.board.entries) × ShowsSheet c counts

-- The status carries a report, and the text is the sheet of its board.
abbrev pub SaysOpenSheet : Option (List ℕ) → Option (Option (List ℕ)) → SolveRequest → Status → List ℕ → Type 0
SaysOpenSheet model answer request status text =
    (report : Report) × (status ≡ statuses.Unknown report)
    × OfSomeText model (λ bytes. OfAnswer OfSomeText answer (λ claimed. OfModel bytes (λ c.
    IsReportBy c claimed request report × IsSheetOfReport c report text)))

-- What is printed behind a search: for one property the text is a good answer, or a budget is spent, of entries or of each
-- worker; for all it is a good sheet without an open block, or with one, and then a budget is spent. `check` accepts it.
abbrev pub Solves : Bool → Option (List ℕ) → Option (Option (List ℕ)) → SolveRequest → Status → List ℕ → Type 0
Solves false model answer request status text =
    PrintsAnswer model answer request status text ⊎ (SaysUnknown model answer request status × (text ≡ text_of status))
Solves true model answer request status text =
    PrintsSheet model answer request status text ⊎ SaysOpenSheet model answer request status text

-- What is so of the texts that the shelf tells where `solve` ends with this status, and writes this text: MODEL is bad, or
-- has no such property; or ANSWER, where it is named, gives no entries; or what is printed behind a search. There is no other
-- status.
abbrev pub GivesSolve : Option (List ℕ) → Option (Option (List ℕ)) → SolveRequest → Status → List ℕ → Type 0
GivesSolve model answer request status text =
    (SaysBadModel OfSomeText model status × (text ≡ text_of status))
    ⊎ ((SaysNoProperty OfSomeText model request status × (text ≡ text_of status))
    ⊎ ((RefusesAnswer OfSomeText model answer request status × (text ≡ text_of status))
    ⊎ Solves request.all model answer request status text))

-- the status that the texts decide, where they are told: MODEL is bad, or has no such property, or ANSWER gives no entries
abbrev pub DecidesSolve : Option (List ℕ) → Option (Option (List ℕ)) → SolveRequest → Status → Type 0
DecidesSolve model answer request status =
    SaysBadModel OfText model status ⊎ (SaysNoProperty OfText model request status ⊎ RefusesAnswer OfText model answer request status)

-- MODEL is told, and is the text of a model that has what is asked for, and ANSWER, where it is named, is told and gives entries
abbrev pub HasAsked : Option (List ℕ) → Option (Option (List ℕ)) → SolveRequest → Type 0
HasAsked model answer request =
    OfText model (λ text. OfAnswer OfText answer (λ claimed. OfModel text (λ c.
    HasProperty c request × (given : List CheckedEntry) × BeginsWith c claimed given)))

-- the status of a verdict; where all properties are asked for that of a sheet
abbrev pub IsVerdictOn : Bool → Status → Type 0
IsVerdictOn false status = (found : Accepted) × (status ≡ statuses.Done (done_of found))
IsVerdictOn true status = (counts : Counts) × (entries : ℕ) × (status ≡ statuses.Done (done_by (judged.Sheet counts entries)))

-- such a verdict, or a report
abbrev pub IsSolved : Bool → Status → Type 0
IsSolved all status = IsVerdictOn all status ⊎ ((report : Report) × (status ≡ statuses.Unknown report))

-- Two runs of `solve` for one property of a model with this circuit that both print an answer print the same status line,
-- a digit and a line feed, whatever entries each began with.
abbrev pub RunsAgree : Circuit → Type 0
RunsAgree c =
    (bytes : List ℕ) (answer named : Option (Option (List ℕ))) (a b : SolveRequest) (status other : Status) (text written : List ℕ)
    → OfModel bytes (λ k. k ≡ c) → a.property ≡ b.property
    → PrintsAnswer (Some bytes) answer a status text → PrintsAnswer (Some bytes) named b other written → take 2 text ≡ take 2 written

-- what is true where `solve` prints an answer or a sheet, as where `check` accepts it
abbrev pub ShownBySolve : Option (List ℕ) → Judged → Type 0
ShownBySolve model found = ShownByCheck model found
