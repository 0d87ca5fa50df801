-- Laws of what commands give: that it is of what was asked for, and that it is true or accepted.
use Rattle.std.specs.Prelude.{◌≡◌, ◌⊎◌, ◌+◌, ◌-◌, ◌<◌, ◌≤◌, ◌++◌, min, ℕ, true, false, List, length, take, codes, Option, None, Some}
use Rattle.std.specs.List.{All}
use Rattle.aig_semantics.specs.declared.traces.Lasso.{Lasso}
use Rattle.aig_semantics.specs.Circuits.{Circuit}
use Rattle.aig_semantics.specs.Stimuli.{IsFairLassoOf}
use Rattle.aiger_grammar.specs.Models.{Model}
use Rattle.edge.specs.Units.{Spendings, limit_of}
use Rattle.waves.specs.Dumps.{waves_text}
use Rattle.certificate_texts.specs.Writing.{certificate_text}
use Rattle.certificate.specs.Writing.{certificate_of}
use Rattle.entry.specs.declared.entries.Entry.{Entry}
use Rattle.entry.specs.declared.refutations.Refutation.{Refutation}
use Rattle.entry.specs.Proved.{IsGoodRefutation}
use Rattle.entry.specs.CheckedEntries.{CheckedEntry}
use Rattle.sheet_answers.specs.declared.counts.Counts.{Counts}
use Rattle.sheet_answers.specs.declared.ends.Judged.TheVariants as judged
use Rattle.sheet_answers.specs.Reading.{opens_as_sheet}
use Rattle.given_entries.specs.Given.{list_of}
use Rattle.given_entries.specs.Listing.{Lists}
use Rattle.wall_store.specs.Boards.{BoardState, most_entries, plain}
use Rattle.search_reports.specs.declared.limits.Report.{Report}
use Rattle.command_lines.specs.declared.commands.solving.SolveRequest.{SolveRequest}
use Rattle.command_lines.specs.declared.commands.counting.RoundsRequest.{RoundsRequest}
use Rattle.command_lines.specs.declared.commands.bounding.ShortestRequest.{ShortestRequest}
use Rattle.command_lines.specs.declared.commands.demonstrating.DemoRequest.{DemoRequest}
use Rattle.command_lines.specs.Commands.{Solve, Check, Demo, Wave, Rounds, Shortest}
use Rattle.plain_commands.specs.declared.status.Status.TheVariants as statuses
use Rattle.plain_commands.specs.declared.status.Done.{Done}
use Rattle.plain_commands.specs.declared.status.Done.TheVariants as done
use Rattle.plain_commands.specs.ModelTexts.{IsModelText, OfModel}
use Rattle.plain_commands.specs.ModelGiven.{OfSomeText}
use Rattle.plain_commands.specs.Check.{done_by}
use Rattle.plain_commands.specs.Texts.{text_of}
use Rattle.fair_top.specs.Commands.{CommandGives}
use Rattle.fair_top.specs.Demo.{demo_circuit, summary_text}

-- What was asked for.

-- `rounds`: what an open status says was spent was counted against the limits that were asked for, for the property that was.
abbrev pub OpenRoundsAreAsked : Type 0
OpenRoundsAreAsked =
    (held : List ℕ → Option (List ℕ)) (model text : List ℕ) (request : RoundsRequest) (property : ℕ) (spent : Spendings)
    → CommandGives held (Rounds model request) (statuses.OpenRounds property spent) text
    → (property ≡ request.property) × (spent.conflict_limit ≡ limit_of request.conflicts) × (spent.step_limit ≡ limit_of request.steps)

-- `shortest`: so was what an open status says, and fewer positions are done than were asked for.
abbrev pub OpenDepthsAreAsked : Type 0
OpenDepthsAreAsked =
    (held : List ℕ → Option (List ℕ)) (model text : List ℕ) (request : ShortestRequest) (most : ℕ) (spent : Spendings)
    → CommandGives held (Shortest model request) (statuses.OpenDepth most spent) text
    → (spent.conflict_limit ≡ limit_of request.conflicts) × (most < request.depth)

-- A report is one of so many workers, and as great a depth, as were asked for; what each worker spent was counted against the
-- limits that were; and its list may grow by as many entries, up to 65,536 in all. As many of the workers are lasso workers as
-- were asked for, but never all, and none where all properties were.
pub record IsAsAsked (request : SolveRequest) (report : Report) : Type 0 where
  pub workers : length report.workers ≡ request.workers
  pub spent : All (λ s. (s.conflict_limit ≡ limit_of request.conflicts) × (s.step_limit ≡ limit_of request.steps)) report.workers
  pub lassos : request.all ≡ false → length report.depths ≡ min request.lassos (request.workers - 1)
  pub none : request.all ≡ true → length report.depths ≡ 0
  pub depth : report.depth ≡ request.depth
  pub list : report.board.limit ≡ min (report.board.given + request.skeletons) most_entries

-- `solve`: each report is.
abbrev pub ReportsAreAsked : Type 0
ReportsAreAsked =
    (held : List ℕ → Option (List ℕ)) (model text : List ℕ) (request : SolveRequest) (resume : Option (List ℕ)) (report : Report)
    → CommandGives held (Solve model request resume) (statuses.Unknown report) text → IsAsAsked request report

-- `solve`: a certificate is for the property that was asked for, and, where no answer is named, has no more entries than were.
abbrev pub CertificatesAreAsked : Type 0
CertificatesAreAsked =
    (held : List ℕ → Option (List ℕ)) (model text : List ℕ) (request : SolveRequest) (resume : Option (List ℕ)) (n entries : ℕ)
    → CommandGives held (Solve model request resume) (statuses.Done (done.Holds n entries)) text
    → (n ≡ request.property) × (resume ≡ None → entries ≤ request.skeletons)

-- `solve --all`: a sheet without a report has no open block, and, where no answer is named, no more entries than were asked for.
abbrev pub SheetsAreAsked : Type 0
SheetsAreAsked =
    (held : List ℕ → Option (List ℕ)) (model text : List ℕ) (request : SolveRequest) (resume : Option (List ℕ)) (lassos holds unknown entries : ℕ)
    → CommandGives held (Solve model request resume) (statuses.Done (done.All lassos holds unknown entries)) text
    → (unknown ≡ 0) × (resume ≡ None → entries ≤ request.skeletons)

-- MODEL is a model's text, and this is so of its circuit
abbrev pub OfCircuit : Option (List ℕ) → (Circuit → Type 0) → Type 0
OfCircuit told Claim = OfSomeText told (λ bytes. OfModel bytes Claim)

-- `solve --resume`: the given entries of a report's list are those of the named answer, of which the shelf tells this text.
abbrev pub ReportsBeginAsAsked : Type 0
ReportsBeginAsAsked =
    (held : List ℕ → Option (List ℕ)) (model name claimed text : List ℕ) (request : SolveRequest) (report : Report) → held name ≡ Some claimed
    → CommandGives held (Solve model request (Some name)) (statuses.Unknown report) text
    → OfCircuit (held model) (λ c. (given : List Entry) × Lists c claimed given × (take report.board.given report.board.entries ≡ list_of c given))

-- And a certificate has them in front, and its status tells at most as many more as were asked for.
abbrev pub CertificatesBeginAsAsked : Type 0
CertificatesBeginAsAsked =
    (held : List ℕ → Option (List ℕ)) (model name claimed text : List ℕ) (request : SolveRequest) (n entries : ℕ) → held name ≡ Some claimed
    → CommandGives held (Solve model request (Some name)) (statuses.Done (done.Holds n entries)) text
    → OfCircuit (held model) (λ c. (given : List Entry) × Lists c claimed given × (entries ≤ length (list_of c given) + request.skeletons)
    × (found : List CheckedEntry) × (refutation : Refutation) × (text ≡ certificate_text n (certificate_of (list_of c given ++ found) refutation)))

-- `wave` of a sheet: the waves are those of a fair lasso of the property that was asked for.
abbrev pub WavesAreAsked : Type 0
WavesAreAsked =
    (held : List ℕ → Option (List ℕ)) (model answer claimed text : List ℕ) (n : ℕ) → held answer ≡ Some claimed → opens_as_sheet claimed ≡ true
    → CommandGives held (Wave model answer n) (statuses.Done done.Printed) text
    → OfSomeText (held model) (λ bytes. (m : Model) × IsModelText m bytes
    × (lasso : Lasso) × IsFairLassoOf m.circuit n lasso × (text ≡ waves_text m n lasso))

-- What is true.

-- `demo`: where a board has an outcome, the verdict in the summary is 1 and there is a fair lasso, or it is 0 and there is a good
-- refutation over the list.
abbrev pub SummariesAreTrue : Type 0
SummariesAreTrue =
    (held : List ℕ → Option (List ℕ)) (request : DemoRequest) (board : BoardState) (text : List ℕ)
    → CommandGives held (Demo request) (statuses.Done (done.Demo board)) text
    → ((lasso : Lasso) × IsFairLassoOf (demo_circuit request) 0 lasso
    × (text ≡ summary_text request (codes "1") (length board.entries) (codes "accepted")))
    ⊎ ((r : Refutation) × IsGoodRefutation (demo_circuit request) (plain board.entries) 0 r.uses r.proof
    × (text ≡ summary_text request (codes "0") (length board.entries) (codes "accepted")))

-- `check` accepts what `solve` prints with a verdict, where a shelf holds it, and says the same of it.
abbrev pub VerdictsAreAccepted : Type 0
VerdictsAreAccepted =
    (held : List ℕ → Option (List ℕ)) (model answer text : List ℕ) (request : SolveRequest) (resume : Option (List ℕ)) (said : Done)
    → held answer ≡ Some text → CommandGives held (Solve model request resume) (statuses.Done said) text
    → CommandGives held (Check model answer) (statuses.Done said) (text_of (statuses.Done said))

-- `check` accepts what `solve --all` prints with a report, where a shelf holds it, as a sheet of as many entries as its list has.
abbrev pub OpenSheetsAreAccepted : Type 0
OpenSheetsAreAccepted =
    (held : List ℕ → Option (List ℕ)) (model answer text : List ℕ) (request : SolveRequest) (resume : Option (List ℕ)) (report : Report)
    → request.all ≡ true → held answer ≡ Some text → CommandGives held (Solve model request resume) (statuses.Unknown report) text
    → (counts : Counts) × (line : List ℕ)
    × CommandGives held (Check model answer) (statuses.Done (done_by (judged.Sheet counts (length report.board.entries)))) line
