-- The command `demo SEED SIZE`, for which two workers decide property 0 of a generated model, the answer is checked, and a
-- summary is printed: what it gives.
use Rattle.std.specs.Prelude.{◌≡◌, ◌⊎◌, ℕ, List, [], ◌++◌, length, decimal, codes, Option, Some, None}
use Rattle.aig_semantics.specs.Circuits.{Circuit}
use Rattle.model_gen.specs.Generated.{scramble_circuit}
use Rattle.certificate.specs.declared.ends.Accepted.{Accepted}
use Rattle.certificate.specs.Answers.{IsGood}
use Rattle.wall_store.specs.declared.outcomes.Outcome.{Outcome}
use Rattle.wall_store.specs.declared.outcomes.Outcome.TheVariants.{Lasso, Holds}
use Rattle.wall_store.specs.Boards.{BoardState, outcome_of}
use Rattle.search_reports.specs.declared.limits.Report.{Report}
use Rattle.fair_workers.specs.Runs.{Task, IsAnswered, IsReport}
use Rattle.command_lines.specs.declared.commands.demonstrating.DemoRequest.{DemoRequest}
use Rattle.command_lines.specs.declared.commands.solving.SolveRequest.{SolveRequest}
use Rattle.plain_commands.specs.declared.status.Status.{Status}
use Rattle.plain_commands.specs.declared.status.Status.TheVariants as statuses
use Rattle.plain_commands.specs.declared.status.Done.TheVariants as done
use Rattle.command_lines.specs.Solve.{default_request}
use Rattle.fair_top.specs.Solve.{task_of, IsTextOfOutcome}

-- the circuit that `gen scramble` writes for the seed and the size
abbrev pub demo_circuit : DemoRequest → Circuit
demo_circuit request = scramble_circuit request.seed request.size

-- what `solve` is asked for where only a model is named, but for two workers
abbrev pub demo_request : SolveRequest
demo_request = record default_request { workers = 2 }

abbrev pub demo_task : Circuit → Task
demo_task c = task_of c demo_request []

-- 1 for a fair lasso, 0 where there is none, 2 without an outcome
abbrev pub verdict_text : Option Outcome → List ℕ
verdict_text (Some (Lasso lasso)) = codes "1"
verdict_text (Some (Holds refutation)) = codes "0"
verdict_text None = codes "2"

-- four lines: what is asked for, the verdict, how many entries the shared list has, and what the check said
abbrev pub summary_text : DemoRequest → List ℕ → ℕ → List ℕ → List ℕ
summary_text request verdict entries checked =
    codes "demo scramble " ++ decimal request.seed ++ codes " " ++ decimal request.size ++ codes "\nverdict " ++ verdict
    ++ codes "\nentries " ++ decimal entries ++ codes "\ncheck " ++ checked ++ codes "\n"

-- The text sums up a board of the task with an outcome: its verdict, and the length of its list. The answer that `solve`
-- prints of the outcome is a good one, so `check` accepts it, and the summary says so.
pub record SumsUpBoard (c : Circuit) (request : DemoRequest) (text : List ℕ) (board : BoardState) : Type 0 where
  pub answered : IsAnswered (demo_task c) board
  pub summary : text ≡ summary_text request (verdict_text (outcome_of board.served 0)) (length board.entries) (codes "accepted")
  pub answer : List ℕ
  pub printed : IsTextOfOutcome c 0 board.entries (outcome_of board.served 0) answer
  pub found : Accepted
  pub good : IsGood c answer found

abbrev pub SumsUpAnswer : Circuit → DemoRequest → Status → List ℕ → Type 0
SumsUpAnswer c request status text =
    (board : BoardState) × (status ≡ statuses.Done (done.Demo board)) × SumsUpBoard c request text board

-- The status carries a report: a budget is spent, of entries or of each worker. There is nothing to check, and the summary
-- says so.
abbrev pub SumsUpReport : Circuit → DemoRequest → Status → List ℕ → Type 0
SumsUpReport c request status text =
    (report : Report) × (status ≡ statuses.Unknown report) × IsReport (demo_task c) report
    × (text ≡ summary_text request (codes "2") (length report.board.entries) (codes "none"))

abbrev pub SumsUp : Circuit → DemoRequest → Status → List ℕ → Type 0
SumsUp c request status text = SumsUpAnswer c request status text ⊎ SumsUpReport c request status text

-- One of the two of the generated circuit. There is no other status.
abbrev pub GivesDemo : DemoRequest → Status → List ℕ → Type 0
GivesDemo request status text = SumsUp (demo_circuit request) request status text

-- a board with an outcome, or a report
abbrev pub IsSummedUp : Status → Type 0
IsSummedUp status =
    ((board : BoardState) × (status ≡ statuses.Done (done.Demo board))) ⊎ ((report : Report) × (status ≡ statuses.Unknown report))
