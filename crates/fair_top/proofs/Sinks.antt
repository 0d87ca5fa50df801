-- The writes that a sink saw, of `check`, of `solve`, of `demo` and of `rounds`.
use Rattle.std.proofs.Common.{inl, inr, Bool, true, false, List, ℕ, sym, subst, Ok, Err}
use Rattle.std.specs.Prelude.{Option, None, Some, Result}
use Rattle.aig_semantics.specs.Circuits.{Circuit}
use Rattle.edge.specs.Writes.{Writes}
use Rattle.certificate.specs.declared.ends.AnswerEnd.TheVariants as answers
use Rattle.sheet_answers.specs.declared.ends.Judged.{Judged}
use Rattle.round_answers.specs.declared.ends.JudgeEnd.TheVariants as text_ends
use Rattle.certificate.specs.Lines.{kept_readable, bare}
use Rattle.sheet_answers.specs.declared.ends.JudgeEnd.{JudgeEnd}
use Rattle.sheet_answers.specs.declared.ends.JudgeEnd.TheVariants as ends
use Rattle.sheet_answers.specs.Reading.{is_sheet}
use Rattle.sheet_answers.specs.Ends.{RefusesAs, Decides}
use Rattle.given_entries.specs.Listing.{ListsNoneAs as GivesNone}
use Rattle.given_entries.specs.Beginning.{HasNoList}
use Rattle.command_lines.specs.declared.commands.solving.SolveRequest.{SolveRequest}
use Rattle.command_lines.specs.declared.commands.demonstrating.DemoRequest.{DemoRequest}
use Rattle.command_lines.specs.declared.commands.counting.RoundsRequest.{RoundsRequest}
use Rattle.plain_commands.specs.declared.status.Status.{Status}
use Rattle.plain_commands.specs.ModelGiven.{OfSomeText}
use Rattle.plain_commands.specs.Check.{status_of, status_of_end, JudgesAs}
use Rattle.fair_top.specs.Solve.{GivesSolve, RefusesAnswer, Solves}
use Rattle.fair_top.specs.Demo.{GivesDemo}
use Rattle.plain_commands.specs.Rounds.{GivesRounds}
use Rattle.plain_commands.specs.Answering.{HasWritten}

-- the status of a refusal is written
pub of_refusal : {Sink : Type 0} (Write : Sink → Bool → Sink → Type 0) (c : Circuit) (text : List ℕ) (test : Bool) (end : JudgeEnd)
    (old new : Sink) → RefusesAs test c text end → Writes Write false old new → HasWritten Write (status_of_end end) old new
of_refusal Write c text test (ends.Text (text_ends.Answer (answers.Refused fault))) old new said writes = writes
of_refusal Write c text true (ends.Text (text_ends.Answer answers.ReadFault)) old new said writes = absurd said
of_refusal Write c text false (ends.Text (text_ends.Answer answers.ReadFault)) old new said writes = absurd said
of_refusal Write c text true (ends.Text (text_ends.Answer answers.Memory)) old new said writes = absurd said
of_refusal Write c text false (ends.Text (text_ends.Answer answers.Memory)) old new said writes = absurd said
of_refusal Write c text test (ends.Text (text_ends.TooLarge n)) old new said writes = writes
of_refusal Write c text test (ends.Block n fault) old new said writes = writes

of_answer : {Sink : Type 0} (Write : Sink → Bool → Sink → Type 0) (c : Circuit) (text : List ℕ) (end : Result Judged JudgeEnd)
    (old new : Sink) → Decides c text end → Writes Write false old new → HasWritten Write (status_of end) old new
of_answer Write c text (Ok found) old new said writes = writes
of_answer Write c text (Err end) old new said writes = of_refusal Write c text (is_sheet (bare (kept_readable text))) end old new said writes

pub of_check : {Sink : Type 0} (Write : Sink → Bool → Sink → Type 0) (model answer : Option (List ℕ)) (status : Status)
    (old new : Sink) → JudgesAs OfSomeText model answer status → Writes Write false old new → HasWritten Write status old new
of_check Write model answer status old new (inl (fault, e, bad)) writes =
    subst (λ (s : Status). HasWritten Write s old new) (sym e) writes
of_check Write model answer status old new (inr (end, e, (_, _, (claimed, _, (m, _, said))))) writes =
    subst (λ (s : Status). HasWritten Write s old new) (sym e) (of_answer Write m.circuit claimed end old new said writes)

-- an answer that gives no entries is refused
none_listed : {Sink : Type 0} (Write : Sink → Bool → Sink → Type 0) (c : Circuit) (claimed : Option (List ℕ)) (end : JudgeEnd)
    (old new : Sink) → HasNoList c claimed end → Writes Write false old new → HasWritten Write (status_of_end end) old new
none_listed Write c None end old new none writes = absurd none
none_listed Write c (Some text) end old new none writes = by (is_sheet (bare (kept_readable text))) none
  where
    by : (test : Bool) → GivesNone test c text end → HasWritten Write (status_of_end end) old new
    by true said = of_refusal Write c text (is_sheet (bare (kept_readable text))) end old new said writes
    by false (fault, bad, is) = subst (λ (e : JudgeEnd). HasWritten Write (status_of_end e) old new) (sym is) writes

of_refused : {Sink : Type 0} (Write : Sink → Bool → Sink → Type 0) (model : Option (List ℕ)) (answer : Option (Option (List ℕ))) (request : SolveRequest) (status : Status)
    (old new : Sink) → RefusesAnswer OfSomeText model answer request status → Writes Write false old new → HasWritten Write status old new
of_refused Write model None request status old new (end, e, (text, may, (m, form, (has, none)))) writes = absurd none
of_refused Write model (Some told) request status old new (end, e, (text, may, (claimed, told_may, (m, form, (has, none))))) writes =
    subst (λ (s : Status). HasWritten Write s old new) (sym e) (none_listed Write m.circuit (Some claimed) end old new none writes)

of_solved : {Sink : Type 0} (Write : Sink → Bool → Sink → Type 0) (all : Bool) (model : Option (List ℕ)) (answer : Option (Option (List ℕ))) (request : SolveRequest)
    (status : Status) (text : List ℕ) (old new : Sink) → Solves all model answer request status text → Writes Write false old new → HasWritten Write status old new
of_solved Write false model answer request status text old new (inl p) writes = subst (λ (s : Status). HasWritten Write s old new) (sym p.1) writes
of_solved Write false model answer request status text old new (inr (r, t)) writes = subst (λ (s : Status). HasWritten Write s old new) (sym r.1) writes
of_solved Write true model answer request status text old new (inl p) writes = subst (λ (s : Status). HasWritten Write s old new) (sym p.2) writes
of_solved Write true model answer request status text old new (inr r) writes = subst (λ (s : Status). HasWritten Write s old new) (sym r.1) writes

pub of_solve : {Sink : Type 0} (Write : Sink → Bool → Sink → Type 0) (model : Option (List ℕ)) (answer : Option (Option (List ℕ))) (request : SolveRequest) (status : Status)
    (text : List ℕ) (old new : Sink) → GivesSolve model answer request status text → Writes Write false old new → HasWritten Write status old new
of_solve Write model answer request status text old new (inl ((fault, e, bad), t)) writes = subst (λ (s : Status). HasWritten Write s old new) (sym e) writes
of_solve Write model answer request status text old new (inr (inl ((e, none), t))) writes = subst (λ (s : Status). HasWritten Write s old new) (sym e) writes
of_solve Write model answer request status text old new (inr (inr (inl (refused, t)))) writes = of_refused Write model answer request status old new refused writes
of_solve Write model answer request status text old new (inr (inr (inr solves))) writes = of_solved Write request.all model answer request status text old new solves writes

pub of_demo : {Sink : Type 0} (Write : Sink → Bool → Sink → Type 0) (request : DemoRequest) (status : Status) (text : List ℕ) (old new : Sink)
    → GivesDemo request status text → Writes Write false old new → HasWritten Write status old new
of_demo Write request status text old new (inl (board, e, summed)) writes =
    subst (λ (s : Status). HasWritten Write s old new) (sym e) writes
of_demo Write request status text old new (inr (report, e, reports, t)) writes = subst (λ (s : Status). HasWritten Write s old new) (sym e) writes

pub of_rounds : {Sink : Type 0} (Write : Sink → Bool → Sink → Type 0) (model : Option (List ℕ)) (request : RoundsRequest) (status : Status)
    (text : List ℕ) (old new : Sink) → GivesRounds model request status text → Writes Write false old new → HasWritten Write status old new
of_rounds Write model request status text old new (inl ((fault, e, bad), t)) writes = subst (λ (s : Status). HasWritten Write s old new) (sym e) writes
of_rounds Write model request status text old new (inr (_, _, (m, _, inl (inl (e, none), t)))) writes = subst (λ (s : Status). HasWritten Write s old new) (sym e) writes
of_rounds Write model request status text old new (inr (_, _, (m, _, inl (inr (e, large), t)))) writes = subst (λ (s : Status). HasWritten Write s old new) (sym e) writes
of_rounds Write model request status text old new (inr (_, _, (m, _, inr (inl p)))) writes = subst (λ (s : Status). HasWritten Write s old new) (sym p.1) writes
of_rounds Write model request status text old new (inr (_, _, (m, _, inr (inr (open_status, t))))) writes = subst (λ (s : Status). HasWritten Write s old new) (sym open_status.1) writes
