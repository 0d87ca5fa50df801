-- What `demo` sums up.
use Rattle.std.proofs.Common.{◌≡◌, inl, inr, ℕ, Bool, false, true, List, [], sym, ◌∙◌, ap, subst, Ok, Err, Some}
use Rattle.std.specs.Prelude.{Result, IfOk, IfErr}
use Rattle.aig_semantics.specs.Circuits.{Circuit}
use Rattle.certificate.specs.declared.ends.Accepted.{Accepted}
use Rattle.certificate.specs.declared.ends.Accepted.TheVariants as accepted
use Rattle.sheet_answers.specs.declared.ends.Judged.{Judged}
use Rattle.round_answers.specs.declared.ends.Judged.TheVariants as texts
use Rattle.sheet_answers.specs.declared.ends.Judged.TheVariants as found_as
use Rattle.certificate.specs.declared.ends.AnswerEnd.{AnswerEnd}
use Rattle.certificate.specs.declared.ends.AnswerEnd.TheVariants as ends
use Rattle.certificate.specs.declared.ends.AnswerFault.{AnswerFault}
use Rattle.certificate.specs.Ends.{EndsWith, has_unread}
use Rattle.edge.specs.InMemory.{ShelfInMemory, text_of}
use Rattle.edge.specs.Reads.{Reads}
use Rattle.edge.proofs.Steady.{ReadsInMemory, no_read_fails}
use Rattle.wall_store.specs.Boards.{BoardState}
use Rattle.command_lines.specs.declared.commands.demonstrating.DemoRequest.{DemoRequest}
use Rattle.plain_commands.specs.declared.status.Status.{Status}
use Rattle.plain_commands.specs.declared.status.Status.TheVariants as statuses
use Rattle.plain_commands.specs.declared.status.Done.TheVariants as dones
use Rattle.plain_commands.specs.declared.texts.Ending.{Ending}
use Rattle.plain_commands.specs.Check.{done_by}
use Rattle.plain_commands.specs.Statuses.{status_in, is_read_fault}
use Rattle.fair_top.specs.Demo.{SumsUp, IsSummedUp}
use Rattle.plain_commands.proofs.Judging.{End}

-- The check of a good answer.

-- it is not refused,
pub never_refused : (found : Accepted) (end : End) (why : AnswerEnd) (fault : AnswerFault) → end ≡ Err why → why ≡ ends.Refused fault → EndsWith end (Ok found) → ⊥
never_refused found end why fault is refused (inl (inl e)) = absurd (cc)
never_refused found end why fault is refused (inl (inr e)) = absurd (cc)
never_refused found end why fault is refused (inr e) = absurd (cc)

-- and is read to its end where no call of the shelf is to fail
pub never_unread : (end : End) (why : AnswerEnd) (name text : List ℕ) (old new : ShelfInMemory) → end ≡ Err why → why ≡ ends.ReadFault
    → old.failing ≡ [] → text_of old.texts name ≡ Some text → Reads ReadsInMemory name (has_unread end) old new → ⊥
never_unread end why name text old new is unread steady told reads =
    let failed : has_unread end ≡ true = ap (λ (e : End). has_unread e) (is ∙ ap (λ (a : AnswerEnd). Err a) unread) in
    no_read_fails name text old new steady told (subst (λ (f : Bool). Reads ReadsInMemory name f old new) failed reads)

-- the status is that of a board or of a report

pub sums_up : (c : Circuit) (request : DemoRequest) (status : Status) (text : List ℕ) → SumsUp c request status text → IsSummedUp status
sums_up c request status text (inl (board, e, summed)) = inl (board, e)
sums_up c request status text (inr (report, e, reports, same)) = inr (report, e)

no_fault : (status : Status) → IsSummedUp status → is_read_fault status ≡ false
no_fault status (inl (board, e)) = ap is_read_fault e
no_fault status (inr (report, e)) = ap is_read_fault e

not_accepted : (board : BoardState) (found : Judged) → ◌≡◌ {A = Status} (statuses.Done (dones.Demo board)) (statuses.Done (done_by found)) → ⊥
not_accepted board (found_as.Text (texts.Answer (accepted.Lasso j p f))) e = absurd (cc)
not_accepted board (found_as.Text (texts.Answer (accepted.Holds j n))) e = absurd (cc)
not_accepted board (found_as.Text (texts.Rounds j k r)) e = absurd (cc)
not_accepted board (found_as.Sheet counts entries) e = absurd (cc)

no_answer : (status : Status) → IsSummedUp status → (found : Judged) → status ≡ statuses.Done (done_by found) → ⊥
no_answer status (inl (board, e)) found is = not_accepted board found (sym e ∙ is)
no_answer status (inr (report, e)) found is = let wrong : statuses.Unknown report ≡ statuses.Done (done_by found) = sym e ∙ is in absurd (cc)

pub loud : (c : Circuit) (request : DemoRequest) (result : Result Ending Status)
    → IfOk result (λ ending. SumsUp c request ending.status ending.text.items)
    → IfOk result (λ ending. is_read_fault ending.status ≡ false)
loud c request (Ok ending) summed = no_fault ending.status (sums_up c request ending.status ending.text.items summed)
loud c request (Err status) summed = tt

pub unread : (c : Circuit) (request : DemoRequest) (result : Result Ending Status)
    → IfOk result (λ ending. SumsUp c request ending.status ending.text.items) → IfErr result (λ status. status ≡ statuses.Memory)
    → is_read_fault (status_in result) ≡ false
unread c request (Ok ending) summed ended = no_fault ending.status (sums_up c request ending.status ending.text.items summed)
unread c request (Err status) summed ended = ap is_read_fault ended

pub hidden : (c : Circuit) (request : DemoRequest) (result : Result Ending Status)
    → IfOk result (λ ending. SumsUp c request ending.status ending.text.items) → IfErr result (λ status. status ≡ statuses.Memory)
    → (found : Judged) → status_in result ≡ statuses.Done (done_by found) → ⊥
hidden c request (Ok ending) summed ended found e = no_answer ending.status (sums_up c request ending.status ending.text.items summed) found e
hidden c request (Err status) summed ended found e = let wrong : statuses.Memory ≡ statuses.Done (done_by found) = sym ended ∙ e in absurd (cc)
