-- A status with its text, and that it says of no text that it was accepted.
use Rattle.std.proofs.Common.{◌≡◌, ◌⊎◌, ℕ, true, false, List, refl, sym, ◌∙◌, ap, subst, inl, inr, Ok, Err}
use Rattle.std.specs.Prelude.{Option, Result, IfOk, IfErr}
use Rattle.certificate.specs.declared.ends.Accepted.TheVariants.{Lasso, Holds}
use Rattle.sheet_answers.specs.declared.ends.Judged.{Judged}
use Rattle.round_answers.specs.declared.ends.Judged.TheVariants as texts
use Rattle.sheet_answers.specs.declared.ends.Judged.TheVariants as found_as
use Rattle.certificate.specs.declared.ends.AnswerFault.{AnswerFault}
use Rattle.certificate.specs.declared.ends.AnswerFault.TheVariants.{NoProperty}
use Rattle.plain_commands.specs.declared.status.Status.{Status}
use Rattle.plain_commands.specs.declared.status.Status.TheVariants as statuses
use Rattle.plain_commands.specs.declared.texts.Ending.{Ending}
use Rattle.plain_commands.specs.Check.{done_by}
use Rattle.plain_commands.specs.Written.{IsWritten, accepts}
use Rattle.plain_commands.specs.Statuses.{is_read_fault, ends_silently, status_in}
use Rattle.plain_commands.specs.Texts.{text_of}
use Rattle.plain_commands.specs.Answering.{GivesVerdict}
use Rattle.plain_commands.specs.Judged.{EndsWithoutModel}

-- A status with its text.

pub refused_written : (result : Result Ending Status) (fault : AnswerFault) → (status_in result ≡ statuses.Refused fault) ⊎ (status_in result ≡ statuses.Memory)
    → IfOk result (λ ending. (ending.status ≡ statuses.Refused fault) × (ending.text.items ≡ text_of (statuses.Refused fault)))
    → IfErr result (λ other. ends_silently other ≡ true) → IsWritten result (statuses.Refused fault) (text_of (statuses.Refused fault))
refused_written (Ok ending) fault status text silent = text
refused_written (Err other) fault (inr e) text silent = e
refused_written (Err other) fault (inl e) text silent = let wrong : false ≡ true = sym (ap ends_silently e) ∙ silent in absurd (cc wrong)

pub written_status : (result : Result Ending Status) (status : Status) (text : List ℕ) → IsWritten result status text → (status_in result ≡ status) ⊎ (status_in result ≡ statuses.Memory)
written_status (Ok ending) status text h = inl h.0
written_status (Err other) status text h = inr h

-- What is decided.

pub still : (verdict status result : Status) → (result ≡ status) ⊎ (result ≡ statuses.Memory) → GivesVerdict verdict status → GivesVerdict verdict result
still verdict status result (inl same) h = subst (λ (s : Status). GivesVerdict verdict s) (sym same) h
still verdict status result (inr memory) h = inr memory

-- No answer is accepted.

accepts_done : (a : Judged) → accepts (statuses.Done (done_by a)) ≡ true
unfolding accepts
accepts_done (found_as.Text (texts.Answer (Lasso n positions from))) = refl
accepts_done (found_as.Text (texts.Answer (Holds n entries))) = refl
accepts_done (found_as.Text (texts.Rounds n k r)) = refl
accepts_done (found_as.Sheet counts entries) = refl

pub no_model_accepts_none : (model : Option (List ℕ)) (status : Status) → EndsWithoutModel model status → accepts status ≡ false
unfolding accepts
no_model_accepts_none model (statuses.BadModel fault) h = refl
no_model_accepts_none model statuses.ReadFault h = refl
no_model_accepts_none model statuses.Memory h = refl
no_model_accepts_none model (statuses.Done done) h = absurd h
no_model_accepts_none model (statuses.Refused fault) h = refl
no_model_accepts_none model (statuses.RefusedBlock n fault) h = refl
no_model_accepts_none model statuses.WriteFault h = refl
no_model_accepts_none model statuses.Usage h = refl
no_model_accepts_none model (statuses.Unknown report) h = refl
no_model_accepts_none model (statuses.NoProperty n) h = refl
no_model_accepts_none model (statuses.TooLarge n) h = refl
no_model_accepts_none model (statuses.OpenRounds n spent) h = refl
no_model_accepts_none model (statuses.OpenDepth n spent) h = refl
no_model_accepts_none model (statuses.NoItem entry clause) h = refl

pub memory_accepts_none : accepts statuses.Memory ≡ false
unfolding accepts
memory_accepts_none = refl

pub not_both : (a : Judged) (status result : Status) → accepts status ≡ false → (result ≡ status) ⊎ (result ≡ statuses.Memory) → result ≡ statuses.Done (done_by a) → ⊥
not_both a status result none (inl e) is =
    let wrong : true ≡ false = sym (accepts_done a) ∙ sym (ap accepts is) ∙ ap accepts e ∙ none in cc wrong
not_both a status result none (inr e) is =
    let wrong : true ≡ false = sym (accepts_done a) ∙ sym (ap accepts is) ∙ ap accepts e ∙ memory_accepts_none in cc wrong

pub without_shown : (model : Option (List ℕ)) (status result : Status) → EndsWithoutModel model status → (result ≡ status) ⊎ (result ≡ statuses.Memory)
    → (a : Judged) → result ≡ statuses.Done (done_by a) → ⊥
without_shown model status result h either a is = not_both a status result (no_model_accepts_none model status h) either is

-- Reads and silence.

pub written_unread : (result : Result Ending Status) (status : Status) (text : List ℕ) → is_read_fault status ≡ false → IsWritten result status text → is_read_fault (status_in result) ≡ false
written_unread (Ok ending) status text none h = ap is_read_fault h.0 ∙ none
written_unread (Err other) status text none h = ap is_read_fault h
