-- What a command that makes a text of an answer gives, from the model and the end of the loading of the answer.
use Rattle.std.proofs.Common.{◌≡◌, ◌⊎◌, ℕ, Bool, true, false, List, [], ◌∷◌, Some, refl, sym, ◌∙◌, ap, subst, inl, inr, Ok, Err}
use Rattle.std.specs.Prelude.{Option, Result, IfOk, IfErr}
use Rattle.aig_semantics.specs.Circuits.{Circuit}
use Rattle.aiger_grammar.specs.Models.{Model}
use Rattle.circuit.specs.declared.faults.ModelFault.{ModelFault}
use Rattle.edge.specs.Reads.{ReadsOf, Reads}
use Rattle.edge.specs.Writes.{Writes}
use Rattle.certificate.specs.declared.ends.AnswerEnd.{AnswerEnd}
use Rattle.certificate.specs.declared.ends.AnswerEnd.TheVariants as ends
use Rattle.certificate.specs.declared.loaded.Loaded.{Loaded}
use Rattle.sheet_answers.specs.declared.ends.Judged.{Judged}
use Rattle.certificate.specs.Ends.{DecidesEnd, CheckSays, EndsWith, has_unread}
use Rattle.certificate.specs.Loading.{IsHeld, IsHeldOf, accepted_in}
use Rattle.plain_commands.specs.declared.status.Status.{Status}
use Rattle.plain_commands.specs.declared.status.Status.TheVariants as statuses
use Rattle.plain_commands.specs.declared.status.Done.TheVariants.{Printed}
use Rattle.plain_commands.specs.declared.texts.Ending.{Ending}
use Rattle.plain_commands.specs.ModelGiven.{OfSomeText}
use Rattle.plain_commands.specs.Check.{done_by}
use Rattle.plain_commands.specs.Remade.{EndsRemade, GivesRemade, remade_status, DecidesRemade}
use Rattle.plain_commands.specs.Remaking.{IsMadeOf, IsMade, IsRemade}
use Rattle.plain_commands.specs.Statuses.{is_read_fault, ends_silently, status_in}
use Rattle.plain_commands.specs.Texts.{text_of}
use Rattle.plain_commands.specs.Answering.{IsSilent, GivesVerdict, HoldsModel, ReadsModel, ReadsModelFirst, HasWritten}
use Rattle.plain_commands.specs.Judged.{IsModelOf, IsFaultOf, EndsWithoutModel}
use Rattle.plain_commands.proofs.Judging.{End, same_bad}
use Rattle.plain_commands.proofs.Written.{written_status, written_unread, still, not_both}
use Rattle.plain_commands.specs.Written.{accepts}

abbrev Made : Type 1
Made = Circuit → List ℕ → List ℕ → Type 0

abbrev Held : Type 0
Held = Result Loaded AnswerEnd

-- the end of the loading is of the model's circuit
pub held_of_model : (c : Circuit) (told : Option (List ℕ)) (end : Held) → IfOk end (IsHeldOf c told) → IfOk end (IsHeld c)
held_of_model c told (Ok loaded) (text, may, has) = (text, has)
held_of_model c told (Err end) h = tt

made_status : (P : List ℕ → Type 0) (result : Result Ending Status) → IsMade P result → (status_in result ≡ statuses.Done Printed) ⊎ (status_in result ≡ statuses.Memory)
made_status P (Ok ending) h = inl h.0
made_status P (Err other) h = inr h

-- the status is that of the end, or want of memory
remade_ends : (M : Made) (c : Circuit) (end : Held) (result : Result Ending Status) → IsRemade M c end result
    → (status_in result ≡ remade_status (accepted_in end)) ⊎ (status_in result ≡ statuses.Memory)
remade_ends M c (Ok loaded) result h = made_status (IsMadeOf M c loaded) result h
remade_ends M c (Err (ends.Refused fault)) result h = written_status result (statuses.Refused fault) (text_of (statuses.Refused fault)) h
remade_ends M c (Err ends.ReadFault) result h = inl (ap status_in h)
remade_ends M c (Err ends.Memory) result h = inl (ap status_in h)

-- What is so of both texts.

of_answer : (M : Made) (m : Model) (answer : Option (List ℕ)) (end : Held) (ending : Ending) → CheckSays m.circuit answer (accepted_in end)
    → IfOk end (IsHeldOf m.circuit answer) → IsRemade M m.circuit end (Ok ending) → OfSomeText answer (λ claimed. EndsRemade M m claimed ending.status ending.text.items)
of_answer M m answer (Ok loaded) ending says (text, may, has) h = (text, may, inl (h.0, h.1 text has))
of_answer M m answer (Err (ends.Refused fault)) ending (inl (inr (text, may, bad))) held h = (text, may, inr (fault, bad, h.0, h.1 ∙ sym (ap text_of h.0)))
of_answer M m answer (Err (ends.Refused fault)) ending (inl (inl wrong)) held h = absurd (cc wrong)
of_answer M m answer (Err (ends.Refused fault)) ending (inr wrong) held h = absurd (cc wrong)
of_answer M m answer (Err ends.ReadFault) ending says held h = absurd (cc h)
of_answer M m answer (Err ends.Memory) ending says held h = absurd (cc h)

given : (M : Made) (m : Model) (model answer : Option (List ℕ)) (end : Held) (result : Result Ending Status) → IsModelOf model m
    → CheckSays m.circuit answer (accepted_in end) → IfOk end (IsHeldOf m.circuit answer) → IsRemade M m.circuit end result
    → IfOk result (λ ending. GivesRemade M model answer ending.status ending.text.items)
given M m model answer end (Err status) h says held r = tt
given M m model answer end (Ok ending) h says held r = inr (h.text.0, h.text.1, (m, h.text.2, of_answer M m answer end ending says held r))

pub remade_given : (M : Made) (c : Circuit) (m : Model) (model now answer : Option (List ℕ)) (end : Held) (result : Result Ending Status) → c ≡ m.circuit → now ≡ answer
    → IsModelOf model m → CheckSays c now (accepted_in end) → IfOk end (IsHeldOf c now) → IsRemade M c end result
    → IfOk result (λ ending. GivesRemade M model answer ending.status ending.text.items)
remade_given M c m model now answer end result same told h says held r =
    given M m model answer end result h
    (subst (λ (x : Circuit). CheckSays x answer (accepted_in end)) same (subst (λ (t : Option (List ℕ)). CheckSays c t (accepted_in end)) told says))
    (subst (λ (x : Circuit). IfOk end (IsHeldOf x answer)) same (subst (λ (t : Option (List ℕ)). IfOk end (IsHeldOf c t)) told held))
    (subst (λ (x : Circuit). IsRemade M x end result) same r)

-- What is decided.

as_status : (end verdict : End) → EndsWith end verdict → GivesVerdict (remade_status verdict) (remade_status end)
as_status end verdict h = elim h [
  | inl other ↦ elim other [ inl e ↦ inl (inl (inl (ap remade_status e))) | inr e ↦ inl (inr (inl (ap remade_status e))) ]
  | inr e ↦ inr (ap remade_status e)
]

exact_by : (m : Model) (model answer : Option (List ℕ)) (end : End) → IsModelOf model m
    → ((text : List ℕ) (verdict : End) → answer ≡ Some text → DecidesEnd m.circuit text verdict → EndsWith end verdict)
    → (verdict : Status) → DecidesRemade model answer verdict → GivesVerdict verdict (remade_status end)
exact_by m model answer end h exact verdict (inl (fault, e, (text, told, bad))) = absurd (h.faultless text fault told bad)
exact_by m model answer end h exact verdict (inr (other, e, (text, told, (claimed, claim_told, (n, form, said))))) =
    let decided : DecidesEnd m.circuit claimed other = subst (λ (x : Model). DecidesEnd x.circuit claimed other) (sym (h.one text n told form)) said in
    subst (λ (v : Status). GivesVerdict v (remade_status end)) (sym e) (as_status end other (exact claimed other claim_told decided))

pub remade_exact : (M : Made) (c : Circuit) (m : Model) (model now answer : Option (List ℕ)) (end : Held) (result : Result Ending Status) → c ≡ m.circuit → now ≡ answer
    → IsModelOf model m → ((text : List ℕ) (verdict : End) → now ≡ Some text → DecidesEnd c text verdict → EndsWith (accepted_in end) verdict)
    → IsRemade M c end result → (verdict : Status) → DecidesRemade model answer verdict → GivesVerdict verdict (status_in result)
remade_exact M c m model now answer end result same told h exact r verdict d =
    still verdict (remade_status (accepted_in end)) (status_in result) (remade_ends M c end result r)
    (exact_by m model answer (accepted_in end) h (λ text v e k. exact text v (told ∙ e) (subst (λ (x : Circuit). DecidesEnd x text v) (sym same) k)) verdict d)

-- Where there is no model.

pub without_gives : (M : Made) (model answer : Option (List ℕ)) (status : Status) (result : Result Ending Status) → EndsWithoutModel model status
    → IfOk result (λ ending. (ending.status ≡ status) × (ending.text.items ≡ text_of status)) → IfOk result (λ ending. ends_silently status ≡ false)
    → IfOk result (λ ending. GivesRemade M model answer ending.status ending.text.items)
without_gives M model answer status (Err other) h text aloud = tt
without_gives M model answer (statuses.BadModel fault) (Ok ending) h text aloud = inl ((fault, text.0, h.text), text.1 ∙ sym (ap text_of text.0))
without_gives M model answer statuses.ReadFault (Ok ending) h text aloud = absurd (cc aloud)
without_gives M model answer statuses.Memory (Ok ending) h text aloud = absurd (cc aloud)
without_gives M model answer (statuses.Done done) (Ok ending) h text aloud = absurd h
without_gives M model answer (statuses.Refused fault) (Ok ending) h text aloud = absurd h
without_gives M model answer (statuses.RefusedBlock n fault) (Ok ending) h text aloud = absurd h
without_gives M model answer statuses.WriteFault (Ok ending) h text aloud = absurd h
without_gives M model answer statuses.Usage (Ok ending) h text aloud = absurd h
without_gives M model answer (statuses.Unknown report) (Ok ending) h text aloud = absurd h
without_gives M model answer (statuses.NoProperty n) (Ok ending) h text aloud = absurd h
without_gives M model answer (statuses.TooLarge n) (Ok ending) h text aloud = absurd h
without_gives M model answer (statuses.OpenRounds n spent) (Ok ending) h text aloud = absurd h
without_gives M model answer (statuses.OpenDepth n spent) (Ok ending) h text aloud = absurd h
without_gives M model answer (statuses.NoItem entry clause) (Ok ending) h text aloud = absurd h

bad_exact : (model answer : Option (List ℕ)) (fault : ModelFault) → IsFaultOf model fault
    → (verdict : Status) → DecidesRemade model answer verdict → GivesVerdict verdict (statuses.BadModel fault)
bad_exact model answer fault h verdict (inl (other, e, (text, told, bad))) =
    subst (λ (v : Status). GivesVerdict v (statuses.BadModel fault)) (sym e) (same_bad fault other (h.one text other told bad))
bad_exact model answer fault h verdict (inr (other, e, (text, told, (claimed, claim_told, (m, form, said))))) = absurd (h.none text m told form)

no_model_exact : (model answer : Option (List ℕ)) (status : Status) → EndsWithoutModel model status
    → (verdict : Status) → DecidesRemade model answer verdict → GivesVerdict verdict status
no_model_exact model answer (statuses.BadModel fault) h verdict d = bad_exact model answer fault h verdict d
no_model_exact model answer statuses.ReadFault h verdict d = inl (inr (inl refl))
no_model_exact model answer statuses.Memory h verdict d = inr refl
no_model_exact model answer (statuses.Done done) h verdict d = absurd h
no_model_exact model answer (statuses.Refused fault) h verdict d = absurd h
no_model_exact model answer (statuses.RefusedBlock n fault) h verdict d = absurd h
no_model_exact model answer statuses.WriteFault h verdict d = absurd h
no_model_exact model answer statuses.Usage h verdict d = absurd h
no_model_exact model answer (statuses.Unknown report) h verdict d = absurd h
no_model_exact model answer (statuses.NoProperty n) h verdict d = absurd h
no_model_exact model answer (statuses.TooLarge n) h verdict d = absurd h
no_model_exact model answer (statuses.OpenRounds n spent) h verdict d = absurd h
no_model_exact model answer (statuses.OpenDepth n spent) h verdict d = absurd h
no_model_exact model answer (statuses.NoItem entry clause) h verdict d = absurd h

pub without_exact : (model answer : Option (List ℕ)) (status result : Status) → EndsWithoutModel model status → (result ≡ status) ⊎ (result ≡ statuses.Memory)
    → (verdict : Status) → DecidesRemade model answer verdict → GivesVerdict verdict result
without_exact model answer status result h is verdict d = still verdict status result is (no_model_exact model answer status h verdict d)

-- No answer is accepted.

remade_accepts_none : (end : End) → accepts (remade_status end) ≡ false
unfolding accepts
remade_accepts_none (Ok found) = refl
remade_accepts_none (Err (ends.Refused fault)) = refl
remade_accepts_none (Err ends.ReadFault) = refl
remade_accepts_none (Err ends.Memory) = refl

pub remade_shown : (M : Made) (c : Circuit) (end : Held) (result : Result Ending Status) → IsRemade M c end result
    → (a : Judged) → status_in result ≡ statuses.Done (done_by a) → ⊥
remade_shown M c end result r a is = not_both a (remade_status (accepted_in end)) (status_in result) (remade_accepts_none (accepted_in end)) (remade_ends M c end result r) is

-- Reads and silence.

made_unread : (P : List ℕ → Type 0) (result : Result Ending Status) → IsMade P result → is_read_fault (status_in result) ≡ false
made_unread P (Ok ending) h = ap is_read_fault h.0
made_unread P (Err other) h = ap is_read_fault h

-- the status says that a read failed exactly where the loading ended so
pub remade_unread : (M : Made) (c : Circuit) (end : Held) (result : Result Ending Status) → IsRemade M c end result → is_read_fault (status_in result) ≡ has_unread end
remade_unread M c (Ok loaded) result h = made_unread (IsMadeOf M c loaded) result h
remade_unread M c (Err (ends.Refused fault)) result h = written_unread result (statuses.Refused fault) (text_of (statuses.Refused fault)) refl h
remade_unread M c (Err ends.ReadFault) result h = ap (λ (r : Result Ending Status). is_read_fault (status_in r)) h
remade_unread M c (Err ends.Memory) result h = ap (λ (r : Result Ending Status). is_read_fault (status_in r)) h

unread_held : (end : Held) → has_unread end ≡ true → end ≡ Err ends.ReadFault
unread_held (Ok loaded) e = absurd (cc e)
unread_held (Err (ends.Refused fault)) e = absurd (cc e)
unread_held (Err ends.ReadFault) e = refl
unread_held (Err ends.Memory) e = absurd (cc e)

pub remade_failed : (M : Made) (c : Circuit) (end : Held) (result : Result Ending Status) → IsRemade M c end result → status_in result ≡ statuses.ReadFault → end ≡ Err ends.ReadFault
remade_failed M c end result r e = unread_held end (sym (remade_unread M c end result r) ∙ ap is_read_fault e)

pub remade_silent : (M : Made) (c : Circuit) (end : Held) (result : Result Ending Status) → IsRemade M c end result → IfErr result IsSilent
remade_silent M c end (Ok ending) r = tt
remade_silent M c (Ok loaded) (Err other) r = inr r
remade_silent M c (Err (ends.Refused fault)) (Err other) r = inr r
remade_silent M c (Err ends.ReadFault) (Err other) r = inl (ap status_in r)
remade_silent M c (Err ends.Memory) (Err other) r = inr (ap status_in r)

pub remade_aloud : (M : Made) (c : Circuit) (end : Held) (result : Result Ending Status) → IsRemade M c end result → IfOk result (λ ending. is_read_fault ending.status ≡ false)
remade_aloud M c end (Err other) r = tt
remade_aloud M c (Ok loaded) (Ok ending) r = ap is_read_fault r.0
remade_aloud M c (Err (ends.Refused fault)) (Ok ending) r = ap is_read_fault r.0
remade_aloud M c (Err ends.ReadFault) (Ok ending) r = absurd (cc r)
remade_aloud M c (Err ends.Memory) (Ok ending) r = absurd (cc r)

-- ANSWER was read after a model
pub read_both : {Shelf : Type 0} (Read : ReadsOf Shelf) (held : List ℕ → Option (List ℕ)) (model answer : List ℕ)
    (unread : Bool) (status : Status) (old mid new : Shelf) → is_read_fault status ≡ unread → ReadsModel Read model false old mid → HoldsModel held model
    → Reads Read answer unread mid new → ReadsModelFirst Read held (model ∷ answer ∷ []) (is_read_fault status) old new
read_both Read held model answer unread status old mid new same first holds second =
    inr (mid, first, holds, inl (subst (λ (failed : Bool). Reads Read answer failed mid new) (sym same) second))

-- The writes that a sink saw.

pub of_remade : {Sink : Type 0} (Write : Sink → Bool → Sink → Type 0) (M : Made) (model answer : Option (List ℕ)) (status : Status)
    (text : List ℕ) (old new : Sink) → GivesRemade M model answer status text → Writes Write false old new → HasWritten Write status old new
of_remade Write M model answer status text old new (inl ((fault, e, bad), t)) writes = subst (λ (s : Status). HasWritten Write s old new) (sym e) writes
of_remade Write M model answer status text old new (inr (_, _, (m, _, (_, _, inl (e, made))))) writes = subst (λ (s : Status). HasWritten Write s old new) (sym e) writes
of_remade Write M model answer status text old new (inr (_, _, (m, _, (_, _, inr (fault, none, e, t))))) writes = subst (λ (s : Status). HasWritten Write s old new) (sym e) writes
