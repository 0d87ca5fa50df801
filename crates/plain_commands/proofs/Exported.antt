-- What `export` gives, from the model and the end of the loading of the answer.
use Rattle.std.proofs.Common.{◌≡◌, ◌⊎◌, ℕ, Bool, true, false, List, Some, refl, sym, ◌∙◌, ap, subst, inl, inr, Ok, Err}
use Rattle.std.specs.Prelude.{Option, Result, IfOk, IfErr}
use Rattle.aig_semantics.specs.Circuits.{Circuit}
use Rattle.aiger_grammar.specs.Models.{Model}
use Rattle.circuit.specs.declared.faults.ModelFault.{ModelFault}
use Rattle.command_lines.specs.declared.commands.exporting.ExportRequest.{ExportRequest}
use Rattle.edge.specs.Writes.{Writes}
use Rattle.sheet_answers.specs.declared.ends.Judged.{Judged}
use Rattle.certificate.specs.declared.ends.Accepted.{Accepted}
use Rattle.certificate.specs.declared.ends.AnswerEnd.{AnswerEnd}
use Rattle.certificate.specs.declared.ends.AnswerEnd.TheVariants as ends
use Rattle.certificate.specs.declared.ends.AnswerFault.{AnswerFault}
use Rattle.certificate.specs.declared.loaded.Loaded.{Loaded}
use Rattle.certificate.specs.Ends.{DecidesEnd, CheckSays, EndsWith, has_unread}
use Rattle.certificate.specs.Laws.{HeldIsGood}
use Rattle.certificate.specs.Loading.{HoldsAnswer, IsHeldOf, accepted_of, accepted_in}
use Rattle.cert_tools.specs.Laws.{OneHeld}
use Rattle.cert_tools.specs.Exported.{HasItem}
use Rattle.plain_commands.specs.declared.status.Status.{Status}
use Rattle.plain_commands.specs.declared.status.Status.TheVariants as statuses
use Rattle.plain_commands.specs.declared.status.Done.TheVariants.{Printed}
use Rattle.plain_commands.specs.declared.texts.Ending.{Ending}
use Rattle.plain_commands.specs.ModelGiven.{OfSomeText}
use Rattle.plain_commands.specs.Check.{done_by}
use Rattle.plain_commands.specs.Export.{DecidesItem, EndsExport, GivesExport, DecidesAnswer, DecidesExport}
use Rattle.plain_commands.specs.Exporting.{IsItemEnd, IsExportEnd}
use Rattle.plain_commands.specs.Written.{IsWritten, accepts}
use Rattle.plain_commands.specs.Statuses.{is_read_fault, ends_silently, status_in}
use Rattle.plain_commands.specs.Texts.{text_of}
use Rattle.plain_commands.specs.Answering.{IsSilent, GivesVerdict, HasWritten}
use Rattle.plain_commands.specs.Judged.{IsModelOf, IsFaultOf, EndsWithoutModel}
use Rattle.plain_commands.proofs.Judging.{End, same_bad}
use Rattle.plain_commands.proofs.Written.{written_status, written_unread, still, not_both}

abbrev Held : Type 0
Held = Result Loaded AnswerEnd

-- ---- the text of an item, or none

pub item_written : (result : Result Ending Status) (entry clause : ℕ) → (status_in result ≡ statuses.NoItem entry clause) ⊎ (status_in result ≡ statuses.Memory)
    → IfOk result (λ ending. (ending.status ≡ statuses.NoItem entry clause) × (ending.text.items ≡ text_of (statuses.NoItem entry clause)))
    → IfErr result (λ other. ends_silently other ≡ true) → IsWritten result (statuses.NoItem entry clause) (text_of (statuses.NoItem entry clause))
item_written (Ok ending) entry clause status text silent = text
item_written (Err other) entry clause (inr e) text silent = e
item_written (Err other) entry clause (inl e) text silent = let wrong : false ≡ true = sym (ap ends_silently e) ∙ silent in absurd (cc wrong)

pub no_item_ends : (c : Circuit) (loaded : Loaded) (request : ExportRequest) (result : Result Ending Status) → (HasItem loaded request.entry request.clause → ⊥)
    → IsWritten result (statuses.NoItem request.entry request.clause) (text_of (statuses.NoItem request.entry request.clause)) → IsItemEnd c loaded request result
no_item_ends c loaded request (Ok ending) none h = inr (none, h.0, h.1 ∙ sym (ap text_of h.0))
no_item_ends c loaded request (Err other) none h = h

-- ---- what is so of both texts

of_answer : (request : ExportRequest) (m : Model) (answer : Option (List ℕ)) (end : Held) (ending : Ending) → CheckSays m.circuit answer (accepted_in end)
    → IfOk end (IsHeldOf m.circuit answer) → IsExportEnd m.circuit request end (Ok ending)
    → OfSomeText answer (λ claimed. EndsExport m.circuit claimed request ending.status ending.text.items)
of_answer request m answer (Ok loaded) ending says (text, may, has) h = (text, may, inl (loaded, has, h))
of_answer request m answer (Err (ends.Refused fault)) ending (inl (inr (text, may, bad))) held h = (text, may, inr (fault, bad, h.0, h.1 ∙ sym (ap text_of h.0)))
of_answer request m answer (Err (ends.Refused fault)) ending (inl (inl wrong)) held h = absurd (cc wrong)
of_answer request m answer (Err (ends.Refused fault)) ending (inr wrong) held h = absurd (cc wrong)
of_answer request m answer (Err ends.ReadFault) ending says held h = absurd (cc h)
of_answer request m answer (Err ends.Memory) ending says held h = absurd (cc h)

given : (request : ExportRequest) (m : Model) (model answer : Option (List ℕ)) (end : Held) (result : Result Ending Status) → IsModelOf model m
    → CheckSays m.circuit answer (accepted_in end) → IfOk end (IsHeldOf m.circuit answer) → IsExportEnd m.circuit request end result
    → IfOk result (λ ending. GivesExport model answer request ending.status ending.text.items)
given request m model answer end (Err status) h says held r = tt
given request m model answer end (Ok ending) h says held r = inr (h.text.0, h.text.1, (m, h.text.2, of_answer request m answer end ending says held r))

pub export_given : (request : ExportRequest) (c : Circuit) (m : Model) (model now answer : Option (List ℕ)) (end : Held) (result : Result Ending Status) → c ≡ m.circuit → now ≡ answer
    → IsModelOf model m → CheckSays c now (accepted_in end) → IfOk end (IsHeldOf c now) → IsExportEnd c request end result
    → IfOk result (λ ending. GivesExport model answer request ending.status ending.text.items)
export_given request c m model now answer end result same told h says held r =
    given request m model answer end result h
    (subst (λ (x : Circuit). CheckSays x answer (accepted_in end)) same (subst (λ (t : Option (List ℕ)). CheckSays c t (accepted_in end)) told says))
    (subst (λ (x : Circuit). IfOk end (IsHeldOf x answer)) same (subst (λ (t : Option (List ℕ)). IfOk end (IsHeldOf c t)) told held))
    (subst (λ (x : Circuit). IsExportEnd x request end result) same r)

-- ---- what is decided

answered : (verdict status : Status) → status ≡ verdict → GivesVerdict verdict status
answered verdict status e = inl (inl (inl e))

item_answered : (c : Circuit) (loaded : Loaded) (request : ExportRequest) (result : Result Ending Status) (verdict : Status) → IsItemEnd c loaded request result → DecidesItem loaded request verdict
    → GivesVerdict verdict (status_in result)
item_answered c loaded request (Ok ending) verdict (inl (has, is, text)) (inl (_, e)) = answered verdict ending.status (is ∙ sym e)
item_answered c loaded request (Ok ending) verdict (inl (has, is, text)) (inr (none, e)) = absurd (none has)
item_answered c loaded request (Ok ending) verdict (inr (none, is, text)) (inl (has, e)) = absurd (none has)
item_answered c loaded request (Ok ending) verdict (inr (none, is, text)) (inr (_, e)) = answered verdict ending.status (is ∙ sym e)
item_answered c loaded request (Err other) verdict h decides = inr h

accepted_refused : (a : Accepted) (fault : AnswerFault) → EndsWith (Ok a) (Err (ends.Refused fault)) → ⊥
accepted_refused a fault (inl (inl wrong)) = cc wrong
accepted_refused a fault (inl (inr wrong)) = cc wrong
accepted_refused a fault (inr wrong) = cc wrong

refused_accepted : (a : Accepted) (fault : AnswerFault) → EndsWith (Err (ends.Refused fault)) (Ok a) → ⊥
refused_accepted a fault (inl (inl wrong)) = cc wrong
refused_accepted a fault (inl (inr wrong)) = cc wrong
refused_accepted a fault (inr wrong) = cc wrong

refused_same : (fault other : AnswerFault) → EndsWith (Err (ends.Refused fault)) (Err (ends.Refused other)) → fault ≡ other
refused_same fault other (inl (inl e)) = let same : ◌≡◌ {A = End} (Err (ends.Refused fault)) (Err (ends.Refused other)) = e in cc same
refused_same fault other (inl (inr wrong)) = absurd (cc wrong)
refused_same fault other (inr wrong) = absurd (cc wrong)

-- the laws on which it rests, and what is known of the end
record Loads (c : Circuit) (told : Option (List ℕ)) (end : Held) : Type 0 where
  good : HeldIsGood c
  one : OneHeld c
  exact : (text : List ℕ) (verdict : End) → told ≡ Some text → DecidesEnd c text verdict → EndsWith (accepted_in end) verdict
  held : IfOk end (IsHeldOf c told)

exact_end : (request : ExportRequest) (c : Circuit) (told : Option (List ℕ)) (claimed : List ℕ) (end : Held) (result : Result Ending Status) → told ≡ Some claimed → Loads c told end
    → IsExportEnd c request end result → (verdict : Status) → DecidesAnswer c claimed request verdict → GivesVerdict verdict (status_in result)
exact_end request c told claimed (Ok loaded) result is loads h verdict (inl (other, holds, decides)) =
    let (text, may, has) = loads.held in
    let same : other ≡ loaded = loads.one claimed other loaded holds (subst (λ (t : List ℕ). HoldsAnswer c t loaded) (sym (may claimed is)) has) in
    item_answered c loaded request result verdict h (subst (λ (l : Loaded). DecidesItem l request verdict) same decides)
exact_end request c told claimed (Ok loaded) result is loads h verdict (inr (fault, bad, e)) =
    absurd (accepted_refused (accepted_of loaded) fault (loads.exact claimed (Err (ends.Refused fault)) is bad))
exact_end request c told claimed (Err (ends.Refused fault)) result is loads h verdict (inl (other, holds, decides)) =
    absurd (refused_accepted (accepted_of other) fault (loads.exact claimed (Ok (accepted_of other)) is (loads.good claimed other holds)))
exact_end request c told claimed (Err (ends.Refused fault)) result is loads h verdict (inr (other, bad, e)) =
    let same : fault ≡ other = refused_same fault other (loads.exact claimed (Err (ends.Refused other)) is bad) in
    still verdict (statuses.Refused fault) (status_in result) (written_status result (statuses.Refused fault) (text_of (statuses.Refused fault)) h)
    (answered verdict (statuses.Refused fault) (ap statuses.Refused same ∙ sym e))
exact_end request c told claimed (Err ends.ReadFault) result is loads h verdict decides = inl (inr (inl (ap status_in h)))
exact_end request c told claimed (Err ends.Memory) result is loads h verdict decides = inr (ap status_in h)

exact_by : (request : ExportRequest) (c : Circuit) (m : Model) (model answer : Option (List ℕ)) (end : Held) (result : Result Ending Status) → c ≡ m.circuit → IsModelOf model m → Loads c answer end
    → IsExportEnd c request end result → (verdict : Status) → DecidesExport model answer request verdict → GivesVerdict verdict (status_in result)
exact_by request c m model answer end result same h loads r verdict (inl (fault, e, (text, told, bad))) = absurd (h.faultless text fault told bad)
exact_by request c m model answer end result same h loads r verdict (inr (text, told, (claimed, claim_told, (n, form, said)))) =
    let decided : DecidesAnswer m.circuit claimed request verdict = subst (λ (x : Model). DecidesAnswer x.circuit claimed request verdict) (sym (h.one text n told form)) said in
    exact_end request c answer claimed end result claim_told loads r verdict (subst (λ (x : Circuit). DecidesAnswer x claimed request verdict) (sym same) decided)

pub export_exact : (request : ExportRequest) (c : Circuit) (m : Model) (model now answer : Option (List ℕ)) (end : Held) (result : Result Ending Status) → c ≡ m.circuit → now ≡ answer
    → IsModelOf model m → HeldIsGood c → OneHeld c → ((text : List ℕ) (verdict : End) → now ≡ Some text → DecidesEnd c text verdict → EndsWith (accepted_in end) verdict)
    → IfOk end (IsHeldOf c now) → IsExportEnd c request end result → (verdict : Status) → DecidesExport model answer request verdict → GivesVerdict verdict (status_in result)
export_exact request c m model now answer end result same told h good one exact held r =
    exact_by request c m model answer end result same h
    (record {
      good = good;
      one = one;
      exact = λ text v e. exact text v (told ∙ e);
      held = subst (λ (t : Option (List ℕ)). IfOk end (IsHeldOf c t)) told held;
    }) r

-- ---- where there is no model

pub without_gives : (request : ExportRequest) (model answer : Option (List ℕ)) (status : Status) (result : Result Ending Status) → EndsWithoutModel model status
    → IfOk result (λ ending. (ending.status ≡ status) × (ending.text.items ≡ text_of status)) → IfOk result (λ ending. ends_silently status ≡ false)
    → IfOk result (λ ending. GivesExport model answer request ending.status ending.text.items)
without_gives request model answer status (Err other) h text aloud = tt
without_gives request model answer (statuses.BadModel fault) (Ok ending) h text aloud = inl ((fault, text.0, h.text), text.1 ∙ sym (ap text_of text.0))
without_gives request model answer statuses.ReadFault (Ok ending) h text aloud = absurd (cc aloud)
without_gives request model answer statuses.Memory (Ok ending) h text aloud = absurd (cc aloud)
without_gives request model answer (statuses.Done done) (Ok ending) h text aloud = absurd h
without_gives request model answer (statuses.Refused fault) (Ok ending) h text aloud = absurd h
without_gives request model answer (statuses.RefusedBlock n fault) (Ok ending) h text aloud = absurd h
without_gives request model answer statuses.WriteFault (Ok ending) h text aloud = absurd h
without_gives request model answer statuses.Usage (Ok ending) h text aloud = absurd h
without_gives request model answer (statuses.Unknown report) (Ok ending) h text aloud = absurd h
without_gives request model answer (statuses.NoProperty n) (Ok ending) h text aloud = absurd h
without_gives request model answer (statuses.TooLarge n) (Ok ending) h text aloud = absurd h
without_gives request model answer (statuses.OpenRounds n spent) (Ok ending) h text aloud = absurd h
without_gives request model answer (statuses.OpenDepth n spent) (Ok ending) h text aloud = absurd h
without_gives request model answer (statuses.NoItem entry clause) (Ok ending) h text aloud = absurd h

bad_exact : (request : ExportRequest) (model answer : Option (List ℕ)) (fault : ModelFault) → IsFaultOf model fault
    → (verdict : Status) → DecidesExport model answer request verdict → GivesVerdict verdict (statuses.BadModel fault)
bad_exact request model answer fault h verdict (inl (other, e, (text, told, bad))) =
    subst (λ (v : Status). GivesVerdict v (statuses.BadModel fault)) (sym e) (same_bad fault other (h.one text other told bad))
bad_exact request model answer fault h verdict (inr (text, told, (claimed, claim_told, (m, form, said)))) = absurd (h.none text m told form)

no_model_exact : (request : ExportRequest) (model answer : Option (List ℕ)) (status : Status) → EndsWithoutModel model status
    → (verdict : Status) → DecidesExport model answer request verdict → GivesVerdict verdict status
no_model_exact request model answer (statuses.BadModel fault) h verdict d = bad_exact request model answer fault h verdict d
no_model_exact request model answer statuses.ReadFault h verdict d = inl (inr (inl refl))
no_model_exact request model answer statuses.Memory h verdict d = inr refl
no_model_exact request model answer (statuses.Done done) h verdict d = absurd h
no_model_exact request model answer (statuses.Refused fault) h verdict d = absurd h
no_model_exact request model answer (statuses.RefusedBlock n fault) h verdict d = absurd h
no_model_exact request model answer statuses.WriteFault h verdict d = absurd h
no_model_exact request model answer statuses.Usage h verdict d = absurd h
no_model_exact request model answer (statuses.Unknown report) h verdict d = absurd h
no_model_exact request model answer (statuses.NoProperty n) h verdict d = absurd h
no_model_exact request model answer (statuses.TooLarge n) h verdict d = absurd h
no_model_exact request model answer (statuses.OpenRounds n spent) h verdict d = absurd h
no_model_exact request model answer (statuses.OpenDepth n spent) h verdict d = absurd h
no_model_exact request model answer (statuses.NoItem entry clause) h verdict d = absurd h

pub without_exact : (request : ExportRequest) (model answer : Option (List ℕ)) (status result : Status) → EndsWithoutModel model status → (result ≡ status) ⊎ (result ≡ statuses.Memory)
    → (verdict : Status) → DecidesExport model answer request verdict → GivesVerdict verdict result
without_exact request model answer status result h is verdict d = still verdict status result is (no_model_exact request model answer status h verdict d)

-- ---- no answer is accepted

-- its status is of no accepted answer, or it is want of memory
none_accepted : (request : ExportRequest) (c : Circuit) (end : Held) (result : Result Ending Status) → IsExportEnd c request end result
    → (status : Status) × (accepts status ≡ false) × ((status_in result ≡ status) ⊎ (status_in result ≡ statuses.Memory))
unfolding accepts
none_accepted request c (Ok loaded) (Ok ending) (inl (has, is, text)) = (statuses.Done Printed, refl, inl is)
none_accepted request c (Ok loaded) (Ok ending) (inr (none, is, text)) = (statuses.NoItem request.entry request.clause, refl, inl is)
none_accepted request c (Ok loaded) (Err other) h = (statuses.Memory, refl, inr h)
none_accepted request c (Err (ends.Refused fault)) result h = (statuses.Refused fault, refl, written_status result (statuses.Refused fault) (text_of (statuses.Refused fault)) h)
none_accepted request c (Err ends.ReadFault) result h = (statuses.ReadFault, refl, inl (ap status_in h))
none_accepted request c (Err ends.Memory) result h = (statuses.Memory, refl, inl (ap status_in h))

pub export_shown : (request : ExportRequest) (c : Circuit) (end : Held) (result : Result Ending Status) → IsExportEnd c request end result
    → (a : Judged) → status_in result ≡ statuses.Done (done_by a) → ⊥
export_shown request c end result r a is = (let (status, none, either) = none_accepted request c end result r in not_both a status (status_in result) none either is)

-- ---- reads and silence

item_unread : (c : Circuit) (loaded : Loaded) (request : ExportRequest) (result : Result Ending Status) → IsItemEnd c loaded request result → is_read_fault (status_in result) ≡ false
item_unread c loaded request (Ok ending) (inl (has, is, text)) = ap is_read_fault is
item_unread c loaded request (Ok ending) (inr (none, is, text)) = ap is_read_fault is
item_unread c loaded request (Err other) h = ap is_read_fault h

-- the status says that a read failed exactly where the loading ended so
pub export_unread : (request : ExportRequest) (c : Circuit) (end : Held) (result : Result Ending Status) → IsExportEnd c request end result → is_read_fault (status_in result) ≡ has_unread end
export_unread request c (Ok loaded) result h = item_unread c loaded request result h
export_unread request c (Err (ends.Refused fault)) result h = written_unread result (statuses.Refused fault) (text_of (statuses.Refused fault)) refl h
export_unread request c (Err ends.ReadFault) result h = ap (λ (r : Result Ending Status). is_read_fault (status_in r)) h
export_unread request c (Err ends.Memory) result h = ap (λ (r : Result Ending Status). is_read_fault (status_in r)) h

unread_held : (end : Held) → has_unread end ≡ true → end ≡ Err ends.ReadFault
unread_held (Ok loaded) e = absurd (cc e)
unread_held (Err (ends.Refused fault)) e = absurd (cc e)
unread_held (Err ends.ReadFault) e = refl
unread_held (Err ends.Memory) e = absurd (cc e)

pub export_failed : (request : ExportRequest) (c : Circuit) (end : Held) (result : Result Ending Status) → IsExportEnd c request end result → status_in result ≡ statuses.ReadFault → end ≡ Err ends.ReadFault
export_failed request c end result r e = unread_held end (sym (export_unread request c end result r) ∙ ap is_read_fault e)

pub export_silent : (request : ExportRequest) (c : Circuit) (end : Held) (result : Result Ending Status) → IsExportEnd c request end result → IfErr result IsSilent
export_silent request c end (Ok ending) r = tt
export_silent request c (Ok loaded) (Err other) r = inr r
export_silent request c (Err (ends.Refused fault)) (Err other) r = inr r
export_silent request c (Err ends.ReadFault) (Err other) r = inl (ap status_in r)
export_silent request c (Err ends.Memory) (Err other) r = inr (ap status_in r)

pub export_aloud : (request : ExportRequest) (c : Circuit) (end : Held) (result : Result Ending Status) → IsExportEnd c request end result → IfOk result (λ ending. is_read_fault ending.status ≡ false)
export_aloud request c end (Err other) r = tt
export_aloud request c (Ok loaded) (Ok ending) r = item_unread c loaded request (Ok ending) r
export_aloud request c (Err (ends.Refused fault)) (Ok ending) r = ap is_read_fault r.0
export_aloud request c (Err ends.ReadFault) (Ok ending) r = absurd (cc r)
export_aloud request c (Err ends.Memory) (Ok ending) r = absurd (cc r)

-- ---- the writes that a sink saw

pub of_export : {Sink : Type 0} (Write : Sink → Bool → Sink → Type 0) (request : ExportRequest) (model answer : Option (List ℕ)) (status : Status)
    (text : List ℕ) (old new : Sink) → GivesExport model answer request status text → Writes Write false old new → HasWritten Write status old new
of_export Write request model answer status text old new (inl ((fault, e, bad), t)) writes = subst (λ (s : Status). HasWritten Write s old new) (sym e) writes
of_export Write request model answer status text old new (inr (_, _, (m, _, (_, _, inl (loaded, has, inl (there, e, item)))))) writes =
    subst (λ (s : Status). HasWritten Write s old new) (sym e) writes
of_export Write request model answer status text old new (inr (_, _, (m, _, (_, _, inl (loaded, has, inr (none, e, t)))))) writes =
    subst (λ (s : Status). HasWritten Write s old new) (sym e) writes
of_export Write request model answer status text old new (inr (_, _, (m, _, (_, _, inr (fault, bad, e, t))))) writes =
    subst (λ (s : Status). HasWritten Write s old new) (sym e) writes
