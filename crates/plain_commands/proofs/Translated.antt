-- What `safety` gives, from the model and from what it comes to for the circuit.
use Rattle.std.proofs.Common.{◌≡◌, ◌⊎◌, ◌↔◌, ◌≤◌, ℕ, Bool, false, List, length, refl, sym, ◌∙◌, ap, subst, inl, inr, arith, Ok, Err}
use Rattle.std.specs.Prelude.{Option, Result, IfOk, IfErr}
use Rattle.aig_semantics.specs.Circuits.{Circuit}
use Rattle.aiger_grammar.specs.Models.{Model}
use Rattle.circuit.specs.declared.faults.ModelFault.{ModelFault}
use Rattle.edge.specs.Writes.{Writes}
use Rattle.certificate.specs.declared.ends.Accepted.TheVariants as accepted
use Rattle.sheet_answers.specs.declared.ends.Judged.{Judged}
use Rattle.round_answers.specs.declared.ends.Judged.TheVariants as texts
use Rattle.sheet_answers.specs.declared.ends.Judged.TheVariants as found_as
use Rattle.aig_semantics.specs.declared.limits.TheConstants.{MAX_MODEL_BYTES}
use Rattle.aiger_grammar.specs.Spelling.{ascii_text, HasAsciiForm}
use Rattle.aiger_grammar.specs.AsciiTexts.{IsAsciiTextOf}
use Rattle.live_to_safe.specs.BadRuns.{HasBadRun, HasFairLasso}
use Rattle.live_to_safe.specs.Numbers.{sizes_of, greatest}
use Rattle.live_to_safe.specs.Translation.{safety_model}
use Rattle.live_to_safe.specs.Ends.{IsTranslatable}
use Rattle.plain_commands.specs.declared.status.Status.{Status}
use Rattle.plain_commands.specs.declared.status.Status.TheVariants as statuses
use Rattle.plain_commands.specs.declared.status.Done.TheVariants.{Printed}
use Rattle.plain_commands.specs.declared.texts.Ending.{Ending}
use Rattle.plain_commands.specs.Check.{done_by}
use Rattle.plain_commands.specs.Safety.{DecidesFor, EndsSafety, GivesSafety, DecidesSafety}
use Rattle.plain_commands.specs.Statuses.{is_read_fault, ends_silently, status_in}
use Rattle.plain_commands.specs.Texts.{text_of}
use Rattle.plain_commands.specs.Answering.{GivesVerdict, HasWritten}
use Rattle.plain_commands.specs.Judged.{IsModelOf, IsFaultOf, EndsWithoutModel}
use Rattle.plain_commands.proofs.Judging.{same_bad}

-- What is printed.

pub is_printed : (c : Circuit) (j : ℕ) (m : Model) (text : List ℕ) → m ≡ safety_model c j → IsTranslatable c j → (HasBadRun m ↔ HasFairLasso c j)
    → text ≡ ascii_text m → HasAsciiForm m text → (length text ≤ MAX_MODEL_BYTES → IsAsciiTextOf m text) → EndsSafety c j (statuses.Done Printed) text
is_printed c j m text is able exact spelled stands read =
    inr (inr (
      (refl, able),
      record {
        spelled = spelled ∙ ap ascii_text is;
        stands = subst (λ (x : Model). HasAsciiForm x text) is stands;
        read = λ short. subst (λ (x : Model). IsAsciiTextOf x text) is (read short);
        exact = subst (λ (x : Model). HasBadRun x ↔ HasFairLasso c j) is exact;
      },
    ))

-- Where the model was read.

pub translated_gives : (c : Circuit) (m : Model) (told : Option (List ℕ)) (j : ℕ) (result : Result Ending Status) → c ≡ m.circuit → IsModelOf told m
    → IfOk result (λ ending. EndsSafety c j ending.status ending.text.items)
    → IfOk result (λ ending. GivesSafety told j ending.status ending.text.items)
translated_gives c m told j (Err status) same h ends = tt
translated_gives c m told j (Ok ending) same h ends =
    inr (h.text.0, h.text.1, (m, h.text.2, subst (λ (k : Circuit). EndsSafety k j ending.status ending.text.items) same ends))

-- of a circuit one status is right
one_decided : (c : Circuit) (j : ℕ) (a b : Status) → DecidesFor c j a → DecidesFor c j b → a ≡ b
one_decided c j a b (inl (e, none)) (inl (f, other)) = e ∙ sym f
one_decided c j a b (inl (e, none)) (inr (inl (f, large))) = let there = large.property in absurd (omega (arith, none, there))
one_decided c j a b (inl (e, none)) (inr (inr (f, able))) = let there = able.property in absurd (omega (arith, none, there))
one_decided c j a b (inr (inl (e, large))) (inl (f, none)) = let there = large.property in absurd (omega (arith, none, there))
one_decided c j a b (inr (inl (e, large))) (inr (inl (f, other))) = e ∙ sym f
one_decided c j a b (inr (inl (e, large))) (inr (inr (f, able))) = let more = large.size in let most = able.size in absurd (omega (arith, more, most))
one_decided c j a b (inr (inr (e, able))) (inl (f, none)) = let there = able.property in absurd (omega (arith, none, there))
one_decided c j a b (inr (inr (e, able))) (inr (inl (f, large))) = let more = large.size in let most = able.size in absurd (omega (arith, more, most))
one_decided c j a b (inr (inr (e, able))) (inr (inr (f, other))) = e ∙ sym f

decided : (c : Circuit) (j : ℕ) (status : Status) (text : List ℕ) → EndsSafety c j status text → DecidesFor c j status
decided c j status text (inl (h, t)) = inl h
decided c j status text (inr (inl (h, t))) = inr (inl h)
decided c j status text (inr (inr (h, t))) = inr (inr h)

pub translated_exact : (c : Circuit) (m : Model) (told : Option (List ℕ)) (j : ℕ) (result : Result Ending Status) → c ≡ m.circuit → IsModelOf told m
    → IfOk result (λ ending. EndsSafety c j ending.status ending.text.items) → IfErr result (λ status. status ≡ statuses.Memory)
    → (verdict : Status) → DecidesSafety told j verdict → GivesVerdict verdict (status_in result)
translated_exact c m told j result same h ends ended verdict (inl (fault, e, (text, is, bad))) = absurd (h.faultless text fault is bad)
translated_exact c m told j (Err status) same h ends ended verdict (inr (text, is, (n, form, d))) = inr ended
translated_exact c m told j (Ok ending) same h ends ended verdict (inr (text, is, (n, form, d))) =
    let circuits : n.circuit ≡ c = ap (λ (x : Model). x.circuit) (sym (h.one text n is form)) ∙ sym same in
    inl (inl (inl (one_decided c j ending.status verdict (decided c j ending.status ending.text.items ends)
    (subst (λ (k : Circuit). DecidesFor k j verdict) circuits d))))

-- no answer is accepted
not_accepted : (c : Circuit) (j : ℕ) (status : Status) (a : Judged) → DecidesFor c j status → status ≡ statuses.Done (done_by a) → ⊥
not_accepted c j status a (inl (e, h)) is = let wrong : statuses.NoProperty j ≡ statuses.Done (done_by a) = sym e ∙ is in cc
not_accepted c j status a (inr (inl (e, h))) is = let wrong : statuses.TooLarge (greatest (sizes_of c j)) ≡ statuses.Done (done_by a) = sym e ∙ is in cc
not_accepted c j status (found_as.Text (texts.Answer (accepted.Lasso n positions from))) (inr (inr (e, h))) is = let wrong : statuses.Done Printed ≡ statuses.Done (done_by (found_as.Text (texts.Answer (accepted.Lasso n positions from)))) = sym e ∙ is in cc
not_accepted c j status (found_as.Text (texts.Answer (accepted.Holds n entries))) (inr (inr (e, h))) is = let wrong : statuses.Done Printed ≡ statuses.Done (done_by (found_as.Text (texts.Answer (accepted.Holds n entries)))) = sym e ∙ is in cc
not_accepted c j status (found_as.Text (texts.Rounds n k r)) (inr (inr (e, h))) is = let wrong : statuses.Done Printed ≡ statuses.Done (done_by (found_as.Text (texts.Rounds n k r))) = sym e ∙ is in cc
not_accepted c j status (found_as.Sheet counts entries) (inr (inr (e, h))) is = let wrong : statuses.Done Printed ≡ statuses.Done (done_by (found_as.Sheet counts entries)) = sym e ∙ is in cc

pub translated_shown : (c : Circuit) (j : ℕ) (result : Result Ending Status)
    → IfOk result (λ ending. EndsSafety c j ending.status ending.text.items) → IfErr result (λ status. status ≡ statuses.Memory)
    → (a : Judged) → status_in result ≡ statuses.Done (done_by a) → ⊥
translated_shown c j (Err status) ends ended a is = let wrong : statuses.Memory ≡ statuses.Done (done_by a) = sym ended ∙ is in cc
translated_shown c j (Ok ending) ends ended a is = not_accepted c j ending.status a (decided c j ending.status ending.text.items ends) is

unread : (c : Circuit) (j : ℕ) (status : Status) → DecidesFor c j status → is_read_fault status ≡ false
unread c j status (inl (e, h)) = ap is_read_fault e
unread c j status (inr (inl (e, h))) = ap is_read_fault e
unread c j status (inr (inr (e, h))) = ap is_read_fault e

pub translated_unread : (c : Circuit) (j : ℕ) (result : Result Ending Status)
    → IfOk result (λ ending. EndsSafety c j ending.status ending.text.items) → IfErr result (λ status. status ≡ statuses.Memory)
    → is_read_fault (status_in result) ≡ false
translated_unread c j (Err status) ends ended = ap is_read_fault ended
translated_unread c j (Ok ending) ends ended = unread c j ending.status (decided c j ending.status ending.text.items ends)

-- Where there is no model.

pub without_gives : (model : Option (List ℕ)) (j : ℕ) (status : Status) (result : Result Ending Status) → EndsWithoutModel model status
    → IfOk result (λ ending. (ending.status ≡ status) × (ending.text.items ≡ text_of status)) → IfOk result (λ ending. ends_silently status ≡ false)
    → IfOk result (λ ending. GivesSafety model j ending.status ending.text.items)
without_gives model j status (Err other) h text aloud = tt
without_gives model j (statuses.BadModel fault) (Ok ending) h text aloud = inl ((fault, text.0, h.text), text.1 ∙ sym (ap text_of text.0))
without_gives model j statuses.ReadFault (Ok ending) h text aloud = absurd (cc aloud)
without_gives model j statuses.Memory (Ok ending) h text aloud = absurd (cc aloud)
without_gives model j (statuses.Done done) (Ok ending) h text aloud = absurd h
without_gives model j (statuses.Refused fault) (Ok ending) h text aloud = absurd h
without_gives model j (statuses.RefusedBlock n fault) (Ok ending) h text aloud = absurd h
without_gives model j statuses.WriteFault (Ok ending) h text aloud = absurd h
without_gives model j statuses.Usage (Ok ending) h text aloud = absurd h
without_gives model j (statuses.Unknown report) (Ok ending) h text aloud = absurd h
without_gives model j (statuses.NoProperty n) (Ok ending) h text aloud = absurd h
without_gives model j (statuses.TooLarge n) (Ok ending) h text aloud = absurd h
without_gives model j (statuses.OpenRounds n spent) (Ok ending) h text aloud = absurd h
without_gives model j (statuses.OpenDepth n spent) (Ok ending) h text aloud = absurd h
without_gives model j (statuses.NoItem entry clause) (Ok ending) h text aloud = absurd h

bad_exact : (model : Option (List ℕ)) (j : ℕ) (fault : ModelFault) → IsFaultOf model fault
    → (verdict : Status) → DecidesSafety model j verdict → GivesVerdict verdict (statuses.BadModel fault)
bad_exact model j fault h verdict (inl (other, e, (text, told, bad))) =
    subst (λ (v : Status). GivesVerdict v (statuses.BadModel fault)) (sym e) (same_bad fault other (h.one text other told bad))
bad_exact model j fault h verdict (inr (text, told, (m, form, d))) = absurd (h.none text m told form)

no_model_exact : (model : Option (List ℕ)) (j : ℕ) (status : Status) → EndsWithoutModel model status
    → (verdict : Status) → DecidesSafety model j verdict → GivesVerdict verdict status
no_model_exact model j (statuses.BadModel fault) h verdict d = bad_exact model j fault h verdict d
no_model_exact model j statuses.ReadFault h verdict d = inl (inr (inl refl))
no_model_exact model j statuses.Memory h verdict d = inr refl
no_model_exact model j (statuses.Done done) h verdict d = absurd h
no_model_exact model j (statuses.Refused fault) h verdict d = absurd h
no_model_exact model j (statuses.RefusedBlock n fault) h verdict d = absurd h
no_model_exact model j statuses.WriteFault h verdict d = absurd h
no_model_exact model j statuses.Usage h verdict d = absurd h
no_model_exact model j (statuses.Unknown report) h verdict d = absurd h
no_model_exact model j (statuses.NoProperty n) h verdict d = absurd h
no_model_exact model j (statuses.TooLarge n) h verdict d = absurd h
no_model_exact model j (statuses.OpenRounds n spent) h verdict d = absurd h
no_model_exact model j (statuses.OpenDepth n spent) h verdict d = absurd h
no_model_exact model j (statuses.NoItem entry clause) h verdict d = absurd h

pub without_exact : (model : Option (List ℕ)) (j : ℕ) (status result : Status) → EndsWithoutModel model status → (result ≡ status) ⊎ (result ≡ statuses.Memory)
    → (verdict : Status) → DecidesSafety model j verdict → GivesVerdict verdict result
without_exact model j status result h (inl same) verdict d = subst (λ (s : Status). GivesVerdict verdict s) (sym same) (no_model_exact model j status h verdict d)
without_exact model j status result h (inr memory) verdict d = inr memory

-- The writes that a sink saw.

pub of_safety : {Sink : Type 0} (Write : Sink → Bool → Sink → Type 0) (model : Option (List ℕ)) (j : ℕ) (status : Status)
    (text : List ℕ) (old new : Sink) → GivesSafety model j status text → Writes Write false old new → HasWritten Write status old new
of_safety Write model j status text old new (inl ((fault, e, bad), t)) writes = subst (λ (s : Status). HasWritten Write s old new) (sym e) writes
of_safety Write model j status text old new (inr (_, _, (m, _, inl ((e, h), t)))) writes = subst (λ (s : Status). HasWritten Write s old new) (sym e) writes
of_safety Write model j status text old new (inr (_, _, (m, _, inr (inl ((e, h), t))))) writes = subst (λ (s : Status). HasWritten Write s old new) (sym e) writes
of_safety Write model j status text old new (inr (_, _, (m, _, inr (inr ((e, h), t))))) writes = subst (λ (s : Status). HasWritten Write s old new) (sym e) writes
