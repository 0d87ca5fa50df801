-- The verdict on both texts, from the model and the end of the check.
use Rattle.std.proofs.Common.{◌≡◌, ◌⊎◌, ℕ, ◌≤◌, Bool, false, List, [], ◌∷◌, Some, refl, sym, ◌∙◌, ap, subst, inl, inr, arith, Ok, Err}
use Rattle.std.specs.Prelude.{Option, Result, IfOk}
use Rattle.aig_semantics.specs.Circuits.{Circuit}
use Rattle.aiger_grammar.specs.Models.{Model}
use Rattle.aiger_grammar.specs.BothForms.{SameFault}
use Rattle.circuit.specs.declared.faults.ModelFault.{ModelFault}
use Rattle.edge.specs.Faults.{Rose}
use Rattle.edge.specs.Reads.{ReadsOf, Reads}
use Rattle.certificate.specs.declared.ends.Accepted.{Accepted}
use Rattle.certificate.specs.declared.ends.Accepted.TheVariants as accepted
use Rattle.certificate.specs.declared.ends.AnswerEnd.{AnswerEnd}
use Rattle.certificate.specs.declared.ends.AnswerEnd.TheVariants as answers
use Rattle.sheet_answers.specs.declared.ends.Judged.{Judged}
use Rattle.round_answers.specs.declared.ends.Judged.{Judged as TextJudged}
use Rattle.round_answers.specs.declared.ends.Judged.TheVariants as texts
use Rattle.round_answers.specs.declared.ends.JudgeEnd.TheVariants as text_ends
use Rattle.sheet_answers.specs.declared.counts.Counts.{Counts}
use Rattle.sheet_answers.specs.declared.ends.Judged.TheVariants as found_as
use Rattle.sheet_answers.specs.declared.ends.JudgeEnd.{JudgeEnd}
use Rattle.sheet_answers.specs.declared.ends.JudgeEnd.TheVariants as ends
use Rattle.sheet_answers.specs.Ends.{Decides, ShowsText, JudgeSays, EndsWith, end_unread, has_unread, read_fault}
use Rattle.plain_commands.specs.declared.status.Status.{Status}
use Rattle.plain_commands.specs.declared.status.Status.TheVariants as statuses
use Rattle.plain_commands.specs.ModelTexts.{IsModelText}
use Rattle.plain_commands.specs.ModelGiven.{OfSomeText}
use Rattle.plain_commands.specs.Check.{done_of, done_of_text, done_by, status_of, status_of_end, JudgesAs, DecidesCheck, ShownByCheck}
use Rattle.plain_commands.specs.Statuses.{is_read_fault}
use Rattle.plain_commands.specs.Answering.{IsSilent, GivesVerdict, HoldsModel, ReadsModel, ReadsModelFirst}
use Rattle.plain_commands.specs.Judged.{IsModelOf, IsFaultOf, EndsWithoutModel}

abbrev pub End : Type 0
End = Result Accepted AnswerEnd

abbrev TextEnd : Type 0
TextEnd = Result Judged JudgeEnd

-- Where the model was read.

-- a text that is told is the model's
pub told_form : (told : Option (List ℕ)) (m : Model) → IsModelOf told m → (text : List ℕ) → told ≡ Some text → IsModelText m text
told_form told m h text e = subst (IsModelText m) (sym (h.text.1 text e)) h.text.2

says : (m : Model) (model answer : Option (List ℕ)) (end : TextEnd) → IsModelOf model m → JudgeSays m.circuit answer end
    → JudgesAs OfSomeText model answer (status_of end) ⊎ IsSilent (status_of end)
says m model answer end h (inl (inl e)) = inr (inl (ap status_of e))
says m model answer end h (inl (inr r)) = inl (inr (end, refl, (h.text.0, h.text.1, (r.0, r.1, (m, h.text.2, r.2)))))
says m model answer end h (inr e) = inr (inr (ap status_of e))

pub judged : (c : Circuit) (m : Model) (model now answer : Option (List ℕ)) (end : TextEnd) → c ≡ m.circuit → now ≡ answer
    → IsModelOf model m → JudgeSays c now end → JudgesAs OfSomeText model answer (status_of end) ⊎ IsSilent (status_of end)
judged c m model now answer end same kept h r =
    says m model answer end h (subst (λ (x : Circuit). JudgeSays x answer end) same (subst (λ (told : Option (List ℕ)). JudgeSays c told end) kept r))

as_status : (end verdict : TextEnd) → EndsWith end verdict → GivesVerdict (status_of verdict) (status_of end)
as_status end verdict h = elim h [
  | inl other ↦ elim other [ inl e ↦ inl (inl (inl (ap status_of e))) | inr e ↦ inl (inr (inl (ap status_of e))) ]
  | inr e ↦ inr (ap status_of e)
]

exact_by : (m : Model) (model answer : Option (List ℕ)) (end : TextEnd) → IsModelOf model m
    → ((text : List ℕ) (verdict : TextEnd) → answer ≡ Some text → Decides m.circuit text verdict → EndsWith end verdict)
    → (verdict : Status) → DecidesCheck model answer verdict → GivesVerdict verdict (status_of end)
exact_by m model answer end h exact verdict (inl (fault, e, (text, told, bad))) = absurd (h.faultless text fault told bad)
exact_by m model answer end h exact verdict (inr (other, e, (text, told, (claimed, claim_told, (n, form, said))))) =
    let decided : Decides m.circuit claimed other = subst (λ (x : Model). Decides x.circuit claimed other) (sym (h.one text n told form)) said in
    subst (λ (v : Status). GivesVerdict v (status_of end)) (sym e) (as_status end other (exact claimed other claim_told decided))

pub judged_exact : (c : Circuit) (m : Model) (model now answer : Option (List ℕ)) (end : TextEnd) → c ≡ m.circuit → now ≡ answer → IsModelOf model m
    → ((text : List ℕ) (verdict : TextEnd) → now ≡ Some text → Decides c text verdict → EndsWith end verdict)
    → (verdict : Status) → DecidesCheck model answer verdict → GivesVerdict verdict (status_of end)
judged_exact c m model now answer end same kept h exact =
    exact_by m model answer end h (λ text verdict e d. exact text verdict (kept ∙ e) (subst (λ (x : Circuit). Decides x text verdict) (sym same) d))

pub failed_end : (end : JudgeEnd) → status_of_end end ≡ statuses.ReadFault → end ≡ ends.Text (text_ends.Answer answers.ReadFault)
failed_end (ends.Text (text_ends.Answer (answers.Refused fault))) e = cc
failed_end (ends.Text (text_ends.Answer answers.ReadFault)) e = refl
failed_end (ends.Text (text_ends.Answer answers.Memory)) e = cc
failed_end (ends.Text (text_ends.TooLarge n)) e = cc
failed_end (ends.Block n fault) e = cc

pub read_failed : (end : TextEnd) → status_of end ≡ statuses.ReadFault → end ≡ read_fault
read_failed (Ok found) e = cc
read_failed (Err end) e = ap Err (failed_end end e)

-- Where it was not.

pub without_model : (model answer : Option (List ℕ)) (status : Status) → EndsWithoutModel model status → JudgesAs OfSomeText model answer status ⊎ IsSilent status
without_model model answer (statuses.BadModel fault) h = inl (inl (fault, refl, h.text))
without_model model answer statuses.ReadFault h = inr (inl refl)
without_model model answer statuses.Memory h = inr (inr refl)
without_model model answer (statuses.Done done) h = absurd h
without_model model answer (statuses.Refused fault) h = absurd h
without_model model answer (statuses.RefusedBlock n fault) h = absurd h
without_model model answer statuses.WriteFault h = absurd h
without_model model answer statuses.Usage h = absurd h
without_model model answer (statuses.Unknown report) h = absurd h
without_model model answer (statuses.NoProperty n) h = absurd h
without_model model answer (statuses.TooLarge n) h = absurd h
without_model model answer (statuses.OpenRounds n spent) h = absurd h
without_model model answer (statuses.OpenDepth n spent) h = absurd h
without_model model answer (statuses.NoItem entry clause) h = absurd h

pub same_bad : (f g : ModelFault) → SameFault f g → GivesVerdict (statuses.BadModel g) (statuses.BadModel f)
same_bad f g h = elim h [
  | inl e ↦ inl (inl (inl (ap statuses.BadModel e)))
  | inr two ↦ inl (inl (inr (two.0, two.1, ap statuses.BadModel two.2, ap statuses.BadModel two.3)))
]

bad_exact : (model answer : Option (List ℕ)) (fault : ModelFault) → IsFaultOf model fault
    → (verdict : Status) → DecidesCheck model answer verdict → GivesVerdict verdict (statuses.BadModel fault)
bad_exact model answer fault h verdict (inl (other, e, (text, told, bad))) =
    subst (λ (v : Status). GivesVerdict v (statuses.BadModel fault)) (sym e) (same_bad fault other (h.one text other told bad))
bad_exact model answer fault h verdict (inr (other, e, (text, told, (claimed, claim_told, (m, form, said))))) = absurd (h.none text m told form)

pub without_model_exact : (model answer : Option (List ℕ)) (status : Status) → EndsWithoutModel model status
    → (verdict : Status) → DecidesCheck model answer verdict → GivesVerdict verdict status
without_model_exact model answer (statuses.BadModel fault) h verdict d = bad_exact model answer fault h verdict d
without_model_exact model answer statuses.ReadFault h verdict d = inl (inr (inl refl))
without_model_exact model answer statuses.Memory h verdict d = inr refl
without_model_exact model answer (statuses.Done done) h verdict d = absurd h
without_model_exact model answer (statuses.Refused fault) h verdict d = absurd h
without_model_exact model answer (statuses.RefusedBlock n fault) h verdict d = absurd h
without_model_exact model answer statuses.WriteFault h verdict d = absurd h
without_model_exact model answer statuses.Usage h verdict d = absurd h
without_model_exact model answer (statuses.Unknown report) h verdict d = absurd h
without_model_exact model answer (statuses.NoProperty n) h verdict d = absurd h
without_model_exact model answer (statuses.TooLarge n) h verdict d = absurd h
without_model_exact model answer (statuses.OpenRounds n spent) h verdict d = absurd h
without_model_exact model answer (statuses.OpenDepth n spent) h verdict d = absurd h
without_model_exact model answer (statuses.NoItem entry clause) h verdict d = absurd h

-- What is shown.

same_answer : (a b : Accepted) → ◌≡◌ {A = Status} (statuses.Done (done_of a)) (statuses.Done (done_of b)) → a ≡ b
same_answer (accepted.Lasso j p f) (accepted.Lasso k q g) e = cc
same_answer (accepted.Lasso j p f) (accepted.Holds k n) e = cc
same_answer (accepted.Holds j n) (accepted.Lasso k q g) e = cc
same_answer (accepted.Holds j n) (accepted.Holds k o) e = cc

same_text : (a b : TextJudged) → ◌≡◌ {A = Status} (statuses.Done (done_of_text a)) (statuses.Done (done_of_text b)) → a ≡ b
same_text (texts.Answer a) (texts.Answer b) e = ap texts.Answer (same_answer a b e)
same_text (texts.Answer (accepted.Lasso j p f)) (texts.Rounds n k r) e = cc
same_text (texts.Answer (accepted.Holds j m)) (texts.Rounds n k r) e = cc
same_text (texts.Rounds n k r) (texts.Answer (accepted.Lasso j p f)) e = cc
same_text (texts.Rounds n k r) (texts.Answer (accepted.Holds j m)) e = cc
same_text (texts.Rounds n k r) (texts.Rounds m l s) e = cc

same_sheet : (a b : Counts) (m n : ℕ) → a.lassos ≡ b.lassos → a.holds ≡ b.holds → a.unknown ≡ b.unknown → m ≡ n
    → ◌≡◌ {A = Judged} (found_as.Sheet a m) (found_as.Sheet b n)
same_sheet a b m n l h u e = λ i. found_as.Sheet (record { lassos = l i; holds = h i; unknown = u i }) (e i)

pub same_accepted : (a b : Judged) → ◌≡◌ {A = Status} (statuses.Done (done_by a)) (statuses.Done (done_by b)) → a ≡ b
same_accepted (found_as.Text a) (found_as.Text b) e = ap found_as.Text (same_text a b e)
same_accepted (found_as.Text (texts.Answer (accepted.Lasso j p f))) (found_as.Sheet c n) e = cc
same_accepted (found_as.Text (texts.Answer (accepted.Holds j m))) (found_as.Sheet c n) e = cc
same_accepted (found_as.Text (texts.Rounds m k r)) (found_as.Sheet c n) e = cc
same_accepted (found_as.Sheet c n) (found_as.Text (texts.Answer (accepted.Lasso j p f))) e = cc
same_accepted (found_as.Sheet c n) (found_as.Text (texts.Answer (accepted.Holds j m))) e = cc
same_accepted (found_as.Sheet c n) (found_as.Text (texts.Rounds m k r)) e = cc
same_accepted (found_as.Sheet c m) (found_as.Sheet d n) e = same_sheet c d m n (cc e) (cc e) (cc e) (cc e)

-- a text that is refused shows nothing
pub end_hidden : (end : JudgeEnd) (a : Judged) → status_of_end end ≡ statuses.Done (done_by a) → ⊥
end_hidden (ends.Text (text_ends.Answer (answers.Refused fault))) a e = cc
end_hidden (ends.Text (text_ends.Answer answers.ReadFault)) a e = cc
end_hidden (ends.Text (text_ends.Answer answers.Memory)) a e = cc
end_hidden (ends.Text (text_ends.TooLarge n)) a e = cc
end_hidden (ends.Block n fault) a e = cc

pub judged_shown : (c : Circuit) (m : Model) (model : Option (List ℕ)) (end : TextEnd) (status : Status) → c ≡ m.circuit → IsModelOf model m
    → IfOk end (ShowsText c) → status ≡ status_of end → (a : Judged) → status ≡ statuses.Done (done_by a) → ShownByCheck model a
judged_shown c m model (Ok found) status same h shows is a e =
    let shown : ShowsText c a = subst (λ (x : Judged). ShowsText c x) (same_accepted found a (sym is ∙ e)) shows in
    (h.text.0, h.text.1, (m, h.text.2, subst (λ (k : Circuit). ShowsText k a) same shown))
judged_shown c m model (Err end) status same h shows is a e = absurd (end_hidden end a (sym is ∙ e))

-- Reads and faults.

pub end_failed : (end : JudgeEnd) → is_read_fault (status_of_end end) ≡ end_unread end
end_failed (ends.Text (text_ends.Answer (answers.Refused fault))) = refl
end_failed (ends.Text (text_ends.Answer answers.ReadFault)) = refl
end_failed (ends.Text (text_ends.Answer answers.Memory)) = refl
end_failed (ends.Text (text_ends.TooLarge n)) = refl
end_failed (ends.Block n fault) = refl

status_failed : (end : TextEnd) → is_read_fault (status_of end) ≡ has_unread end
status_failed (Ok found) = refl
status_failed (Err end) = end_failed end

-- ANSWER was read after a model
pub both_read : {Shelf : Type 0} (Read : ReadsOf Shelf) (held : List ℕ → Option (List ℕ)) (model answer : List ℕ)
    (end : TextEnd) (old mid new : Shelf) → ReadsModel Read model false old mid → HoldsModel held model → Reads Read answer (has_unread end) mid new
    → ReadsModelFirst Read held (model ∷ answer ∷ []) (is_read_fault (status_of end)) old new
both_read Read held model answer end old mid new first holds second =
    inr (mid, first, holds, inl (subst (λ (failed : Bool). Reads Read answer failed mid new) (sym (status_failed end)) second))

-- a count that rose since a later moment rose since an earlier one
pub rose_since : (a b n : ℕ) → a ≤ b → Rose b n → Rose a n
rose_since a b n le h = omega arith
