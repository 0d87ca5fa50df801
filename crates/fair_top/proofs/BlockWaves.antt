-- What `wave` gives of a block, from its lasso or from why there is none.
use Rattle.std.proofs.Common.{◌≡◌, ◌⊎◌, inl, inr, ℕ, zero, suc, ◌≤◌, ◌<◌, Bool, true, false, List, refl, sym, ◌∙◌, ap, subst, arith, None, Some, Ok, Err}
use Rattle.std.specs.Prelude.{Option, Result, IfOk, IfErr, length, slice_get}
use Rattle.std.proofs.lemmas.Option.{slice_get_within}
use Rattle.aig_semantics.specs.Circuits.{Circuit}
use Rattle.aiger_grammar.specs.Models.{Model}
use Rattle.edge.specs.Faults.{Rose}
use Rattle.edge.specs.Reads.{ReadsOf, GoodReads, Reads}
use Rattle.edge.specs.Told.{MayBe}
use Rattle.certificate.specs.declared.ends.AnswerEnd.TheVariants as answers
use Rattle.certificate.specs.Ends.{DecidesEnd, CheckSays, EndsWith, has_unread as answer_unread}
use Rattle.round_answers.specs.declared.ends.JudgeEnd.TheVariants as text_ends
use Rattle.sheet_answers.specs.declared.ends.JudgeEnd.{JudgeEnd}
use Rattle.sheet_answers.specs.declared.ends.JudgeEnd.TheVariants as sheet_ends
use Rattle.sheet_commands.specs.declared.blocks.BlockLasso.{BlockLasso}
use Rattle.certificate.specs.Lines.{kept_readable, bare}
use Rattle.sheet_answers.specs.declared.blocks.Block.{Block}
use Rattle.sheet_answers.specs.declared.blocks.Block.TheVariants.{Lasso, Holds, Open}
use Rattle.sheet_answers.specs.Reading.{is_sheet}
use Rattle.sheet_answers.specs.Ends.{end_unread}
use Rattle.sheet_commands.specs.Blocks.{DecidesBlock, DecidesIn, DecidesBlockAs, BlockSays, EndsBlock, read_fault}
use Rattle.waves.specs.Dumps.{waves_text}
use Rattle.plain_commands.specs.declared.status.Status.{Status}
use Rattle.plain_commands.specs.declared.status.Status.TheVariants as statuses
use Rattle.plain_commands.specs.declared.status.Done.TheVariants.{Printed}
use Rattle.plain_commands.specs.declared.texts.Ending.{Ending}
use Rattle.plain_commands.specs.Check.{status_of_end}
use Rattle.fair_top.specs.Wave.{block_status}
use Rattle.plain_commands.specs.Written.{IsWritten, accepts}
use Rattle.fair_top.specs.Waved.{IsGoodLasso, unknown, BlockWaved}
use Rattle.plain_commands.specs.Statuses.{is_read_fault, ends_silently, status_in}
use Rattle.plain_commands.specs.Texts.{text_of}
use Rattle.plain_commands.specs.Answering.{IsSilent, GivesVerdict}
use Rattle.plain_commands.proofs.Judging.{End, failed_end, end_failed}
use Rattle.plain_commands.proofs.Written.{written_status, written_unread, still}

abbrev Cut : Type 0
Cut = Result BlockLasso JudgeEnd

-- ---- of the model's circuit

-- where the check of the answer ended as of unknown status
pub on_unknown : (c : Circuit) (m : Model) (told : Option (List ℕ)) (end : End) → c ≡ m.circuit → end ≡ unknown → CheckSays c told end → CheckSays m.circuit told unknown
on_unknown c m told end same is says = subst (λ (e : End). CheckSays m.circuit told e) is (subst (λ (k : Circuit). CheckSays k told end) same says)

pub exactly_unknown : (c : Circuit) (m : Model) (told : Option (List ℕ)) (end : End) → c ≡ m.circuit → end ≡ unknown
    → ((text : List ℕ) (v : End) → told ≡ Some text → DecidesEnd c text v → EndsWith end v)
    → (text : List ℕ) (v : End) → told ≡ Some text → DecidesEnd m.circuit text v → EndsWith unknown v
exactly_unknown c m told end same is exactly text v e d =
    subst (λ (x : End). EndsWith x v) is (exactly text v e (subst (λ (k : Circuit). DecidesEnd k text v) (sym same) d))

pub then_rose : (a b n : ℕ) → a ≤ b → Rose b n → Rose a n
then_rose a b n le h = omega arith

-- reads, and behind them others
good_then : {Shelf : Type 0} (Read : ReadsOf Shelf) (name : List ℕ) (m n : ℕ) (old mid new : Shelf) → GoodReads Read name m old mid → GoodReads Read name n mid new
    → (k : ℕ) × GoodReads Read name k old new
good_then Read name m zero old mid new first same = (m, subst (λ s. GoodReads Read name m old s) (sym same) first)
good_then Read name m (suc n) old mid new first (last, before, step) =
    let h = good_then Read name m n old mid last first before in (suc h.0, (last, h.1, step))

pub then_read : {Shelf : Type 0} (Read : ReadsOf Shelf) (name : List ℕ) (end : End) (failed : Bool) (old mid new : Shelf) → end ≡ unknown
    → Reads Read name (answer_unread end) old mid → Reads Read name failed mid new → Reads Read name failed old new
then_read Read name end failed old mid new is first second = by failed (subst (λ (e : End). Reads Read name (answer_unread e) old mid) is first) second
  where
    by : (f : Bool) → Reads Read name false old mid → Reads Read name f mid new → Reads Read name f old new
    by false (m, good) (n, more) = good_then Read name m n old mid new good more
    by true (m, good) (n, last, more, step) = let h = good_then Read name m n old mid last good more in (h.0, last, h.1, step)

-- ---- a lasso

sheet_lasso : (c : Circuit) (told : Option (List ℕ)) (n : ℕ) (found : BlockLasso) → BlockSays c told n (Ok found) → (text : List ℕ) × MayBe told text × DecidesBlock c text n (Ok found)
sheet_lasso c told n found (inl (inl wrong)) = absurd (cc wrong)
sheet_lasso c told n found (inl (inr (text, may, decides))) = (text, may, decides)
sheet_lasso c told n found (inr wrong) = absurd (cc wrong)

good_block : (m : Model) (n : ℕ) (o : Option Block) (found : BlockLasso) → ((block : Block) → o ≡ Some block → n < length m.circuit.justice) → DecidesIn m.circuit n o (Ok found)
    → IsGoodLasso m found.property found.lasso
good_block m n (Some (Lasso s)) found there (same, stands, is) =
    subst (λ (k : ℕ). IsGoodLasso m k found.lasso) (sym same) (there (Lasso s) refl, s, stands, is)
good_block m n (Some (Holds r)) found there wrong = absurd (cc wrong)
good_block m n (Some Open) found there wrong = absurd (cc wrong)
good_block m n None found there wrong = absurd (cc wrong)

good_in : (m : Model) (text : List ℕ) (n : ℕ) (found : BlockLasso) (test : Bool) → DecidesBlockAs test m.circuit text n (Ok found) → IsGoodLasso m found.property found.lasso
good_in m text n found true (inl (sheet, (short, has, good), decided)) =
    good_block m n (slice_get sheet.blocks n) found
    (λ block at. let each = good.each in let inside = slice_get_within sheet.blocks n block at in omega (arith, each, inside)) decided
good_in m text n found true (inr (end, decides, wrong)) = absurd (cc wrong)
good_in m text n found false wrong = absurd (cc wrong)

pub lasso_good : (c : Circuit) (m : Model) (told : Option (List ℕ)) (n : ℕ) (found : BlockLasso) → c ≡ m.circuit → BlockSays c told n (Ok found)
    → IsGoodLasso m found.property found.lasso
lasso_good c m told n found same says =
    let (text, may, decides) = sheet_lasso c told n found says in
    good_in m text n found (is_sheet (bare (kept_readable text))) (subst (λ (k : Circuit). DecidesBlock k text n (Ok found)) same decides)

pub lasso_waved : (c : Circuit) (m : Model) (told : Option (List ℕ)) (n : ℕ) (found : BlockLasso) (result : Result Ending Status) → c ≡ m.circuit → BlockSays c told n (Ok found)
    → IsWritten result (statuses.Done Printed) (waves_text m found.property found.lasso) → BlockWaved m told n result
lasso_waved c m told n found (Err status) same says written = inr written
lasso_waved c m told n found (Ok ending) same says written =
    let (text, may, decides) = sheet_lasso c told n found says in
    (text, may, inl (found, subst (λ (k : Circuit). DecidesBlock k text n (Ok found)) same decides, written.0, written.1))

as_status : (end verdict : Cut) → EndsBlock end verdict → GivesVerdict (block_status verdict) (block_status end)
as_status end verdict (inl (inl same)) = inl (inl (inl (ap block_status same)))
as_status end verdict (inl (inr unread)) = inl (inr (inl (ap block_status unread)))
as_status end verdict (inr memory) = inr (ap block_status memory)

pub lasso_exactly : (c : Circuit) (m : Model) (told : Option (List ℕ)) (n : ℕ) (found : BlockLasso) (result : Result Ending Status) → c ≡ m.circuit
    → ((text : List ℕ) (verdict : Cut) → told ≡ Some text → DecidesBlock c text n verdict → EndsBlock (Ok found) verdict)
    → IsWritten result (statuses.Done Printed) (waves_text m found.property found.lasso)
    → (claimed : List ℕ) (end : Cut) → told ≡ Some claimed → DecidesBlock m.circuit claimed n end → GivesVerdict (block_status end) (status_in result)
lasso_exactly c m told n found result same exactly written claimed end is d =
    still (block_status end) (statuses.Done Printed) (status_in result)
    (written_status result (statuses.Done Printed) (waves_text m found.property found.lasso) written)
    (as_status (Ok found) end (exactly claimed end is (subst (λ (k : Circuit). DecidesBlock k claimed n end) (sym same) d)))

pub lasso_hidden : (result : Result Ending Status) (text : List ℕ) → IsWritten result (statuses.Done Printed) text → accepts (status_in result) ≡ false
unfolding accepts
lasso_hidden result text written = by (written_status result (statuses.Done Printed) text written)
  where
    by : (status_in result ≡ statuses.Done Printed) ⊎ (status_in result ≡ statuses.Memory) → accepts (status_in result) ≡ false
    by (inl e) = ap accepts e
    by (inr e) = ap accepts e

-- ---- none

says_end : (c : Circuit) (told : Option (List ℕ)) (n : ℕ) (end : JudgeEnd) → BlockSays c told n (Err end)
    → (IsSilent (status_of_end end)) ⊎ ((text : List ℕ) × MayBe told text × DecidesBlock c text n (Err end))
says_end c told n end (inl (inl unread)) = inl (inl (ap block_status unread))
says_end c told n end (inl (inr decides)) = inr decides
says_end c told n end (inr memory) = inl (inr (ap block_status memory))

silent_so : (status : Status) → IsSilent status → ends_silently status ≡ true
silent_so status (inl e) = ap ends_silently e
silent_so status (inr e) = ap ends_silently e

is_silent : (status : Status) → ends_silently status ≡ true → IsSilent status
is_silent statuses.ReadFault e = inl refl
is_silent statuses.Memory e = inr refl
is_silent (statuses.Done done) e = absurd (cc e)
is_silent (statuses.Refused fault) e = absurd (cc e)
is_silent (statuses.RefusedBlock n fault) e = absurd (cc e)
is_silent (statuses.Unknown report) e = absurd (cc e)
is_silent (statuses.OpenRounds n spent) e = absurd (cc e)
is_silent (statuses.OpenDepth n spent) e = absurd (cc e)
is_silent (statuses.BadModel fault) e = absurd (cc e)
is_silent statuses.WriteFault e = absurd (cc e)
is_silent (statuses.NoProperty n) e = absurd (cc e)
is_silent (statuses.TooLarge n) e = absurd (cc e)
is_silent (statuses.NoItem entry clause) e = absurd (cc e)
is_silent statuses.Usage e = absurd (cc e)

pub refused_waved : (c : Circuit) (m : Model) (told : Option (List ℕ)) (n : ℕ) (end : JudgeEnd) (status : Status) (result : Result Ending Status) → c ≡ m.circuit
    → BlockSays c told n (Err end) → status ≡ status_of_end end
    → IfOk result (λ ending. (ending.status ≡ status) × (ending.text.items ≡ text_of status)) → IfErr result (λ other. ends_silently other ≡ true)
    → IfOk result (λ ending. ends_silently status ≡ false) → BlockWaved m told n result
refused_waved c m told n end status (Err other) same says is text silent aloud = is_silent other silent
refused_waved c m told n end status (Ok ending) same says is text silent aloud = by (says_end c told n end says)
  where
    by : (IsSilent (status_of_end end)) ⊎ ((claimed : List ℕ) × MayBe told claimed × DecidesBlock c claimed n (Err end)) → BlockWaved m told n (Ok ending)
    by (inl quiet) = let wrong : true ≡ false = sym (silent_so (status_of_end end) quiet) ∙ sym (ap ends_silently is) ∙ aloud in absurd (cc wrong)
    by (inr (claimed, may, decides)) =
        (claimed, may, inr (end, subst (λ (k : Circuit). DecidesBlock k claimed n (Err end)) same decides, text.0 ∙ is, text.1 ∙ sym (ap text_of text.0)))

pub refused_exactly : (c : Circuit) (m : Model) (told : Option (List ℕ)) (n : ℕ) (refusal : JudgeEnd) (status result : Status) → c ≡ m.circuit
    → ((text : List ℕ) (verdict : Cut) → told ≡ Some text → DecidesBlock c text n verdict → EndsBlock (Err refusal) verdict)
    → status ≡ status_of_end refusal → (result ≡ status) ⊎ (result ≡ statuses.Memory)
    → (claimed : List ℕ) (end : Cut) → told ≡ Some claimed → DecidesBlock m.circuit claimed n end → GivesVerdict (block_status end) result
refused_exactly c m told n refusal status result same exactly is either claimed end told_is d =
    still (block_status end) status result either
    (subst (λ (s : Status). GivesVerdict (block_status end) s) (sym is)
    (as_status (Err refusal) end (exactly claimed end told_is (subst (λ (k : Circuit). DecidesBlock k claimed n end) (sym same) d))))

end_accepts_none : (end : JudgeEnd) → accepts (status_of_end end) ≡ false
unfolding accepts
end_accepts_none (sheet_ends.Text (text_ends.Answer (answers.Refused fault))) = refl
end_accepts_none (sheet_ends.Text (text_ends.Answer answers.ReadFault)) = refl
end_accepts_none (sheet_ends.Text (text_ends.Answer answers.Memory)) = refl
end_accepts_none (sheet_ends.Text (text_ends.TooLarge n)) = refl
end_accepts_none (sheet_ends.Block n fault) = refl

pub refused_hidden : (end : JudgeEnd) (status result : Status) → status ≡ status_of_end end → (result ≡ status) ⊎ (result ≡ statuses.Memory) → accepts result ≡ false
unfolding accepts
refused_hidden end status result is (inl e) = ap accepts (e ∙ is) ∙ end_accepts_none end
refused_hidden end status result is (inr e) = ap accepts e

-- ---- whether a read failed

pub reads_so : {Shelf : Type 0} (Read : ReadsOf Shelf) (name : List ℕ) (known failed : Bool) (old new : Shelf) → failed ≡ known → Reads Read name known old new
    → Reads Read name failed old new
reads_so Read name known failed old new same h = subst (λ (b : Bool). Reads Read name b old new) (sym same) h

pub lasso_aloud : (result : Result Ending Status) (text : List ℕ) → IsWritten result (statuses.Done Printed) text → IfOk result (λ ending. is_read_fault ending.status ≡ false)
lasso_aloud (Ok ending) text written = ap is_read_fault written.0
lasso_aloud (Err other) text written = tt

pub lasso_read : (result : Result Ending Status) (text : List ℕ) → IsWritten result (statuses.Done Printed) text → is_read_fault (status_in result) ≡ false
lasso_read result text written = written_unread result (statuses.Done Printed) text refl written

pub never_failed : (status : Status) → is_read_fault status ≡ false → status ≡ statuses.ReadFault → ⊥
never_failed status none e = let wrong : true ≡ false = sym (ap is_read_fault e) ∙ none in absurd (cc wrong)

end_loud : (end : JudgeEnd) → ends_silently (status_of_end end) ≡ false → is_read_fault (status_of_end end) ≡ false
end_loud (sheet_ends.Text (text_ends.Answer (answers.Refused fault))) e = refl
end_loud (sheet_ends.Text (text_ends.Answer answers.ReadFault)) e = absurd (cc e)
end_loud (sheet_ends.Text (text_ends.Answer answers.Memory)) e = refl
end_loud (sheet_ends.Text (text_ends.TooLarge n)) e = refl
end_loud (sheet_ends.Block n fault) e = refl

pub refused_aloud : (end : JudgeEnd) (status : Status) (result : Result Ending Status) → status ≡ status_of_end end
    → IfOk result (λ ending. (ending.status ≡ status) × (ending.text.items ≡ text_of status)) → IfOk result (λ ending. ends_silently status ≡ false)
    → IfOk result (λ ending. is_read_fault ending.status ≡ false)
refused_aloud end status (Ok ending) is text aloud = ap is_read_fault (text.0 ∙ is) ∙ end_loud end (sym (ap ends_silently is) ∙ aloud)
refused_aloud end status (Err other) is text aloud = tt

pub refused_read : (end : JudgeEnd) (status result : Status) → status ≡ status_of_end end → is_read_fault result ≡ is_read_fault status → is_read_fault result ≡ end_unread end
refused_read end status result is fault = fault ∙ ap is_read_fault is ∙ end_failed end

abbrev errs : JudgeEnd → Cut
errs e = Err e

pub refused_failed : (end : JudgeEnd) (status result : Status) → status ≡ status_of_end end → (result ≡ status) ⊎ (result ≡ statuses.Memory) → result ≡ statuses.ReadFault
    → ◌≡◌ {A = Cut} (Err end) read_fault
refused_failed end status result is (inl same) e = ap errs (failed_end end (sym is ∙ sym same ∙ e))
refused_failed end status result is (inr memory) e = let wrong : statuses.Memory ≡ statuses.ReadFault = sym memory ∙ e in absurd (cc wrong)
