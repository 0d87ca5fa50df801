-- What `wave` gives, from the model, the end of the check of the answer and the lasso that was kept.
use Rattle.std.proofs.Common.{◌≡◌, ◌⊎◌, ℕ, ◌<◌, Bool, true, false, List, [], ◌∷◌, length, take, None, Some, refl, sym, ◌∙◌, ap, subst, inl, inr, arith, Ok, Err}
use Rattle.std.specs.Prelude.{Option, Result, IfOk, IfErr, codes, slice_get}
use Rattle.std.specs.List.{All}
use Rattle.std.proofs.lemmas.List.Elements.{All-take}
use Rattle.aig_semantics.specs.declared.traces.Lasso.{Lasso as LassoOf}
use Rattle.aig_semantics.specs.Circuits.{Circuit}
use Rattle.aiger_grammar.specs.Models.{Model}
use Rattle.circuit.specs.declared.faults.ModelFault.{ModelFault}
use Rattle.edge.specs.Reads.{ReadsOf, Reads}
use Rattle.edge.specs.Writes.{Writes}
use Rattle.certificate.specs.declared.ends.Accepted.{Accepted}
use Rattle.certificate.specs.declared.ends.Accepted.TheVariants.{Lasso, Holds}
use Rattle.sheet_answers.specs.declared.ends.Judged.{Judged}
use Rattle.round_answers.specs.declared.ends.Judged.TheVariants as texts
use Rattle.sheet_answers.specs.declared.ends.JudgeEnd.{JudgeEnd}
use Rattle.sheet_answers.specs.declared.blocks.Block.{Block}
use Rattle.sheet_answers.specs.declared.blocks.Block.TheVariants as blocks
use Rattle.sheet_answers.proofs.Statuses.{sheet_fault, same_fault}
use Rattle.round_answers.specs.Texts.{is_about_rounds}
use Rattle.sheet_answers.proofs.Others.{no_other}
use Rattle.certificate.specs.Answers.{IsGood}
use Rattle.edge.specs.Told.{MayBe}
use Rattle.sheet_commands.specs.declared.blocks.BlockLasso.{BlockLasso}
use Rattle.sheet_commands.specs.Blocks.{DecidesBlock, DecidesSheet, DecidesIn, DecidesBlockAs as CutAs, refused as cut_refused}
use Rattle.certificate.specs.declared.ends.AnswerEnd.TheVariants as ends
use Rattle.certificate.specs.declared.ends.AnswerFault.{AnswerFault}
use Rattle.certificate.specs.declared.ends.AnswerFault.TheVariants.{NoProperty, UnknownStatus}
use Rattle.certificate.specs.Ends.{DecidesEnd, CheckSays, EndsWith, has_unread}
use Rattle.certificate.specs.Lassos.{HasGoodLasso, KeepsLasso}
use Rattle.waves.specs.Dumps.{waves_text}
use Rattle.waves.proofs.Lines.{length_simulated}
use Rattle.plain_commands.specs.declared.status.Status.{Status}
use Rattle.plain_commands.specs.declared.status.Status.TheVariants as statuses
use Rattle.plain_commands.specs.declared.status.Done.TheVariants.{Printed}
use Rattle.plain_commands.specs.declared.texts.Ending.{Ending}
use Rattle.plain_commands.specs.ModelGiven.{OfSomeText}
use Rattle.plain_commands.specs.Check.{done_by, status_of_end}
use Rattle.sheet_answers.specs.Reading.{opens_as_sheet}
use Rattle.fair_top.specs.Wave.{EndsWaveAs, EndsWaved, EndsBlockWaved, EndsWave, GivesWave, wave_status, block_status, DecidesWaveAs, DecidesWave}
use Rattle.fair_top.specs.Waved.{CarriesLasso, IsGoodLasso, IsWaved, unknown, BlockWaved}
use Rattle.plain_commands.specs.Written.{accepts}
use Rattle.plain_commands.specs.Statuses.{is_read_fault, ends_silently, status_in}
use Rattle.plain_commands.specs.Texts.{text_of}
use Rattle.plain_commands.specs.Answering.{IsSilent, GivesVerdict, HoldsModel, ReadsModel, ReadsModelFirst, HasWritten}
use Rattle.plain_commands.specs.Judged.{IsModelOf, IsFaultOf, EndsWithoutModel}
use Rattle.plain_commands.proofs.Judging.{End, same_bad}
use Rattle.fair_top.proofs.Sinks.{of_refusal}
use Rattle.plain_commands.proofs.Written.{memory_accepts_none, not_both, still, written_status, written_unread}

-- A good lasso fits its circuit.

pub record Fits (c : Circuit) (n : ℕ) (lasso : LassoOf) : Type 0 where
  pub property : n < length c.justice
  pub from : lasso.from < length lasso.inputs
  pub start : length lasso.start ≡ length c.latches
  pub inputs : All (λ now. length now ≡ length c.inputs) lasso.inputs

pub good_fits : (m : Model) (n : ℕ) (lasso : LassoOf) → IsGoodLasso m n lasso → Fits m.circuit n lasso
good_fits m n lasso (there, stimulus, stands, is) =
    let c : Circuit = m.circuit in
    let k : ℕ = length lasso.inputs in
    let inputs : lasso.inputs ≡ take k stimulus.inputs = ap (λ (l : LassoOf). l.inputs) is in
    record {
      property = there;
      from = omega (arith, stands.has.lasso.inside, length_simulated c stimulus.latches (take k stimulus.inputs), ap length inputs);
      start = ap (λ (l : LassoOf). length l.start) is ∙ stands.has.fits.latches;
      inputs = subst (All (λ now. length now ≡ length c.inputs)) (sym inputs) (All-take (λ now. length now ≡ length c.inputs) k stimulus.inputs stands.has.fits.inputs);
    }

-- A status with its text.

-- the lasso of a good answer is one
stands_so : (m : Model) (text : List ℕ) (n : ℕ) (lasso : LassoOf) → HasGoodLasso m.circuit text n lasso → IsGoodLasso m n lasso
stands_so m text n lasso (there, short, stimulus, has, stands, is) = (there, stimulus, stands, is)

-- where a stimulus is accepted its lasso was kept
pub carries : (c : Circuit) (m : Model) (told : Option (List ℕ)) (end : End) (kept : Option LassoOf) → c ≡ m.circuit
    → IfOk end (λ accepted. KeepsLasso c told accepted kept) → CarriesLasso m end kept
carries c m told (Ok (Lasso n positions from)) kept same (text, may, lasso, is, good, many, place) =
    (lasso, is, stands_so m text n lasso (subst (λ (k : Circuit). HasGoodLasso k text n lasso) same good))
carries c m told (Ok (Holds n entries)) kept same h = tt
carries c m told (Err end) kept same h = tt

-- so one is there
pub lasso_is_kept : (m : Model) (end : End) (kept : Option LassoOf) (found : Accepted) (n positions from : ℕ) → CarriesLasso m end kept
    → end ≡ Ok found → found ≡ Lasso n positions from → kept ≡ None → ⊥
lasso_is_kept m (Ok (Lasso n positions from)) kept found j p f (lasso, is, good) e same none = absurd (cc)
lasso_is_kept m (Ok (Holds n entries)) kept found j p f carried e same none = absurd (cc)
lasso_is_kept m (Err end) kept found j p f carried e same none = absurd (cc)

-- the status is that of the end, or want of memory
pub waved_status : (m : Model) (end : End) (kept : Option LassoOf) (result : Result Ending Status) → CarriesLasso m end kept → IsWaved m end kept result
    → (status_in result ≡ wave_status end) ⊎ (status_in result ≡ statuses.Memory)
waved_status m (Ok (Lasso n positions from)) kept result (lasso, is, good) h =
    written_status result (statuses.Done Printed) (waves_text m n lasso) (h lasso is)
waved_status m (Ok (Holds n entries)) kept result c h = written_status result (statuses.Refused UnknownStatus) (text_of (statuses.Refused UnknownStatus)) h
waved_status m (Err (ends.Refused fault)) kept result c h = written_status result (statuses.Refused fault) (text_of (statuses.Refused fault)) h
waved_status m (Err ends.ReadFault) kept result c h = inl (ap status_in h)
waved_status m (Err ends.Memory) kept result c h = inl (ap status_in h)

-- What is so of the answer.

good_lasso : (c : Circuit) (text : List ℕ) (n : ℕ) (lasso : LassoOf) (positions from : ℕ) → HasGoodLasso c text n lasso → length lasso.inputs ≡ positions → lasso.from ≡ from
    → IsGood c text (Lasso n positions from)
good_lasso c text n lasso positions from (there, short, stimulus, has, stands, is) many place =
    subst (λ (k : ℕ). IsGood c text (Lasso n positions k)) place
    (subst (λ (k : ℕ). IsGood c text (Lasso n k lasso.from)) many (there, short, stimulus, has, stands))

of_answer : (m : Model) (answer : Option (List ℕ)) (end : End) (kept : Option LassoOf) (ending : Ending) → CheckSays m.circuit answer end
    → IfOk end (λ accepted. KeepsLasso m.circuit answer accepted kept) → IsWaved m end kept (Ok ending)
    → OfSomeText answer (λ claimed. DecidesEnd m.circuit claimed end × EndsWaved m claimed ending.status ending.text.items)
of_answer m answer (Ok (Lasso n positions from)) kept ending says (text, may, lasso, is, good, many, place) h =
    (text, may, (good_lasso m.circuit text n lasso positions from good many place, inl (n, lasso, good, (h lasso is).0, (h lasso is).1)))
of_answer m answer (Ok (Holds n entries)) kept ending (inl (inr (text, may, good))) keeps h =
    (text, may, (good, inr (UnknownStatus, inr (refl, n, entries, good), h.0, h.1 ∙ sym (ap text_of h.0))))
of_answer m answer (Ok (Holds n entries)) kept ending (inl (inl wrong)) keeps h = absurd (cc wrong)
of_answer m answer (Ok (Holds n entries)) kept ending (inr wrong) keeps h = absurd (cc wrong)
of_answer m answer (Err (ends.Refused fault)) kept ending (inl (inr (text, may, bad))) keeps h =
    (text, may, (bad, inr (fault, inl bad, h.0, h.1 ∙ sym (ap text_of h.0))))
of_answer m answer (Err (ends.Refused fault)) kept ending (inl (inl wrong)) keeps h = absurd (cc wrong)
of_answer m answer (Err (ends.Refused fault)) kept ending (inr wrong) keeps h = absurd (cc wrong)
of_answer m answer (Err ends.ReadFault) kept ending says keeps h = absurd (cc h)
of_answer m answer (Err ends.Memory) kept ending says keeps h = absurd (cc h)

good_no_sheet : (c : Circuit) (text : List ℕ) (accepted : Accepted) → opens_as_sheet text ≡ true → IsGood c text accepted → ⊥
good_no_sheet c text (Lasso n positions from) is (there, short, s, (others, (small, opens), spells), stands) =
    no_other c text (texts.Answer (Lasso n positions from)) is (ap is_about_rounds opens, (there, short, s, (others, (small, opens), spells), stands))
good_no_sheet c text (Holds n entries) is (there, short, certificate, (small, opens), good, count) =
    no_other c text (texts.Answer (Holds n entries)) is (ap is_about_rounds opens, (there, short, certificate, (small, opens), good, count))

abbrev refused_as : AnswerFault → End
refused_as fault = Err (ends.Refused fault)

-- a text that an answer's check ends otherwise than as of unknown status is no sheet
no_sheet : (c : Circuit) (text : List ℕ) (end : End) (test : Bool) → opens_as_sheet text ≡ test → (end ≡ unknown → ⊥) → DecidesEnd c text end → test ≡ false
no_sheet c text end false is known h = refl
no_sheet c text (Ok accepted) true is known h = absurd (good_no_sheet c text accepted is h)
no_sheet c text (Err (ends.Refused fault)) true is known h = absurd (known (ap refused_as (same_fault c text fault is h)))
no_sheet c text (Err ends.ReadFault) true is known h = absurd h
no_sheet c text (Err ends.Memory) true is known h = absurd h

pub waved_found : (m : Model) (answer : Option (List ℕ)) (n : ℕ) (end : End) (kept : Option LassoOf) (result : Result Ending Status) → (end ≡ unknown → ⊥)
    → CheckSays m.circuit answer end → IfOk end (λ accepted. KeepsLasso m.circuit answer accepted kept) → IsWaved m end kept result
    → IfOk result (λ ending. OfSomeText answer (λ claimed. EndsWave m claimed n ending.status ending.text.items))
waved_found m answer n end kept (Err status) known says keeps w = tt
waved_found m answer n end kept (Ok ending) known says keeps w =
    let (text, may, (decides, waves)) = of_answer m answer end kept ending says keeps w in
    let other : opens_as_sheet text ≡ false = no_sheet m.circuit text end (opens_as_sheet text) refl known decides in
    (text, may, subst (λ (b : Bool). EndsWaveAs b m text n ending.status ending.text.items) (sym other) waves)

-- What is decided.

as_status : (end verdict : End) → EndsWith end verdict → GivesVerdict (wave_status verdict) (wave_status end)
as_status end verdict h = elim h [
  | inl other ↦ elim other [ inl e ↦ inl (inl (inl (ap wave_status e))) | inr e ↦ inl (inr (inl (ap wave_status e))) ]
  | inr e ↦ inr (ap wave_status e)
]

-- where the check ends otherwise than as of unknown status, though the text is a sheet, a read failed or memory was refused
cut_short : (end : End) (verdict : Status) → (end ≡ unknown → ⊥) → EndsWith end unknown → GivesVerdict verdict (wave_status end)
cut_short end verdict known (inl (inl same)) = absurd (known same)
cut_short end verdict known (inl (inr unread)) = inl (inr (inl (ap wave_status unread)))
cut_short end verdict known (inr memory) = inr (ap wave_status memory)

exact_by : (c : Circuit) (claimed : List ℕ) (n : ℕ) (end : End) (verdict : Status) (test : Bool) → opens_as_sheet claimed ≡ test → (end ≡ unknown → ⊥)
    → ((v : End) → DecidesEnd c claimed v → EndsWith end v) → DecidesWaveAs test c claimed n verdict → GivesVerdict verdict (wave_status end)
exact_by c claimed n end verdict false is known exact (other, e, said) =
    subst (λ (v : Status). GivesVerdict v (wave_status end)) (sym e) (as_status end other (exact other said))
exact_by c claimed n end verdict true is known exact said = cut_short end verdict known (exact unknown (sheet_fault c claimed is))

pub waved_exactly : (m : Model) (answer : Option (List ℕ)) (n : ℕ) (end : End) (kept : Option LassoOf) (result : Result Ending Status) → (end ≡ unknown → ⊥)
    → ((text : List ℕ) (v : End) → answer ≡ Some text → DecidesEnd m.circuit text v → EndsWith end v) → CarriesLasso m end kept → IsWaved m end kept result
    → (claimed : List ℕ) (verdict : Status) → answer ≡ Some claimed → DecidesWaveAs (opens_as_sheet claimed) m.circuit claimed n verdict → GivesVerdict verdict (status_in result)
waved_exactly m answer n end kept result known exact carried w claimed verdict told d =
    still verdict (wave_status end) (status_in result) (waved_status m end kept result carried w)
    (exact_by m.circuit claimed n end verdict (opens_as_sheet claimed) refl known (λ v h. exact claimed v told h) d)

-- Of an answer whose status is unknown.

-- a block that is no sheet's
other_status : (m : Model) (claimed : List ℕ) (n : ℕ) (status : Status) (text : List ℕ) → opens_as_sheet claimed ≡ false → EndsBlockWaved m claimed n status text
    → (status ≡ statuses.Refused UnknownStatus) × (text ≡ text_of status)
other_status m claimed n status text is (inl (found, decides, e, t)) = absurd (wrong (subst (λ (b : Bool). CutAs b m.circuit claimed n (Ok found)) is decides))
  where
    wrong : ◌≡◌ {A = Result BlockLasso JudgeEnd} (Ok found) (Err (cut_refused UnknownStatus)) → ⊥
    wrong h = cc h
other_status m claimed n status text is (inr (end, decides, e, t)) =
    (e ∙ ap status_of_end (end_of (subst (λ (b : Bool). CutAs b m.circuit claimed n (Err end)) is decides)), t)
  where
    end_of : ◌≡◌ {A = Result BlockLasso JudgeEnd} (Err end) (Err (cut_refused UnknownStatus)) → end ≡ cut_refused UnknownStatus
    end_of h = cc h

two_waved : (m : Model) (n : ℕ) (status : Status) (text : List ℕ) → status ≡ statuses.Refused UnknownStatus → text ≡ text_of status → EndsWave m (codes "2") n status text
two_waved m n status text e t = inr (UnknownStatus, inl refl, e, t)

as_other : (m : Model) (answer : Option (List ℕ)) (n : ℕ) (claimed : List ℕ) (status : Status) (text : List ℕ) → CheckSays m.circuit answer unknown → MayBe answer claimed
    → opens_as_sheet claimed ≡ false → status ≡ statuses.Refused UnknownStatus → text ≡ text_of status → OfSomeText answer (λ k. EndsWave m k n status text)
as_other m None n claimed status text says may is e t = (codes "2", λ k wrong. absurd (cc wrong), two_waved m n status text e t)
as_other m (Some told) n claimed status text (inl (inl wrong)) may is e t = absurd (cc wrong)
as_other m (Some told) n claimed status text (inr wrong) may is e t = absurd (cc wrong)
as_other m (Some told) n claimed status text (inl (inr (other, other_may, bad))) may is e t =
    let same : other ≡ claimed = sym (other_may told refl) ∙ may told refl in
    (claimed, may, subst (λ (b : Bool). EndsWaveAs b m claimed n status text) (sym is) (inr (UnknownStatus, inl (subst (λ (k : List ℕ). DecidesEnd m.circuit k unknown) same bad), e, t)))

block_ends : (m : Model) (answer : Option (List ℕ)) (n : ℕ) (claimed : List ℕ) (status : Status) (text : List ℕ) (test : Bool) → opens_as_sheet claimed ≡ test
    → CheckSays m.circuit answer unknown → MayBe answer claimed → EndsBlockWaved m claimed n status text → OfSomeText answer (λ k. EndsWave m k n status text)
block_ends m answer n claimed status text true is says may waves = (claimed, may, subst (λ (b : Bool). EndsWaveAs b m claimed n status text) (sym is) waves)
block_ends m answer n claimed status text false is says may waves =
    let is_unknown = other_status m claimed n status text is waves in
    as_other m answer n claimed status text says may is is_unknown.0 is_unknown.1

pub block_found : (m : Model) (now answer : Option (List ℕ)) (n : ℕ) (result : Result Ending Status) → now ≡ answer → CheckSays m.circuit answer unknown → BlockWaved m now n result
    → IfOk result (λ ending. OfSomeText answer (λ claimed. EndsWave m claimed n ending.status ending.text.items))
block_found m now answer n (Err status) told says w = tt
block_found m now answer n (Ok ending) told says (claimed, may, waves) =
    block_ends m answer n claimed ending.status ending.text.items (opens_as_sheet claimed) refl says (subst (λ (t : Option (List ℕ)). MayBe t claimed) told may) waves

block_exact : (c : Circuit) (claimed : List ℕ) (n : ℕ) (verdict result : Status) (test : Bool) → opens_as_sheet claimed ≡ test
    → ((end : Result BlockLasso JudgeEnd) → DecidesBlock c claimed n end → GivesVerdict (block_status end) result)
    → ((v : End) → DecidesEnd c claimed v → EndsWith unknown v) → DecidesWaveAs test c claimed n verdict → GivesVerdict verdict result
block_exact c claimed n verdict result true is exact one (end, e, said) = subst (λ (v : Status). GivesVerdict v result) (sym e) (exact end said)
block_exact c claimed n verdict result false is exact one (other, e, said) =
    subst (λ (v : Status). GivesVerdict v result) (sym (e ∙ ap wave_status (only other (one other said))))
    (exact (Err (cut_refused UnknownStatus)) (subst (λ (b : Bool). CutAs b c claimed n (Err (cut_refused UnknownStatus))) (sym is) refl))
  where
    only : (v : End) → EndsWith unknown v → v ≡ unknown
    only v (inl (inl same)) = sym same
    only v (inl (inr wrong)) = absurd (cc wrong)
    only v (inr wrong) = absurd (cc wrong)

pub block_exactly : (m : Model) (now answer : Option (List ℕ)) (n : ℕ) (result : Result Ending Status) → now ≡ answer
    → ((claimed : List ℕ) (end : Result BlockLasso JudgeEnd) → now ≡ Some claimed → DecidesBlock m.circuit claimed n end → GivesVerdict (block_status end) (status_in result))
    → ((text : List ℕ) (v : End) → answer ≡ Some text → DecidesEnd m.circuit text v → EndsWith unknown v)
    → (claimed : List ℕ) (verdict : Status) → answer ≡ Some claimed → DecidesWaveAs (opens_as_sheet claimed) m.circuit claimed n verdict → GivesVerdict verdict (status_in result)
block_exactly m now answer n result told exact one claimed verdict is d =
    block_exact m.circuit claimed n verdict (status_in result) (opens_as_sheet claimed) refl (λ end h. exact claimed end (told ∙ is) h) (λ v h. one claimed v is h) d

pub block_silent : (m : Model) (told : Option (List ℕ)) (n : ℕ) (result : Result Ending Status) → BlockWaved m told n result → IfErr result IsSilent
block_silent m told n (Ok ending) w = tt
block_silent m told n (Err status) w = w

-- What is so of both texts.

pub waves_given : (m : Model) (model now answer : Option (List ℕ)) (n : ℕ) (result : Result Ending Status) → now ≡ answer → IsModelOf model m
    → IfOk result (λ ending. OfSomeText now (λ claimed. EndsWave m claimed n ending.status ending.text.items))
    → IfOk result (λ ending. GivesWave model answer n ending.status ending.text.items)
waves_given m model now answer n (Err status) told h w = tt
waves_given m model now answer n (Ok ending) told h w =
    inr (h.text.0, h.text.1, (m, h.text.2, subst (λ (t : Option (List ℕ)). OfSomeText t (λ claimed. EndsWave m claimed n ending.status ending.text.items)) told w))

pub waves_exact : (m : Model) (model now answer : Option (List ℕ)) (n : ℕ) (result : Status) → now ≡ answer → IsModelOf model m
    → ((claimed : List ℕ) (verdict : Status) → now ≡ Some claimed → DecidesWaveAs (opens_as_sheet claimed) m.circuit claimed n verdict → GivesVerdict verdict result)
    → (verdict : Status) → DecidesWave model answer n verdict → GivesVerdict verdict result
waves_exact m model now answer n result told h exact verdict (inl (fault, e, (text, is, bad))) = absurd (h.faultless text fault is bad)
waves_exact m model now answer n result told h exact verdict (inr (text, is, (claimed, claim_told, (k, form, said)))) =
    exact claimed verdict (told ∙ claim_told) (subst (λ (x : Model). DecidesWaveAs (opens_as_sheet claimed) x.circuit claimed n verdict) (sym (h.one text k is form)) said)

-- Where there is no model.

pub without_gives : (model answer : Option (List ℕ)) (j : ℕ) (status : Status) (result : Result Ending Status) → EndsWithoutModel model status
    → IfOk result (λ ending. (ending.status ≡ status) × (ending.text.items ≡ text_of status)) → IfOk result (λ ending. ends_silently status ≡ false)
    → IfOk result (λ ending. GivesWave model answer j ending.status ending.text.items)
without_gives model answer j status (Err other) h text aloud = tt
without_gives model answer j (statuses.BadModel fault) (Ok ending) h text aloud = inl ((fault, text.0, h.text), text.1 ∙ sym (ap text_of text.0))
without_gives model answer j statuses.ReadFault (Ok ending) h text aloud = absurd (cc aloud)
without_gives model answer j statuses.Memory (Ok ending) h text aloud = absurd (cc aloud)
without_gives model answer j (statuses.Done done) (Ok ending) h text aloud = absurd h
without_gives model answer j (statuses.Refused fault) (Ok ending) h text aloud = absurd h
without_gives model answer j (statuses.RefusedBlock n fault) (Ok ending) h text aloud = absurd h
without_gives model answer j statuses.WriteFault (Ok ending) h text aloud = absurd h
without_gives model answer j statuses.Usage (Ok ending) h text aloud = absurd h
without_gives model answer j (statuses.Unknown report) (Ok ending) h text aloud = absurd h
without_gives model answer j (statuses.NoProperty n) (Ok ending) h text aloud = absurd h
without_gives model answer j (statuses.TooLarge n) (Ok ending) h text aloud = absurd h
without_gives model answer j (statuses.OpenRounds n spent) (Ok ending) h text aloud = absurd h
without_gives model answer j (statuses.OpenDepth n spent) (Ok ending) h text aloud = absurd h
without_gives model answer j (statuses.NoItem entry clause) (Ok ending) h text aloud = absurd h

bad_exact : (model answer : Option (List ℕ)) (j : ℕ) (fault : ModelFault) → IsFaultOf model fault
    → (verdict : Status) → DecidesWave model answer j verdict → GivesVerdict verdict (statuses.BadModel fault)
bad_exact model answer j fault h verdict (inl (other, e, (text, told, bad))) =
    subst (λ (v : Status). GivesVerdict v (statuses.BadModel fault)) (sym e) (same_bad fault other (h.one text other told bad))
bad_exact model answer j fault h verdict (inr (text, told, (claimed, claim_told, (m, form, said)))) = absurd (h.none text m told form)

no_model_exact : (model answer : Option (List ℕ)) (j : ℕ) (status : Status) → EndsWithoutModel model status
    → (verdict : Status) → DecidesWave model answer j verdict → GivesVerdict verdict status
no_model_exact model answer j (statuses.BadModel fault) h verdict d = bad_exact model answer j fault h verdict d
no_model_exact model answer j statuses.ReadFault h verdict d = inl (inr (inl refl))
no_model_exact model answer j statuses.Memory h verdict d = inr refl
no_model_exact model answer j (statuses.Done done) h verdict d = absurd h
no_model_exact model answer j (statuses.Refused fault) h verdict d = absurd h
no_model_exact model answer j (statuses.RefusedBlock n fault) h verdict d = absurd h
no_model_exact model answer j statuses.WriteFault h verdict d = absurd h
no_model_exact model answer j statuses.Usage h verdict d = absurd h
no_model_exact model answer j (statuses.Unknown report) h verdict d = absurd h
no_model_exact model answer j (statuses.NoProperty n) h verdict d = absurd h
no_model_exact model answer j (statuses.TooLarge n) h verdict d = absurd h
no_model_exact model answer j (statuses.OpenRounds n spent) h verdict d = absurd h
no_model_exact model answer j (statuses.OpenDepth n spent) h verdict d = absurd h
no_model_exact model answer j (statuses.NoItem entry clause) h verdict d = absurd h

pub without_exact : (model answer : Option (List ℕ)) (j : ℕ) (status result : Status) → EndsWithoutModel model status → (result ≡ status) ⊎ (result ≡ statuses.Memory)
    → (verdict : Status) → DecidesWave model answer j verdict → GivesVerdict verdict result
without_exact model answer j status result h is verdict d = still verdict status result is (no_model_exact model answer j status h verdict d)

-- No answer is accepted.

waves_accept_none : (end : End) → accepts (wave_status end) ≡ false
unfolding accepts
waves_accept_none (Ok (Lasso n positions from)) = refl
waves_accept_none (Ok (Holds n entries)) = refl
waves_accept_none (Err (ends.Refused fault)) = refl
waves_accept_none (Err ends.ReadFault) = refl
waves_accept_none (Err ends.Memory) = refl

pub waved_hidden : (m : Model) (end : End) (kept : Option LassoOf) (result : Result Ending Status) → CarriesLasso m end kept → IsWaved m end kept result → accepts (status_in result) ≡ false
waved_hidden m end kept result carried w = by (waved_status m end kept result carried w)
  where
    by : (status_in result ≡ wave_status end) ⊎ (status_in result ≡ statuses.Memory) → accepts (status_in result) ≡ false
    by (inl e) = ap accepts e ∙ waves_accept_none end
    by (inr e) = ap accepts e ∙ memory_accepts_none

pub never_shown : (a : Judged) (result : Status) → accepts result ≡ false → result ≡ statuses.Done (done_by a) → ⊥
never_shown a result none is = not_both a result result none (inl refl) is

-- Reads and silence.

-- the status says that a read failed exactly where the check ended so
pub waved_unread : (m : Model) (end : End) (kept : Option LassoOf) (result : Result Ending Status) → CarriesLasso m end kept → IsWaved m end kept result
    → is_read_fault (status_in result) ≡ has_unread end
waved_unread m (Ok (Lasso n positions from)) kept result (lasso, is, good) h = written_unread result (statuses.Done Printed) (waves_text m n lasso) refl (h lasso is)
waved_unread m (Ok (Holds n entries)) kept result c h = written_unread result (statuses.Refused UnknownStatus) (text_of (statuses.Refused UnknownStatus)) refl h
waved_unread m (Err (ends.Refused fault)) kept result c h = written_unread result (statuses.Refused fault) (text_of (statuses.Refused fault)) refl h
waved_unread m (Err ends.ReadFault) kept result c h = ap (λ (r : Result Ending Status). is_read_fault (status_in r)) h
waved_unread m (Err ends.Memory) kept result c h = ap (λ (r : Result Ending Status). is_read_fault (status_in r)) h

pub unread_end : (end : End) → has_unread end ≡ true → end ≡ Err ends.ReadFault
unread_end (Ok found) e = absurd (cc e)
unread_end (Err (ends.Refused fault)) e = absurd (cc e)
unread_end (Err ends.ReadFault) e = refl
unread_end (Err ends.Memory) e = absurd (cc e)

pub read_failed : (m : Model) (end : End) (kept : Option LassoOf) (result : Result Ending Status) → CarriesLasso m end kept → IsWaved m end kept result
    → status_in result ≡ statuses.ReadFault → end ≡ Err ends.ReadFault
read_failed m end kept result carried w e = unread_end end (sym (waved_unread m end kept result carried w) ∙ ap is_read_fault e)

pub waved_silent : (m : Model) (end : End) (kept : Option LassoOf) (result : Result Ending Status) → CarriesLasso m end kept → IsWaved m end kept result → IfErr result IsSilent
waved_silent m end kept (Ok ending) carried w = tt
waved_silent m (Ok (Lasso n positions from)) kept (Err other) (lasso, is, good) w = inr (w lasso is)
waved_silent m (Ok (Holds n entries)) kept (Err other) carried w = inr w
waved_silent m (Err (ends.Refused fault)) kept (Err other) carried w = inr w
waved_silent m (Err ends.ReadFault) kept (Err other) carried w = inl (ap status_in w)
waved_silent m (Err ends.Memory) kept (Err other) carried w = inr (ap status_in w)

pub waved_aloud : (m : Model) (end : End) (kept : Option LassoOf) (result : Result Ending Status) → CarriesLasso m end kept → IsWaved m end kept result
    → IfOk result (λ ending. is_read_fault ending.status ≡ false)
waved_aloud m end kept (Err other) carried w = tt
waved_aloud m (Ok (Lasso n positions from)) kept (Ok ending) (lasso, is, good) w = ap is_read_fault (w lasso is).0
waved_aloud m (Ok (Holds n entries)) kept (Ok ending) carried w = ap is_read_fault w.0
waved_aloud m (Err (ends.Refused fault)) kept (Ok ending) carried w = ap is_read_fault w.0
waved_aloud m (Err ends.ReadFault) kept (Ok ending) carried w = absurd (cc w)
waved_aloud m (Err ends.Memory) kept (Ok ending) carried w = absurd (cc w)

-- ANSWER was read after a model
pub model_first : {Shelf : Type 0} (Read : ReadsOf Shelf) (held : List ℕ → Option (List ℕ)) (model answer : List ℕ)
    (status : Status) (old mid new : Shelf) → ReadsModel Read model false old mid → HoldsModel held model
    → Reads Read answer (is_read_fault status) mid new → ReadsModelFirst Read held (model ∷ answer ∷ []) (is_read_fault status) old new
model_first Read held model answer status old mid new first holds second = inr (mid, first, holds, inl second)

pub both_read : {Shelf : Type 0} (Read : ReadsOf Shelf) (held : List ℕ → Option (List ℕ)) (model answer : List ℕ)
    (end : End) (status : Status) (old mid new : Shelf) → is_read_fault status ≡ has_unread end → ReadsModel Read model false old mid → HoldsModel held model
    → Reads Read answer (has_unread end) mid new → ReadsModelFirst Read held (model ∷ answer ∷ []) (is_read_fault status) old new
both_read Read held model answer end status old mid new same first holds second =
    inr (mid, first, holds, inl (subst (λ (failed : Bool). Reads Read answer failed mid new) (sym same) second))

-- The writes that a sink saw.

-- the status of the end of a block
of_cut : {Sink : Type 0} (Write : Sink → Bool → Sink → Type 0) (c : Circuit) (claimed : List ℕ) (n : ℕ) (end : JudgeEnd) (old new : Sink) → DecidesSheet c claimed n (Err end)
    → Writes Write false old new → HasWritten Write (status_of_end end) old new
of_cut Write c claimed n end old new (inl (sheet, of, decided)) writes = by (slice_get sheet.blocks n) decided
  where
    of_fault : (fault : AnswerFault) → ◌≡◌ {A = Result BlockLasso JudgeEnd} (Err end) (Err (cut_refused fault)) → HasWritten Write (status_of_end end) old new
    of_fault fault same =
        let one : end ≡ cut_refused fault = cc same in
        subst (λ (x : JudgeEnd). HasWritten Write (status_of_end x) old new) (sym one) writes

    by : (o : Option Block) → DecidesIn c n o (Err end) → HasWritten Write (status_of_end end) old new
    by (Some (blocks.Lasso s)) wrong = absurd wrong
    by (Some (blocks.Holds r)) same = of_fault UnknownStatus same
    by (Some blocks.Open) same = of_fault UnknownStatus same
    by None same = of_fault (NoProperty n) same
of_cut Write c claimed n end old new (inr (other, decides, same)) writes =
    let one : end ≡ other = cc same in
    subst (λ (x : JudgeEnd). HasWritten Write (status_of_end x) old new) (sym one) (of_refusal Write c claimed (opens_as_sheet claimed) other old new decides writes)

of_waved : {Sink : Type 0} (Write : Sink → Bool → Sink → Type 0) (m : Model) (claimed : List ℕ) (n : ℕ) (status : Status) (text : List ℕ) (old new : Sink) (test : Bool)
    → opens_as_sheet claimed ≡ test → EndsWaveAs test m claimed n status text → Writes Write false old new → HasWritten Write status old new
of_waved Write m claimed n status text old new false is (inl (k, lasso, good, e, t)) writes = subst (λ (s : Status). HasWritten Write s old new) (sym e) writes
of_waved Write m claimed n status text old new false is (inr (fault, none, e, t)) writes = subst (λ (s : Status). HasWritten Write s old new) (sym e) writes
of_waved Write m claimed n status text old new true is (inl (found, decides, e, t)) writes = subst (λ (s : Status). HasWritten Write s old new) (sym e) writes
of_waved Write m claimed n status text old new true is (inr (end, decides, e, t)) writes =
    subst (λ (s : Status). HasWritten Write s old new) (sym e) (of_cut Write m.circuit claimed n end old new (subst (λ (b : Bool). CutAs b m.circuit claimed n (Err end)) is decides) writes)

pub of_wave : {Sink : Type 0} (Write : Sink → Bool → Sink → Type 0) (model answer : Option (List ℕ)) (n : ℕ) (status : Status)
    (text : List ℕ) (old new : Sink) → GivesWave model answer n status text → Writes Write false old new → HasWritten Write status old new
of_wave Write model answer n status text old new (inl ((fault, e, bad), t)) writes = subst (λ (s : Status). HasWritten Write s old new) (sym e) writes
of_wave Write model answer n status text old new (inr (_, _, (m, _, (claimed, _, ends_so)))) writes =
    of_waved Write m claimed n status text old new (opens_as_sheet claimed) refl ends_so writes
