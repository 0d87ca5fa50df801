-- What `shortest` gives, from the model and from what it comes to for its circuit.
use Rattle.std.proofs.Common.{◌≡◌, ◌⊎◌, ◌≤◌, ◌<◌, ◌^◌, ℕ, Bool, false, List, length, refl, sym, ◌∙◌, ap, subst, inl, inr, arith, Ok, Err}
use Rattle.std.specs.Prelude.{Option, Result, IfOk, IfErr}
use Rattle.aig_semantics.specs.declared.traces.Stimulus.{Stimulus}
use Rattle.aig_semantics.specs.declared.traces.Lasso.{Lasso as LassoOf}
use Rattle.aig_semantics.specs.Circuits.{Circuit}
use Rattle.aig_semantics.specs.Stimuli.{StandsFor}
use Rattle.aiger_grammar.specs.Models.{Model}
use Rattle.circuit.specs.declared.faults.ModelFault.{ModelFault}
use Rattle.edge.specs.Units.{Spendings, limit_of}
use Rattle.edge.specs.Writes.{Writes}
use Rattle.answer_lines.specs.Left.{most_bytes}
use Rattle.stimulus.specs.Texts.{answer_text}
use Rattle.certificate.specs.declared.ends.Accepted.TheVariants as accepted
use Rattle.certificate.specs.Answers.{IsGood}
use Rattle.certificate.specs.Laws.{WrittenIsGood, GoodIsTrue}
use Rattle.sheet_answers.specs.declared.ends.Judged.{Judged}
use Rattle.round_answers.specs.declared.ends.Judged.TheVariants as texts
use Rattle.sheet_answers.specs.declared.ends.Judged.TheVariants as found_as
use Rattle.sheet_answers.specs.Ends.{ShowsText}
use Rattle.edge.specs.declared.metering.Spent.{Spent}
use Rattle.lasso_bmc.specs.declared.ends.SearchEnd.{SearchEnd}
use Rattle.lasso_bmc.specs.declared.ends.SearchEnd.TheVariants as ends
use Rattle.lasso_bmc.specs.Searching.{HasNoneWithin, IsShortest, IsSearchEnd}
use Rattle.command_lines.specs.declared.commands.bounding.ShortestRequest.{ShortestRequest}
use Rattle.plain_commands.specs.declared.status.Status.{Status}
use Rattle.plain_commands.specs.declared.status.Status.TheVariants as statuses
use Rattle.plain_commands.specs.declared.status.Done.TheVariants as done
use Rattle.plain_commands.specs.declared.texts.Ending.{Ending}
use Rattle.plain_commands.specs.Check.{done_by}
use Rattle.plain_commands.specs.Shortest.{SaysNoSuch, IsFewest, EndsShortest, GivesShortest, DecidesShortest, ShownByShortest}
use Rattle.plain_commands.specs.Statuses.{is_read_fault, ends_silently, status_in}
use Rattle.plain_commands.specs.Texts.{text_of, depth_text}
use Rattle.plain_commands.specs.Answering.{GivesVerdict, HasWritten}
use Rattle.plain_commands.specs.Judged.{IsModelOf, IsFaultOf, EndsWithoutModel}
use Rattle.plain_commands.proofs.Judging.{same_bad, same_accepted}
use Rattle.plain_commands.proofs.Written.{not_both, no_model_accepts_none}

-- What is printed.

pub good_shortest : (c : Circuit) (request : ShortestRequest) (s : Stimulus) (lasso : LassoOf) (positions from : ℕ) (text : List ℕ)
    → WrittenIsGood c → GoodIsTrue c → request.property < 2 ^ 63 → length s.inputs ≡ positions → StandsFor c request.property s positions from
    → text ≡ answer_text request.property s → length text ≤ most_bytes → IsShortest c request.property lasso → length lasso.inputs ≤ request.depth
    → positions ≤ length lasso.inputs → EndsShortest c request (statuses.Done (done.Lasso request.property positions from)) text
good_shortest c request s lasso positions from text written true_one small all stands same short shortest within fewer =
    let j = request.property in
    let good : IsGood c text (accepted.Lasso j positions from) = subst (λ (t : List ℕ). IsGood c t (accepted.Lasso j positions from)) (sym same)
    (written j s positions from small stands (subst (λ (t : List ℕ). length t ≤ most_bytes) same short)) in
    let fewest : IsFewest c j positions = λ run place other. (let least = shortest.fewest run place other in omega (arith, least, fewer)) in
    inr (inl (positions, from, refl, good, (s, same, all, stands), true_one text (accepted.Lasso j positions from) good, fewest, omega (arith, within, fewer)))

-- What is said.

pub none_is_said : (c : Circuit) (request : ShortestRequest) (result : Result Ending Status) → request.property < length c.justice
    → HasNoneWithin c request.property request.depth
    → IfOk result (λ ending. (ending.status ≡ statuses.Done (done.NoneWithin request.property request.depth))
    × (ending.text.items ≡ text_of (statuses.Done (done.NoneWithin request.property request.depth))))
    → IfOk result (λ ending. EndsShortest c request ending.status ending.text.items)
none_is_said c request (Err other) there none text = tt
none_is_said c request (Ok ending) there none text = inr (inr (inl ((text.0, there, none), text.1 ∙ sym (ap text_of text.0))))

pub cut_is_said : (c : Circuit) (request : ShortestRequest) (meter : Spendings) (end : SearchEnd) (unit : Spent) (most : ℕ) (result : Result Ending Status)
    → request.property < length c.justice → IsSearchEnd c request.property 0 request.depth meter end → end ≡ ends.Spent unit most
    → meter.conflict_limit ≡ limit_of request.conflicts
    → IfOk result (λ ending. ending.status ≡ statuses.OpenDepth most meter)
    → IfOk result (λ ending. ending.text.items ≡ depth_text request.property most request.depth meter)
    → IfOk result (λ ending. EndsShortest c request ending.status ending.text.items)
cut_is_said c request meter end unit most (Err other) there is same limit status text = tt
cut_is_said c request meter end unit most (Ok ending) there is same limit status text =
    let said = subst (λ (e : SearchEnd). IsSearchEnd c request.property 0 request.depth meter e) same is in
    inr (inr (inr (most, meter, status, text, there, limit, said.0.0, said.3, said.1)))

-- Where the model was read.

pub bounded_gives : (c : Circuit) (m : Model) (told : Option (List ℕ)) (request : ShortestRequest) (result : Result Ending Status) → c ≡ m.circuit → IsModelOf told m
    → IfOk result (λ ending. EndsShortest c request ending.status ending.text.items)
    → IfOk result (λ ending. GivesShortest told request ending.status ending.text.items)
bounded_gives c m told request (Err status) same h ends = tt
bounded_gives c m told request (Ok ending) same h ends =
    inr (h.text.0, h.text.1, (m, h.text.2, subst (λ (k : Circuit). EndsShortest k request ending.status ending.text.items) same ends))

one_decided : (c : Circuit) (request : ShortestRequest) (status verdict : Status) (text : List ℕ) → EndsShortest c request status text
    → SaysNoSuch c request verdict → status ≡ verdict
one_decided c request status verdict text (inl ((e, none), t)) d = e ∙ sym d.0
one_decided c request status verdict text (inr (inl (positions, from, e, good, written, shows, fewest, within))) d =
    let there = good.0 in let none = d.1 in absurd (omega (arith, there, none))
one_decided c request status verdict text (inr (inr (inl ((e, there, none), t)))) d = let absent = d.1 in absurd (omega (arith, there, absent))
one_decided c request status verdict text (inr (inr (inr (most, spent, e, t, there, limit, met, below, none)))) d =
    let absent = d.1 in absurd (omega (arith, there, absent))

pub bounded_exact : (c : Circuit) (m : Model) (told : Option (List ℕ)) (request : ShortestRequest) (result : Result Ending Status) → c ≡ m.circuit → IsModelOf told m
    → IfOk result (λ ending. EndsShortest c request ending.status ending.text.items) → IfErr result (λ status. status ≡ statuses.Memory)
    → (verdict : Status) → DecidesShortest told request verdict → GivesVerdict verdict (status_in result)
bounded_exact c m told request result same h ends ended verdict (inl (fault, e, (text, is, bad))) = absurd (h.faultless text fault is bad)
bounded_exact c m told request (Err status) same h ends ended verdict (inr (text, is, (n, form, d))) = inr ended
bounded_exact c m told request (Ok ending) same h ends ended verdict (inr (text, is, (n, form, d))) =
    let circuits : n.circuit ≡ c = ap (λ (x : Model). x.circuit) (sym (h.one text n is form)) ∙ sym same in
    inl (inl (inl (one_decided c request ending.status verdict ending.text.items ends (subst (λ (k : Circuit). SaysNoSuch k request verdict) circuits d))))

-- that there is no lasso is no accepted answer
not_accepted : (n depth : ℕ) (a : Judged) → statuses.Done (done.NoneWithin n depth) ≡ statuses.Done (done_by a) → ⊥
not_accepted n depth (found_as.Text (texts.Answer (accepted.Lasso p k f))) e = cc
not_accepted n depth (found_as.Text (texts.Answer (accepted.Holds p k))) e = cc
not_accepted n depth (found_as.Text (texts.Rounds p k reached)) e = cc
not_accepted n depth (found_as.Sheet counts entries) e = cc

shown_by : (c : Circuit) (request : ShortestRequest) (status : Status) (text : List ℕ) → EndsShortest c request status text
    → (a : Judged) → status ≡ statuses.Done (done_by a) → ShowsText c a
shown_by c request status text (inl ((e, none), t)) a is = let wrong : statuses.NoProperty request.property ≡ statuses.Done (done_by a) = sym e ∙ is in cc
shown_by c request status text (inr (inl (positions, from, e, good, written, shows, fewest, within))) a is =
    subst (λ (x : Judged). ShowsText c x) (same_accepted (found_as.Text (texts.Answer (accepted.Lasso request.property positions from))) a (sym e ∙ is)) shows
shown_by c request status text (inr (inr (inl ((e, there, none), t)))) a is = absurd (not_accepted request.property request.depth a (sym e ∙ is))
shown_by c request status text (inr (inr (inr (most, spent, e, t, there, limit, met, below, none)))) a is =
    let wrong : statuses.OpenDepth most spent ≡ statuses.Done (done_by a) = sym e ∙ is in cc

pub bounded_shown : (c : Circuit) (m : Model) (told : Option (List ℕ)) (request : ShortestRequest) (result : Result Ending Status) → c ≡ m.circuit → IsModelOf told m
    → IfOk result (λ ending. EndsShortest c request ending.status ending.text.items) → IfErr result (λ status. status ≡ statuses.Memory)
    → (a : Judged) → status_in result ≡ statuses.Done (done_by a) → ShownByShortest told a
bounded_shown c m told request (Err status) same h ends ended a is = let wrong : statuses.Memory ≡ statuses.Done (done_by a) = sym ended ∙ is in cc
bounded_shown c m told request (Ok ending) same h ends ended a is =
    (h.text.0, h.text.1, (m, h.text.2, subst (λ (k : Circuit). ShowsText k a) same (shown_by c request ending.status ending.text.items ends a is)))

unread : (c : Circuit) (request : ShortestRequest) (status : Status) (text : List ℕ) → EndsShortest c request status text → is_read_fault status ≡ false
unread c request status text (inl ((e, none), t)) = ap is_read_fault e
unread c request status text (inr (inl (positions, from, e, good, written, shows, fewest, within))) = ap is_read_fault e
unread c request status text (inr (inr (inl ((e, there, none), t)))) = ap is_read_fault e
unread c request status text (inr (inr (inr (most, spent, e, t, there, limit, met, below, none)))) = ap is_read_fault e

pub bounded_unread : (c : Circuit) (request : ShortestRequest) (result : Result Ending Status)
    → IfOk result (λ ending. EndsShortest c request ending.status ending.text.items) → IfErr result (λ status. status ≡ statuses.Memory)
    → is_read_fault (status_in result) ≡ false
bounded_unread c request (Err status) ends ended = ap is_read_fault ended
bounded_unread c request (Ok ending) ends ended = unread c request ending.status ending.text.items ends

pub bounded_aloud : (c : Circuit) (request : ShortestRequest) (result : Result Ending Status)
    → IfOk result (λ ending. EndsShortest c request ending.status ending.text.items) → IfOk result (λ ending. is_read_fault ending.status ≡ false)
bounded_aloud c request (Err status) ends = tt
bounded_aloud c request (Ok ending) ends = unread c request ending.status ending.text.items ends

-- What a sink saw.

pub of_shortest : {Sink : Type 0} (Write : Sink → Bool → Sink → Type 0) (model : Option (List ℕ)) (request : ShortestRequest) (status : Status)
    (text : List ℕ) (old new : Sink) → GivesShortest model request status text → Writes Write false old new → HasWritten Write status old new
of_shortest Write model request status text old new (inl ((fault, e, bad), t)) writes = subst (λ (s : Status). HasWritten Write s old new) (sym e) writes
of_shortest Write model request status text old new (inr (_, _, (m, _, inl ((e, none), t)))) writes = subst (λ (s : Status). HasWritten Write s old new) (sym e) writes
of_shortest Write model request status text old new (inr (_, _, (m, _, inr (inl p)))) writes = subst (λ (s : Status). HasWritten Write s old new) (sym p.2) writes
of_shortest Write model request status text old new (inr (_, _, (m, _, inr (inr (inl (says, t)))))) writes = subst (λ (s : Status). HasWritten Write s old new) (sym says.0) writes
of_shortest Write model request status text old new (inr (_, _, (m, _, inr (inr (inr p))))) writes = subst (λ (s : Status). HasWritten Write s old new) (sym p.2) writes

-- Where there is no model.

pub without_gives : (model : Option (List ℕ)) (request : ShortestRequest) (status : Status) (result : Result Ending Status) → EndsWithoutModel model status
    → IfOk result (λ ending. (ending.status ≡ status) × (ending.text.items ≡ text_of status)) → IfOk result (λ ending. ends_silently status ≡ false)
    → IfOk result (λ ending. GivesShortest model request ending.status ending.text.items)
without_gives model request status (Err other) h text aloud = tt
without_gives model request (statuses.BadModel fault) (Ok ending) h text aloud = inl ((fault, text.0, h.text), text.1 ∙ sym (ap text_of text.0))
without_gives model request statuses.ReadFault (Ok ending) h text aloud = absurd (cc aloud)
without_gives model request statuses.Memory (Ok ending) h text aloud = absurd (cc aloud)
without_gives model request (statuses.Done d) (Ok ending) h text aloud = absurd h
without_gives model request (statuses.Refused fault) (Ok ending) h text aloud = absurd h
without_gives model request (statuses.RefusedBlock n fault) (Ok ending) h text aloud = absurd h
without_gives model request statuses.WriteFault (Ok ending) h text aloud = absurd h
without_gives model request statuses.Usage (Ok ending) h text aloud = absurd h
without_gives model request (statuses.Unknown report) (Ok ending) h text aloud = absurd h
without_gives model request (statuses.NoProperty n) (Ok ending) h text aloud = absurd h
without_gives model request (statuses.TooLarge n) (Ok ending) h text aloud = absurd h
without_gives model request (statuses.OpenRounds n spent) (Ok ending) h text aloud = absurd h
without_gives model request (statuses.OpenDepth n spent) (Ok ending) h text aloud = absurd h
without_gives model request (statuses.NoItem entry clause) (Ok ending) h text aloud = absurd h

bad_exact : (model : Option (List ℕ)) (request : ShortestRequest) (fault : ModelFault) → IsFaultOf model fault
    → (verdict : Status) → DecidesShortest model request verdict → GivesVerdict verdict (statuses.BadModel fault)
bad_exact model request fault h verdict (inl (other, e, (text, told, bad))) =
    subst (λ (v : Status). GivesVerdict v (statuses.BadModel fault)) (sym e) (same_bad fault other (h.one text other told bad))
bad_exact model request fault h verdict (inr (text, told, (m, form, d))) = absurd (h.none text m told form)

no_model_exact : (model : Option (List ℕ)) (request : ShortestRequest) (status : Status) → EndsWithoutModel model status
    → (verdict : Status) → DecidesShortest model request verdict → GivesVerdict verdict status
no_model_exact model request (statuses.BadModel fault) h verdict d = bad_exact model request fault h verdict d
no_model_exact model request statuses.ReadFault h verdict d = inl (inr (inl refl))
no_model_exact model request statuses.Memory h verdict d = inr refl
no_model_exact model request (statuses.Done other) h verdict d = absurd h
no_model_exact model request (statuses.Refused fault) h verdict d = absurd h
no_model_exact model request (statuses.RefusedBlock n fault) h verdict d = absurd h
no_model_exact model request statuses.WriteFault h verdict d = absurd h
no_model_exact model request statuses.Usage h verdict d = absurd h
no_model_exact model request (statuses.Unknown report) h verdict d = absurd h
no_model_exact model request (statuses.NoProperty n) h verdict d = absurd h
no_model_exact model request (statuses.TooLarge n) h verdict d = absurd h
no_model_exact model request (statuses.OpenRounds n spent) h verdict d = absurd h
no_model_exact model request (statuses.OpenDepth n spent) h verdict d = absurd h
no_model_exact model request (statuses.NoItem entry clause) h verdict d = absurd h

pub without_exact : (model : Option (List ℕ)) (request : ShortestRequest) (status result : Status) → EndsWithoutModel model status
    → (result ≡ status) ⊎ (result ≡ statuses.Memory) → (verdict : Status) → DecidesShortest model request verdict → GivesVerdict verdict result
without_exact model request status result h (inl same) verdict d =
    subst (λ (s : Status). GivesVerdict verdict s) (sym same) (no_model_exact model request status h verdict d)
without_exact model request status result h (inr memory) verdict d = inr memory

pub without_shown : (model : Option (List ℕ)) (status result : Status) → EndsWithoutModel model status → (result ≡ status) ⊎ (result ≡ statuses.Memory)
    → (a : Judged) → result ≡ statuses.Done (done_by a) → ShownByShortest model a
without_shown model status result h either a is = absurd (not_both a status result (no_model_accepts_none model status h) either is)
