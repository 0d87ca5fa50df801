-- What `rounds` gives, from the model and from what it comes to for its circuit.
use Rattle.std.proofs.Common.{◌≡◌, ◌⊎◌, ◌≤◌, ℕ, zero, suc, Bool, true, false, List, refl, sym, ◌∙◌, ap, subst, inl, inr, arith, Ok, Err}
use Rattle.std.specs.Prelude.{Option, Result, IfOk, IfErr}
use Rattle.std.proofs.lemmas.Bool.{cases_lt}
use Rattle.aig_semantics.specs.declared.traces.Position.{Position}
use Rattle.aig_semantics.specs.Circuits.{Circuit}
use Rattle.aiger_grammar.specs.Models.{Model}
use Rattle.circuit.specs.declared.faults.ModelFault.{ModelFault}
use Rattle.edge.specs.Units.{Spendings, limit_of}
use Rattle.edge.specs.Ends.{IsSpent}
use Rattle.round_monitor.specs.Numbers.{sizes_of, greatest}
use Rattle.round_monitor.specs.Ends.{IsMonitorable}
use Rattle.sheet_answers.specs.declared.ends.Judged.{Judged}
use Rattle.round_answers.specs.declared.ends.Judged.TheVariants as texts
use Rattle.sheet_answers.specs.declared.ends.Judged.TheVariants as found_as
use Rattle.sheet_answers.specs.Ends.{ShowsText}
use Rattle.round_answers.specs.declared.limits.TheConstants.{MAX_ROUNDS}
use Rattle.round_answers.specs.declared.rounds.KnownRounds.{KnownRounds}
use Rattle.round_answers.specs.declared.rounds.KnownRounds.TheVariants.{Fewer, Reached}
use Rattle.round_answers.specs.Texts.{MayBeAsked}
use Rattle.round_answers.specs.Answers.{IsGoodAbout, ShowsRounds}
use Rattle.round_answers.specs.Writing.{IsSo, is_reached}
use Rattle.fair_semantics.specs.Rounds.{HasRounds}
use Rattle.k_live.specs.Deciding.{Settles, SettlesNothing}
use Rattle.k_live.specs.declared.ends.RoundsEnd.TheVariants as ends
use Rattle.command_lines.specs.declared.commands.counting.RoundsRequest.{RoundsRequest}
use Rattle.plain_commands.specs.declared.status.Status.{Status}
use Rattle.plain_commands.specs.declared.status.Status.TheVariants as statuses
use Rattle.plain_commands.specs.declared.status.Done.TheVariants as done
use Rattle.plain_commands.specs.declared.texts.Ending.{Ending}
use Rattle.plain_commands.specs.Check.{done_by}
use Rattle.plain_commands.specs.Rounds.{SaysNoMonitor, SaysOpen, EndsRounds, GivesRounds, DecidesRounds, ShownByRounds}
use Rattle.plain_commands.specs.Statuses.{is_read_fault, ends_silently, status_in}
use Rattle.plain_commands.specs.Texts.{text_of}
use Rattle.plain_commands.specs.Answering.{GivesVerdict}
use Rattle.plain_commands.specs.Judged.{IsModelOf, IsFaultOf, EndsWithoutModel}
use Rattle.plain_commands.proofs.Judging.{same_bad, same_accepted}
use Rattle.plain_commands.proofs.Written.{not_both, no_model_accepts_none}

-- What is printed.

-- fewer rounds are there too
fewer_rounds : (c : Circuit) (n m k : ℕ) (run : List Position) → k ≤ m → HasRounds c n m run → HasRounds c n k run
fewer_rounds c n m zero run le h = tt
fewer_rounds c n zero (suc k) run le h = absurd (omega (arith, le))
fewer_rounds c n (suc m) (suc k) run le (front, segment, rest, split, round, others) =
    (front, segment, rest, split, round, fewer_rounds c n m k rest (omega (arith, le)) others)

shows : (c : Circuit) (n k : ℕ) (found : KnownRounds) → Settles c n k found → ShowsRounds c n k (is_reached found)
shows c n k (Reached run) h = (run, h.0, h.1)
shows c n k (Fewer entries refutation) none = λ run m initial rounds.
    elim (cases_lt m k) [
      | inl below ↦ below
      | inr above ↦ absurd (none (run, initial, fewer_rounds c n m k run (omega (arith, above)) rounds))
    ]

pub rounds_are_printed : (c : Circuit) (request : RoundsRequest) (found : KnownRounds) (reached : Bool) (text : List ℕ) → MayBeAsked request.k
    → IsSo c request.property request.k found → Settles c request.property request.k found → reached ≡ is_reached found
    → (request.k ≤ MAX_ROUNDS → IsSo c request.property request.k found → IsGoodAbout c text request.property request.k (is_reached found))
    → EndsRounds c request (statuses.Done (done.Rounds request.property request.k reached)) text
rounds_are_printed c request found reached text asked so decides same good =
    let n = request.property in
    let k = request.k in
    inr (inl (
      reached,
      refl,
      subst (λ (r : Bool). IsGoodAbout c text n k r) (sym same) (good asked.few so),
      subst (λ (r : Bool). ShowsRounds c n k r) (sym same) (shows c n k found decides),
    ))

-- What a search that is cut short leaves.

pub is_open : (c : Circuit) (request : RoundsRequest) (meter spent : Spendings) → SettlesNothing c request.property request.k meter (ends.Unsettled spent)
    → meter.conflict_limit ≡ limit_of request.conflicts → meter.step_limit ≡ limit_of request.steps
    → SaysOpen c request (statuses.OpenRounds request.property spent)
is_open c request meter spent (same, met, able) conflicts steps = (
  spent,
  refl,
  able,
  ap (λ (m : Spendings). m.conflict_limit) same ∙ conflicts,
  ap (λ (m : Spendings). m.step_limit) same ∙ steps,
  subst IsSpent (sym same) met,
)

pub open_is_said : (c : Circuit) (request : RoundsRequest) (status : Status) (result : Result Ending Status) → SaysOpen c request status
    → IfOk result (λ ending. (ending.status ≡ status) × (ending.text.items ≡ text_of status))
    → IfOk result (λ ending. EndsRounds c request ending.status ending.text.items)
open_is_said c request status (Err other) says text = tt
open_is_said c request status (Ok ending) says text =
    inr (inr (subst (λ (s : Status). SaysOpen c request s) (sym text.0) says, text.1 ∙ sym (ap text_of text.0)))

-- Where the model was read.

pub counted_gives : (c : Circuit) (m : Model) (told : Option (List ℕ)) (request : RoundsRequest) (result : Result Ending Status) → c ≡ m.circuit → IsModelOf told m
    → IfOk result (λ ending. EndsRounds c request ending.status ending.text.items)
    → IfOk result (λ ending. GivesRounds told request ending.status ending.text.items)
counted_gives c m told request (Err status) same h ends = tt
counted_gives c m told request (Ok ending) same h ends =
    inr (h.text.0, h.text.1, (m, h.text.2, subst (λ (k : Circuit). EndsRounds k request ending.status ending.text.items) same ends))

-- of a property without a monitor nothing is decided
monitored : (c : Circuit) (request : RoundsRequest) (status : Status) → SaysNoMonitor c request status → IsMonitorable c request.property request.k → ⊥
monitored c request status (inl (e, none)) able = let there = able.property in absurd (omega (arith, none, there))
monitored c request status (inr (e, large)) able = let more = large.size in let most = able.size in absurd (omega (arith, more, most))

able_of : (c : Circuit) (text : List ℕ) (n k : ℕ) (reached : Bool) → IsGoodAbout c text n k reached → IsMonitorable c n k
able_of c text n k false good = good.1
able_of c text n k true good = good.1

one_said : (c : Circuit) (request : RoundsRequest) (a b : Status) → SaysNoMonitor c request a → SaysNoMonitor c request b → a ≡ b
one_said c request a b (inl (e, none)) (inl (f, other)) = e ∙ sym f
one_said c request a b (inl (e, none)) (inr (f, large)) = let there = large.property in absurd (omega (arith, none, there))
one_said c request a b (inr (e, large)) (inl (f, none)) = let there = large.property in absurd (omega (arith, none, there))
one_said c request a b (inr (e, large)) (inr (f, other)) = e ∙ sym f

one_decided : (c : Circuit) (request : RoundsRequest) (status verdict : Status) (text : List ℕ) → EndsRounds c request status text
    → SaysNoMonitor c request verdict → status ≡ verdict
one_decided c request status verdict text (inl (h, t)) d = one_said c request status verdict h d
one_decided c request status verdict text (inr (inl (reached, e, good, true_so))) d =
    absurd (monitored c request verdict d (able_of c text request.property request.k reached good))
one_decided c request status verdict text (inr (inr (says, t))) d = absurd (monitored c request verdict d says.2)

pub counted_exact : (c : Circuit) (m : Model) (told : Option (List ℕ)) (request : RoundsRequest) (result : Result Ending Status) → c ≡ m.circuit → IsModelOf told m
    → IfOk result (λ ending. EndsRounds c request ending.status ending.text.items) → IfErr result (λ status. status ≡ statuses.Memory)
    → (verdict : Status) → DecidesRounds told request verdict → GivesVerdict verdict (status_in result)
counted_exact c m told request result same h ends ended verdict (inl (fault, e, (text, is, bad))) = absurd (h.faultless text fault is bad)
counted_exact c m told request (Err status) same h ends ended verdict (inr (text, is, (n, form, d))) = inr ended
counted_exact c m told request (Ok ending) same h ends ended verdict (inr (text, is, (n, form, d))) =
    let circuits : n.circuit ≡ c = ap (λ (x : Model). x.circuit) (sym (h.one text n is form)) ∙ sym same in
    inl (inl (inl (one_decided c request ending.status verdict ending.text.items ends (subst (λ (k : Circuit). SaysNoMonitor k request verdict) circuits d))))

-- what is printed is true
shown_by : (c : Circuit) (request : RoundsRequest) (status : Status) (text : List ℕ) → EndsRounds c request status text
    → (a : Judged) → status ≡ statuses.Done (done_by a) → ShowsText c a
shown_by c request status text (inl (inl (e, none), t)) a is = let wrong : statuses.NoProperty request.property ≡ statuses.Done (done_by a) = sym e ∙ is in cc
shown_by c request status text (inl (inr (e, large), t)) a is =
    let wrong : statuses.TooLarge (greatest (sizes_of c request.property request.k)) ≡ statuses.Done (done_by a) = sym e ∙ is in cc
shown_by c request status text (inr (inl (reached, e, good, true_so))) a is =
    subst (λ (x : Judged). ShowsText c x) (same_accepted (found_as.Text (texts.Rounds request.property request.k reached)) a (sym e ∙ is)) true_so
shown_by c request status text (inr (inr (says, t))) a is =
    let wrong : statuses.OpenRounds request.property says.0 ≡ statuses.Done (done_by a) = sym says.1 ∙ is in cc

pub counted_shown : (c : Circuit) (m : Model) (told : Option (List ℕ)) (request : RoundsRequest) (result : Result Ending Status) → c ≡ m.circuit → IsModelOf told m
    → IfOk result (λ ending. EndsRounds c request ending.status ending.text.items) → IfErr result (λ status. status ≡ statuses.Memory)
    → (a : Judged) → status_in result ≡ statuses.Done (done_by a) → ShownByRounds told a
counted_shown c m told request (Err status) same h ends ended a is = let wrong : statuses.Memory ≡ statuses.Done (done_by a) = sym ended ∙ is in cc
counted_shown c m told request (Ok ending) same h ends ended a is =
    (h.text.0, h.text.1, (m, h.text.2, subst (λ (k : Circuit). ShowsText k a) same (shown_by c request ending.status ending.text.items ends a is)))

unread : (c : Circuit) (request : RoundsRequest) (status : Status) (text : List ℕ) → EndsRounds c request status text → is_read_fault status ≡ false
unread c request status text (inl (inl (e, none), t)) = ap is_read_fault e
unread c request status text (inl (inr (e, large), t)) = ap is_read_fault e
unread c request status text (inr (inl (reached, e, good, true_so))) = ap is_read_fault e
unread c request status text (inr (inr (says, t))) = ap is_read_fault says.1

pub counted_unread : (c : Circuit) (request : RoundsRequest) (result : Result Ending Status)
    → IfOk result (λ ending. EndsRounds c request ending.status ending.text.items) → IfErr result (λ status. status ≡ statuses.Memory)
    → is_read_fault (status_in result) ≡ false
counted_unread c request (Err status) ends ended = ap is_read_fault ended
counted_unread c request (Ok ending) ends ended = unread c request ending.status ending.text.items ends

pub counted_aloud : (c : Circuit) (request : RoundsRequest) (result : Result Ending Status)
    → IfOk result (λ ending. EndsRounds c request ending.status ending.text.items) → IfOk result (λ ending. is_read_fault ending.status ≡ false)
counted_aloud c request (Err status) ends = tt
counted_aloud c request (Ok ending) ends = unread c request ending.status ending.text.items ends

-- Where there is no model.

pub without_gives : (model : Option (List ℕ)) (request : RoundsRequest) (status : Status) (result : Result Ending Status) → EndsWithoutModel model status
    → IfOk result (λ ending. (ending.status ≡ status) × (ending.text.items ≡ text_of status)) → IfOk result (λ ending. ends_silently status ≡ false)
    → IfOk result (λ ending. GivesRounds model request ending.status ending.text.items)
without_gives model request status (Err other) h text aloud = tt
without_gives model request (statuses.BadModel fault) (Ok ending) h text aloud = inl ((fault, text.0, h.text), text.1 ∙ sym (ap text_of text.0))
without_gives model request statuses.ReadFault (Ok ending) h text aloud = absurd (cc aloud)
without_gives model request statuses.Memory (Ok ending) h text aloud = absurd (cc aloud)
without_gives model request (statuses.Done done) (Ok ending) h text aloud = absurd h
without_gives model request (statuses.Refused fault) (Ok ending) h text aloud = absurd h
without_gives model request (statuses.RefusedBlock n fault) (Ok ending) h text aloud = absurd h
without_gives model request statuses.WriteFault (Ok ending) h text aloud = absurd h
without_gives model request statuses.Usage (Ok ending) h text aloud = absurd h
without_gives model request (statuses.Unknown report) (Ok ending) h text aloud = absurd h
without_gives model request (statuses.NoProperty n) (Ok ending) h text aloud = absurd h
without_gives model request (statuses.TooLarge n) (Ok ending) h text aloud = absurd h
without_gives model request (statuses.OpenRounds n spent) (Ok ending) h text aloud = absurd h
without_gives model request (statuses.OpenDepth n spent) (Ok ending) h text aloud = absurd h
without_gives model request (statuses.NoItem entry clause) (Ok ending) h text aloud = absurd h

bad_exact : (model : Option (List ℕ)) (request : RoundsRequest) (fault : ModelFault) → IsFaultOf model fault
    → (verdict : Status) → DecidesRounds model request verdict → GivesVerdict verdict (statuses.BadModel fault)
bad_exact model request fault h verdict (inl (other, e, (text, told, bad))) =
    subst (λ (v : Status). GivesVerdict v (statuses.BadModel fault)) (sym e) (same_bad fault other (h.one text other told bad))
bad_exact model request fault h verdict (inr (text, told, (m, form, d))) = absurd (h.none text m told form)

no_model_exact : (model : Option (List ℕ)) (request : RoundsRequest) (status : Status) → EndsWithoutModel model status
    → (verdict : Status) → DecidesRounds model request verdict → GivesVerdict verdict status
no_model_exact model request (statuses.BadModel fault) h verdict d = bad_exact model request fault h verdict d
no_model_exact model request statuses.ReadFault h verdict d = inl (inr (inl refl))
no_model_exact model request statuses.Memory h verdict d = inr refl
no_model_exact model request (statuses.Done done) h verdict d = absurd h
no_model_exact model request (statuses.Refused fault) h verdict d = absurd h
no_model_exact model request (statuses.RefusedBlock n fault) h verdict d = absurd h
no_model_exact model request statuses.WriteFault h verdict d = absurd h
no_model_exact model request statuses.Usage h verdict d = absurd h
no_model_exact model request (statuses.Unknown report) h verdict d = absurd h
no_model_exact model request (statuses.NoProperty n) h verdict d = absurd h
no_model_exact model request (statuses.TooLarge n) h verdict d = absurd h
no_model_exact model request (statuses.OpenRounds n spent) h verdict d = absurd h
no_model_exact model request (statuses.OpenDepth n spent) h verdict d = absurd h
no_model_exact model request (statuses.NoItem entry clause) h verdict d = absurd h

pub without_exact : (model : Option (List ℕ)) (request : RoundsRequest) (status result : Status) → EndsWithoutModel model status
    → (result ≡ status) ⊎ (result ≡ statuses.Memory) → (verdict : Status) → DecidesRounds model request verdict → GivesVerdict verdict result
without_exact model request status result h (inl same) verdict d =
    subst (λ (s : Status). GivesVerdict verdict s) (sym same) (no_model_exact model request status h verdict d)
without_exact model request status result h (inr memory) verdict d = inr memory

pub without_shown : (model : Option (List ℕ)) (status result : Status) → EndsWithoutModel model status → (result ≡ status) ⊎ (result ≡ statuses.Memory)
    → (a : Judged) → result ≡ statuses.Done (done_by a) → ShownByRounds model a
without_shown model status result h either a is = absurd (not_both a status result (no_model_accepts_none model status h) either is)
