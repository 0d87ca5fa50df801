-- What `solve` gives, from the model and from what it comes to for the circuit.
use Rattle.std.proofs.Common.{◌≡◌, ◌⊎◌, ◌<◌, ◌≤◌, ◌+◌, ◌^◌, ℕ, List, [], ◌∷◌, ◌++◌, map, length, take, refl, sym, ◌∙◌, ap, ap₂, subst, Bool, true, false, inl, inr, arith, codes, get_or, None, Some, Ok, Err}
use Rattle.std.specs.Prelude.{Option, Result, IfOk, IfErr}
use Rattle.std.proofs.lemmas.List.{length-map}
use Rattle.aig_semantics.specs.Circuits.{Circuit}
use Rattle.certificate.specs.declared.ends.Accepted.{Accepted}
use Rattle.certificate.specs.declared.ends.Accepted.TheVariants as accepted
use Rattle.sheet_answers.specs.declared.ends.Judged.{Judged}
use Rattle.round_answers.specs.declared.ends.Judged.TheVariants as texts
use Rattle.sheet_answers.specs.declared.ends.Judged.TheVariants as found_as
use Rattle.sheet_answers.specs.declared.counts.Counts.{Counts}
use Rattle.sheet_answers.specs.Sheets.{IsSheetWith, ShowsSheet}
use Rattle.sheet_answers.specs.Ends.{ShowsText}
use Rattle.sheet_commands.specs.Each.{property_numbers}
use Rattle.sheet_commands.specs.Boards.{IsSheetOf}
use Rattle.sheet_commands.proofs.BoardBlocks.{proved_in_order, settled_counts}
use Rattle.certificate.specs.Answers.{IsGood}
use Rattle.certificate_texts.specs.Writing.{certificate_text}
use Rattle.certificate.specs.Writing.{IsRefutedBy, certificate_of}
use Rattle.certificate.specs.Laws.{GoodIsTrue, WrittenIsGood, WrittenCertificatesAreGood}
use Rattle.answer_lines.specs.Left.{most_bytes}
use Rattle.aig_semantics.specs.Stimuli.{StandsFor}
use Rattle.aig_semantics.specs.declared.traces.Lasso.{Lasso}
use Rattle.aig_semantics.specs.declared.traces.Stimulus.{Stimulus}
use Rattle.lasso_join.specs.Prefixes.{stimulus_of}
use Rattle.stimulus.specs.Texts.{answer_text}
use Rattle.entry.specs.declared.refutations.Refutation.{Refutation}
use Rattle.plain_commands.specs.declared.status.Done.TheVariants as dones
use Rattle.entry.specs.CheckedEntries.{CheckedEntry}
use Rattle.entry.specs.Proved.{IsGoodRefutation}
use Rattle.fair_workers.specs.Runs.{IsReport, IsAnswered}
use Rattle.std.specs.List.{Contains, range_with_len}
use Rattle.std.proofs.lemmas.List.FromFn.{length-range_with_len, get_or-range_with_len}
use Rattle.wall_store.specs.declared.outcomes.Outcome.{Outcome as Found}
use Rattle.wall_store.specs.declared.outcomes.Outcome.TheVariants as outcomes
use Rattle.wall_store.specs.declared.outcomes.Served.{Served}
use Rattle.wall_store.specs.Events.{IsSettled}
use Rattle.wall_store.specs.Boards.{BoardState, IsBoard, plain, IsSoundList, properties_of, outcome_of}
use Rattle.search_reports.specs.declared.limits.Report.{Report}
use Rattle.command_lines.specs.declared.commands.solving.SolveRequest.{SolveRequest}
use Rattle.plain_commands.specs.declared.status.Status.{Status}
use Rattle.plain_commands.specs.declared.status.Status.TheVariants as statuses
use Rattle.plain_commands.specs.declared.texts.Ending.{Ending}
use Rattle.plain_commands.specs.Check.{done_by}
use Rattle.certificate.specs.Writing.{written_entry}
use Rattle.given_entries.specs.Beginning.{BeginsWith}
use Rattle.fair_top.specs.declared.beginnings.Beginning.{Beginning}
use Rattle.plain_commands.specs.ModelTexts.{OfModel}
use Rattle.plain_commands.specs.ModelGiven.{OfSomeText}
use Rattle.fair_top.specs.Solve.{asked_in, task_for, task_of, most_of, property_of, HasProperty, OfAnswer, IsAnswerBy, BeginsWithGiven, IsReportBy, IsSheetBy, IsSheetOfReport, HasAsked, Solves, GivesSolve, ShownBySolve, IsStimulusOf, IsTextOfOutcome}
use Rattle.plain_commands.specs.Spelled.{IsWrittenAs}
use Rattle.fair_top.specs.Solved.{IsPrinted, IsPrintedFor, IsSheetPrinted, EndsAs, EndsFor, SolvesUnlessCut}
use Rattle.fair_top.specs.Beginnings.{circuit_in, given_in, IsBeginning, SaysBefore, EndsBefore}
use Rattle.plain_commands.specs.Answering.{IsSilent}
use Rattle.plain_commands.specs.Statuses.{status_in, is_read_fault, ends_silently}
use Rattle.plain_commands.specs.Texts.{text_of}
use Rattle.plain_commands.proofs.Judging.{same_accepted, end_hidden}
use Rattle.fair_top.proofs.Begun.{of_some}

-- What a search comes to.

shows : (all : Bool) (c : Circuit) (request : SolveRequest) (given : List CheckedEntry) (status : Status) (text : List ℕ) (found : Judged) → EndsAs all c request given status text
    → status ≡ statuses.Done (done_by found) → ShowsText c found
shows false c request given status text found (inl p) is =
    subst (λ (a : Judged). ShowsText c a) (same_accepted (found_as.Text (texts.Answer p.0)) found (sym p.1 ∙ is)) p.6
shows false c request given status text found (inr (r, e)) is = let wrong : statuses.Unknown r.0 ≡ statuses.Done (done_by found) = sym r.1 ∙ is in cc
shows true c request given status text found (inl (b, answered, (counts, entries, e, counted, good, none, sheet, shown))) is =
    subst (λ (a : Judged). ShowsText c a) (same_accepted (found_as.Sheet counts entries) found (sym e ∙ is)) shown
shows true c request given status text found (inr r) is = let wrong : statuses.Unknown r.0 ≡ statuses.Done (done_by found) = sym r.1 ∙ is in cc

-- where one property was asked for, the board serves that one
pub one_answered : (c : Circuit) (request : SolveRequest) (given : List CheckedEntry) (b : BoardState) → request.all ≡ false → IsAnswered (task_of c request given) b
    → IsAnswered (task_for c (request.property ∷ []) request given) b
one_answered c request given b one h =
    subst (λ (ps : List ℕ). IsAnswered (task_for c ps request given) b) (ap (λ (all : Bool). asked_in all c request.property) one) h

-- the text of a certificate is none of a stimulus, and that of the board's list begins with what was given
begins_with_given : (c : Circuit) (j : ℕ) (given more entries : List CheckedEntry) (o : Option Found) (found : Accepted) (text : List ℕ) → property_of found ≡ j
    → IsWrittenAs c text found → entries ≡ given ++ more → IsTextOfOutcome c j entries o text → BeginsWithGiven given found text
begins_with_given c j given more entries o (accepted.Lasso n positions from) text of_j spelled same t = tt
begins_with_given c j given more entries None (accepted.Holds n count) text of_j spelled same t = absurd t
begins_with_given c j given more entries (Some (outcomes.Lasso lasso)) (accepted.Holds n count) text of_j (certificate, is, counted, version) same (positions, from, stands, other) =
    let wrong : codes "1\n" ≡ codes "0\n" = sym (ap (take 2) other) ∙ ap (take 2) is in
    let first : ◌≡◌ {A = ℕ} 49 48 = ap (λ (l : List ℕ). get_or l 0 0) wrong in absurd (omega (arith, first))
begins_with_given c j given more entries (Some (outcomes.Holds refutation)) (accepted.Holds n count) text of_j spelled same t =
    (more, refutation, t ∙ ap₂ (λ (i : ℕ) (es : List CheckedEntry). certificate_text i (certificate_of es refutation)) (sym of_j) same)

-- the board has the limit of the task, and its list begins with what was given
pub printed_by : (c : Circuit) (request : SolveRequest) (given more : List CheckedEntry) (b : BoardState) (result : Result Ending Status) → request.all ≡ false
    → b.limit ≡ most_of request given → b.entries ≡ given ++ more → IfOk result (λ ending. IsPrinted c request b.limit ending.status ending.text.items)
    → IfOk result (λ ending. IsTextOfOutcome c request.property b.entries (outcome_of b.served request.property) ending.text.items)
    → IfOk result (λ ending. EndsFor c request given ending.status ending.text.items)
printed_by c request given more b (Ok ending) one limit same p t =
    let q : IsPrinted c request (most_of request given) ending.status ending.text.items = subst (λ (n : ℕ). IsPrinted c request n ending.status ending.text.items) limit p in
    let begins : BeginsWithGiven given q.0 ending.text.items =
    begins_with_given c request.property given more b.entries (outcome_of b.served request.property) q.0 ending.text.items q.2 q.5 same t in
    let all_of : IsPrintedFor c request given ending.status ending.text.items = (q.0, q.1, q.2, q.3, q.4, q.5, q.6, begins) in
    subst (λ (all : Bool). EndsAs all c request given ending.status ending.text.items) (sym one) (inl all_of)
printed_by c request given more b (Err status) one limit same p t = tt

pub sheet_by : (c : Circuit) (request : SolveRequest) (given : List CheckedEntry) (b : BoardState) (result : Result Ending Status) → request.all ≡ true
    → IsAnswered (task_of c request given) b → IfOk result (λ ending. IsSheetPrinted c b ending.status ending.text.items)
    → IfOk result (λ ending. EndsFor c request given ending.status ending.text.items)
sheet_by c request given b (Ok ending) each answered p =
    subst (λ (all : Bool). EndsAs all c request given ending.status ending.text.items) (sym each) (inl (b, answered, p))
sheet_by c request given b (Err status) each answered p = tt

pub unknown_by : (c : Circuit) (request : SolveRequest) (given : List CheckedEntry) (report : Report) (result : Result Ending Status) → request.all ≡ false
    → IsReport (task_of c request given) report
    → IfOk result (λ ending. (ending.status ≡ statuses.Unknown report) × (ending.text.items ≡ text_of (statuses.Unknown report)))
    → IfOk result (λ ending. EndsFor c request given ending.status ending.text.items)
unknown_by c request given report (Ok ending) one is text =
    subst (λ (all : Bool). EndsAs all c request given ending.status ending.text.items) (sym one)
    (inr ((report, text.0, is), text.1 ∙ sym (ap text_of text.0)))
unknown_by c request given report (Err status) one is text = tt

pub open_by : (c : Circuit) (request : SolveRequest) (given : List CheckedEntry) (report : Report) (result : Result Ending Status) → request.all ≡ true
    → IsReport (task_of c request given) report → IfOk result (λ ending. ending.status ≡ statuses.Unknown report)
    → IfOk result (λ ending. IsSheetOfReport c report ending.text.items)
    → IfOk result (λ ending. EndsFor c request given ending.status ending.text.items)
open_by c request given report (Ok ending) each is status text =
    subst (λ (all : Bool). EndsAs all c request given ending.status ending.text.items) (sym each) (inr (report, status, is, text))
open_by c request given report (Err status) each is e text = tt

gives : (all : Bool) (model : Option (List ℕ)) (answer : Option (Option (List ℕ))) (request : SolveRequest) (q : Beginning) (status : Status) (text : List ℕ) → IsBeginning model answer request q
    → EndsAs all (circuit_in q) request (given_in q) status text → Solves all model answer request status text
gives false model answer request q status text h (inl p) = inl (
  p.0,
  p.1,
  p.2,
  (
    h.asked.0,
    h.asked.1,
    of_some answer (λ claimed. OfModel h.asked.0 (λ c. (circuit_in q ≡ c) × BeginsWith c claimed (given_in q)))
        (λ claimed. OfModel h.asked.0 (λ c. IsAnswerBy c claimed request p.0 text))
        (λ claimed k. (
          k.0,
          k.1,
          (
            subst (λ (c : Circuit). IsGood c text p.0) k.2.0 p.4,
            subst (λ (c : Circuit). IsWrittenAs c text p.0) k.2.0 p.5,
            given_in q,
            k.2.1,
            p.3,
            p.7,
          ),
        )) h.asked.2,
  ),
)
gives false model answer request q status text h (inr (r, e)) = inr (
  (
    r.0,
    r.1,
    (
      h.asked.0,
      h.asked.1,
      of_some answer (λ claimed. OfModel h.asked.0 (λ c. (circuit_in q ≡ c) × BeginsWith c claimed (given_in q)))
          (λ claimed. OfModel h.asked.0 (λ c. IsReportBy c claimed request r.0))
          (λ claimed k. (
            k.0,
            k.1,
            (
              subst (λ (c : Circuit). HasProperty c request) k.2.0 h.property,
              given_in q,
              k.2.1,
              subst (λ (c : Circuit). IsReport (task_of c request (given_in q)) r.0) k.2.0 r.2,
            ),
          )) h.asked.2,
    ),
  ),
  e,
)
gives true model answer request q status text h (inl (b, answered, (counts, entries, e, counted, good, none, sheet, shown))) = inl (
  counts,
  entries,
  e,
  (
    h.asked.0,
    h.asked.1,
    of_some answer (λ claimed. OfModel h.asked.0 (λ c. (circuit_in q ≡ c) × BeginsWith c claimed (given_in q)))
        (λ claimed. OfModel h.asked.0 (λ c. IsSheetBy c claimed request counts entries text))
        (λ claimed k. (
          k.0,
          k.1,
          (
            subst (λ (c : Circuit). IsSheetWith c text counts entries) k.2.0 good,
            none,
            given_in q,
            k.2.1,
            b,
            subst (λ (c : Circuit). IsAnswered (task_of c request (given_in q)) b) k.2.0 answered,
            counted,
            subst (λ (c : Circuit). IsSheetOf c b counts text) k.2.0 sheet,
          ),
        )) h.asked.2,
  ),
)
gives true model answer request q status text h (inr (report, e, is, sheet)) = inr (
  report,
  e,
  (
    h.asked.0,
    h.asked.1,
    of_some answer (λ claimed. OfModel h.asked.0 (λ c. (circuit_in q ≡ c) × BeginsWith c claimed (given_in q)))
        (λ claimed. OfModel h.asked.0 (λ c. IsReportBy c claimed request report × IsSheetOfReport c report text))
        (λ claimed k. (
          k.0,
          k.1,
          (
            (
              subst (λ (c : Circuit). HasProperty c request) k.2.0 h.property,
              given_in q,
              k.2.1,
              subst (λ (c : Circuit). IsReport (task_of c request (given_in q)) report) k.2.0 is,
            ),
            subst (λ (c : Circuit). IsSheetOfReport c report text) k.2.0 sheet,
          ),
        )) h.asked.2,
  ),
)

pub solved_gives : (model : Option (List ℕ)) (answer : Option (Option (List ℕ))) (request : SolveRequest) (q : Beginning) (result : Result Ending Status) → IsBeginning model answer request q
    → IfOk result (λ ending. EndsFor (circuit_in q) request (given_in q) ending.status ending.text.items)
    → IfOk result (λ ending. GivesSolve model answer request ending.status ending.text.items)
solved_gives model answer request q (Err status) h ends = tt
solved_gives model answer request q (Ok ending) h ends = inr (inr (inr (gives request.all model answer request q ending.status ending.text.items h ends)))

-- what is so of each text that the answer may be, and speaks of the model's circuit alone, is so of that
model_shows : (bytes : List ℕ) (answer : Option (Option (List ℕ))) (q : Beginning) (found : Judged)
    → OfAnswer OfSomeText answer (λ claimed. OfModel bytes (λ c. (circuit_in q ≡ c) × BeginsWith c claimed (given_in q)))
    → ShowsText (circuit_in q) found → OfModel bytes (λ c. ShowsText c found)
model_shows bytes None q found (m, form, (same, begins)) shown = (m, form, subst (λ (c : Circuit). ShowsText c found) same shown)
model_shows bytes (Some told) q found (text, may, (m, form, (same, begins))) shown = (m, form, subst (λ (c : Circuit). ShowsText c found) same shown)

pub solved_shown : (model : Option (List ℕ)) (answer : Option (Option (List ℕ))) (request : SolveRequest) (q : Beginning) (result : Result Ending Status) → IsBeginning model answer request q
    → IfOk result (λ ending. EndsFor (circuit_in q) request (given_in q) ending.status ending.text.items) → IfErr result (λ status. status ≡ statuses.Memory)
    → (found : Judged) → status_in result ≡ statuses.Done (done_by found) → ShownBySolve model found
solved_shown model answer request q (Err status) h ends ended found e = let wrong : statuses.Memory ≡ statuses.Done (done_by found) = sym ended ∙ e in cc
solved_shown model answer request q (Ok ending) h ends ended found e =
    (h.asked.0, h.asked.1, model_shows h.asked.0 answer q found h.asked.2 (shows request.all (circuit_in q) request (given_in q) ending.status ending.text.items found ends e))

ends_solved : (all : Bool) (c : Circuit) (request : SolveRequest) (given : List CheckedEntry) (status : Status) (text : List ℕ) → EndsAs all c request given status text → SolvesUnlessCut all status
ends_solved false c request given status text (inl p) = inl (inl (inl (p.0, p.1)))
ends_solved false c request given status text (inr (r, e)) = inl (inl (inr (r.0, r.1)))
ends_solved true c request given status text (inl (b, answered, (counts, entries, e, counted, good, none, sheet, shown))) = inl (inl (inl (counts, entries, e)))
ends_solved true c request given status text (inr r) = inl (inl (inr (r.0, r.1)))

pub solved_asked : (c : Circuit) (request : SolveRequest) (given : List CheckedEntry) (result : Result Ending Status)
    → IfOk result (λ ending. EndsFor c request given ending.status ending.text.items) → IfErr result (λ status. status ≡ statuses.Memory)
    → SolvesUnlessCut request.all (status_in result)
solved_asked c request given (Err status) ends ended = inr ended
solved_asked c request given (Ok ending) ends ended = ends_solved request.all c request given ending.status ending.text.items ends

solved_unread : (all : Bool) (c : Circuit) (request : SolveRequest) (given : List CheckedEntry) (status : Status) (text : List ℕ) → EndsAs all c request given status text → is_read_fault status ≡ false
solved_unread false c request given status text (inl p) = ap is_read_fault p.1
solved_unread false c request given status text (inr (r, e)) = ap is_read_fault r.1
solved_unread true c request given status text (inl (b, answered, (counts, entries, e, counted, good, none, sheet, shown))) = ap is_read_fault e
solved_unread true c request given status text (inr r) = ap is_read_fault r.1

pub solved_read : (c : Circuit) (request : SolveRequest) (given : List CheckedEntry) (result : Result Ending Status)
    → IfOk result (λ ending. EndsFor c request given ending.status ending.text.items) → IfErr result (λ status. status ≡ statuses.Memory)
    → is_read_fault (status_in result) ≡ false
solved_read c request given (Err status) ends ended = ap is_read_fault ended
solved_read c request given (Ok ending) ends ended = solved_unread request.all c request given ending.status ending.text.items ends

pub solved_aloud : (c : Circuit) (request : SolveRequest) (given : List CheckedEntry) (result : Result Ending Status)
    → IfOk result (λ ending. EndsFor c request given ending.status ending.text.items) → IfOk result (λ ending. is_read_fault ending.status ≡ false)
solved_aloud c request given (Err status) ends = tt
solved_aloud c request given (Ok ending) ends = solved_unread request.all c request given ending.status ending.text.items ends

-- Where there is no search.

before_gives : (model : Option (List ℕ)) (answer : Option (Option (List ℕ))) (request : SolveRequest) (status : Status) (text : List ℕ)
    → SaysBefore model answer request status → text ≡ text_of status → GivesSolve model answer request status text
before_gives model answer request status text (inl bad) e = inl (bad, e)
before_gives model answer request status text (inr (inl none)) e = inr (inl (none, e))
before_gives model answer request status text (inr (inr refused)) e = inr (inr (inl (refused, e)))

pub silent_aloud : (status : Status) → IsSilent status → ends_silently status ≡ false → ⊥
silent_aloud status (inl e) aloud = let wrong : true ≡ false = sym (ap ends_silently e) ∙ aloud in cc
silent_aloud status (inr e) aloud = let wrong : true ≡ false = sym (ap ends_silently e) ∙ aloud in cc

pub unsearched_gives : (model : Option (List ℕ)) (answer : Option (Option (List ℕ))) (request : SolveRequest) (status : Status) (result : Result Ending Status)
    → EndsBefore model answer request status → IfOk result (λ ending. (ending.status ≡ status) × (ending.text.items ≡ text_of status))
    → IfOk result (λ ending. ends_silently status ≡ false) → IfOk result (λ ending. GivesSolve model answer request ending.status ending.text.items)
unsearched_gives model answer request status (Err other) h text aloud = tt
unsearched_gives model answer request status (Ok ending) h text aloud = by h.says
  where
    by : SaysBefore model answer request status ⊎ IsSilent status → GivesSolve model answer request ending.status ending.text.items
    by (inl says) = before_gives model answer request ending.status ending.text.items (subst (SaysBefore model answer request) (sym text.0) says) (text.1 ∙ sym (ap text_of text.0))
    by (inr silent) = absurd (silent_aloud status silent aloud)

before_hidden : (model : Option (List ℕ)) (answer : Option (Option (List ℕ))) (request : SolveRequest) (status : Status) (found : Judged)
    → SaysBefore model answer request status ⊎ IsSilent status → status ≡ statuses.Done (done_by found) → ⊥
before_hidden model answer request status found (inl (inl bad)) is = let wrong : statuses.BadModel bad.0 ≡ statuses.Done (done_by found) = sym bad.1 ∙ is in cc
before_hidden model answer request status found (inl (inr (inl none))) is = let wrong : statuses.NoProperty request.property ≡ statuses.Done (done_by found) = sym none.0 ∙ is in cc
before_hidden model answer request status found (inl (inr (inr refused))) is = end_hidden refused.0 found (sym refused.1 ∙ is)
before_hidden model answer request status found (inr (inl e)) is = let wrong : statuses.ReadFault ≡ statuses.Done (done_by found) = sym e ∙ is in cc
before_hidden model answer request status found (inr (inr e)) is = let wrong : statuses.Memory ≡ statuses.Done (done_by found) = sym e ∙ is in cc

pub unsearched_shown : (model : Option (List ℕ)) (answer : Option (Option (List ℕ))) (request : SolveRequest) (status result : Status) → EndsBefore model answer request status
    → (result ≡ status) ⊎ (result ≡ statuses.Memory) → (found : Judged) → result ≡ statuses.Done (done_by found) → ShownBySolve model found
unsearched_shown model answer request status result h (inl same) found is = absurd (before_hidden model answer request status found h.says (sym same ∙ is))
unsearched_shown model answer request status result h (inr memory) found is = let wrong : statuses.Memory ≡ statuses.Done (done_by found) = sym memory ∙ is in cc

pub unsearched_asked : (model : Option (List ℕ)) (answer : Option (Option (List ℕ))) (request : SolveRequest) (status result : Status) → EndsBefore model answer request status
    → (result ≡ status) ⊎ (result ≡ statuses.Memory) → HasAsked model answer request → SolvesUnlessCut request.all result
unsearched_asked model answer request status result h (inr memory) asked = inr memory
unsearched_asked model answer request status result h (inl same) asked = by (h.asked asked)
  where
    by : IsSilent status → SolvesUnlessCut request.all result
    by (inl e) = inl (inr (inl (same ∙ e)))
    by (inr e) = inr (same ∙ e)

-- What is printed of all properties.

range_contains : (n more k j : ℕ) → j ≡ n + k → k < more → Contains (range_with_len n more) j
range_contains n more k j is below = (k, omega (arith, length-range_with_len n more, below), get_or-range_with_len n more k j below ∙ sym is)

each_contained : (served : List Served) (count k : ℕ) → properties_of served ≡ range_with_len 0 count → k < count → Contains (properties_of served) k
each_contained served count k is below = subst (λ (ps : List ℕ). Contains ps k) (sym is) (range_contains 0 count k k (omega arith) below)

pub sheet_printed : (c : Circuit) (b : BoardState) (counts : Counts) (entries : ℕ) (text : List ℕ) → properties_of b.served ≡ property_numbers c → IsSettled b.served
    → entries ≡ length b.entries → IsSheetOf c b counts text → IsSheetWith c text counts (length b.entries) → ShowsSheet c counts
    → IsSheetPrinted c b (statuses.Done (done_by (found_as.Sheet counts entries))) text
sheet_printed c b counts entries text each settled counted sheet good shown = (
  counts,
  entries,
  refl,
  counted,
  subst (λ (n : ℕ). IsSheetWith c text counts n) (sym counted) good,
  settled_counts c b counts text (λ k below none. settled k (each_contained b.served (length c.justice) k each below, none)) sheet,
  sheet,
  shown,
)

pub sheet_reported : (c : Circuit) (report : Report) (counts : Counts) (text : List ℕ) → IsSheetOf c report.board counts text → IsSheetWith c text counts (length report.board.entries)
    → ShowsSheet c counts → IsSheetOfReport c report text
sheet_reported c report counts text sheet good shown = (counts, sheet, good, shown)

-- What is printed.

-- of the two calls that may write a text the one that was made
pub is_printed : (E : Type 0) (c : Circuit) (request : SolveRequest) (most : ℕ) (made written : Result Ending E) (ending : Ending) → written ≡ made → written ≡ Ok ending
    → IfOk made (λ o. IsPrinted c request most o.status o.text.items) → IsPrinted c request most ending.status ending.text.items
is_printed E c request most made written ending is ended p =
    subst (λ (r : Result Ending E). IfOk r (λ o. IsPrinted c request most o.status o.text.items)) (sym is ∙ ended) p

pub good_stimulus : (c : Circuit) (request : SolveRequest) (most : ℕ) (s : Stimulus) (positions from : ℕ) (text : List ℕ) → WrittenIsGood c → GoodIsTrue c
    → request.property < 2 ^ 63 → length s.inputs ≡ positions → StandsFor c request.property s positions from → text ≡ answer_text request.property s
    → length text ≤ most_bytes → IsPrinted c request most (statuses.Done (dones.Lasso request.property positions from)) text
good_stimulus c request most s positions from text written true_one small all stands same short =
    let j = request.property in
    let good : IsGood c text (accepted.Lasso j positions from) = subst (λ (t : List ℕ). IsGood c t (accepted.Lasso j positions from)) (sym same)
    (written j s positions from small stands (subst (λ (t : List ℕ). length t ≤ most_bytes) same short)) in
    (accepted.Lasso j positions from, refl, refl, tt, good, (s, same, all, stands), true_one text (accepted.Lasso j positions from) good)

pub good_certificate : (c : Circuit) (request : SolveRequest) (b : BoardState) (list : List CheckedEntry) (refutation : Refutation) (count : ℕ) (text : List ℕ)
    → WrittenCertificatesAreGood c → GoodIsTrue c → IsBoard b → b.circuit ≡ c → list ≡ b.entries
    → request.property < length c.justice → IsGoodRefutation c (plain b.entries) request.property refutation.uses refutation.proof → count ≡ length list
    → text ≡ certificate_text request.property (certificate_of list refutation) → length text ≤ most_bytes
    → IsPrinted c request b.limit (statuses.Done (dones.Holds request.property count)) text
good_certificate c request b list refutation count text written true_one board of_circuit listed there good counted same short =
    let j = request.property in
    let refuted : IsRefutedBy c j list refutation = record {
      property = there;
      few = omega (arith, board.within, board.limit, ap length listed);
      proved = proved_in_order c list (subst (λ (l : List CheckedEntry). IsSoundList c l) (sym listed) (subst (λ (k : Circuit). IsSoundList k b.entries) of_circuit board.sound));
      refuted = subst (λ (l : List CheckedEntry). IsGoodRefutation c (plain l) j refutation.uses refutation.proof) (sym listed) good;
    } in
    let certificate : IsGood c (certificate_text j (certificate_of list refutation)) (accepted.Holds j (length list)) =
    (written j list refutation refuted (subst (λ (t : List ℕ). length t ≤ most_bytes) same short)).1 in
    let as_text : IsGood c text (accepted.Holds j (length list)) = subst (λ (t : List ℕ). IsGood c t (accepted.Holds j (length list))) (sym same) certificate in
    let as_count : IsGood c text (accepted.Holds j count) = subst (λ (n : ℕ). IsGood c text (accepted.Holds j n)) (sym counted) as_text in
    let few : count ≤ b.limit = omega (arith, board.within, counted, ap length listed) in
    let entries_are : length (map written_entry list) ≡ count = length-map list written_entry ∙ sym counted in (
      accepted.Holds j count,
      refl,
      refl,
      few,
      as_count,
      (certificate_of list refutation, same, entries_are, refl),
      true_one text (accepted.Holds j count) as_count,
    )

-- the text of the first positions of a lasso
pub text_of_prefix : (c : Circuit) (j : ℕ) (lasso short : Lasso) (text : List ℕ) → StandsFor c j (stimulus_of lasso) (length short.inputs) short.from
    → short.start ≡ lasso.start → short.inputs ≡ take (length short.inputs) lasso.inputs
    → text ≡ answer_text j (record { latches = short.start; inputs = short.inputs }) → IsStimulusOf c j lasso text
text_of_prefix c j lasso short text stands start inputs same = (
  length short.inputs,
  short.from,
  stands,
  same ∙ ap₂ (λ (s : List Bool) (i : List (List Bool)). answer_text j (record { latches = s; inputs = i })) start inputs,
)

pub nothing_before : (before after : List CheckedEntry) (e : CheckedEntry) → [] ≡ before ++ e ∷ after → ⊥
nothing_before [] after e wrong = cc
nothing_before (x ∷ before) after e wrong = cc
