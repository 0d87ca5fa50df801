-- The laws of single commands.
use Rattle.std.proofs.Common.{◌≡◌, ◌⊎◌, ◌<◌, ◌≤◌, ◌+◌, ◌-◌, ℕ, Bool, true, false, List, ◌++◌, length, take, refl, sym, ◌∙◌, ap, subst, inl, inr, arith, codes, None, Some, Ok}
use Rattle.std.specs.Prelude.{Option, min, slice_get, if◌then◌else◌}
use Rattle.std.proofs.Math.Nat.{min-le_left}
use Rattle.std.proofs.Math.Seq.{take-append_seam}
use Rattle.std.proofs.lemmas.List.Elements.{All-weaker}
use Rattle.aig_semantics.specs.declared.traces.Lasso.{Lasso as LassoOf}
use Rattle.aig_semantics.specs.Circuits.{Circuit}
use Rattle.aig_semantics.specs.Stimuli.{IsFairLassoOf}
use Rattle.aiger_grammar.specs.Models.{Model}
use Rattle.edge.specs.Told.{MayBe}
use Rattle.edge.specs.Units.{Spendings, limit_of}
use Rattle.waves.specs.Dumps.{waves_text}
use Rattle.certificate.specs.declared.ends.Accepted.{Accepted}
use Rattle.certificate.specs.declared.ends.Accepted.TheVariants as accepted
use Rattle.certificate.specs.declared.ends.AnswerEnd.TheVariants as answers
use Rattle.certificate.specs.Answers.{IsGood}
use Rattle.certificate_texts.specs.Writing.{certificate_text}
use Rattle.certificate.specs.Writing.{certificate_of}
use Rattle.entry.specs.declared.entries.Entry.{Entry}
use Rattle.entry.specs.declared.refutations.Refutation.{Refutation}
use Rattle.entry.specs.Proved.{IsGoodRefutation}
use Rattle.entry.specs.CheckedEntries.{CheckedEntry}
use Rattle.round_answers.specs.declared.ends.Judged.TheVariants as texts
use Rattle.round_answers.specs.declared.ends.JudgeEnd.TheVariants as text_ends
use Rattle.round_answers.specs.Texts.{is_about_rounds}
use Rattle.sheet_answers.specs.declared.blocks.Block.{Block}
use Rattle.sheet_answers.specs.declared.blocks.Block.TheVariants as blocks
use Rattle.sheet_answers.specs.declared.counts.Counts.{Counts}
use Rattle.sheet_answers.specs.declared.ends.Judged.{Judged}
use Rattle.sheet_answers.specs.declared.ends.Judged.TheVariants as judged
use Rattle.sheet_answers.specs.declared.ends.JudgeEnd.{JudgeEnd}
use Rattle.sheet_answers.specs.declared.ends.JudgeEnd.TheVariants as ends
use Rattle.sheet_answers.specs.Reading.{opens_as_sheet}
use Rattle.sheet_answers.specs.Ends.{Decides}
use Rattle.sheet_commands.specs.declared.blocks.BlockLasso.{BlockLasso}
use Rattle.sheet_commands.specs.Blocks.{DecidesIn, DecidesSheet, DecidesBlockAs}
use Rattle.given_entries.specs.Given.{list_of}
use Rattle.given_entries.specs.Listing.{Lists}
use Rattle.given_entries.specs.Beginning.{told_of}
use Rattle.wall_store.specs.declared.outcomes.Outcome.{Outcome}
use Rattle.wall_store.specs.declared.outcomes.Outcome.TheVariants as outcomes
use Rattle.wall_store.specs.Boards.{BoardState, most_entries, plain, outcome_of}
use Rattle.search_reports.specs.declared.limits.Report.{Report}
use Rattle.fair_workers.specs.Runs.{IsReport, IsSpentOn}
use Rattle.command_lines.specs.declared.commands.solving.SolveRequest.{SolveRequest}
use Rattle.command_lines.specs.declared.commands.counting.RoundsRequest.{RoundsRequest}
use Rattle.command_lines.specs.declared.commands.bounding.ShortestRequest.{ShortestRequest}
use Rattle.command_lines.specs.declared.commands.demonstrating.DemoRequest.{DemoRequest}
use Rattle.plain_commands.specs.declared.status.Status.{Status}
use Rattle.plain_commands.specs.declared.status.Status.TheVariants as statuses
use Rattle.plain_commands.specs.declared.status.Done.{Done}
use Rattle.plain_commands.specs.declared.status.Done.TheVariants as dones
use Rattle.plain_commands.specs.ModelTexts.{OfModel}
use Rattle.plain_commands.specs.ModelGiven.{OfSomeText}
use Rattle.plain_commands.specs.Check.{done_by, status_of_end}
use Rattle.plain_commands.specs.Texts.{text_of}
use Rattle.plain_commands.specs.Rounds.{EndsRounds}
use Rattle.plain_commands.specs.Shortest.{EndsShortest}
use Rattle.command_lines.specs.Commands.{Check}
use Rattle.fair_top.specs.Commands.{CommandGives}
use Rattle.fair_top.specs.Solve.{task_of, OfAnswer, IsAnswerBy, IsReportBy, IsSheetBy, IsSheetOfReport, Solves, GivesSolve, IsTextOfOutcome}
use Rattle.fair_top.specs.Wave.{EndsWaveAs}
use Rattle.fair_top.specs.Demo.{demo_circuit, verdict_text, summary_text, SumsUpBoard}
use Rattle.fair_top.specs.Laws.{OpenRoundsAreAsked, OpenDepthsAreAsked, IsAsAsked, ReportsAreAsked, CertificatesAreAsked, SheetsAreAsked, ReportsBeginAsAsked, CertificatesBeginAsAsked, WavesAreAsked, SummariesAreTrue, VerdictsAreAccepted, OpenSheetsAreAccepted}

-- The status of a refused text is none of work done, and none of a report.

no_done : (end : JudgeEnd) (said : Done) → ◌≡◌ {A = Status} (statuses.Done said) (status_of_end end) → ⊥
no_done (ends.Text (text_ends.Answer (answers.Refused fault))) said e = cc
no_done (ends.Text (text_ends.Answer answers.ReadFault)) said e = cc
no_done (ends.Text (text_ends.Answer answers.Memory)) said e = cc
no_done (ends.Text (text_ends.TooLarge n)) said e = cc
no_done (ends.Block n fault) said e = cc

no_report : (end : JudgeEnd) (report : Report) → ◌≡◌ {A = Status} (statuses.Unknown report) (status_of_end end) → ⊥
no_report (ends.Text (text_ends.Answer (answers.Refused fault))) report e = cc
no_report (ends.Text (text_ends.Answer answers.ReadFault)) report e = cc
no_report (ends.Text (text_ends.Answer answers.Memory)) report e = cc
no_report (ends.Text (text_ends.TooLarge n)) report e = cc
no_report (ends.Block n fault) report e = cc

-- `rounds` and `shortest`.

open_rounds : (c : Circuit) (request : RoundsRequest) (property : ℕ) (spent : Spendings) (text : List ℕ)
    → EndsRounds c request (statuses.OpenRounds property spent) text
    → (property ≡ request.property) × (spent.conflict_limit ≡ limit_of request.conflicts) × (spent.step_limit ≡ limit_of request.steps)
open_rounds c request property spent text (inl (inl (e, none), t)) = absurd (cc e)
open_rounds c request property spent text (inl (inr (e, large), t)) = absurd (cc e)
open_rounds c request property spent text (inr (inl (reached, e, good, shown))) = absurd (cc e)
open_rounds c request property spent text (inr (inr ((other, e, able, conflicts, steps, ended), t))) =
    let same : spent ≡ other = cc e in
    (cc e, ap (λ (s : Spendings). s.conflict_limit) same ∙ conflicts, ap (λ (s : Spendings). s.step_limit) same ∙ steps)

pub rounds_are_asked : OpenRoundsAreAsked
rounds_are_asked held model text request property spent (inl ((fault, e, bad), t)) = absurd (cc e)
rounds_are_asked held model text request property spent (inr (bytes, may, (m, form, given))) =
    open_rounds m.circuit request property spent text given

open_depth : (c : Circuit) (request : ShortestRequest) (most : ℕ) (spent : Spendings) (text : List ℕ)
    → EndsShortest c request (statuses.OpenDepth most spent) text → (spent.conflict_limit ≡ limit_of request.conflicts) × (most < request.depth)
open_depth c request most spent text (inl ((e, none), t)) = absurd (cc e)
open_depth c request most spent text (inr (inl (positions, from, e, good, spelled, shown, fewest, within))) = absurd (cc e)
open_depth c request most spent text (inr (inr (inl ((e, there, none), t)))) = absurd (cc e)
open_depth c request most spent text (inr (inr (inr (done, other, e, t, there, limit, ended, below, none)))) =
    let same : spent ≡ other = cc e in
    let deep : most ≡ done = cc e in
    (ap (λ (s : Spendings). s.conflict_limit) same ∙ limit, subst (λ (n : ℕ). n < request.depth) (sym deep) below)

pub depths_are_asked : OpenDepthsAreAsked
depths_are_asked held model text request most spent (inl ((fault, e, bad), t)) = absurd (cc e)
depths_are_asked held model text request most spent (inr (bytes, may, (m, form, given))) = open_depth m.circuit request most spent text given

-- The reports of `solve`.

-- a report is one of workers
abbrev Reports : Option (Option (List ℕ)) → SolveRequest → Report → List ℕ → Type 0
Reports answer request report bytes = OfAnswer OfSomeText answer (λ claimed. OfModel bytes (λ c. IsReportBy c claimed request report))

-- and the text is the sheet of its board
abbrev OpenSheet : Option (Option (List ℕ)) → SolveRequest → Report → List ℕ → List ℕ → Type 0
OpenSheet answer request report text bytes =
    OfAnswer OfSomeText answer (λ claimed. OfModel bytes (λ c. IsReportBy c claimed request report × IsSheetOfReport c report text))

without_sheet : (answer : Option (Option (List ℕ))) (request : SolveRequest) (report : Report) (text bytes : List ℕ) → OpenSheet answer request report text bytes
    → Reports answer request report bytes
without_sheet None request report text bytes (m, form, (by, sheet)) = (m, form, by)
without_sheet (Some told) request report text bytes (claimed, may, (m, form, (by, sheet))) = (claimed, may, (m, form, by))

open_sheet : (model : Option (List ℕ)) (answer : Option (Option (List ℕ))) (request : SolveRequest) (report : Report) (text : List ℕ)
    → Solves true model answer request (statuses.Unknown report) text → OfSomeText model (OpenSheet answer request report text)
open_sheet model answer request report text (inl (counts, entries, e, of)) = absurd (cc e)
open_sheet model answer request report text (inr (other, e, of)) =
    let same : report ≡ other = cc e in subst (λ (r : Report). OfSomeText model (OpenSheet answer request r text)) (sym same) of

reported_as : (all : Bool) (model : Option (List ℕ)) (answer : Option (Option (List ℕ))) (request : SolveRequest) (report : Report) (text : List ℕ)
    → Solves all model answer request (statuses.Unknown report) text → OfSomeText model (Reports answer request report)
reported_as false model answer request report text (inl (found, e, property, of)) = absurd (cc e)
reported_as false model answer request report text (inr ((other, e, of), t)) =
    let same : report ≡ other = cc e in subst (λ (r : Report). OfSomeText model (Reports answer request r)) (sym same) of
reported_as true model answer request report text solves =
    let of : OfSomeText model (OpenSheet answer request report text) = open_sheet model answer request report text solves in
    (of.0, of.1, without_sheet answer request report text of.0 of.2)

solved : (model : Option (List ℕ)) (answer : Option (Option (List ℕ))) (request : SolveRequest) (report : Report) (text : List ℕ)
    → GivesSolve model answer request (statuses.Unknown report) text → Solves request.all model answer request (statuses.Unknown report) text
solved model answer request report text (inl ((fault, e, bad), t)) = absurd (cc e)
solved model answer request report text (inr (inl ((e, none), t))) = absurd (cc e)
solved model answer request report text (inr (inr (inl ((end, e, none), t)))) = absurd (no_report end report e)
solved model answer request report text (inr (inr (inr solves))) = solves

reported : (model : Option (List ℕ)) (answer : Option (Option (List ℕ))) (request : SolveRequest) (report : Report) (text : List ℕ)
    → GivesSolve model answer request (statuses.Unknown report) text → OfSomeText model (Reports answer request report)
reported model answer request report text gives =
    reported_as request.all model answer request report text (solved model answer request report text gives)

of_task : (c : Circuit) (request : SolveRequest) (given : List CheckedEntry) (report : Report) → IsReport (task_of c request given) report → IsAsAsked request report
of_task c request given report r = record {
  workers = r.spent.count;
  spent = All-weaker (λ s. IsSpentOn (task_of c request given) s)
      (λ s. (s.conflict_limit ≡ limit_of request.conflicts) × (s.step_limit ≡ limit_of request.steps))
      (λ s is. (is.limits.conflicts, is.limits.steps)) report.workers r.spent.each;
  lassos = λ one. by request.all one r.depths.count;
  none = λ each. none_by request.all each r.depths.count;
  depth = r.depth;
  list = r.board.limit ∙ ap (λ (n : ℕ). min (n + request.skeletons) most_entries) (sym r.board.given);
}
  where
    by : (all : Bool) → all ≡ false → length report.depths ≡ min (if all then 0 else request.lassos) (request.workers - 1)
        → length report.depths ≡ min request.lassos (request.workers - 1)
    by false one count = count
    by true one count = absurd (cc one)

    none_by : (all : Bool) → all ≡ true → length report.depths ≡ min (if all then 0 else request.lassos) (request.workers - 1) → length report.depths ≡ 0
    none_by true each count = let is : length report.depths ≡ min 0 (request.workers - 1) = count in omega (arith, is, min-le_left 0 (request.workers - 1))
    none_by false each count = absurd (cc each)

as_asked : (answer : Option (Option (List ℕ))) (request : SolveRequest) (report : Report) (bytes : List ℕ) → Reports answer request report bytes → IsAsAsked request report
as_asked None request report bytes (m, form, (has, given, begins, r)) = of_task m.circuit request given report r
as_asked (Some told) request report bytes (claimed, may, (m, form, (has, given, begins, r))) = of_task m.circuit request given report r

pub reports_are_asked : ReportsAreAsked
reports_are_asked held model text request resume report gives =
    let of : OfSomeText (held model) (Reports (told_of held resume) request report) = reported (held model) (told_of held resume) request report text gives in
    as_asked (told_of held resume) request report of.0 of.2

-- the board's given entries stand in front
in_front : (c : Circuit) (request : SolveRequest) (given : List CheckedEntry) (report : Report) → IsReport (task_of c request given) report
    → take report.board.given report.board.entries ≡ given
in_front c request given report r =
    ap (λ (n : ℕ). take n report.board.entries) r.board.given ∙ ap (take (length given)) r.board.entries.1 ∙ take-append_seam given r.board.entries.0

pub reports_begin : ReportsBeginAsAsked
reports_begin held model name claimed text request report told gives =
    let of : OfSomeText (held model) (Reports (Some (held name)) request report) = reported (held model) (Some (held name)) request report text gives in
    (of.0, of.1, by of.0 of.2)
  where
    by : (bytes : List ℕ) → Reports (Some (held name)) request report bytes
        → OfModel bytes (λ c. (given : List Entry) × Lists c claimed given × (take report.board.given report.board.entries ≡ list_of c given))
    by bytes (read, may, (m, form, (has, given, (entries, lists, is), r))) =
        (m, form, (entries, subst (λ (t : List ℕ). Lists m.circuit t entries) (sym (may claimed told)) lists, in_front m.circuit request given report r ∙ is))

-- The certificates of `solve`.

-- the text is a certificate of so many entries
abbrev Holds : Option (Option (List ℕ)) → SolveRequest → ℕ → ℕ → List ℕ → List ℕ → Type 0
Holds answer request n entries text bytes =
    OfAnswer OfSomeText answer (λ claimed. OfModel bytes (λ c. IsAnswerBy c claimed request (accepted.Holds n entries) text))

certified_as : (all : Bool) (model : Option (List ℕ)) (answer : Option (Option (List ℕ))) (request : SolveRequest) (n entries : ℕ) (text : List ℕ)
    → Solves all model answer request (statuses.Done (dones.Holds n entries)) text
    → (n ≡ request.property) × OfSomeText model (Holds answer request n entries text)
certified_as false model answer request n entries text (inl (accepted.Lasso j positions from, e, property, of)) = absurd (cc e)
certified_as false model answer request n entries text (inl (accepted.Holds j count, e, property, of)) =
    let same : n ≡ j = cc e in
    let many : entries ≡ count = cc e in (
      same ∙ property,
      subst (λ (k : ℕ). OfSomeText model (Holds answer request k entries text)) (sym same)
          (subst (λ (k : ℕ). OfSomeText model (Holds answer request j k text)) (sym many) of),
    )
certified_as false model answer request n entries text (inr ((report, e, of), t)) = absurd (cc e)
certified_as true model answer request n entries text (inl (counts, count, e, of)) = absurd (cc e)
certified_as true model answer request n entries text (inr (report, e, of)) = absurd (cc e)

done_by_solving : (model : Option (List ℕ)) (answer : Option (Option (List ℕ))) (request : SolveRequest) (said : Done) (text : List ℕ)
    → GivesSolve model answer request (statuses.Done said) text → Solves request.all model answer request (statuses.Done said) text
done_by_solving model answer request said text (inl ((fault, e, bad), t)) = absurd (cc e)
done_by_solving model answer request said text (inr (inl ((e, none), t))) = absurd (cc e)
done_by_solving model answer request said text (inr (inr (inl ((end, e, none), t)))) = absurd (no_done end said e)
done_by_solving model answer request said text (inr (inr (inr solves))) = solves

certified : (model : Option (List ℕ)) (answer : Option (Option (List ℕ))) (request : SolveRequest) (n entries : ℕ) (text : List ℕ)
    → GivesSolve model answer request (statuses.Done (dones.Holds n entries)) text
    → (n ≡ request.property) × OfSomeText model (Holds answer request n entries text)
certified model answer request n entries text gives =
    certified_as request.all model answer request n entries text (done_by_solving model answer request (dones.Holds n entries) text gives)

-- where no answer is named, there are at most as many entries as were asked for
few : (answer : Option (Option (List ℕ))) (request : SolveRequest) (n entries : ℕ) (text bytes : List ℕ) → Holds answer request n entries text bytes
    → answer ≡ None → entries ≤ request.skeletons
few None request n entries text bytes (m, form, (good, spelled, given, none, within, first)) unnamed =
    omega (arith, within, min-le_left (length given + request.skeletons) most_entries, ap (λ (es : List CheckedEntry). length es) none)
few (Some told) request n entries text bytes holds unnamed = absurd (cc unnamed)

unnamed_told : (held : List ℕ → Option (List ℕ)) (resume : Option (List ℕ)) → resume ≡ None → told_of held resume ≡ None
unnamed_told held None none = refl
unnamed_told held (Some name) none = absurd (cc none)

pub certificates_are_asked : CertificatesAreAsked
certificates_are_asked held model text request resume n entries gives =
    let of : (n ≡ request.property) × OfSomeText (held model) (Holds (told_of held resume) request n entries text) =
    certified (held model) (told_of held resume) request n entries text gives in
    (of.0, λ none. few (told_of held resume) request n entries text of.1.0 of.1.2 (unnamed_told held resume none))

counted : (answer : Option (Option (List ℕ))) (request : SolveRequest) (counts : Counts) (count : ℕ) (text bytes : List ℕ)
    → OfAnswer OfSomeText answer (λ claimed. OfModel bytes (λ c. IsSheetBy c claimed request counts count text))
    → (counts.unknown ≡ 0) × (answer ≡ None → count ≤ request.skeletons)
counted None request counts count text bytes (m, form, (sheet, closed, given, none, b, answered, same, of)) = (
  closed,
  λ unnamed. omega (
    arith,
    same,
    answered.board.board.within,
    answered.board.limit,
    min-le_left (length given + request.skeletons) most_entries,
    ap (λ (es : List CheckedEntry). length es) none,
  ),
)
counted (Some told) request counts count text bytes (claimed, may, (m, form, (sheet, closed, given, begins, b, answered, same, of))) =
    (closed, λ unnamed. absurd (cc unnamed))

sheet_as : (all : Bool) (model : Option (List ℕ)) (answer : Option (Option (List ℕ))) (request : SolveRequest) (lassos holds unknown entries : ℕ) (text : List ℕ)
    → Solves all model answer request (statuses.Done (dones.All lassos holds unknown entries)) text
    → (unknown ≡ 0) × (answer ≡ None → entries ≤ request.skeletons)
sheet_as false model answer request lassos holds unknown entries text (inl (accepted.Lasso n positions from, e, property, of)) = absurd (cc e)
sheet_as false model answer request lassos holds unknown entries text (inl (accepted.Holds n count, e, property, of)) = absurd (cc e)
sheet_as false model answer request lassos holds unknown entries text (inr ((report, e, of), t)) = absurd (cc e)
sheet_as true model answer request lassos holds unknown entries text (inl (counts, count, e, (bytes, may, of))) =
    let many : entries ≡ count = cc e in
    let left : unknown ≡ counts.unknown = cc e in
    let is : (counts.unknown ≡ 0) × (answer ≡ None → count ≤ request.skeletons) = counted answer request counts count text bytes of in
    (left ∙ is.0, λ unnamed. subst (λ (n : ℕ). n ≤ request.skeletons) (sym many) (is.1 unnamed))
sheet_as true model answer request lassos holds unknown entries text (inr (report, e, of)) = absurd (cc e)

pub sheets_are_asked : SheetsAreAsked
sheets_are_asked held model text request resume lassos holds unknown entries gives =
    let is : (unknown ≡ 0) × (told_of held resume ≡ None → entries ≤ request.skeletons) =
    sheet_as request.all (held model) (told_of held resume) request lassos holds unknown entries text
    (done_by_solving (held model) (told_of held resume) request (dones.All lassos holds unknown entries) text gives) in
    (is.0, λ none. is.1 (unnamed_told held resume none))

pub certificates_begin : CertificatesBeginAsAsked
certificates_begin held model name claimed text request n entries told gives =
    let of : (n ≡ request.property) × OfSomeText (held model) (Holds (Some (held name)) request n entries text) =
    certified (held model) (Some (held name)) request n entries text gives in
    (of.1.0, of.1.1, by of.1.0 of.1.2)
  where
    by : (bytes : List ℕ) → Holds (Some (held name)) request n entries text bytes
        → OfModel bytes (λ c. (given : List Entry) × Lists c claimed given × (entries ≤ length (list_of c given) + request.skeletons)
        × (found : List CheckedEntry) × (refutation : Refutation) × (text ≡ certificate_text n (certificate_of (list_of c given ++ found) refutation)))
    by bytes (read, may, (m, form, (good, spelled, given, (list, lists, is), within, (found, refutation, t)))) = (
      m,
      form,
      (
        list,
        subst (λ (t : List ℕ). Lists m.circuit t list) (sym (may claimed told)) lists,
        omega (arith, within, min-le_left (length given + request.skeletons) most_entries, ap (λ (es : List CheckedEntry). length es) is),
        found,
        refutation,
        t ∙ ap (λ (es : List CheckedEntry). certificate_text n (certificate_of (es ++ found) refutation)) is,
      ),
    )

-- `wave` of a sheet.

block_lasso : (c : Circuit) (n : ℕ) (block : Option Block) (found : BlockLasso) → DecidesIn c n block (Ok found)
    → (found.property ≡ n) × IsFairLassoOf c n found.lasso
block_lasso c n (Some (blocks.Lasso s)) found (same, stands, is) =
    (same, subst (λ (l : LassoOf). IsFairLassoOf c n l) (sym is) stands.has.lasso)
block_lasso c n (Some (blocks.Holds r)) found h = absurd (cc h)
block_lasso c n (Some blocks.Open) found h = absurd (cc h)
block_lasso c n None found h = absurd (cc h)

sheet_lasso : (c : Circuit) (text : List ℕ) (n : ℕ) (found : BlockLasso) → DecidesSheet c text n (Ok found) → (found.property ≡ n) × IsFairLassoOf c n found.lasso
sheet_lasso c text n found (inl (sheet, is, block)) = block_lasso c n (slice_get sheet.blocks n) found block
sheet_lasso c text n found (inr (end, decides, e)) = absurd (cc e)

waved : (m : Model) (claimed : List ℕ) (n : ℕ) (text : List ℕ) (test : Bool) → test ≡ true → opens_as_sheet claimed ≡ test
    → EndsWaveAs test m claimed n (statuses.Done dones.Printed) text → (lasso : LassoOf) × IsFairLassoOf m.circuit n lasso × (text ≡ waves_text m n lasso)
waved m claimed n text false is same h = absurd (cc is)
waved m claimed n text true is same (inl (found, decides, e, t)) =
    let of : (found.property ≡ n) × IsFairLassoOf m.circuit n found.lasso =
    sheet_lasso m.circuit claimed n found (subst (λ (b : Bool). DecidesBlockAs b m.circuit claimed n (Ok found)) same decides) in
    (found.lasso, of.1, t ∙ ap (λ (j : ℕ). waves_text m j found.lasso) of.0)
waved m claimed n text true is same (inr (end, decides, e, t)) = absurd (no_done end dones.Printed e)

pub waves_are_asked : WavesAreAsked
waves_are_asked held model answer claimed text n told sheet (inl ((fault, e, bad), t)) = absurd (cc e)
waves_are_asked held model answer claimed text n told sheet (inr (bytes, may, (m, form, (read, may_be, given)))) =
    let is : opens_as_sheet read ≡ true = subst (λ (t : List ℕ). opens_as_sheet t ≡ true) (may_be claimed told) sheet in
    let w : (lasso : LassoOf) × IsFairLassoOf m.circuit n lasso × (text ≡ waves_text m n lasso) = waved m read n text (opens_as_sheet read) is refl given in
    (bytes, may, (m, form, w.0, w.1, w.2))

-- `demo`.

-- what was found, and the text that says so
abbrev IsTrueSummary : Circuit → DemoRequest → BoardState → List ℕ → Type 0
IsTrueSummary c request b text =
    ((lasso : LassoOf) × IsFairLassoOf c 0 lasso × (text ≡ summary_text request (codes "1") (length b.entries) (codes "accepted")))
    ⊎ ((r : Refutation) × IsGoodRefutation c (plain b.entries) 0 r.uses r.proof
    × (text ≡ summary_text request (codes "0") (length b.entries) (codes "accepted")))

summed : (c : Circuit) (request : DemoRequest) (text : List ℕ) (b : BoardState) (o : Option Outcome) → outcome_of b.served 0 ≡ o
    → SumsUpBoard c request text b → IsTrueSummary c request b text
summed c request text b None e sums =
    absurd (subst (λ (o : Option Outcome). IsTextOfOutcome c 0 b.entries o sums.answer) e sums.printed)
summed c request text b (Some (outcomes.Lasso lasso)) e sums = inl (
  lasso,
  subst (λ (k : Circuit). IsFairLassoOf k 0 lasso) sums.answered.board.circuit (sums.answered.board.board.outcomes 0 (outcomes.Lasso lasso) e),
  sums.summary ∙ ap (λ (o : Option Outcome). summary_text request (verdict_text o) (length b.entries) (codes "accepted")) e,
)
summed c request text b (Some (outcomes.Holds r)) e sums = inr (
  r,
  subst (λ (k : Circuit). IsGoodRefutation k (plain b.entries) 0 r.uses r.proof) sums.answered.board.circuit
      (sums.answered.board.board.outcomes 0 (outcomes.Holds r) e),
  sums.summary ∙ ap (λ (o : Option Outcome). summary_text request (verdict_text o) (length b.entries) (codes "accepted")) e,
)

pub summaries_are_true : SummariesAreTrue
summaries_are_true held request board text (inl (other, e, sums)) =
    let same : board ≡ other = cc e in
    let of : SumsUpBoard (demo_circuit request) request text board =
    subst (λ (b : BoardState). SumsUpBoard (demo_circuit request) request text b) (sym same) sums in
    summed (demo_circuit request) request text board (outcome_of board.served 0) refl of
summaries_are_true held request board text (inr (report, e, reports, t)) = absurd (cc e)

-- `check` accepts what `solve` prints.

-- a good answer is no text about rounds
no_rounds : (c : Circuit) (text : List ℕ) (found : Accepted) → IsGood c text found → Decides c text (Ok (judged.Text (texts.Answer found)))
no_rounds c text (accepted.Lasso n positions from) (there, short, s, (others, (small, opens), spells), stands) =
    (ap is_about_rounds opens, (there, short, s, (others, (small, opens), spells), stands))
no_rounds c text (accepted.Holds n entries) (there, short, certificate, (small, opens), good, count) =
    (ap is_about_rounds opens, (there, short, certificate, (small, opens), good, count))

-- a text is good for this
abbrev IsGoodFor : List ℕ → Judged → List ℕ → Type 0
IsGoodFor text found bytes = OfModel bytes (λ c. Decides c text (Ok found))

answer_good : (answer : Option (Option (List ℕ))) (request : SolveRequest) (found : Accepted) (text bytes : List ℕ)
    → OfAnswer OfSomeText answer (λ claimed. OfModel bytes (λ c. IsAnswerBy c claimed request found text)) → IsGoodFor text (judged.Text (texts.Answer found)) bytes
answer_good None request found text bytes (m, form, (good, spelled, given, begins, within, first)) = (m, form, no_rounds m.circuit text found good)
answer_good (Some told) request found text bytes (claimed, may, (m, form, (good, spelled, given, begins, within, first))) = (m, form, no_rounds m.circuit text found good)

sheet_good : (answer : Option (Option (List ℕ))) (request : SolveRequest) (counts : Counts) (entries : ℕ) (text bytes : List ℕ)
    → OfAnswer OfSomeText answer (λ claimed. OfModel bytes (λ c. IsSheetBy c claimed request counts entries text)) → IsGoodFor text (judged.Sheet counts entries) bytes
sheet_good None request counts entries text bytes (m, form, (good, closed, given, begins, b, answered, same, of)) = (m, form, good)
sheet_good (Some told) request counts entries text bytes (claimed, may, (m, form, (good, closed, given, begins, b, answered, same, of))) = (m, form, good)

good_for : (all : Bool) (model : Option (List ℕ)) (answer : Option (Option (List ℕ))) (request : SolveRequest) (said : Done) (text : List ℕ)
    → Solves all model answer request (statuses.Done said) text → (found : Judged) × (statuses.Done said ≡ statuses.Done (done_by found)) × OfSomeText model (IsGoodFor text found)
good_for false model answer request said text (inl (found, e, property, (bytes, may, of))) =
    (judged.Text (texts.Answer found), e, (bytes, may, answer_good answer request found text bytes of))
good_for false model answer request said text (inr ((report, e, of), t)) = absurd (cc e)
good_for true model answer request said text (inl (counts, entries, e, (bytes, may, of))) =
    (judged.Sheet counts entries, e, (bytes, may, sheet_good answer request counts entries text bytes of))
good_for true model answer request said text (inr (report, e, of)) = absurd (cc e)

-- of a shelf that tells the text nothing else may be it
is_told : (told : Option (List ℕ)) (text : List ℕ) → told ≡ Some text → MayBe told text
is_told told text is = λ other same. let both : ◌≡◌ {A = Option (List ℕ)} (Some other) (Some text) = sym same ∙ is in cc both

pub verdicts_are_accepted : VerdictsAreAccepted
verdicts_are_accepted held model answer text request resume said told gives =
    by (good_for request.all (held model) (told_of held resume) request said text (done_by_solving (held model) (told_of held resume) request said text gives))
  where
    by : (found : Judged) × (statuses.Done said ≡ statuses.Done (done_by found)) × OfSomeText (held model) (IsGoodFor text found)
        → CommandGives held (Check model answer) (statuses.Done said) (text_of (statuses.Done said))
    by (found, e, (bytes, may, (m, form, decides))) =
        (inr (Ok found, e, (bytes, may, (text, is_told (held answer) text told, (m, form, decides)))), refl)

sheet_of : (answer : Option (Option (List ℕ))) (request : SolveRequest) (report : Report) (text bytes : List ℕ) → OpenSheet answer request report text bytes
    → (counts : Counts) × IsGoodFor text (judged.Sheet counts (length report.board.entries)) bytes
sheet_of None request report text bytes (m, form, (by, (counts, sheet, good, shown))) = (counts, (m, form, good))
sheet_of (Some told) request report text bytes (claimed, may, (m, form, (by, (counts, sheet, good, shown)))) = (counts, (m, form, good))

pub open_sheets_are_accepted : OpenSheetsAreAccepted
open_sheets_are_accepted held model answer text request resume report each told gives =
    let solves : Solves true (held model) (told_of held resume) request (statuses.Unknown report) text =
    subst (λ (all : Bool). Solves all (held model) (told_of held resume) request (statuses.Unknown report) text) each
    (solved (held model) (told_of held resume) request report text gives) in
    by (open_sheet (held model) (told_of held resume) request report text solves)
  where
    by : OfSomeText (held model) (OpenSheet (told_of held resume) request report text)
        → (counts : Counts) × (line : List ℕ)
        × CommandGives held (Check model answer) (statuses.Done (done_by (judged.Sheet counts (length report.board.entries)))) line
    by (bytes, may, of) =
        let sheet : (counts : Counts) × IsGoodFor text (judged.Sheet counts (length report.board.entries)) bytes =
        sheet_of (told_of held resume) request report text bytes of in
        let found : Judged = judged.Sheet sheet.0 (length report.board.entries) in (
          sheet.0,
          text_of (statuses.Done (done_by found)),
          (inr (Ok found, refl, (bytes, may, (text, is_told (held answer) text told, sheet.1))), refl),
        )
