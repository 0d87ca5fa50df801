-- What a search is asked, from the model and from the list that is loaded for its circuit.
use Rattle.std.proofs.Common.{◌≡◌, ◌⊎◌, ◌<◌, ◌≤◌, ℕ, Bool, true, false, cond, List, [], ◌∷◌, length, refl, sym, ◌∙◌, ap, subst, inl, inr, arith, Some, None, Ok, Err}
use Rattle.std.specs.Prelude.{All, AllPairs, Option, Result, IfOk, IfErr, Vec}
use Rattle.std.specs.declared.alloc.AllocError.{AllocError}
use Rattle.std.proofs.lemmas.List.Elements.{All-cons, All-nil}
use Rattle.sheet_commands.specs.Each.{property_numbers, most_properties}
use Rattle.sheet_commands.proofs.Numbers.{numbers_ascend, numbers_below}
use Rattle.std.specs.Arc.{arc_value}
use Rattle.std.specs.declared.sync.Arc.{Arc}
use Rattle.std.proofs.lemmas.Bool.{true≢false}
use Rattle.std.proofs.lemmas.List.{length-map}
use Rattle.aig_semantics.specs.Circuits.{Circuit}
use Rattle.aiger_grammar.specs.Models.{Model}
use Rattle.edge.specs.Faults.{Rose}
use Rattle.edge.specs.Told.{IfTold}
use Rattle.edge.specs.Reads.{ReadsOf, KeepsTexts}
use Rattle.entry.specs.CheckedEntries.{CheckedEntry}
use Rattle.sheet_answers.specs.declared.ends.JudgeEnd.{JudgeEnd}
use Rattle.sheet_answers.specs.declared.ends.JudgeEnd.TheVariants as ends
use Rattle.sheet_answers.specs.Ends.{has_unread, read_failed, refused_memory, IsUnended}
use Rattle.entry.specs.declared.origins.Origin.TheVariants.{Given}
use Rattle.wall_store.specs.Boards.{most_entries, IsSoundList}
use Rattle.search_reports.specs.declared.limits.Limits.{Limits}
use Rattle.fair_workers.specs.Runs.{Task, AreServed, ServesOne}
use Rattle.given_entries.specs.Beginning.{told_of, OfClaimed, IsClaimed, BeginsWith, HasNoList, IsRefusedWith, ReadsIfNamed, shared_list}
use Rattle.command_lines.specs.declared.commands.solving.SolveRequest.{SolveRequest}
use Rattle.command_lines.specs.Commands.{name_in}
use Rattle.fair_top.specs.declared.beginnings.Beginning.{Beginning}
use Rattle.plain_commands.specs.declared.status.Status.{Status}
use Rattle.plain_commands.specs.declared.status.Status.TheVariants as statuses
use Rattle.plain_commands.specs.ModelTexts.{IsModelText, OfModel}
use Rattle.plain_commands.specs.ModelGiven.{OfText, OfSomeText}
use Rattle.plain_commands.specs.Check.{status_of_end}
use Rattle.fair_top.specs.Solve.{limits_of, asked_in, task_for, task_of, HasProperty, LacksProperty, OfAnswer, DecidesSolve, HasAsked}
use Rattle.fair_top.specs.Solved.{MayBegin}
use Rattle.fair_top.specs.Beginnings.{circuit_in, served_in, given_in, IsAskedOf, EndsUnasked, beginning_of_end, IsEndedWith, IsBeginning, SaysBefore, EndsBefore}
use Rattle.plain_commands.specs.Statuses.{has_read_fault}
use Rattle.plain_commands.specs.Answering.{IsSilent, GivesVerdict, HoldsModel, FailedOf, ReadsModel, ReadsModelFirst, ReadsInTurn}
use Rattle.plain_commands.specs.Judged.{IsModelOf, IsFaultOf, EndsWithoutModel}
use Rattle.plain_commands.proofs.Judging.{told_form, same_bad, failed_end, end_failed, rose_since}

abbrev Loading : Type 0
Loading = Result Beginning JudgeEnd

abbrev Asking : Type 0
Asking = Result Beginning Status

abbrev Told : Type 0
Told = Option (Option (List ℕ))

-- ---- the end of the loading, as a status

-- what is asked for of a circuit, and what is loaded
pub record IsBegun (c : Circuit) (answer : Told) (request : SolveRequest) (q : Beginning) : Type 0 where
  pub circuit : circuit_in q ≡ c
  pub served : served_in q ≡ asked_in request.all c request.property
  pub serves : AreServed c (served_in q)
  pub list : OfClaimed answer (λ claimed. BeginsWith c claimed (given_in q))
  pub begins : MayBegin c (given_in q)

pub begun_of : (c : Circuit) (answer : Told) (request : SolveRequest) (end : Loading) → IfOk end (λ q. circuit_in q ≡ c)
    → IfOk end (λ q. served_in q ≡ asked_in request.all c request.property) → IfOk end (λ q. AreServed c (served_in q))
    → IfOk end (λ q. OfClaimed answer (λ claimed. BeginsWith c claimed (given_in q))) → IfOk end (λ q. MayBegin c (given_in q))
    → IfOk end (IsBegun c answer request)
begun_of c answer request (Ok q) circuit served serves list begins =
    record { circuit = circuit; served = served; serves = serves; list = list; begins = begins }
begun_of c answer request (Err end) circuit served serves list begins = tt

pub asked_by : (c : Circuit) (answer : Told) (request : SolveRequest) (end : Loading) → HasProperty c request → IfOk end (IsBegun c answer request)
    → IfOk (beginning_of_end end) (IsAskedOf c answer request)
asked_by c answer request (Ok q) there b =
    record { circuit = b.circuit; property = there; served = b.served; serves = b.serves; list = b.list; begins = b.begins }
asked_by c answer request (Err end) there b = tt

unended_by : (c : Circuit) (answer : Told) (request : SolveRequest) (end : JudgeEnd) → HasProperty c request → IsUnended end → EndsUnasked c answer request (status_of_end end)
unended_by c answer request end there (inl e) = inr (there, inl (inl (ap status_of_end e)))
unended_by c answer request end there (inr e) = inr (there, inl (inr (ap status_of_end e)))

pub ended_by : (c : Circuit) (answer : Told) (request : SolveRequest) (end : Loading) → HasProperty c request
    → IfErr end (λ e. IsUnended e ⊎ OfClaimed answer (λ claimed. HasNoList c claimed e))
    → IfErr (beginning_of_end end) (EndsUnasked c answer request)
ended_by c answer request (Ok q) there none = tt
ended_by c answer request (Err end) there (inl unended) = unended_by c answer request end there unended
ended_by c answer request (Err end) there (inr none) = inr (there, inr (end, refl, none))

silent_end : (end : JudgeEnd) → IsUnended end → IsSilent (status_of_end end)
silent_end end (inl e) = inl (ap status_of_end e)
silent_end end (inr e) = inr (ap status_of_end e)

pub refused_by : (refusal : JudgeEnd) (end : Loading) → IsRefusedWith refusal end → IsEndedWith (status_of_end refusal) (beginning_of_end end)
refused_by refusal (Ok q) h = h
refused_by refusal (Err end) (inl same) = inl (ap status_of_end same)
refused_by refusal (Err end) (inr unended) = inr (silent_end end unended)

pub accepted_by : (end : Loading) → IfErr end IsUnended → IfErr (beginning_of_end end) IsSilent
accepted_by (Ok q) h = tt
accepted_by (Err end) h = silent_end end h

pub unread_by : (end : Loading) → has_read_fault (beginning_of_end end) ≡ has_unread end
unread_by (Ok q) = refl
unread_by (Err end) = end_failed end

abbrev errs : Status → Asking
errs status = Err status

-- where there is no beginning a failed read is that of the status
pub read_of_err : (status result : Status) → (result ≡ status) ⊎ (result ≡ statuses.Memory) → result ≡ statuses.ReadFault → ◌≡◌ {A = Asking} (Err status) (Err statuses.ReadFault)
read_of_err status result (inl same) e = ap errs (sym same ∙ e)
read_of_err status result (inr memory) e = let wrong : statuses.Memory ≡ statuses.ReadFault = sym memory ∙ e in absurd (cc wrong)

status_in_err : Status → Asking → Status
status_in_err default (Ok q) = default
status_in_err default (Err status) = status

pub failed_by : (end : Loading) → beginning_of_end end ≡ Err statuses.ReadFault → end ≡ Err read_failed
unfolding status_in_err
failed_by (Ok q) e = absurd (cc e)
failed_by (Err end) e = ap (λ (x : JudgeEnd). Err x) (failed_end end (ap (status_in_err statuses.Memory) e))

-- ---- where only memory can be wanted yet

pub listed_of : {Z : Type 0} (c : Circuit) (answer : Told) (list : List (Arc CheckedEntry Z)) (result : Loading) → IfOk result (λ q. given_in q ≡ shared_list list)
    → OfClaimed answer (λ claimed. BeginsWith c claimed (shared_list list)) → IfOk result (λ q. OfClaimed answer (λ claimed. BeginsWith c claimed (given_in q)))
listed_of c answer list (Ok q) is begins = subst (λ (l : List CheckedEntry). OfClaimed answer (λ claimed. BeginsWith c claimed l)) (sym is) begins
listed_of c answer list (Err end) is begins = tt

pub begins_of : {Z : Type 0} (c : Circuit) (list : List (Arc CheckedEntry Z)) (result : Loading) → IfOk result (λ q. given_in q ≡ shared_list list) → length list ≤ most_entries → IsSoundList c (shared_list list)
    → All (λ (e : CheckedEntry). e.origin ≡ Given) (shared_list list) → IfOk result (λ q. MayBegin c (given_in q))
begins_of c list (Ok q) is few sound origins = subst (MayBegin c) (sym is) (record {
  few = omega (arith, few, length-map list (λ s. arc_value {X = CheckedEntry} s));
  sound = sound;
  origins = origins;
})
begins_of c list (Err end) is few sound origins = tt

pub memory_unended : (result : Loading) → IfErr result (λ end. end ≡ refused_memory) → IfErr result IsUnended
memory_unended (Ok q) e = tt
memory_unended (Err end) e = inr e

pub memory_fault : (result : Loading) (P : JudgeEnd → Type 0) → IfErr result (λ end. end ≡ refused_memory) → IfErr result (λ end. IsUnended end ⊎ P end)
memory_fault (Ok q) P e = tt
memory_fault (Err end) P e = inl (inr e)

-- a list that was loaded is not refused
pub memory_refused : (result : Loading) (end : JudgeEnd) → IfErr result (λ e. e ≡ refused_memory) → ⊥ → IsRefusedWith end result
memory_refused result end e wrong = absurd wrong

pub never_failed : (result : Loading) → IfErr result (λ end. end ≡ refused_memory) → result ≡ Err read_failed → ⊥
never_failed (Ok q) e wrong = cc wrong
never_failed (Err end) e wrong = let same : Err refused_memory ≡ Err read_failed = ap (λ (x : JudgeEnd). as_loading x) (sym e) ∙ wrong in cc same
  where
    as_loading : JudgeEnd → Loading
    as_loading x = Err x

-- the property is not there
pub without_property : (c : Circuit) (request : SolveRequest) (P : Type 0) → LacksProperty c request → HasProperty c request → P
without_property c request P (one, none) (inl all) = absurd (true≢false (sym all ∙ one))
without_property c request P (one, none) (inr there) = absurd (omega (arith, none, there))

pub no_reads : {Shelf : Type 0} (Read : ReadsOf Shelf) (resume : Option (List ℕ)) (old : Shelf) → ReadsIfNamed Read resume false old old
no_reads Read None old = (refl, refl)
no_reads Read (Some name) old = (0, refl)

-- ---- the text of the answer

-- what a shelf tells stays
pub told_again : (held now : List ℕ → Option (List ℕ)) (resume : Option (List ℕ)) → KeepsTexts held now → told_of now resume ≡ told_of held resume
told_again held now None kept = refl
told_again held now (Some name) kept = ap (λ (told : Option (List ℕ)). Some told) (kept name)

of_claimed : (answer : Told) (P Q : Option (List ℕ) → Type 0) → ((claimed : Option (List ℕ)) → P claimed → Q claimed) → OfClaimed answer P → OfAnswer OfSomeText answer Q
of_claimed None P Q f p = f None p
of_claimed (Some told) P Q f (text, may, p) = (text, may, f (Some text) p)

pub of_some : (answer : Told) (P Q : Option (List ℕ) → Type 0) → ((claimed : Option (List ℕ)) → P claimed → Q claimed) → OfAnswer OfSomeText answer P → OfAnswer OfSomeText answer Q
of_some None P Q f p = f None p
of_some (Some told) P Q f (text, may, p) = (text, may, f (Some text) p)

of_told : (answer : Told) (P : Option (List ℕ) → Type 0) (Q : Type 0) → ((claimed : Option (List ℕ)) → IsClaimed answer claimed → P claimed → Q) → OfAnswer OfText answer P → Q
of_told None P Q f p = f None refl p
of_told (Some told) P Q f (text, e, p) = f (Some text) (text, e, refl) p

-- ---- of the model's text

module _ (c : Circuit) (m : Model) (model : Option (List ℕ)) (answer : Told) (request : SolveRequest) (same : c ≡ m.circuit) (h : IsModelOf model m) where
  is_model : (text : List ℕ) (n : Model) → model ≡ Some text → IsModelText n text → n.circuit ≡ c
  is_model text n told form = ap (λ (x : Model). x.circuit) (sym (h.one text n told form)) ∙ sym same

  beginning : (q : Beginning) → ((claimed : Option (List ℕ)) (end : JudgeEnd) → IsClaimed answer claimed → HasNoList c claimed end → HasProperty c request → ⊥)
      → IsAskedOf c answer request q → IsBeginning model answer request q
  beginning q refused a = record {
    asked = (
      h.text.0,
      h.text.1,
      of_claimed answer (λ claimed. BeginsWith c claimed (given_in q))
          (λ claimed. OfModel h.text.0 (λ k. (circuit_in q ≡ k) × BeginsWith k claimed (given_in q)))
          (λ claimed b. (m, h.text.2, (a.circuit ∙ same, subst (λ (k : Circuit). BeginsWith k claimed (given_in q)) same b))) a.list,
    );
    property = subst (λ (k : Circuit). HasProperty k request) (sym a.circuit) a.property;
    served = a.served ∙ ap (λ (k : Circuit). asked_in request.all k request.property) (sym a.circuit);
    serves = subst (λ (k : Circuit). AreServed k (served_in q)) (sym a.circuit) a.serves;
    begins = subst (λ (k : Circuit). MayBegin k (given_in q)) (sym a.circuit) a.begins;
    undecided = undecided;
  }
    where
      undecided : (verdict : Status) → DecidesSolve model answer request verdict → ⊥
      undecided verdict (inl (fault, e, (text, told, bad))) = h.faultless text fault told bad
      undecided verdict (inr (inl (e, (text, told, (n, form, few))))) =
          without_property c request ⊥ (subst (λ (k : Circuit). LacksProperty k request) (is_model text n told form) few) a.property
      undecided verdict (inr (inr (fault, e, (text, told, claims)))) =
          of_told answer (λ claimed. OfModel text (λ k. HasProperty k request × HasNoList k claimed fault)) ⊥
          (λ claimed is claim. refused claimed fault is (subst (λ (k : Circuit). HasNoList k claimed fault) (is_model text claim.0 told claim.1) claim.2.1) a.property) claims

  pub beginnings : (result : Asking)
      → ((claimed : Option (List ℕ)) (end : JudgeEnd) → IsClaimed answer claimed → HasNoList c claimed end → HasProperty c request
      → IsEndedWith (status_of_end end) result)
      → IfOk result (IsAskedOf c answer request) → IfOk result (IsBeginning model answer request)
  beginnings (Ok q) refused a = beginning q refused a
  beginnings (Err status) refused a = tt

  before_says : (status : Status) → EndsUnasked c answer request status → SaysBefore model answer request status ⊎ IsSilent status
  before_says status (inl (e, none)) =
      inl (inr (inl (e, (h.text.0, h.text.1, (m, h.text.2, subst (λ (k : Circuit). LacksProperty k request) same none)))))
  before_says status (inr (there, inl silent)) = inr silent
  before_says status (inr (there, inr (fault, e, claims))) = inl (inr (inr (
    fault,
    e,
    (
      h.text.0,
      h.text.1,
      of_claimed answer (λ claimed. HasNoList c claimed fault)
          (λ claimed. OfModel h.text.0 (λ k. HasProperty k request × HasNoList k claimed fault))
          (λ claimed none. (
            m,
            h.text.2,
            (subst (λ (k : Circuit). HasProperty k request) same there, subst (λ (k : Circuit). HasNoList k claimed fault) same none),
          )) claims,
    ),
  )))

  ended_answered : (fault : JudgeEnd) (verdict status : Status) → verdict ≡ status_of_end fault → (status ≡ status_of_end fault) ⊎ IsSilent status → GivesVerdict verdict status
  ended_answered fault verdict status is (inl e) = inl (inl (inl (e ∙ sym is)))
  ended_answered fault verdict status is (inr (inl e)) = inl (inr (inl e))
  ended_answered fault verdict status is (inr (inr e)) = inr e

  no_property : (verdict status : Status) → verdict ≡ statuses.NoProperty request.property → LacksProperty c request → EndsUnasked c answer request status
      → GivesVerdict verdict status
  no_property verdict status is none (inl (e, other)) = inl (inl (inl (e ∙ sym is)))
  no_property verdict status is none (inr (there, other)) = without_property c request (GivesVerdict verdict status) none there

  before_exactly : (status : Status)
      → ((claimed : Option (List ℕ)) (end : JudgeEnd) → IsClaimed answer claimed → HasNoList c claimed end → HasProperty c request
      → (status ≡ status_of_end end) ⊎ IsSilent status)
      → EndsUnasked c answer request status → (verdict : Status) → DecidesSolve model answer request verdict → GivesVerdict verdict status
  before_exactly status refused ends verdict (inl (fault, e, (text, told, bad))) = absurd (h.faultless text fault told bad)
  before_exactly status refused ends verdict (inr (inl (e, (text, told, (n, form, few))))) =
      no_property verdict status e (subst (λ (k : Circuit). LacksProperty k request) (is_model text n told form) few) ends
  before_exactly status refused ends verdict (inr (inr (fault, e, (text, told, claims)))) =
      of_told answer (λ claimed. OfModel text (λ k. HasProperty k request × HasNoList k claimed fault)) (GivesVerdict verdict status)
      (λ claimed is claim.
      ended_answered fault verdict status e
      (refused claimed fault is (subst (λ (k : Circuit). HasNoList k claimed fault) (is_model text claim.0 told claim.1) claim.2.1)
      (subst (λ (k : Circuit). HasProperty k request) (is_model text claim.0 told claim.1) claim.2.0))) claims

  before_asked : (status : Status)
      → ((claimed : Option (List ℕ)) (given : List CheckedEntry) → IsClaimed answer claimed → BeginsWith c claimed given → HasProperty c request → IsSilent status)
      → HasAsked model answer request → IsSilent status
  before_asked status accepted (text, told, claims) =
      of_told answer (λ claimed. OfModel text (λ k. HasProperty k request × (given : List CheckedEntry) × BeginsWith k claimed given)) (IsSilent status)
      (λ claimed is claim.
      accepted claimed claim.2.1 is (subst (λ (k : Circuit). BeginsWith k claimed claim.2.1) (is_model text claim.0 told claim.1) claim.2.2)
      (subst (λ (k : Circuit). HasProperty k request) (is_model text claim.0 told claim.1) claim.2.0)) claims

  pub before_search : (result : Asking)
      → ((claimed : Option (List ℕ)) (end : JudgeEnd) → IsClaimed answer claimed → HasNoList c claimed end → HasProperty c request
      → IsEndedWith (status_of_end end) result)
      → ((claimed : Option (List ℕ)) (given : List CheckedEntry) → IsClaimed answer claimed → BeginsWith c claimed given → HasProperty c request
      → IfErr result IsSilent)
      → IfErr result (EndsUnasked c answer request) → IfErr result (EndsBefore model answer request)
  before_search (Ok q) refused accepted ends = tt
  before_search (Err status) refused accepted ends = record {
    says = before_says status ends;
    exactly = before_exactly status refused ends;
    asked = before_asked status accepted;
  }

-- ---- where there is no model

bad_exactly : (model : Option (List ℕ)) (answer : Told) (request : SolveRequest) (fault : _) → IsFaultOf model fault
    → (verdict : Status) → DecidesSolve model answer request verdict → GivesVerdict verdict (statuses.BadModel fault)
bad_exactly model answer request fault h verdict (inl (other, e, (text, told, bad))) =
    subst (λ (v : Status). GivesVerdict v (statuses.BadModel fault)) (sym e) (same_bad fault other (h.one text other told bad))
bad_exactly model answer request fault h verdict (inr (inl (e, (text, told, (n, form, few))))) = absurd (h.none text n told form)
bad_exactly model answer request fault h verdict (inr (inr (other, e, (text, told, claims)))) =
    absurd (of_told answer (λ claimed. OfModel text (λ k. HasProperty k request × HasNoList k claimed other)) ⊥ (λ claimed is claim. h.none text claim.0 told claim.1) claims)

bad_asked : (model : Option (List ℕ)) (answer : Told) (request : SolveRequest) (fault : _) → IsFaultOf model fault → HasAsked model answer request → IsSilent (statuses.BadModel fault)
bad_asked model answer request fault h (text, told, claims) =
    absurd (of_told answer (λ claimed. OfModel text (λ k. HasProperty k request × (given : List CheckedEntry) × BeginsWith k claimed given)) ⊥
    (λ claimed is claim. h.none text claim.0 told claim.1) claims)

silent_before : (model : Option (List ℕ)) (answer : Told) (request : SolveRequest) (status : Status) → IsSilent status → EndsBefore model answer request status
silent_before model answer request status silent = record { says = inr silent; exactly = λ verdict d. unanswered verdict silent; asked = λ asked. silent }
  where
    unanswered : (verdict : Status) → IsSilent status → GivesVerdict verdict status
    unanswered verdict (inl e) = inl (inr (inl e))
    unanswered verdict (inr e) = inr e

pub before_model : (model : Option (List ℕ)) (answer : Told) (request : SolveRequest) (status : Status) → EndsWithoutModel model status → EndsBefore model answer request status
before_model model answer request (statuses.BadModel fault) h =
    record { says = inl (inl (fault, refl, h.text)); exactly = bad_exactly model answer request fault h; asked = bad_asked model answer request fault h }
before_model model answer request statuses.ReadFault h = silent_before model answer request statuses.ReadFault (inl refl)
before_model model answer request statuses.Memory h = silent_before model answer request statuses.Memory (inr refl)
before_model model answer request (statuses.Done done) h = absurd h
before_model model answer request (statuses.Refused fault) h = absurd h
before_model model answer request (statuses.RefusedBlock n fault) h = absurd h
before_model model answer request statuses.WriteFault h = absurd h
before_model model answer request statuses.Usage h = absurd h
before_model model answer request (statuses.Unknown report) h = absurd h
before_model model answer request (statuses.NoProperty n) h = absurd h
before_model model answer request (statuses.TooLarge n) h = absurd h
before_model model answer request (statuses.OpenRounds n spent) h = absurd h
before_model model answer request (statuses.OpenDepth n spent) h = absurd h
before_model model answer request (statuses.NoItem entry clause) h = absurd h

-- ---- reads

-- a read of the answer failed
pub failed_of_answer : (held : List ℕ → Option (List ℕ)) (model : List ℕ) (resume : Option (List ℕ)) (before mid now : List ℕ → ℕ) → HoldsModel held model
    → ((name : List ℕ) → before name ≤ mid name) → (name : List ℕ) × (resume ≡ Some name) × Rose (mid name) (now name)
    → FailedOf held (model ∷ name_in resume) before now
failed_of_answer held model resume before mid now holds counts (name, is, rose) =
    subst (λ (r : Option (List ℕ)). FailedOf held (model ∷ name_in r) before now) (sym is) (inr (holds, inl (rose_since (before name) (mid name) (now name) (counts name) rose)))

-- where the answer could not be read the model has what is asked for
pub asked_there : (c : Circuit) (m : Model) (model : Option (List ℕ)) (answer : Told) (request : SolveRequest) (result : Asking) → c ≡ m.circuit → IsModelOf model m
    → IfErr result (EndsUnasked c answer request) → result ≡ Err statuses.ReadFault → IfTold model (λ text. OfModel text (λ k. HasProperty k request))
asked_there c m model answer request (Ok q) same h ends e = absurd (cc e)
asked_there c m model answer request (Err status) same h (inl (is, none)) e =
    let read : status ≡ statuses.ReadFault = cc e in
    let wrong : statuses.NoProperty request.property ≡ statuses.ReadFault = sym is ∙ read in absurd (cc wrong)
asked_there c m model answer request (Err status) same h (inr (there, more)) e = λ text told.
    (m, told_form model m h text told, subst (λ (k : Circuit). HasProperty k request) same there)

in_turn : {Shelf : Type 0} (Read : ReadsOf Shelf) (resume : Option (List ℕ)) (failed : Bool) (old new : Shelf) → ReadsIfNamed Read resume failed old new
    → ReadsInTurn Read (name_in resume) failed old new
in_turn Read None failed old new h = h
in_turn Read (Some name) failed old new h = inl h

-- the answer, where one is named, was read after a model
pub read_named : {Shelf : Type 0} (Read : ReadsOf Shelf) (held : List ℕ → Option (List ℕ)) (model : List ℕ) (resume : Option (List ℕ)) (failed : Bool)
    (old mid new : Shelf) → ReadsModel Read model false old mid → HoldsModel held model → ReadsIfNamed Read resume failed mid new
    → ReadsModelFirst Read held (model ∷ name_in resume) failed old new
read_named Read held model resume failed old mid new first holds second = inr (mid, first, holds, in_turn Read resume failed mid new second)

-- ---- of a shelf that still tells the same

abbrev pub Refuses : Circuit → Told → SolveRequest → Asking → Type 0
Refuses c answer request result =
    (claimed : Option (List ℕ)) (end : JudgeEnd) → IsClaimed answer claimed → HasNoList c claimed end → HasProperty c request
    → IsEndedWith (status_of_end end) result

abbrev pub Accepts : Circuit → Told → SolveRequest → Asking → Type 0
Accepts c answer request result =
    (claimed : Option (List ℕ)) (given : List CheckedEntry) → IsClaimed answer claimed → BeginsWith c claimed given → HasProperty c request
    → IfErr result IsSilent

pub beginnings_now : (c : Circuit) (m : Model) (model : Option (List ℕ)) (now answer : Told) (request : SolveRequest) (result : Asking) → c ≡ m.circuit → now ≡ answer
    → IsModelOf model m → Refuses c now request result → IfOk result (IsAskedOf c now request) → IfOk result (IsBeginning model answer request)
beginnings_now c m model now answer request result same told h refused asked =
    beginnings c m model answer request same h result (subst (λ (t : Told). Refuses c t request result) told refused)
    (subst (λ (t : Told). IfOk result (IsAskedOf c t request)) told asked)

pub before_now : (c : Circuit) (m : Model) (model : Option (List ℕ)) (now answer : Told) (request : SolveRequest) (result : Asking) → c ≡ m.circuit → now ≡ answer
    → IsModelOf model m → Refuses c now request result → Accepts c now request result → IfErr result (EndsUnasked c now request)
    → IfErr result (EndsBefore model answer request)
before_now c m model now answer request result same told h refused accepted ends =
    before_search c m model answer request same h result (subst (λ (t : Told). Refuses c t request result) told refused)
    (subst (λ (t : Told). Accepts c t request result) told accepted) (subst (λ (t : Told). IfErr result (EndsUnasked c t request)) told ends)

-- ---- of the circuit that is shared

pub asking_asked : (k c : Circuit) (answer : Told) (request : SolveRequest) (end : Loading) (result : Asking) → k ≡ c → result ≡ beginning_of_end end
    → HasProperty c request → IfOk end (IsBegun k answer request) → IfOk result (IsAskedOf c answer request)
asking_asked k c answer request end result same is there begun =
    subst (λ (r : Asking). IfOk r (IsAskedOf c answer request)) (sym is)
    (asked_by c answer request end there (subst (λ (x : Circuit). IfOk end (IsBegun x answer request)) same begun))

pub asking_ended : (k c : Circuit) (answer : Told) (request : SolveRequest) (end : Loading) (result : Asking) → k ≡ c → result ≡ beginning_of_end end
    → HasProperty c request → IfErr end (λ e. IsUnended e ⊎ OfClaimed answer (λ claimed. HasNoList k claimed e))
    → IfErr result (EndsUnasked c answer request)
asking_ended k c answer request end result same is there none =
    subst (λ (r : Asking). IfErr r (EndsUnasked c answer request)) (sym is)
    (ended_by c answer request end there (subst (λ (x : Circuit). IfErr end (λ e. IsUnended e ⊎ OfClaimed answer (λ claimed. HasNoList x claimed e))) same none))

pub asking_refused : (k c : Circuit) (answer : Told) (end : Loading) (result : Asking) → k ≡ c → result ≡ beginning_of_end end
    → ((claimed : Option (List ℕ)) (refusal : JudgeEnd) → IsClaimed answer claimed → HasNoList k claimed refusal → IsRefusedWith refusal end)
    → (claimed : Option (List ℕ)) (refusal : JudgeEnd) → IsClaimed answer claimed → HasNoList c claimed refusal → IsEndedWith (status_of_end refusal) result
asking_refused k c answer end result same is refused claimed refusal claims none =
    subst (λ (r : Asking). IsEndedWith (status_of_end refusal) r) (sym is)
    (refused_by refusal end (refused claimed refusal claims (subst (λ (x : Circuit). HasNoList x claimed refusal) (sym same) none)))

pub asking_accepted : (k c : Circuit) (answer : Told) (end : Loading) (result : Asking) → k ≡ c → result ≡ beginning_of_end end
    → ((claimed : Option (List ℕ)) (given : List CheckedEntry) → IsClaimed answer claimed → BeginsWith k claimed given → IfErr end IsUnended)
    → (claimed : Option (List ℕ)) (given : List CheckedEntry) → IsClaimed answer claimed → BeginsWith c claimed given → IfErr result IsSilent
asking_accepted k c answer end result same is accepted claimed given claims begins =
    subst (λ (r : Asking). IfErr r IsSilent) (sym is)
    (accepted_by end (accepted claimed given claims (subst (λ (x : Circuit). BeginsWith x claimed given) (sym same) begins)))

pub asking_read : (end : Loading) (result : Asking) → result ≡ beginning_of_end end → result ≡ Err statuses.ReadFault → end ≡ Err read_failed
asking_read end result is e = failed_by end (sym is ∙ e)

pub asking_reads : {Shelf : Type 0} (Read : ReadsOf Shelf) (resume : Option (List ℕ)) (end : Loading) (result : Asking) (old new : Shelf) → result ≡ beginning_of_end end
    → ReadsIfNamed Read resume (has_unread end) old new → ReadsIfNamed Read resume (has_read_fault result) old new
asking_reads Read resume end result old new is reads =
    subst (λ (failed : Bool). ReadsIfNamed Read resume failed old new) (sym (ap has_read_fault is ∙ unread_by end)) reads

-- ---- the properties that are asked for

-- one that the circuit has
pub one_serves : (c : Circuit) (n : ℕ) → n < length c.justice → AreServed c (n ∷ [])
one_serves c n there = record {
  ascend = λ i k d less inside. absurd (let short : k < 1 = inside in omega (arith, less, short));
  inside = All-cons (λ j. j < length c.justice) n [] there (All-nil (λ j. j < length c.justice));
  few = (let one : 1 ≤ 536870912 = omega arith in one);
}

-- all of them
pub each_serves : (c : Circuit) (served : List ℕ) → served ≡ property_numbers c → length served ≤ most_properties → AreServed c served
each_serves c served is few = record {
  ascend = subst (AllPairs (λ i j. i < j)) (sym is) (numbers_ascend 0 (length c.justice));
  inside = subst (All (λ j. j < length c.justice)) (sym is) (numbers_below 0 (length c.justice) (length c.justice) (omega arith));
  few = few;
}

pub each_is : {A : Type 0} (c : Circuit) (request : SolveRequest) (result : Result (Vec ℕ A) AllocError) → request.all ≡ true → IfOk result (λ numbers. numbers.items ≡ property_numbers c)
    → IfOk result (λ served. served.items ≡ asked_in request.all c request.property)
each_is c request (Ok numbers) all is = is ∙ ap (λ (b : Bool). asked_in b c request.property) (sym all)
each_is c request (Err refused) all is = tt

pub each_serve : {A : Type 0} (c : Circuit) (result : Result (Vec ℕ A) AllocError) → IfOk result (λ numbers. numbers.items ≡ property_numbers c)
    → IfOk result (λ numbers. length numbers.items ≤ most_properties) → IfOk result (λ served. AreServed c served.items)
each_serve c (Ok numbers) is few = each_serves c numbers.items is few
each_serve c (Err refused) is few = tt

-- where one is asked for it is there
pub one_there : (c : Circuit) (request : SolveRequest) → request.all ≡ false → HasProperty c request → request.property < length c.justice
one_there c request one (inl all) = absurd (true≢false (sym all ∙ one))
one_there c request one (inr there) = there

pub one_is : {A : Type 0} (c : Circuit) (request : SolveRequest) (result : Result (Vec ℕ A) AllocError) → request.all ≡ false
    → IfOk result (λ numbers. numbers.items ≡ request.property ∷ []) → IfOk result (λ served. served.items ≡ asked_in request.all c request.property)
one_is c request (Ok numbers) one is = is ∙ ap (λ (b : Bool). asked_in b c request.property) (sym one)
one_is c request (Err refused) one is = tt

pub one_serve : {A : Type 0} (c : Circuit) (request : SolveRequest) (result : Result (Vec ℕ A) AllocError) → request.all ≡ false → HasProperty c request
    → IfOk result (λ numbers. numbers.items ≡ request.property ∷ []) → IfOk result (λ served. AreServed c served.items)
one_serve c request (Ok numbers) one there is = subst (λ (l : List ℕ). AreServed c l) (sym is) (one_serves c request.property (one_there c request one there))
one_serve c request (Err refused) one there is = tt

-- ---- the list of a beginning, lent

pub few_lent : (q : Beginning) (list : _) → list ≡ q.given.items → MayBegin (circuit_in q) (given_in q) → length list ≤ most_entries
few_lent q list same begins = omega (arith, ap length same, length-map q.given.items (λ s. arc_value {X = CheckedEntry} s), begins.few)

pub sound_lent : (q : Beginning) (list : _) → list ≡ q.given.items → MayBegin (circuit_in q) (given_in q) → IsSoundList (circuit_in q) (shared_list list)
sound_lent q list same begins = subst (λ l. IsSoundList (circuit_in q) (shared_list l)) (sym same) begins.sound

pub origins_lent : (q : Beginning) (list : _) → list ≡ q.given.items → MayBegin (circuit_in q) (given_in q) → All (λ (e : CheckedEntry). e.origin ≡ Given) (shared_list list)
origins_lent q list same begins = subst (λ l. All (λ (e : CheckedEntry). e.origin ≡ Given) (shared_list l)) (sym same) begins.origins

pub serves_lent : (q : Beginning) (served : List ℕ) → served ≡ served_in q → AreServed (circuit_in q) (served_in q) → AreServed (circuit_in q) served
serves_lent q served same serves = subst (λ (l : List ℕ). AreServed (circuit_in q) l) (sym same) serves

abbrev pub task_by : Beginning → List ℕ → Limits → List CheckedEntry → Task
task_by q served limits given = record { circuit = circuit_in q; properties = served; limits = limits; given = given }

pub task_lent : (q : Beginning) (request : SolveRequest) (served : List ℕ) (limits : Limits) (list : _) → served ≡ served_in q → limits ≡ limits_of request
    → list ≡ q.given.items → task_by q served limits (shared_list list) ≡ task_for (circuit_in q) (served_in q) request (given_in q)
task_lent q request served limits list serves same lent =
    ap (λ (ps : List ℕ). task_by q ps limits (shared_list list)) serves
    ∙ ap (λ (l : Limits). task_by q (served_in q) l (shared_list list)) same ∙ ap (λ l. task_by q (served_in q) (limits_of request) (shared_list l)) lent

-- where all properties are asked for there is no lasso worker, and else one property is served
serves_one_by : (all : Bool) (c : Circuit) (n lassos : ℕ) → 0 < cond all 0 lassos → length (asked_in all c n) ≡ 1
serves_one_by true c n lassos some = absurd (omega (arith, some))
serves_one_by false c n lassos some = refl

pub serves_one : (q : Beginning) (request : SolveRequest) → served_in q ≡ asked_in request.all (circuit_in q) request.property
    → ServesOne (limits_of request) (served_in q)
serves_one q request served some = ap length served ∙ serves_one_by request.all (circuit_in q) request.property request.lassos some

pub one_lent : (q : Beginning) (request : SolveRequest) (served : List ℕ) (limits : Limits) → served ≡ served_in q → limits ≡ limits_of request
    → ServesOne (limits_of request) (served_in q) → ServesOne limits served
one_lent q request served limits same with_limits one =
    subst (λ (l : Limits). ServesOne l served) (sym with_limits) (subst (λ (ps : List ℕ). ServesOne (limits_of request) ps) (sym same) one)

-- the task of the beginning is that of the request
pub asked_task : (q : Beginning) (request : SolveRequest) → served_in q ≡ asked_in request.all (circuit_in q) request.property
    → task_for (circuit_in q) (served_in q) request (given_in q) ≡ task_of (circuit_in q) request (given_in q)
asked_task q request served = ap (λ (ps : List ℕ). task_for (circuit_in q) ps request (given_in q)) served
