-- A set that no allowed step leaves, and that holds each start, holds every state of a path.
use Rattle.std.proofs.Common.{◌≡◌, Bool, true, false, ◌&&◌, ◌||◌, not, cond, List, [], ◌∷◌, ◌++◌, get_or, refl, sym, ap, subst, ◌∙◌, arith}
use Rattle.std.specs.List.{All, list_all, filter}
use Rattle.std.proofs.lemmas.Bool.{false≢true, and_parts, and_from}
use Rattle.std.proofs.lemmas.List.Elements.{All-head, All-tail, All-cons}
use Rattle.aig_semantics.specs.declared.traces.Position.{Position}
use Rattle.aig_semantics.specs.Circuits.{Circuit}
use Rattle.aig_semantics.specs.Runs.{successor}
use Rattle.proof_semantics.specs.declared.literals.Lit.{Lit}
use Rattle.fair_semantics.specs.declared.entries.Use.{Use}
use Rattle.fair_semantics.specs.States.{IsStep}
use Rattle.fair_semantics.specs.Entries.{Entry, Numbered, numbered, used_entries, entry_at, set_at}
use Rattle.fair_semantics.specs.Allowing.{allows_by, all_allow}
use Rattle.fair_semantics.specs.Validity.{set_behind, IsValid}
use Rattle.fair_semantics.proofs.Alone.{numbered-at, all_allow-each}
use Rattle.ic3_semantics.specs.declared.questions.Start.{Start}
use Rattle.ic3_semantics.specs.declared.questions.Start.TheVariants.{Initial, State}
use Rattle.ic3_semantics.specs.declared.questions.Goal.{Goal}
use Rattle.ic3_semantics.specs.declared.questions.Goal.TheVariants as goals
use Rattle.ic3_semantics.specs.Arenas.{restricts, allows_step}
use Rattle.ic3_semantics.specs.Searching.{Question, Leads, IsPathTo, Separates, closed_entry}
use Rattle.ic3_semantics.specs.Laws.{SeparatedIsNotReached}
use Rattle.ic3_semantics.proofs.Asked.{every_kind}

-- What a view allows, the uses of an entry behind it allow.

filtered_step : (r a rest : Bool) (all : Bool) → (rest ≡ true → all ≡ true) → cond r (a && rest) rest ≡ true → ((not r || a) && all) ≡ true
filtered_step true a rest all on h = let parts = and_parts a rest h in and_from a all parts.0 (on parts.1)
filtered_step false a rest all on h = on h

all_under : (test : List Numbered → Bool) (b : Bool) (es fs : List Numbered) → test (cond b es fs) ≡ cond b (test es) (test fs)
all_under test true es fs = refl
all_under test false es fs = refl

-- a test of those that are kept is a test of all, where the others are let be
filtered_all : (keep test : Numbered → Bool) (es : List Numbered) → list_all test (filter keep es) ≡ true
    → list_all (λ e. not (keep e) || test e) es ≡ true
filtered_all keep test [] h = refl
filtered_all keep test (e ∷ es) h =
    filtered_step (keep e) (test e) (list_all test (filter keep es)) (list_all (λ f. not (keep f) || test f) es)
    (filtered_all keep test es)
    (sym (all_under (list_all test) (keep e) (e ∷ filter keep es) (filter keep es)) ∙ h)

let_be : (r a : Bool) → r ≡ true → (not r || a) ≡ true → a ≡ true
let_be true a e h = h
let_be false a e h = absurd (false≢true e)

-- the entries that are used restrict the steps
abbrev AreRestricting : List Entry → Start → Entry → Type 0
AreRestricting view start e = All (λ u. restricts start (entry_at view u.entry).kind ≡ true) e.uses

uses_allow_step : (c : Circuit) (view : List Entry) (start : Start) (e : Entry) → IsValid c view e → AreRestricting view start e
    → (s t : List Bool) → allows_step view start s t ≡ true
    → all_allow (set_at view) (used_entries view e.uses) (s ∷ t ∷ []) ≡ true
uses_allow_step c view start e valid restricting s t allowed =
    let test : Numbered → Bool = λ n. allows_by n.entry.kind (set_at view n.number) (s ∷ t ∷ []) in
    let keep : Numbered → Bool = λ n. restricts start n.entry.kind in
    let all : list_all (λ n. not (keep n) || test n) (numbered view) ≡ true = filtered_all keep test (numbered view) allowed in
    all_allow-each (set_at view) view e.uses (s ∷ t ∷ [])
    (λ k d inside.
    let u : Use = get_or e.uses k d in
    let_be (restricts start (entry_at view u.entry).kind) (allows_by (entry_at view u.entry).kind (set_at view u.entry) (s ∷ t ∷ []))
    (restricting k d inside)
    (numbered-at (λ n. not (keep n) || test n) 0 view u.entry u.entry (valid.uses.present k d inside) (omega arith) all))

made_restricting : (c : Circuit) (view : List Entry) (start : Start) (clauses : List (List Lit)) (uses : List Use)
    → IsValid c view (closed_entry start clauses uses) → AreRestricting view start (closed_entry start clauses uses)
made_restricting c view Initial clauses uses valid = λ k d inside. ap (restricts Initial) ((valid.reach refl).uses k d inside)
made_restricting c view (State from) clauses uses valid = λ k d inside. every_kind from (entry_at view (get_or uses k d).entry).kind

-- Along a path the set is not left.

record Stays (set : List Bool → Bool) (t : List Bool) (positions : List Position) : Type 0 where
  each : All (λ p. set p.latches ≡ true) positions
  end : set t ≡ true

stays : (q : Question) (e : Entry) → IsValid q.circuit q.view e → AreRestricting q.view q.start e
    → (s t : List Bool) (positions : List Position) → Leads q s positions t → set_behind q.view e s ≡ true
    → Stays (set_behind q.view e) t positions
stays q e valid restricting s t [] leads here = record {
  each = λ k d inside. absurd (omega arith);
  end = ap (set_behind q.view e) (sym leads) ∙ here;
}
stays q e valid restricting s t (p ∷ positions) leads here =
    let Inside : Position → Type 0 = λ x. set_behind q.view e x.latches ≡ true in
    let next : List Bool = successor q.circuit p in
    let step : IsStep q.circuit s next = record { position = p; possible = leads.1; begins = leads.0; ends = refl } in
    let allowed : all_allow (set_at q.view) (used_entries q.view e.uses) (s ∷ next ∷ []) ≡ true =
    uses_allow_step q.circuit q.view q.start e valid restricting s next leads.2 in
    let rest : Stays (set_behind q.view e) t positions =
    stays q e valid restricting next t positions leads.3 (valid.closed s next step allowed here) in
    record {
      each = All-cons Inside p positions (ap (set_behind q.view e) leads.0 ∙ here) rest.each;
      end = rest.end;
    }

last_of : (P : Position → Type 0) (before : List Position) (p : Position) → All P (before ++ p ∷ []) → P p
last_of P [] p h = All-head P p [] h
last_of P (q ∷ before) p h = last_of P before p (All-tail P q (before ++ p ∷ []) h)

path_stays : (q : Question) (goal : Goal) (clauses : List (List Lit)) (uses : List Use) (t : List Bool) (positions : List Position)
    → Separates q goal (closed_entry q.start clauses uses) → IsPathTo q t positions
    → Stays (set_behind q.view (closed_entry q.start clauses uses)) t positions
path_stays q goal clauses uses t positions sep path =
    stays q (closed_entry q.start clauses uses) sep.valid
    (made_restricting q.circuit q.view q.start clauses uses sep.valid) path.from t positions path.leads
    (sep.holds path.from path.starts)

pub separated : SeparatedIsNotReached
separated q (goals.State to) clauses uses positions sep path =
    false≢true (sym sep.misses ∙ (path_stays q (goals.State to) clauses uses to.now positions sep path).end)
separated q (goals.Literal literal avoid) clauses uses positions sep reached =
    let set : List Bool → Bool = set_behind q.view (closed_entry q.start clauses uses) in
    let Inside : Position → Type 0 = λ p. set p.latches ≡ true in
    let along : Stays set (successor q.circuit reached.last) positions =
    path_stays q (goals.Literal literal avoid) clauses uses (successor q.circuit reached.last) positions sep reached.path in
    false≢true
    (sym (sep.misses reached.last reached.meets) ∙ last_of Inside reached.before reached.last (subst (All Inside) reached.is_last along.each))
