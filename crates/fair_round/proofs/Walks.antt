-- How a walk round a skeleton goes on: a step to a position that meets its literal, or a wall that excludes the skeleton.
use Rattle.std.proofs.Common.{◌≡◌, ℕ, zero, suc, ◌<◌, Bool, true, List, [], ◌∷◌, ◌++◌, length, get_or, set, refl, sym, ◌∙◌, IsTrue, arith}
use Rattle.std.specs.List.{list_all}
use Rattle.std.proofs.lemmas.Bool.{and_from, and_parts}
use Rattle.std.proofs.lemmas.List.{length-set}
use Rattle.std.proofs.lemmas.List.Elements.{All-set}
use Rattle.aig_semantics.specs.declared.traces.Position.{Position}
use Rattle.aig_semantics.specs.Circuits.{Circuit, fair_literals}
use Rattle.aig_semantics.specs.Runs.{literal_at, successor}
use Rattle.proof_semantics.specs.Clauses.{bool_eq}
use Rattle.fair_semantics.specs.declared.entries.Kind.{Kind}
use Rattle.fair_semantics.specs.declared.entries.Kind.TheVariants.{Reach, Wall}
use Rattle.fair_semantics.specs.declared.skeletons.Situation.{Situation}
use Rattle.fair_semantics.specs.Entries.{Entry, Numbered, numbered, set_at}
use Rattle.fair_semantics.specs.Allowing.{all_on, allows_by, all_allow, allow}
use Rattle.fair_semantics.specs.Skeletons.{states_of, places, IsSituation, AreTrueInTurn, IsSkeleton}
use Rattle.lasso_join.specs.Fitting.{LeadsTo}
use Rattle.ic3_semantics.specs.declared.questions.Start.TheVariants.{State}
use Rattle.ic3_semantics.specs.Arenas.{keeps_to, in_arena}
use Rattle.ic3_semantics.specs.Searching.{Question, Leads}
use Rattle.fair_round.proofs.Allowed.{IsAmong, kept_side, on-kept, kept-on, all-replaced}

keeps-is-on : (kind : Kind) (set : List Bool → Bool) (from s : List Bool) → keeps_to (State from) kind set s ≡ bool_eq (kept_side kind set from) (set s)
keeps-is-on Reach set from s = refl
keeps-is-on Wall set from s = refl

-- a state of the arena in the place of another
entries-replaced : (sets : ℕ → List Bool → Bool) (entries : List Numbered) (situations : List Situation) (k : ℕ) (s : Situation) (from : List Bool)
    → IsAmong from (states_of situations) → all_allow sets entries (states_of situations) ≡ true
    → list_all (λ e. keeps_to (State from) e.entry.kind (sets e.number) s.position.latches) entries ≡ true
    → list_all (λ e. keeps_to (State from) e.entry.kind (sets e.number) s.successor) entries ≡ true
    → all_allow sets entries (states_of (set situations k s)) ≡ true
entries-replaced sets [] situations k s from among h here next = refl
entries-replaced sets (e ∷ entries) situations k s from among h here next =
    let kind : Kind = e.entry.kind in
    let inside : List Bool → Bool = sets e.number in
    let side : Bool = kept_side kind inside from in
    let hs = and_parts (allows_by kind inside (states_of situations)) (all_allow sets entries (states_of situations)) h in
    let heres = and_parts (keeps_to (State from) kind inside s.position.latches)
    (list_all (λ f. keeps_to (State from) f.entry.kind (sets f.number) s.position.latches) entries) here
    in
    let nexts = and_parts (keeps_to (State from) kind inside s.successor)
    (list_all (λ f. keeps_to (State from) f.entry.kind (sets f.number) s.successor) entries) next
    in
    let on : all_on side inside (states_of (set situations k s)) ≡ true =
    all-replaced (λ u. bool_eq side (inside u)) situations k s (on-kept kind inside from (states_of situations) among hs.0)
    (sym (keeps-is-on kind inside from s.position.latches) ∙ heres.0) (sym (keeps-is-on kind inside from s.successor) ∙ nexts.0)
    in
    and_from (allows_by kind inside (states_of (set situations k s))) (all_allow sets entries (states_of (set situations k s)))
    (kept-on kind inside from (states_of (set situations k s)) on)
    (entries-replaced sets entries situations k s from among hs.1 heres.1 nexts.1)

-- a place of an allowed skeleton keeps to the side of each other
entries-hold : (sets : ℕ → List Bool → Bool) (entries : List Numbered) (places : List (List Bool)) (from s : List Bool)
    → IsAmong from places → IsAmong s places → all_allow sets entries places ≡ true
    → list_all (λ e. keeps_to (State from) e.entry.kind (sets e.number) s) entries ≡ true
entries-hold sets [] places from s one other h = refl
entries-hold sets (e ∷ entries) places from s one other h =
    let kind : Kind = e.entry.kind in
    let inside : List Bool → Bool = sets e.number in
    let side : Bool = kept_side kind inside from in
    let hs = and_parts (allows_by kind inside places) (all_allow sets entries places) h in
    let on : bool_eq side (inside s) ≡ true = other (λ u. bool_eq side (inside u)) (on-kept kind inside from places one hs.0) in
    and_from (keeps_to (State from) kind inside s) (list_all (λ f. keeps_to (State from) f.entry.kind (sets f.number) s) entries)
    (keeps-is-on kind inside from s ∙ on) (entries-hold sets entries places from s one other hs.1)

pub step-allowed : (view : List Entry) (situations : List Situation) (k : ℕ) (s : Situation) (from : List Bool)
    → IsAmong from (states_of situations) → allow (numbered view) (states_of situations) ≡ true
    → in_arena view (State from) s.position.latches ≡ true → in_arena view (State from) s.successor ≡ true
    → allow (numbered view) (states_of (set situations k s)) ≡ true
step-allowed view situations k s from among h here next = entries-replaced (set_at view) (numbered view) situations k s from among h here next

pub place-in_arena : (view : List Entry) (places : List (List Bool)) (from s : List Bool) → IsAmong from places → IsAmong s places
    → allow (numbered view) places ≡ true → in_arena view (State from) s ≡ true
place-in_arena view places from s one other h = entries-hold (set_at view) (numbered view) places from s one other h

-- ---- the skeleton with another situation

true-in-turn : (c : Circuit) (literals : List ℕ) (situations : List Situation) (k : ℕ) (s : Situation)
    → (k < length literals → IsTrue (literal_at c s.position (get_or literals k 0)))
    → AreTrueInTurn c literals situations → AreTrueInTurn c literals (set situations k s)
true-in-turn c [] situations k s holds h = tt
true-in-turn c (l ∷ literals) [] k s holds h = absurd h
true-in-turn c (l ∷ literals) (x ∷ xs) zero s holds h = (holds (omega arith), h.1)
true-in-turn c (l ∷ literals) (x ∷ xs) (suc k) s holds h = (h.0, true-in-turn c literals xs k s (λ below. holds (omega arith)) h.1)

pub step-skeleton : (c : Circuit) (j : ℕ) (situations : List Situation) (k : ℕ) (s : Situation)
    → IsSkeleton c j (record { situations = situations }) → IsSituation c s
    → (k < length (fair_literals c j) → IsTrue (literal_at c s.position (get_or (fair_literals c j) k 0)))
    → IsSkeleton c j (record { situations = set situations k s })
step-skeleton c j situations k s is here holds = record {
  property = is.property;
  size = length-set situations k s ∙ is.size;
  situations = All-set (IsSituation c) situations k s here is.situations;
  fair = true-in-turn c (fair_literals c j) situations k s holds is.fair;
}

pub true-at : (c : Circuit) (literals : List ℕ) (situations : List Situation) (k : ℕ) (d : Situation) → k < length literals
    → AreTrueInTurn c literals situations → IsTrue (literal_at c (get_or situations k d).position (get_or literals k 0))
true-at c [] situations k d below h = absurd (omega arith)
true-at c (l ∷ literals) [] k d below h = absurd h
true-at c (l ∷ literals) (x ∷ xs) zero d below h = h.0
true-at c (l ∷ literals) (x ∷ xs) (suc k) d below h = true-at c literals xs k d (omega arith) h.1

-- ---- ways

pub leads-to : (q : Question) (s t : List Bool) (positions : List Position) → Leads q s positions t → LeadsTo q.circuit s t positions
leads-to q s t [] h = record { is_run = tt; starts = tt; ends = h }
leads-to q s t (p ∷ positions) h =
    let rest = leads-to q (successor q.circuit p) t positions h.3 in
    record { is_run = (h.1, rest.starts, rest.is_run); starts = h.0; ends = rest.ends }

-- all but the last of them lead to the last
pub leads-front : (q : Question) (s t : List Bool) (before : List Position) (last : Position)
    → Leads q s (before ++ last ∷ []) t → LeadsTo q.circuit s last.latches before
leads-front q s t [] last h = record { is_run = tt; starts = tt; ends = sym h.0 }
leads-front q s t (p ∷ before) last h =
    let rest = leads-front q (successor q.circuit p) t before last h.3 in
    record { is_run = (h.1, rest.starts, rest.is_run); starts = h.0; ends = rest.ends }
