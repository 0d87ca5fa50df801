-- What is accepted is implied, and what is refuted has no model.
use Rattle.std.proofs.Common.{◌≡◌, ℕ, ◌+◌, Bool, true, false, not, ◌||◌, cond, List, [], ◌∷◌, ◌++◌, map, Option, Some, None, Result, Ok, Err, refl, sym, ap, subst, ◌∙◌, inl, inr, eqb}
use Rattle.std.specs.Prelude.{IsOkAnd}
use Rattle.std.specs.List.{filter, list_any, list_all, AllByRecursion}
use Rattle.std.proofs.lemmas.Bool.{false≢true, both_ways, and_parts, or_cases, cases_Bool, not-true, false_from_ne_true}
use Rattle.proof_semantics.specs.Clauses.{lit_eq, negation, literal_value, clause_value, cube_value, clauses_value, IsImplied, IsUnsatisfiable}
use Rattle.proof_semantics.specs.Propagation.{is_false, open_literals, only_literal, with_clause, with_unit, conflict_fault, hints_fault}
use Rattle.proof_semantics.specs.Proofs.{ProofState, is_empty, numbered, start, clause_at, with_addition, with_deletion, ids_of, first_missing, ok_without_fault, judge_addition, deletion_result, judge_deletion, judge_line, judge, judge_next, judge_all, IsSound, KeepsSound, RefutedHasNoModel}
use Rattle.proof_semantics.specs.Lines.{Line, addition, deletion, line_of}
use Rattle.proof_semantics.specs.declared.literals.Lit.{Lit}
use Rattle.proof_semantics.specs.declared.faults.LratFault.{LratFault}
use Rattle.proof_semantics.specs.declared.faults.LratFault.TheVariants.{IdOrder, RatRefused}
use Rattle.proof_semantics.proofs.LiteralLaws.{lit_eq-true, literal_value-negation, cube_value-has, cube_value-push, cube_value-negations}

-- a literal whose negation is assumed is false under an assignment that makes the assumed ones true
false_value : (v : ℕ → Bool) (assumed : List Lit) (a : Lit) → cube_value v assumed ≡ true → is_false assumed a ≡ true → literal_value v a ≡ false
false_value v assumed a all is =
    not-true _ (sym (literal_value-negation v a) ∙ cube_value-has v assumed (negation a) all is)

-- what makes a clause true are its literals that are not false
open_value-at : (v : ℕ → Bool) (assumed : List Lit) (a : Lit) (clause : List Lit) (b : Bool) → is_false assumed a ≡ b
    → (b ≡ true → literal_value v a ≡ false)
    → clause_value v (open_literals assumed clause) ≡ clause_value v clause
    → clause_value v (cond (not b) (a ∷ open_literals assumed clause) (open_literals assumed clause)) ≡ clause_value v (a ∷ clause)
open_value-at v assumed a clause true is fails same = same ∙ ap (λ b. b || clause_value v clause) (sym (fails refl))
open_value-at v assumed a clause false is fails same = ap (λ b. literal_value v a || b) same

open_value : (v : ℕ → Bool) (assumed clause : List Lit) → cube_value v assumed ≡ true → clause_value v (open_literals assumed clause) ≡ clause_value v clause
open_value v assumed [] all = refl
open_value v assumed (a ∷ clause) all =
    open_value-at v assumed a clause (is_false assumed a) refl (false_value v assumed a all) (open_value v assumed clause all)

-- a list of one literal, however often it stands there, is true where the literal is
same_value : (v : ℕ → Bool) (a : Lit) (more : List Lit) → list_all (lit_eq a) more ≡ true → clause_value v more ≡ true → literal_value v a ≡ true
same_value v a [] same holds = absurd (false≢true holds)
same_value v a (b ∷ more) same holds =
    let parts = and_parts _ _ same in
    elim (or_cases _ _ holds) [
      | inl here ↦ ap (literal_value v) (lit_eq-true a b parts.0) ∙ here
      | inr later ↦ same_value v a more parts.1 later
    ]

only_value-at : (v : ℕ → Bool) (a b : Lit) (more : List Lit) (same : Bool) → list_all (lit_eq a) more ≡ same
    → cond same (Some a) None ≡ Some b → clause_value v (a ∷ more) ≡ true → literal_value v b ≡ true
only_value-at v a b more false all found holds = absurd (cc)
only_value-at v a b more true all found holds =
    let e : a ≡ b = cc in
    subst (λ c. literal_value v c ≡ true) e (elim (or_cases _ _ holds) [
      | inl here ↦ here
      | inr later ↦ same_value v a more all later
    ])

only_value : (v : ℕ → Bool) (lits : List Lit) (b : Lit) → only_literal lits ≡ Some b → clause_value v lits ≡ true → literal_value v b ≡ true
only_value v [] b found holds = absurd (false≢true holds)
only_value v (a ∷ more) b found holds = only_value-at v a b more (list_all (lit_eq a) more) refl found holds

-- under this assignment every clause that the look-up finds is true
abbrev AreTrue : (ℕ → Bool) → (ℕ → Option (List Lit)) → Type 0
AreTrue v at = (id : ℕ) (clause : List Lit) → at id ≡ Some clause → clause_value v clause ≡ true

no_conflict : (v : ℕ → Bool) (lits : List Lit) → conflict_fault lits ≡ None → clause_value v lits ≡ false
no_conflict v [] e = refl
no_conflict v (a ∷ more) e = absurd (cc)

last_refutes : (v : ℕ → Bool) (assumed : List Lit) (id : ℕ) (found : Option (List Lit)) → cube_value v assumed ≡ true
    → ((clause : List Lit) → found ≡ Some clause → clause_value v clause ≡ true)
    → with_clause found id (λ clause. conflict_fault (open_literals assumed clause)) ≡ None → ⊥
last_refutes v assumed id None all holds e = absurd (cc)
last_refutes v assumed id (Some clause) all holds e =
    both_ways _ (no_conflict v (open_literals assumed clause) e) (open_value v assumed clause all ∙ holds clause refl)

-- what the rest of the hints refutes, a hint in front of them refutes too
abbrev Refuting : (ℕ → Bool) → List Lit → (List Lit → Option LratFault) → Type 0
Refuting v assumed rest = (a : Lit) → literal_value v a ≡ true → rest (assumed ++ a ∷ []) ≡ None → ⊥

unit_refutes : (v : ℕ → Bool) (assumed lits : List Lit) (id : ℕ) (rest : List Lit → Option LratFault) (unit : Option Lit) → only_literal lits ≡ unit
    → clause_value v lits ≡ true → Refuting v assumed rest
    → with_unit unit id (λ a. rest (assumed ++ a ∷ [])) ≡ None → ⊥
unit_refutes v assumed lits id rest None found holds refuting e = absurd (cc)
unit_refutes v assumed lits id rest (Some a) found holds refuting e = refuting a (only_value v lits a found holds) e

hint_refutes : (v : ℕ → Bool) (assumed : List Lit) (id : ℕ) (rest : List Lit → Option LratFault) (found : Option (List Lit)) → cube_value v assumed ≡ true
    → ((clause : List Lit) → found ≡ Some clause → clause_value v clause ≡ true) → Refuting v assumed rest
    → with_clause found id (λ clause. with_unit (only_literal (open_literals assumed clause)) id (λ a. rest (assumed ++ a ∷ []))) ≡ None → ⊥
hint_refutes v assumed id rest None all holds refuting e = absurd (cc)
hint_refutes v assumed id rest (Some clause) all holds refuting e =
    unit_refutes v assumed (open_literals assumed clause) id rest _ refl (open_value v assumed clause all ∙ holds clause refl) refuting e

-- Hints without a fault leave no assignment that makes the assumed literals and the clauses true.
pub hints_refute : (v : ℕ → Bool) (at : ℕ → Option (List Lit)) (assumed : List Lit) (ids : List ℕ) → AreTrue v at → cube_value v assumed ≡ true
    → hints_fault at assumed ids ≡ None → ⊥
hints_refute v at assumed [] holds all e = absurd (cc)
hints_refute v at assumed (id ∷ []) holds all e = last_refutes v assumed id (at id) all (holds id) e
hints_refute v at assumed (id ∷ next ∷ ids) holds all e =
    hint_refutes v assumed id (λ more. hints_fault at more (next ∷ ids)) (at id) all (holds id)
    (λ a h. hints_refute v at (assumed ++ a ∷ []) (next ∷ ids) holds (cube_value-push v assumed a all h)) e

-- So a clause whose negations end in a conflict is true where the held ones are.
pub conflict_implies : (v : ℕ → Bool) (at : ℕ → Option (List Lit)) (clause : List Lit) (ids : List ℕ) → AreTrue v at
    → hints_fault at (map negation clause) ids ≡ None → clause_value v clause ≡ true
conflict_implies v at clause ids holds e =
    elim (cases_Bool (clause_value v clause)) [
      | inl true_here ↦ true_here
      | inr false_here ↦ absurd (hints_refute v at (map negation clause) ids holds (cube_value-negations v clause ∙ ap not false_here) e)
    ]

-- every clause that is held is implied by the given ones
abbrev AllImplied : List (List Lit) → List (ℕ × List Lit) → Type 0
AllImplied given held = AllByRecursion (λ entry. IsImplied given entry.1) held

implied_at-step : (given : List (List Lit)) (entry : ℕ × List Lit) (later : Option (List Lit)) (here : Bool) (clause : List Lit)
    → IsImplied given entry.1 → (later ≡ Some clause → IsImplied given clause)
    → cond here (Some entry.1) later ≡ Some clause → IsImplied given clause
implied_at-step given entry later true clause first rest e =
    let same : entry.1 ≡ clause = cc in subst (IsImplied given) same first
implied_at-step given entry later false clause first rest e = rest e

implied_at : (given : List (List Lit)) (held : List (ℕ × List Lit)) (id : ℕ) (clause : List Lit) → AllImplied given held
    → clause_at held id ≡ Some clause → IsImplied given clause
implied_at given [] id clause all e = absurd (cc)
implied_at given (entry ∷ held) id clause all e =
    implied_at-step given entry (clause_at held id) (eqb entry.0 id) clause all.0 (implied_at given held id clause all.1) e

implied_append : (given : List (List Lit)) (held : List (ℕ × List Lit)) (entry : ℕ × List Lit) → AllImplied given held → IsImplied given entry.1
    → AllImplied given (held ++ entry ∷ [])
implied_append given [] entry all new = (new, tt)
implied_append given (first ∷ held) entry all new = (all.0, implied_append given held entry all.1 new)

implied_filter-step : (given : List (List Lit)) (test : ℕ × List Lit → Bool) (entry : ℕ × List Lit) (held : List (ℕ × List Lit)) (b : Bool)
    → IsImplied given entry.1 → AllImplied given (filter test held) → AllImplied given (cond b (entry ∷ filter test held) (filter test held))
implied_filter-step given test entry held true first rest = (first, rest)
implied_filter-step given test entry held false first rest = rest

implied_filter : (given : List (List Lit)) (test : ℕ × List Lit → Bool) (held : List (ℕ × List Lit)) → AllImplied given held → AllImplied given (filter test held)
implied_filter given test [] all = tt
implied_filter given test (entry ∷ held) all =
    implied_filter-step given test entry held (test entry) all.0 (implied_filter given test held all.1)

-- an empty clause that is implied leaves no model
empty_implied : (given : List (List Lit)) (clause : List Lit) → is_empty clause ≡ true → IsImplied given clause → IsUnsatisfiable given
empty_implied given [] empty implied = λ v. false_from_ne_true _ (λ holds. false≢true (implied v holds))
empty_implied given (a ∷ clause) empty implied = absurd (false≢true empty)

-- Each of the given clauses is implied by them.
clauses_value-at : (v : ℕ → Bool) (front : List (List Lit)) (n : ℕ) (given : List (List Lit))
    → ((v : ℕ → Bool) → clauses_value v given ≡ true → clauses_value v front ≡ true) → AllImplied given (numbered n front)
clauses_value-at v [] n given all = tt
clauses_value-at v (clause ∷ front) n given all =
    (λ w holds. (and_parts _ _ (all w holds)).0, clauses_value-at v front (n + 1) given (λ w holds. (and_parts _ _ (all w holds)).1))

empty_given : (front given : List (List Lit)) → ((v : ℕ → Bool) → clauses_value v given ≡ true → clauses_value v front ≡ true)
    → list_any is_empty front ≡ true → IsUnsatisfiable given
empty_given [] given all has = absurd (false≢true has)
empty_given (clause ∷ front) given all has =
    elim (or_cases _ _ has) [
      | inl here ↦ empty_implied given clause here (λ w holds. (and_parts _ _ (all w holds)).0)
      | inr later ↦ empty_given front given (λ w holds. (and_parts _ _ (all w holds)).1) later
    ]

pub start-IsSound : (given : List (List Lit)) → IsSound (start given)
start-IsSound given = record {
  held_implied = clauses_value-at (λ _. false) given 1 given (λ v holds. holds);
  finished_only = empty_given given given (λ v holds. holds);
}

-- A clause that is added is implied by the given ones.
pub addition_implied : (s : ProofState) (clause : List Lit) (ids : List ℕ) → IsSound s
    → hints_fault (clause_at s.held) (map negation clause) ids ≡ None → IsImplied s.given clause
addition_implied s clause ids sound e =
    λ v holds. conflict_implies v (clause_at s.held) clause ids
    (λ id found at. implied_at s.given s.held id found sound.held_implied at v holds) e

added_sound : (s : ProofState) (id : ℕ) (clause : List Lit) → IsSound s → IsImplied s.given clause → IsSound (with_addition s id clause)
added_sound s id clause sound implied = record {
  held_implied = implied_append s.given s.held (id, clause) sound.held_implied implied;
  finished_only = λ e. elim (or_cases _ _ e) [
    | inl before ↦ sound.finished_only before
    | inr empty ↦ empty_implied s.given clause empty implied
  ];
}

-- How an addition may end well.
ok_addition-3 : (s t u : ProofState) (fault : Option LratFault) → ok_without_fault fault t ≡ Ok u → (fault ≡ None) × (t ≡ u)
ok_addition-3 s t u None e = (refl, cc)
ok_addition-3 s t u (Some fault) e = absurd (cc)

ok_addition : (s t : ProofState) (late rat : Bool) (r : Result ProofState LratFault)
    → cond late (Err IdOrder) (cond rat (Err RatRefused) r) ≡ Ok t → r ≡ Ok t
ok_addition s t true rat r e = absurd (cc)
ok_addition s t false true r e = absurd (cc)
ok_addition s t false false r e = e

pub addition_keeps : (s t : ProofState) (id : ℕ) (clause hints : List Lit) → IsSound s → judge_addition s id clause hints ≡ Ok t → IsSound t
addition_keeps s t id clause hints sound e =
    let parts = ok_addition-3 s (with_addition s id clause) t _ (ok_addition s t _ _ _ e) in
    subst IsSound parts.1 (added_sound s id clause sound (addition_implied s clause (ids_of hints) sound parts.0))

deletion_result_keeps : (s t : ProofState) (ids : List ℕ) (missing : Option ℕ) → IsSound s → deletion_result s ids missing ≡ Ok t → IsSound t
deletion_result_keeps s t ids (Some id) sound e = absurd (cc)
deletion_result_keeps s t ids None sound e =
    let same : with_deletion s ids ≡ t = cc in
    subst IsSound same (record {
      held_implied = implied_filter s.given _ s.held sound.held_implied;
      finished_only = sound.finished_only;
    })

pub deletion_keeps : (s t : ProofState) (ids : List ℕ) → IsSound s → judge_deletion s ids ≡ Ok t → IsSound t
deletion_keeps s t ids sound e = deletion_result_keeps s t ids (first_missing s.held ids) sound e

line_keeps : (s t : ProofState) (line : Option Line) → IsSound s → judge_line s line ≡ Ok t → IsSound t
line_keeps s t None sound e = absurd (cc)
line_keeps s t (Some (addition id clause hints)) sound e = addition_keeps s t id clause hints sound e
line_keeps s t (Some (deletion id ids)) sound e = deletion_keeps s t ids sound e

-- An accepted line keeps the state sound.
pub judge-IsSound : (s t : ProofState) (bytes : List ℕ) → IsSound s → judge s bytes ≡ Ok t → IsSound t
judge-IsSound s t bytes sound e = line_keeps s t (line_of bytes) sound e

-- The clause of an accepted addition is implied by the given ones.
judge_addition-implied : (s t : ProofState) (id : ℕ) (clause hints : List Lit) → IsSound s → judge_addition s id clause hints ≡ Ok t → IsImplied s.given clause
judge_addition-implied s t id clause hints sound e =
    let parts = ok_addition-3 s (with_addition s id clause) t _ (ok_addition s t _ _ _ e) in
    addition_implied s clause (ids_of hints) sound parts.0

pub judge-implied : (s t : ProofState) (bytes : List ℕ) (id : ℕ) (clause hints : List Lit) → IsSound s → judge s bytes ≡ Ok t
    → line_of bytes ≡ Some (addition id clause hints) → IsImplied s.given clause
judge-implied s t bytes id clause hints sound e is =
    judge_addition-implied s t id clause hints sound (ap (judge_line s) (sym is) ∙ e)

pub next_given : (t : ProofState) (first : Result ProofState LratFault) (rest : ProofState → Result ProofState LratFault)
    → judge_next first rest ≡ Ok t → (u : ProofState) × (first ≡ Ok u) × (rest u ≡ Ok t)
next_given t (Ok u) rest e = (u, refl, e)
next_given t (Err fault) rest e = absurd (cc)

pub judge_all-IsSound : (s t : ProofState) (lines : List (List ℕ)) → IsSound s → judge_all s lines ≡ Ok t → IsSound t
judge_all-IsSound s t [] sound e = let same : s ≡ t = cc in subst IsSound same sound
judge_all-IsSound s t (line ∷ lines) sound e =
    let first = next_given t (judge s line) _ e in
    judge_all-IsSound first.0 t lines (judge-IsSound s first.0 line sound first.1) first.2

addition_given : (s t : ProofState) (id : ℕ) (clause hints : List Lit) → judge_addition s id clause hints ≡ Ok t → t.given ≡ s.given
addition_given s t id clause hints e =
    let parts = ok_addition-3 s (with_addition s id clause) t _ (ok_addition s t _ _ _ e) in sym (ap (λ (u : ProofState). u.given) parts.1)

deletion_given : (s t : ProofState) (ids : List ℕ) (missing : Option ℕ) → deletion_result s ids missing ≡ Ok t → t.given ≡ s.given
deletion_given s t ids (Some id) e = absurd (cc)
deletion_given s t ids None e =
    let same : with_deletion s ids ≡ t = cc in sym (ap (λ (u : ProofState). u.given) same)

line_given : (s t : ProofState) (line : Option Line) → judge_line s line ≡ Ok t → t.given ≡ s.given
line_given s t None e = absurd (cc)
line_given s t (Some (addition id clause hints)) e = addition_given s t id clause hints e
line_given s t (Some (deletion id ids)) e = deletion_given s t ids (first_missing s.held ids) e

-- No line changes which clauses were given.
pub judge-given : (s t : ProofState) (bytes : List ℕ) → judge s bytes ≡ Ok t → t.given ≡ s.given
judge-given s t bytes e = line_given s t (line_of bytes) e

pub judge_all-given : (s t : ProofState) (lines : List (List ℕ)) → judge_all s lines ≡ Ok t → t.given ≡ s.given
judge_all-given s t [] e = let same : s ≡ t = cc in sym (ap (λ (u : ProofState). u.given) same)
judge_all-given s t (line ∷ lines) e =
    let first = next_given t (judge s line) _ e in
    judge_all-given first.0 t lines first.2 ∙ judge-given s first.0 line first.1

pub judge_all-sound : KeepsSound
judge_all-sound given lines t e = (judge_all-given (start given) t lines e, judge_all-IsSound (start given) t lines (start-IsSound given) e)

refuted_at : (given : List (List Lit)) (lines : List (List ℕ)) (r : Result ProofState LratFault) → judge_all (start given) lines ≡ r
    → IsOkAnd r (λ s. s.finished ≡ true) → IsUnsatisfiable given
refuted_at given lines (Err fault) e h = absurd h
refuted_at given lines (Ok t) e h =
    let kept = judge_all-sound given lines t e in subst IsUnsatisfiable kept.0 (kept.1.finished_only h)

pub refuted-unsatisfiable : RefutedHasNoModel
refuted-unsatisfiable given lines h = refuted_at given lines (judge_all (start given) lines) refl h

-- ---- lines one behind the other

next_judged : (r : Result ProofState LratFault) (first second : ProofState → Result ProofState LratFault) (t u : ProofState) → judge_next r first ≡ Ok t
    → ((x : ProofState) → first x ≡ Ok t → second x ≡ Ok u) → judge_next r second ≡ Ok u
next_judged (Ok x) first second t u e f = f x e
next_judged (Err fault) first second t u e f = absurd (cc)

pub judge_push : (s t u : ProofState) (lines : List (List ℕ)) (line : List ℕ) → judge_all s lines ≡ Ok t → judge t line ≡ Ok u → judge_all s (lines ++ line ∷ []) ≡ Ok u
judge_push s t u [] line e f = let same : s ≡ t = cc in ap (λ r. judge_next r (λ x. judge_all x [])) (ap (λ x. judge x line) same ∙ f)
judge_push s t u (first ∷ lines) line e f =
    next_judged (judge s first) (λ x. judge_all x lines) (λ x. judge_all x (lines ++ line ∷ [])) t u e (λ x g. judge_push x t u lines line g f)
