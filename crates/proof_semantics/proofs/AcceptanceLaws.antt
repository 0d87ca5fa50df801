-- The judgement of a line is the relation of accepted lines.
use Rattle.std.proofs.Common.{◌≡◌, ℕ, zero, suc, ◌<◌, Bool, true, false, not, ◌||◌, cond, leb, List, [], ◌∷◌, ◌++◌, map, length, get_or, Option, Some, None, Result, Ok, Err, refl, ap, sym, subst, ◌∙◌, inl, inr, arith}
use Rattle.std.specs.Prelude.{All, Contains, IsSome, is_some, IsOkAnd}
use Rattle.std.specs.List.{list_all, list_any}
use Rattle.std.proofs.lemmas.Bool.{false≢true, true≢false, cases_Bool, or_cases, or_left, or_right, or_parts, or_from, and_parts, and_from, leb-false, lt-leb, not-false, false_from_ne_true}
use Rattle.std.proofs.lemmas.List.Elements.{All-nil, All-cons, All-head, All-tail}
use Rattle.proof_semantics.specs.Clauses.{lit_eq, negation, has_literal}
use Rattle.proof_semantics.specs.Propagation.{is_false, open_literals, only_literal, with_clause, with_unit, conflict_fault, hints_fault}
use Rattle.proof_semantics.specs.Lines.{Line, addition, deletion, HasSizes, text_of, line_of}
use Rattle.proof_semantics.specs.Proofs.{ProofState, start, judge, judge_all, Refutes, clause_at, first_missing, with_addition, with_deletion, ids_of, ok_without_fault, judge_addition, deletion_result, judge_deletion, judge_line}
use Rattle.proof_semantics.specs.Acceptance.{IsFalse, IsUnit, EndsInConflict, Accepts, JudgesAccepted}
use Rattle.proof_semantics.specs.declared.literals.Lit.{Lit}
use Rattle.proof_semantics.specs.declared.faults.LratFault.{LratFault}
use Rattle.proof_semantics.specs.declared.faults.LratFault.TheVariants.{IdOrder, RatRefused}
use Rattle.proof_semantics.proofs.LiteralLaws.{lit_eq-true, lit_eq-same}
use Rattle.proof_semantics.proofs.LineLaws.{reads_spelled}
use Rattle.proof_semantics.proofs.Soundness.{next_given}

-- the test for a literal in a list tells whether it is there
pub contains_given : (lits : List Lit) (a : Lit) → has_literal lits a ≡ true → Contains lits a
contains_given [] a e = absurd (false≢true e)
contains_given (b ∷ lits) a e =
    elim (or_cases _ _ e) [
      | inl here ↦ (0, omega arith, sym (lit_eq-true a b here))
      | inr later ↦ let rest = contains_given lits a later in let below = rest.1 in (suc rest.0, omega arith, rest.2)
    ]

pub contains_back : (lits : List Lit) (a : Lit) (k : ℕ) → k < length lits → get_or lits k a ≡ a → has_literal lits a ≡ true
contains_back [] a k below is = absurd (omega arith)
contains_back (b ∷ lits) a zero below is = or_left _ _ (ap (lit_eq a) is ∙ lit_eq-same a)
contains_back (b ∷ lits) a (suc k) below is = or_right _ _ (contains_back lits a k (omega arith) is)

has_from : (lits : List Lit) (a : Lit) → Contains lits a → has_literal lits a ≡ true
has_from lits a c = contains_back lits a c.0 c.1 c.2

-- a literal of the clause that is not false is left, and what is left is such a literal
keeps_open : (assumed : List Lit) (b : Lit) (clause : List Lit) (a : Lit) (test : Bool) → is_false assumed b ≡ test
    → is_false assumed a ≡ false → (lit_eq a b || has_literal clause a) ≡ true → (has_literal clause a ≡ true → has_literal (open_literals assumed clause) a ≡ true)
    → has_literal (cond (not test) (b ∷ open_literals assumed clause) (open_literals assumed clause)) a ≡ true
keeps_open assumed b clause a true is unfalse has rest =
    elim (or_cases (lit_eq a b) (has_literal clause a) has) [
      | inl same ↦ absurd (false≢true (sym unfalse ∙ ap (is_false assumed) (lit_eq-true a b same) ∙ is))
      | inr later ↦ rest later
    ]
keeps_open assumed b clause a false is unfalse has rest =
    let left = open_literals assumed clause in
    elim (or_cases (lit_eq a b) (has_literal clause a) has) [
      | inl same ↦ or_left (lit_eq a b) (has_literal left a) same
      | inr later ↦ or_right (lit_eq a b) (has_literal left a) (rest later)
    ]

open_has : (assumed clause : List Lit) (a : Lit) → is_false assumed a ≡ false → has_literal clause a ≡ true → has_literal (open_literals assumed clause) a ≡ true
open_has assumed [] a unfalse has = absurd (false≢true has)
open_has assumed (b ∷ clause) a unfalse has =
    keeps_open assumed b clause a (is_false assumed b) refl unfalse has (open_has assumed clause a unfalse)

abbrev IsOpen : List Lit → List Lit → Lit → Type 0
IsOpen assumed clause a = (has_literal clause a ≡ true) × (is_false assumed a ≡ false)

has_open-at : (assumed : List Lit) (b : Lit) (clause : List Lit) (a : Lit) (test : Bool) → is_false assumed b ≡ test
    → (has_literal (open_literals assumed clause) a ≡ true → IsOpen assumed clause a)
    → has_literal (cond (not test) (b ∷ open_literals assumed clause) (open_literals assumed clause)) a ≡ true → IsOpen assumed (b ∷ clause) a
has_open-at assumed b clause a true is rest has =
    let later = rest has in (or_right (lit_eq a b) (has_literal clause a) later.0, later.1)
has_open-at assumed b clause a false is rest has =
    elim (or_cases (lit_eq a b) (has_literal (open_literals assumed clause) a) has) [
      | inl same ↦ (or_left (lit_eq a b) (has_literal clause a) same, ap (is_false assumed) (lit_eq-true a b same) ∙ is)
      | inr there ↦ let later = rest there in (or_right (lit_eq a b) (has_literal clause a) later.0, later.1)
    ]

has_open : (assumed clause : List Lit) (a : Lit) → has_literal (open_literals assumed clause) a ≡ true → IsOpen assumed clause a
has_open assumed [] a has = absurd (false≢true has)
has_open assumed (b ∷ clause) a has =
    has_open-at assumed b clause a (is_false assumed b) refl (has_open assumed clause a) has

-- nothing is left exactly where all literals are false
none_open-at : (assumed : List Lit) (a : Lit) (clause : List Lit) (test : Bool) → is_false assumed a ≡ test
    → (open_literals assumed clause ≡ [] → All (IsFalse assumed) clause)
    → cond (not test) (a ∷ open_literals assumed clause) (open_literals assumed clause) ≡ [] → All (IsFalse assumed) (a ∷ clause)
none_open-at assumed a clause true is rest e = All-cons (IsFalse assumed) a clause (contains_given assumed (negation a) is) (rest e)
none_open-at assumed a clause false is rest e = absurd (cc)

none_open : (assumed clause : List Lit) → open_literals assumed clause ≡ [] → All (IsFalse assumed) clause
none_open assumed [] e = All-nil (IsFalse assumed)
none_open assumed (a ∷ clause) e = none_open-at assumed a clause (is_false assumed a) refl (none_open assumed clause) e

all_false : (assumed clause : List Lit) → All (IsFalse assumed) clause → open_literals assumed clause ≡ []
all_false assumed [] all = refl
all_false assumed (a ∷ clause) all =
    ap (λ t. cond (not t) (a ∷ open_literals assumed clause) (open_literals assumed clause))
    (has_from assumed (negation a) (All-head (IsFalse assumed) a clause all))
    ∙ all_false assumed clause (All-tail (IsFalse assumed) a clause all)

-- the one literal that is left
all_same : (a : Lit) (lits : List Lit) (b : Lit) → list_all (lit_eq a) lits ≡ true → has_literal lits b ≡ true → b ≡ a
all_same a [] b same has = absurd (false≢true has)
all_same a (c ∷ lits) b same has =
    let parts = and_parts _ _ same in
    elim (or_cases _ _ has) [
      | inl here ↦ lit_eq-true b c here ∙ sym (lit_eq-true a c parts.0)
      | inr later ↦ all_same a lits b parts.1 later
    ]

same_all : (a : Lit) (lits : List Lit) → ((b : Lit) → has_literal lits b ≡ true → b ≡ a) → list_all (lit_eq a) lits ≡ true
same_all a [] same = refl
same_all a (b ∷ lits) same =
    let here : b ≡ a = same b (or_left _ _ (lit_eq-same b)) in
    and_from _ _ (ap (lit_eq a) here ∙ lit_eq-same a) (same_all a lits (λ c has. same c (or_right _ _ has)))

abbrev IsOnly : List Lit → Lit → Type 0
IsOnly lits a = (has_literal lits a ≡ true) × ((b : Lit) → has_literal lits b ≡ true → b ≡ a)

only_given-at : (first : Lit) (more : List Lit) (a : Lit) (test : Bool) → list_all (lit_eq first) more ≡ test → cond test (Some first) None ≡ Some a → IsOnly (first ∷ more) a
only_given-at first more a false is e = absurd (cc)
only_given-at first more a true is e =
    let same : first ≡ a = cc in
    subst (IsOnly (first ∷ more)) same
    (or_left _ _ (lit_eq-same first), λ b has. elim (or_cases _ _ has) [ inl here ↦ lit_eq-true b first here | inr later ↦ all_same first more b is later ])

only_given : (lits : List Lit) (a : Lit) → only_literal lits ≡ Some a → IsOnly lits a
only_given [] a e = absurd (cc)
only_given (first ∷ more) a e = only_given-at first more a (list_all (lit_eq first) more) refl e

only_back : (lits : List Lit) (a : Lit) → IsOnly lits a → only_literal lits ≡ Some a
only_back [] a only = absurd (false≢true only.0)
only_back (first ∷ more) a only =
    let same : first ≡ a = only.1 first (or_left _ _ (lit_eq-same first)) in
    ap (λ t. cond t (Some first) None) (same_all first more (λ b has. only.1 b (or_right _ _ has) ∙ sym same)) ∙ ap Some same

unit_given : (assumed clause : List Lit) (a : Lit) → only_literal (open_literals assumed clause) ≡ Some a → IsUnit assumed clause a
unit_given assumed clause a e =
    let only = only_given (open_literals assumed clause) a e in
    let here = has_open assumed clause a only.0 in
    record {
      inside = contains_given clause a here.0;
      unfalsified = λ is. true≢false (sym (has_from assumed (negation a) is) ∙ here.1);
      others = λ b inside differs. elim (cases_Bool (is_false assumed b)) [
        | inl yes_false ↦ contains_given assumed (negation b) yes_false
        | inr not_false ↦ absurd (differs (only.1 b (open_has assumed clause b not_false (has_from clause b inside))))
      ];
    }

unit_back : (assumed clause : List Lit) (a : Lit) → IsUnit assumed clause a → only_literal (open_literals assumed clause) ≡ Some a
unit_back assumed clause a unit =
    let unfalse = false_from_ne_true (is_false assumed a) (λ e. unit.unfalsified (contains_given assumed (negation a) e)) in
    only_back (open_literals assumed clause) a (
      open_has assumed clause a unfalse (has_from clause a unit.inside),
      λ b has.
          let there = has_open assumed clause b has in
          elim (cases_Bool (lit_eq b a)) [
            | inl same ↦ lit_eq-true b a same
            | inr differs ↦
                absurd (true≢false (sym (has_from assumed (negation b) (unit.others b (contains_given clause b there.0)
                (λ e. true≢false (sym (ap (λ c. lit_eq c a) e ∙ lit_eq-same a) ∙ differs)))) ∙ there.1))
          ],
    )

-- hints without a fault end in a conflict
no_literals : (lits : List Lit) → conflict_fault lits ≡ None → lits ≡ []
no_literals [] e = refl
no_literals (a ∷ more) e = absurd (cc)

last_given : (held : List (ℕ × List Lit)) (assumed : List Lit) (id : ℕ) (found : Option (List Lit)) → clause_at held id ≡ found
    → with_clause found id (λ clause. conflict_fault (open_literals assumed clause)) ≡ None
    → (clause : List Lit) × (clause_at held id ≡ Some clause) × All (IsFalse assumed) clause
last_given held assumed id None at e = absurd (cc)
last_given held assumed id (Some clause) at e = (clause, at, none_open assumed clause (no_literals (open_literals assumed clause) e))

unit_found : (assumed clause : List Lit) (id : ℕ) (rest : List Lit → Option LratFault) (Rest : List Lit → Type 0) → ((a : Lit) → rest (assumed ++ a ∷ []) ≡ None → Rest (assumed ++ a ∷ []))
    → (unit : Option Lit) → only_literal (open_literals assumed clause) ≡ unit → with_unit unit id (λ a. rest (assumed ++ a ∷ [])) ≡ None
    → (a : Lit) × IsUnit assumed clause a × Rest (assumed ++ a ∷ [])
unit_found assumed clause id rest Rest goes None is e = absurd (cc)
unit_found assumed clause id rest Rest goes (Some a) is e = (a, unit_given assumed clause a is, goes a e)

hint_given : (held : List (ℕ × List Lit)) (assumed : List Lit) (id : ℕ) (rest : List Lit → Option LratFault) (Rest : List Lit → Type 0)
    → ((a : Lit) → rest (assumed ++ a ∷ []) ≡ None → Rest (assumed ++ a ∷ [])) → (found : Option (List Lit)) → clause_at held id ≡ found
    → with_clause found id (λ clause. with_unit (only_literal (open_literals assumed clause)) id (λ a. rest (assumed ++ a ∷ []))) ≡ None
    → (clause : List Lit) × (clause_at held id ≡ Some clause) × ((a : Lit) × IsUnit assumed clause a × Rest (assumed ++ a ∷ []))
hint_given held assumed id rest Rest goes None at e = absurd (cc)
hint_given held assumed id rest Rest goes (Some clause) at e =
    (clause, at, unit_found assumed clause id rest Rest goes (only_literal (open_literals assumed clause)) refl e)

conflict_given : (held : List (ℕ × List Lit)) (assumed : List Lit) (ids : List ℕ) → hints_fault (clause_at held) assumed ids ≡ None → EndsInConflict held assumed ids
conflict_given held assumed [] e = absurd (cc)
conflict_given held assumed (id ∷ []) e = last_given held assumed id (clause_at held id) refl e
conflict_given held assumed (id ∷ next ∷ ids) e =
    hint_given held assumed id (λ more. hints_fault (clause_at held) more (next ∷ ids)) (λ more. EndsInConflict held more (next ∷ ids))
    (λ a f. conflict_given held (assumed ++ a ∷ []) (next ∷ ids) f) (clause_at held id) refl e

conflict_back : (held : List (ℕ × List Lit)) (assumed : List Lit) (ids : List ℕ) → EndsInConflict held assumed ids → hints_fault (clause_at held) assumed ids ≡ None
conflict_back held assumed [] c = absurd c
conflict_back held assumed (id ∷ []) c =
    ap (λ o. with_clause o id (λ clause. conflict_fault (open_literals assumed clause))) c.1 ∙ ap conflict_fault (all_false assumed c.0 c.2)
conflict_back held assumed (id ∷ next ∷ ids) c =
    ap (λ o. with_clause o id (λ clause. with_unit (only_literal (open_literals assumed clause)) id (λ a. hints_fault (clause_at held) (assumed ++ a ∷ []) (next ∷ ids)))) c.1
    ∙ ap (λ o. with_unit o id (λ a. hints_fault (clause_at held) (assumed ++ a ∷ []) (next ∷ ids))) (unit_back assumed c.0 c.2.0 c.2.1)
    ∙ conflict_back held (assumed ++ c.2.0 ∷ []) (next ∷ ids) c.2.2

-- no hint is negative
abbrev IsPositive : Lit → Type 0
IsPositive a = a.positive ≡ true

positive_given-at : (a : Lit) (hints : List Lit) → a.positive ≡ true → All IsPositive hints → All IsPositive (a ∷ hints)
positive_given-at a hints here rest = All-cons IsPositive a hints here rest

positive_given : (hints : List Lit) → list_any (λ hint. not hint.positive) hints ≡ false → All IsPositive hints
positive_given [] e = All-nil IsPositive
positive_given (a ∷ hints) e =
    let parts = or_parts (not a.positive) (list_any (λ hint. not hint.positive) hints) e in
    positive_given-at a hints (not-false a.positive parts.0) (positive_given hints parts.1)

positive_back : (hints : List Lit) → All IsPositive hints → list_any (λ hint. not hint.positive) hints ≡ false
positive_back [] all = refl
positive_back (a ∷ hints) all = or_from _ _ (ap not (All-head IsPositive a hints all)) (positive_back hints (All-tail IsPositive a hints all))

-- an addition
abbrev Judged : Type 0
Judged = Result ProofState LratFault

choose_given : (late rat : Bool) (r : Judged) (t : ProofState) → cond late (Err IdOrder) (cond rat (Err RatRefused) r) ≡ Ok t
    → (late ≡ false) × (rat ≡ false) × (r ≡ Ok t)
choose_given true rat r t e = absurd (cc)
choose_given false true r t e = absurd (cc)
choose_given false false r t e = (refl, refl, e)

choose_back : (late rat : Bool) (r : Judged) → late ≡ false → rat ≡ false → cond late (Err IdOrder) (cond rat (Err RatRefused) r) ≡ r
choose_back late rat r e f = ap (λ b. cond b (Err IdOrder) (cond rat (Err RatRefused) r)) e ∙ ap (λ b. cond b (Err RatRefused) r) f

ok_given : (fault : Option LratFault) (s t : ProofState) → ok_without_fault fault s ≡ Ok t → (fault ≡ None) × (t ≡ s)
ok_given None s t e = (refl, cc)
ok_given (Some fault) s t e = absurd (cc)

addition_given : (s t : ProofState) (id : ℕ) (clause hints : List Lit) → judge_addition s id clause hints ≡ Ok t → Accepts s (addition id clause hints) t
addition_given s t id clause hints e =
    let parts = choose_given (leb id s.last) (list_any (λ hint. not hint.positive) hints)
    (ok_without_fault (hints_fault (clause_at s.held) (map negation clause) (ids_of hints)) (with_addition s id clause)) t e in
    let ends = ok_given (hints_fault (clause_at s.held) (map negation clause) (ids_of hints)) (with_addition s id clause) t parts.2 in
    (leb-false id s.last parts.0, positive_given hints parts.1, conflict_given s.held (map negation clause) (ids_of hints) ends.0, ends.1)

addition_back : (s t : ProofState) (id : ℕ) (clause hints : List Lit) → Accepts s (addition id clause hints) t → judge_addition s id clause hints ≡ Ok t
addition_back s t id clause hints accepted =
    choose_back (leb id s.last) (list_any (λ hint. not hint.positive) hints)
    (ok_without_fault (hints_fault (clause_at s.held) (map negation clause) (ids_of hints)) (with_addition s id clause))
    (lt-leb id s.last accepted.0) (positive_back hints accepted.1)
    ∙ ap (λ o. ok_without_fault o (with_addition s id clause)) (conflict_back s.held (map negation clause) (ids_of hints) accepted.2)
    ∙ ap Ok (sym accepted.3)

-- a deletion
abbrev IsHeld : ProofState → ℕ → Type 0
IsHeld s id = IsSome (clause_at s.held id)

missing_given-at : (s : ProofState) (id : ℕ) (ids : List ℕ) (held : Bool) → is_some (clause_at s.held id) ≡ held → (first_missing s.held ids ≡ None → All (IsHeld s) ids)
    → cond (not held) (Some id) (first_missing s.held ids) ≡ None → All (IsHeld s) (id ∷ ids)
missing_given-at s id ids true is rest e = All-cons (IsHeld s) id ids is (rest e)
missing_given-at s id ids false is rest e = absurd (cc)

missing_given : (s : ProofState) (ids : List ℕ) → first_missing s.held ids ≡ None → All (IsHeld s) ids
missing_given s [] e = All-nil (IsHeld s)
missing_given s (id ∷ ids) e = missing_given-at s id ids (is_some (clause_at s.held id)) refl (missing_given s ids) e

missing_back : (s : ProofState) (ids : List ℕ) → All (IsHeld s) ids → first_missing s.held ids ≡ None
missing_back s [] all = refl
missing_back s (id ∷ ids) all =
    ap (λ b. cond (not b) (Some id) (first_missing s.held ids)) (All-head (IsHeld s) id ids all) ∙ missing_back s ids (All-tail (IsHeld s) id ids all)

deletion_given-at : (s t : ProofState) (ids : List ℕ) (missing : Option ℕ) → deletion_result s ids missing ≡ Ok t → (missing ≡ None) × (t ≡ with_deletion s ids)
deletion_given-at s t ids None e = (refl, cc)
deletion_given-at s t ids (Some id) e = absurd (cc)

deletion_given : (s t : ProofState) (id : ℕ) (ids : List ℕ) → judge_deletion s ids ≡ Ok t → Accepts s (deletion id ids) t
deletion_given s t id ids e =
    let parts = deletion_given-at s t ids (first_missing s.held ids) e in (missing_given s ids parts.0, parts.1)

deletion_back : (s t : ProofState) (id : ℕ) (ids : List ℕ) → Accepts s (deletion id ids) t → judge_deletion s ids ≡ Ok t
deletion_back s t id ids accepted = ap (deletion_result s ids) (missing_back s ids accepted.0) ∙ ap Ok (sym accepted.1)

-- a line
accepted_given : (s t : ProofState) (line : Line) → judge_line s (Some line) ≡ Ok t → Accepts s line t
accepted_given s t (addition id clause hints) e = addition_given s t id clause hints e
accepted_given s t (deletion id ids) e = deletion_given s t id ids e

accepted_back : (s t : ProofState) (line : Line) → Accepts s line t → judge_line s (Some line) ≡ Ok t
accepted_back s t (addition id clause hints) accepted = addition_back s t id clause hints accepted
accepted_back s t (deletion id ids) accepted = deletion_back s t id ids accepted

read_given : (s t : ProofState) (bytes : List ℕ) (read : Option Line) → line_of bytes ≡ read → judge_line s read ≡ Ok t
    → (line : Line) × (HasSizes line × (bytes ≡ text_of line)) × Accepts s line t
read_given s t bytes None is e = absurd (cc)
read_given s t bytes (Some line) is e = (line, (reads_spelled bytes line).0 is, accepted_given s t line e)

pub judges_accepted : JudgesAccepted
judges_accepted s t bytes = (
  read_given s t bytes (line_of bytes) refl,
  λ h. ap (judge_line s) ((reads_spelled bytes h.0).1 h.1) ∙ accepted_back s t h.0 h.2,
)

-- ---- what is so of each line that is spelled is so of each that is judged without a fault

module _ (P : List ℕ → Type 0) (each : (line : Line) → HasSizes line → P (text_of line)) where
  judged_line : (s t : ProofState) (bytes : List ℕ) (o : Option Line) → line_of bytes ≡ o → judge_line s o ≡ Ok t → P bytes
  judged_line s t bytes None read e = absurd (cc)
  judged_line s t bytes (Some line) read e =
      let spelled = (reads_spelled bytes line).0 read in
      subst P (sym spelled.1) (each line spelled.0)

  judged_lines : (s t : ProofState) (proof : List (List ℕ)) → judge_all s proof ≡ Ok t → All P proof
  judged_lines s t [] e = All-nil P
  judged_lines s t (line ∷ proof) e =
      let (later, first, others) = next_given t (judge s line) (λ u. judge_all u proof) e in
      All-cons P line proof (judged_line s later line (line_of line) refl first) (judged_lines later t proof others)

  refuting_by : (given : List (List Lit)) (proof : List (List ℕ)) (r : Result ProofState LratFault) → judge_all (start given) proof ≡ r
      → IsOkAnd r (λ s. s.finished ≡ true) → All P proof
  refuting_by given proof (Ok t) is h = judged_lines (start given) t proof is
  refuting_by given proof (Err fault) is h = absurd h

  pub refuting_lines : (given : List (List Lit)) (proof : List (List ℕ)) → Refutes given proof → All P proof
  refuting_lines given proof h = refuting_by given proof (judge_all (start given) proof) refl h
