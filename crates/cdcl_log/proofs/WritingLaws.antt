-- Laws of how a proof is written.
use Rattle.std.proofs.Common.{◌≡◌, ℕ, zero, suc, ◌+◌, ◌-◌, ◌^◌, ◌<◌, ◌≤◌, Bool, true, false, not, ◌&&◌, cond, eqb, List, [], ◌∷◌, ◌++◌, length, map, Option, Some, None, Ok, Err, refl, ap, sym, ◌∙◌, ◌⊎◌, inl, inr, arith, rules, eqb-true}
use Rattle.std.specs.Prelude.{slice_get, is_some, nat_le, nat_lt}
use Rattle.std.specs.List.{list_any, list_all, AllByRecursion}
use Rattle.std.proofs.lemmas.Bool.{cases_Bool, false≢true, and_parts, and_from, or_left, or_right, cond-true, cond-false, lt-leb, leb-true, le-leb}
use Rattle.std.proofs.lemmas.List.Elements.{All-from_recursion}
use Rattle.std.proofs.lemmas.Option.{none-some, same_Some}
use Rattle.proof_semantics.specs.Clauses.{negation}
use Rattle.proof_semantics.specs.Propagation.{open_literals, only_literal, with_clause, with_unit, conflict_fault, hints_fault}
use Rattle.proof_semantics.specs.Lines.{IsSize, HasSizes, text_of, AreSized}
use Rattle.proof_semantics.specs.Proofs.{ProofState, is_empty, numbered, start, clause_at, with_addition, ids_of, ok_without_fault, judge_line, judge, judge_all}
use Rattle.proof_semantics.specs.declared.literals.Lit.{Lit}
use Rattle.proof_semantics.specs.declared.faults.LratFault.{LratFault}
use Rattle.proof_semantics.specs.declared.faults.LratFault.TheVariants.{IdOrder, RatRefused}
use Rattle.proof_semantics.proofs.LineLaws.{reads_spelled}
use Rattle.proof_semantics.proofs.LiteralLaws.{lit_eq-same}
use Rattle.cnf.specs.Clauses.{clause_numbered}
use Rattle.proof_semantics.proofs.Soundness.{judge_push}
use Rattle.cdcl_log.specs.LoggedClauses.{LoggedClauses, added_of}
use Rattle.cdcl_log.specs.Writing.{hint_by, line_by, IsPartialProof, Proves}

-- Hints under other names.

last_renamed : (found other : Option (List Lit)) (n m : ℕ) (assumed : List Lit) → ((c : List Lit) → found ≡ Some c → other ≡ Some c)
    → with_clause found n (λ clause. conflict_fault (open_literals assumed clause)) ≡ None
    → with_clause other m (λ clause. conflict_fault (open_literals assumed clause)) ≡ None
last_renamed None other n m assumed same e = absurd (cc)
last_renamed (Some c) other n m assumed same e = ap (λ o. with_clause o m (λ clause. conflict_fault (open_literals assumed clause))) (same c refl) ∙ e

unit_renamed : (u : Option Lit) (n m : ℕ) (first second : List Lit → Option LratFault) (assumed : List Lit) → ((x : List Lit) → first x ≡ None → second x ≡ None)
    → with_unit u n (λ a. first (assumed ++ a ∷ [])) ≡ None → with_unit u m (λ a. second (assumed ++ a ∷ [])) ≡ None
unit_renamed None n m first second assumed same e = absurd (cc)
unit_renamed (Some a) n m first second assumed same e = same (assumed ++ a ∷ []) e

next_renamed : (found other : Option (List Lit)) (n m : ℕ) (first second : List Lit → Option LratFault) (assumed : List Lit)
    → ((c : List Lit) → found ≡ Some c → other ≡ Some c) → ((x : List Lit) → first x ≡ None → second x ≡ None)
    → with_clause found n (λ clause. with_unit (only_literal (open_literals assumed clause)) n (λ a. first (assumed ++ a ∷ []))) ≡ None
    → with_clause other m (λ clause. with_unit (only_literal (open_literals assumed clause)) m (λ a. second (assumed ++ a ∷ []))) ≡ None
next_renamed None other n m first second assumed same later e = absurd (cc)
next_renamed (Some c) other n m first second assumed same later e =
    ap (λ o. with_clause o m (λ clause. with_unit (only_literal (open_literals assumed clause)) m (λ a. second (assumed ++ a ∷ [])))) (same c refl)
    ∙ unit_renamed (only_literal (open_literals assumed c)) n m first second assumed later e

pub hints_renamed : (at other : ℕ → Option (List Lit)) (f : ℕ → ℕ) (needed : ℕ → Bool) (assumed : List Lit) (hints : List ℕ)
    → ((n : ℕ) (c : List Lit) → at n ≡ Some c → needed n ≡ true → other (f n) ≡ Some c) → list_all needed hints ≡ true
    → hints_fault at assumed hints ≡ None → hints_fault other assumed (map f hints) ≡ None
hints_renamed at other f needed assumed [] keeps all e = e
hints_renamed at other f needed assumed (n ∷ []) keeps all e =
    last_renamed (at n) (other (f n)) n (f n) assumed (λ c is. keeps n c is (and_parts _ _ all).0) e
hints_renamed at other f needed assumed (n ∷ m ∷ hints) keeps all e =
    next_renamed (at n) (other (f n)) n (f n) (λ x. hints_fault at x (m ∷ hints)) (λ x. hints_fault other x (map f (m ∷ hints))) assumed
    (λ c is. keeps n c is (and_parts _ _ all).0)
    (λ x. hints_renamed at other f needed x (m ∷ hints) keeps (and_parts _ _ all).1) e

-- Each hint names a clause.

named_at : (found : Option (List Lit)) (n : ℕ) (rest : List Lit → Option LratFault) → with_clause found n rest ≡ None → is_some found ≡ true
named_at None n rest e = absurd (cc)
named_at (Some c) n rest e = refl

unit_goes : (u : Option Lit) (n : ℕ) (rest : List Lit → Option LratFault) (assumed : List Lit) → with_unit u n (λ a. rest (assumed ++ a ∷ [])) ≡ None → (x : List Lit) × (rest x ≡ None)
unit_goes None n rest assumed e = absurd (cc)
unit_goes (Some a) n rest assumed e = (assumed ++ a ∷ [], e)

named_goes : (found : Option (List Lit)) (n : ℕ) (rest : List Lit → Option LratFault) (assumed : List Lit)
    → with_clause found n (λ clause. with_unit (only_literal (open_literals assumed clause)) n (λ a. rest (assumed ++ a ∷ []))) ≡ None → (x : List Lit) × (rest x ≡ None)
named_goes None n rest assumed e = absurd (cc)
named_goes (Some c) n rest assumed e = unit_goes (only_literal (open_literals assumed c)) n rest assumed e

pub hints_named : (at : ℕ → Option (List Lit)) (assumed : List Lit) (hints : List ℕ) → hints_fault at assumed hints ≡ None → list_all (λ n. is_some (at n)) hints ≡ true
hints_named at assumed [] e = refl
hints_named at assumed (n ∷ []) e = and_from _ _ (named_at (at n) n _ e) refl
hints_named at assumed (n ∷ m ∷ hints) e =
    let goes = named_goes (at n) n (λ x. hints_fault at x (m ∷ hints)) assumed e in
    and_from _ _ (named_at (at n) n _ e) (hints_named at goes.0 (m ∷ hints) goes.1)

pub some_has : {X : Type 0} (o : Option X) → is_some o ≡ true → (x : X) × (o ≡ Some x)
some_has None e = absurd (false≢true e)
some_has (Some x) e = (x, refl)

-- What is held under an id.

held_more : (held more : List (ℕ × List Lit)) (id : ℕ) (c : List Lit) → clause_at held id ≡ Some c → clause_at (held ++ more) id ≡ Some c
held_more [] more id c e = absurd (none-some c e)
held_more (entry ∷ held) more id c e =
    elim (cases_Bool (eqb entry.0 id)) [
      | inl same ↦ cond-true (eqb entry.0 id) (Some entry.1) (clause_at (held ++ more) id) same ∙ sym (cond-true (eqb entry.0 id) (Some entry.1) (clause_at held id) same) ∙ e
      | inr differs ↦
          cond-false (eqb entry.0 id) (Some entry.1) (clause_at (held ++ more) id) differs
          ∙ held_more held more id c (sym (cond-false (eqb entry.0 id) (Some entry.1) (clause_at held id) differs) ∙ e)
    ]

eqb_same : (n m : ℕ) → n ≡ m → eqb n m ≡ true
eqb_same n m e = elim (cases_Bool (eqb n m)) [ inl same ↦ same | inr differs ↦ absurd (false≢true (sym differs ∙ ap (λ k. eqb n k) (sym e) ∙ same_number n)) ]
  where
    same_number : (n : ℕ) → eqb n n ≡ true
    same_number n = search rules

eqb_apart : (n m : ℕ) → (n ≡ m → ⊥) → eqb n m ≡ false
eqb_apart n m differs = elim (cases_Bool (eqb n m)) [ inl same ↦ absurd (differs (eqb-true n m same)) | inr is ↦ is ]

-- the last entry is found, where none before it has its id
held_last : (held : List (ℕ × List Lit)) (id : ℕ) (c : List Lit) → ((d : List Lit) → clause_at held id ≡ Some d → ⊥) → clause_at (held ++ (id, c) ∷ []) id ≡ Some c
held_last [] id c none = cond-true (eqb id id) (Some c) None (eqb_same id id refl)
held_last (entry ∷ held) id c none =
    elim (cases_Bool (eqb entry.0 id)) [
      | inl same ↦ absurd (none entry.1 (cond-true (eqb entry.0 id) (Some entry.1) (clause_at held id) same))
      | inr differs ↦
          cond-false (eqb entry.0 id) (Some entry.1) (clause_at (held ++ (id, c) ∷ []) id) differs
          ∙ held_last held id c (λ d e. none d (cond-false (eqb entry.0 id) (Some entry.1) (clause_at held id) differs ∙ e))
    ]

held_back : (held : List (ℕ × List Lit)) (id : ℕ) (c : List Lit) (x : ℕ) (d : List Lit) → clause_at (held ++ (id, c) ∷ []) x ≡ Some d → (clause_at held x ≡ Some d) ⊎ (x ≡ id)
held_back [] id c x d e =
    elim (cases_Bool (eqb id x)) [
      | inl same ↦ inr (sym (eqb-true id x same))
      | inr differs ↦ absurd (none-some d (sym (cond-false (eqb id x) (Some c) None differs) ∙ e))
    ]
held_back (entry ∷ held) id c x d e =
    elim (cases_Bool (eqb entry.0 x)) [
      | inl same ↦
          inl (cond-true (eqb entry.0 x) (Some entry.1) (clause_at held x) same
          ∙ sym (cond-true (eqb entry.0 x) (Some entry.1) (clause_at (held ++ (id, c) ∷ []) x) same) ∙ e)
      | inr differs ↦
          elim (held_back held id c x d (sym (cond-false (eqb entry.0 x) (Some entry.1) (clause_at (held ++ (id, c) ∷ []) x) differs) ∙ e)) [
            | inl before ↦ inl (cond-false (eqb entry.0 x) (Some entry.1) (clause_at held x) differs ∙ before)
            | inr last ↦ inr last
          ]
    ]

numbered_at : (n : ℕ) (given : List (List Lit)) (i x : ℕ) (c : List Lit) → x ≡ n + i → slice_get given i ≡ Some c → clause_at (numbered n given) x ≡ Some c
numbered_at n [] i x c is e = absurd (none-some c e)
numbered_at n (d ∷ given) zero x c is e = cond-true (eqb n x) (Some d) (clause_at (numbered (n + 1) given) x) (eqb_same n x (omega (arith, is))) ∙ e
numbered_at n (d ∷ given) (suc i) x c is e =
    cond-false (eqb n x) (Some d) (clause_at (numbered (n + 1) given) x) (eqb_apart n x (λ same. omega (arith, same, is)))
    ∙ numbered_at (n + 1) given i x c (omega (arith, is)) e

numbered_within : (n : ℕ) (given : List (List Lit)) (x : ℕ) (c : List Lit) → clause_at (numbered n given) x ≡ Some c → (n ≤ x) × (x < n + length given)
numbered_within n [] x c e = absurd (none-some c e)
numbered_within n (d ∷ given) x c e =
    elim (cases_Bool (eqb n x)) [
      | inl same ↦ let is = eqb-true n x same in (omega (arith, is), omega (arith, is))
      | inr differs ↦
          let rest = numbered_within (n + 1) given x c (sym (cond-false (eqb n x) (Some d) (clause_at (numbered (n + 1) given) x) differs) ∙ e) in
          (omega (arith, rest.0), omega (arith, rest.1))
    ]

-- Numbers of clauses.

pub number_put : (clauses : List (List Lit)) (n : ℕ) (c : List Lit) → (n ≡ 0 → ⊥) → slice_get clauses (n - 1) ≡ Some c → clause_numbered clauses n ≡ Some c
number_put clauses n c above e = cond-false (eqb n 0) None (slice_get clauses (n - 1)) (eqb_apart n 0 above) ∙ e

pub number_above : (clauses : List (List Lit)) (n : ℕ) (c : List Lit) → clause_numbered clauses n ≡ Some c → n ≡ 0 → ⊥
number_above clauses n c e is = none-some c (sym (cond-true (eqb n 0) None (slice_get clauses (n - 1)) (eqb_same n 0 is)) ∙ e)

-- A line is accepted.

sizes_by : (lits : List Lit) → AreSized lits → AllByRecursion (λ a. IsSize a.var) lits
sizes_by [] sized = tt
sizes_by (a ∷ lits) sized = (sized a (or_left _ _ (lit_eq-same a)), sizes_by lits (λ b has. sized b (or_right _ _ has)))

hint_sizes : (ids : ℕ → ℕ) (hints : List ℕ) → list_all (λ n. nat_le 1 (ids n) && nat_le (ids n) (2 ^ 63 - 1)) hints ≡ true → AllByRecursion (λ a. IsSize a.var) (map (hint_by ids) hints)
hint_sizes ids [] all = tt
hint_sizes ids (n ∷ hints) all =
    let parts = and_parts _ _ all in
    let both = and_parts _ _ parts.0 in
    ((omega (arith, leb-true 1 (ids n) both.0), omega (arith, leb-true (ids n) (2 ^ 63 - 1) both.1)), hint_sizes ids hints parts.1)

no_negative : (ids : ℕ → ℕ) (hints : List ℕ) → list_any (λ (h : Lit). not h.positive) (map (hint_by ids) hints) ≡ false
no_negative ids [] = refl
no_negative ids (n ∷ hints) = no_negative ids hints

ids_are : (ids : ℕ → ℕ) (hints : List ℕ) → ids_of (map (hint_by ids) hints) ≡ map ids hints
ids_are ids [] = refl
ids_are ids (n ∷ hints) = ap (λ xs. ids n ∷ xs) (ids_are ids hints)

judged_ok : (late rat : Bool) (fault : Option LratFault) (t : ProofState) → late ≡ false → rat ≡ false → fault ≡ None
    → cond late (Err IdOrder) (cond rat (Err RatRefused) (ok_without_fault fault t)) ≡ Ok t
judged_ok true rat fault t e f g = absurd (false≢true (sym e))
judged_ok false true fault t e f g = absurd (false≢true (sym f))
judged_ok false false None t e f g = refl
judged_ok false false (Some fault) t e f g = absurd (none-some fault (sym g))

line_accepted : (s : ProofState) (ids : ℕ → ℕ) (id : ℕ) (c : List Lit) (hints : List ℕ) → IsSize id → AreSized c
    → list_all (λ n. nat_le 1 (ids n) && nat_le (ids n) (2 ^ 63 - 1)) hints ≡ true → s.last < id
    → hints_fault (clause_at s.held) (map negation c) (map ids hints) ≡ None
    → judge s (text_of (line_by ids id c hints)) ≡ Ok (with_addition s id c)
line_accepted s ids id c hints sized sized_clause sized_hints later follows =
    let line = line_by ids id c hints in
    let sizes : HasSizes line =
    (sized, All-from_recursion (λ a. IsSize a.var) c (sizes_by c sized_clause), All-from_recursion (λ a. IsSize a.var) (map (hint_by ids) hints) (hint_sizes ids hints sized_hints)) in
    ap (judge_line s) ((reads_spelled (text_of line) line).1 (sizes, refl))
    ∙ judged_ok (nat_le id s.last) (list_any (λ (h : Lit). not h.positive) (map (hint_by ids) hints)) _ (with_addition s id c)
    (lt-leb id s.last later) (no_negative ids hints) (ap (hints_fault (clause_at s.held) (map negation c)) (ids_are ids hints) ∙ follows)

-- The state after a line.

all_sized : (clauses : List (List Lit)) (ids : ℕ → ℕ) (greatest : ℕ) (held : List (ℕ × List Lit)) (hints : List ℕ) → greatest < 2 ^ 62
    → ((id : ℕ) (c : List Lit) → clause_at held id ≡ Some c → (0 < id) × (id ≤ greatest))
    → ((n : ℕ) (c : List Lit) → clause_numbered clauses n ≡ Some c → nat_lt 0 (ids n) ≡ true → clause_at held (ids n) ≡ Some c)
    → list_all (λ n. is_some (clause_numbered clauses n)) hints ≡ true → list_all (λ n. nat_lt 0 (ids n)) hints ≡ true
    → list_all (λ n. nat_le 1 (ids n) && nat_le (ids n) (2 ^ 63 - 1)) hints ≡ true
all_sized clauses ids greatest held [] small within finds named all = refl
all_sized clauses ids greatest held (n ∷ hints) small within finds named all =
    let names = and_parts _ _ named in
    let parts = and_parts _ _ all in
    let found = some_has (clause_numbered clauses n) names.0 in
    let bounds = within (ids n) found.0 (finds n found.0 found.1 parts.0) in
    and_from _ _ (and_from _ _ (le-leb 1 (ids n) (omega (arith, bounds.0))) (le-leb (ids n) (2 ^ 63 - 1) (omega (arith, bounds.1, small))))
    (all_sized clauses ids greatest held hints small within finds names.1 parts.1)

written_accepts : (logged : LoggedClauses) (ids : ℕ → ℕ) (lines : List (List ℕ)) (greatest : ℕ) (c : List Lit) (hints : List ℕ)
    → (written : IsPartialProof logged ids lines greatest) → greatest < 2 ^ 62
    → AreSized c → hints_fault (clause_numbered logged.clauses) (map negation c) hints ≡ None → list_all (λ n. nat_lt 0 (ids n)) hints ≡ true
    → judge written.state (text_of (line_by ids (greatest + 1) c hints)) ≡ Ok (with_addition written.state (greatest + 1) c)
written_accepts logged ids lines greatest c hints written small sized follows all =
    line_accepted written.state ids (greatest + 1) c hints (omega arith, omega (arith, small)) sized
    (all_sized logged.clauses ids greatest written.state.held hints small written.within written.finds (hints_named _ _ hints follows) all)
    (omega (arith, written.last))
    (hints_renamed (clause_numbered logged.clauses) (clause_at written.state.held) ids (λ n. nat_lt 0 (ids n)) (map negation c) hints written.finds all follows)

above_free : (logged : LoggedClauses) (ids : ℕ → ℕ) (lines : List (List ℕ)) (greatest : ℕ) → (written : IsPartialProof logged ids lines greatest) → (d : List Lit)
    → clause_at written.state.held (greatest + 1) ≡ Some d → ⊥
above_free logged ids lines greatest written d e = omega (arith, (written.within (greatest + 1) d e).1)

-- The whole proof.
pub written_proves : (logged : LoggedClauses) (ids : ℕ → ℕ) (lines : List (List ℕ)) (greatest : ℕ) (c : List Lit) (hints : List ℕ)
    → IsPartialProof logged ids lines greatest → greatest < 2 ^ 62 → AreSized c → hints_fault (clause_numbered logged.clauses) (map negation c) hints ≡ None
    → list_all (λ n. nat_lt 0 (ids n)) hints ≡ true
    → Proves (added_of logged) (lines ++ text_of (line_by ids (greatest + 1) c hints) ∷ []) c
written_proves logged ids lines greatest c hints written small sized follows all = record {
  state = with_addition written.state (greatest + 1) c;
  judged = judge_push (start (added_of logged)) written.state (with_addition written.state (greatest + 1) c) lines (text_of (line_by ids (greatest + 1) c hints)) written.judged
      (written_accepts logged ids lines greatest c hints written small sized follows all);
  gives = held_last written.state.held (greatest + 1) c (above_free logged ids lines greatest written);
  finishes = λ empty. or_right written.state.finished (is_empty c) (ap is_empty empty);
}

-- What is found where one more line is held.
found_more : (held : List (ℕ × List Lit)) (greatest old id : ℕ) (b : Bool) (c d : List Lit) → ((e : List Lit) → clause_at held (greatest + 1) ≡ Some e → ⊥)
    → (b ≡ true → c ≡ d) → (nat_lt 0 old ≡ true → clause_at held old ≡ Some d) → id ≡ cond b (greatest + 1) old → nat_lt 0 id ≡ true
    → clause_at (held ++ (greatest + 1, c) ∷ []) id ≡ Some d
found_more held greatest old id true c d free same before is has =
    ap (clause_at (held ++ (greatest + 1, c) ∷ [])) is ∙ held_last held (greatest + 1) c free ∙ ap (λ x. Some x) (same refl)
found_more held greatest old id false c d free same before is has =
    ap (clause_at (held ++ (greatest + 1, c) ∷ [])) is ∙ held_more held ((greatest + 1, c) ∷ []) old d (before (ap (nat_lt 0) (sym is) ∙ has))

has_more : (greatest old id : ℕ) (b : Bool) → id ≡ cond b (greatest + 1) old → nat_lt 0 old ≡ true → nat_lt 0 id ≡ true
has_more greatest old id true is has = le-leb 1 id (omega (arith, is))
has_more greatest old id false is has = ap (nat_lt 0) is ∙ has

-- One more line, whose id a clause has from now on.
pub written_put : (logged : LoggedClauses) (ids later : ℕ → ℕ) (lines after : List (List ℕ)) (greatest last number : ℕ) (c : List Lit) (hints : List ℕ)
    → clause_numbered logged.clauses number ≡ Some c → greatest < 2 ^ 62 → AreSized c
    → hints_fault (clause_numbered logged.clauses) (map negation c) hints ≡ None → list_all (λ n. nat_lt 0 (ids n)) hints ≡ true
    → ((n : ℕ) → later n ≡ cond (eqb number n) (greatest + 1) (ids n)) → after ≡ lines ++ text_of (line_by ids (greatest + 1) c hints) ∷ [] → last ≡ greatest + 1
    → IsPartialProof logged ids lines greatest → IsPartialProof logged later after last
written_put logged ids later lines after greatest last number c hints at small sized follows all puts adds next written = record {
  state = with_addition written.state (greatest + 1) c;
  judged = ap (judge_all (start (added_of logged))) adds
      ∙ judge_push (start (added_of logged)) written.state (with_addition written.state (greatest + 1) c) lines (text_of (line_by ids (greatest + 1) c hints)) written.judged
      (written_accepts logged ids lines greatest c hints written small sized follows all);
  last = sym next;
  within = λ id d e. elim (held_back written.state.held (greatest + 1) c id d e) [
    | inl before ↦ let bounds = written.within id d before in (bounds.0, omega (arith, bounds.1, next))
    | inr here ↦ (omega (arith, here), omega (arith, here, next))
  ];
  given = λ i source. has_more greatest (ids (i + 1)) (later (i + 1)) (eqb number (i + 1)) (puts (i + 1)) (written.given i source);
  finds = λ n d e has. found_more written.state.held greatest (ids n) (later n) (eqb number n) c d (above_free logged ids lines greatest written)
      (λ same. same_Some c d (sym at ∙ ap (clause_numbered logged.clauses) (eqb-true number n same) ∙ e)) (written.finds n d e) (puts n) has;
}

pub written_kept : (ids later : ℕ → ℕ) (number greatest n : ℕ) → ((m : ℕ) → later m ≡ cond (eqb number m) (greatest + 1) (ids m))
    → nat_lt 0 (ids n) ≡ true → nat_lt 0 (later n) ≡ true
written_kept ids later number greatest n puts has = has_more greatest (ids n) (later n) (eqb number n) (puts n) has

-- Nothing is written.
pub written_none : (logged : LoggedClauses) (ids : ℕ → ℕ) (lines : List (List ℕ)) (greatest : ℕ) → greatest ≡ length (added_of logged) → lines ≡ []
    → ((i : ℕ) → slice_get logged.sources i ≡ Some None → nat_lt 0 (ids (i + 1)) ≡ true)
    → ((n : ℕ) (c : List Lit) → clause_numbered logged.clauses n ≡ Some c → nat_lt 0 (ids n) ≡ true → (j : ℕ) × (ids n ≡ 1 + j) × (slice_get (added_of logged) j ≡ Some c))
    → IsPartialProof logged ids lines greatest
written_none logged ids lines greatest counts none given found = record {
  state = start (added_of logged);
  judged = ap (judge_all (start (added_of logged))) none;
  last = sym counts;
  within = λ id c f. let bounds = numbered_within 1 (added_of logged) id c f in (omega (arith, bounds.0), omega (arith, bounds.1, counts));
  given = given;
  finds = λ n c e has. let r = found n c e has in numbered_at 1 (added_of logged) r.0 (ids n) c r.1 r.2;
}
