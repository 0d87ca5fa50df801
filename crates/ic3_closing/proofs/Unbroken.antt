-- A part of a closed set whose obligations have no model is closed.
use Rattle.std.proofs.Common.{◌≡◌, ℕ, ◌<◌, Bool, true, false, not, ◌||◌, List, [], ◌∷◌, length, get_or, refl, sym, subst, ◌∙◌}
use Rattle.std.specs.Prelude.{◌==◌}
use Rattle.std.specs.List.{All, AllPairs, list_any, list_all}
use Rattle.std.proofs.lemmas.Bool.{and_parts, and_from, true_from_ne_false}
use Rattle.std.proofs.lemmas.List.Elements.{All-nil, All-cons}
use Rattle.aig_semantics.specs.Circuits.{Circuit}
use Rattle.proof_semantics.specs.declared.literals.Lit.{Lit}
use Rattle.proof_semantics.specs.Clauses.{literal_value, clause_value, clauses_value, cube_value, values_of}
use Rattle.fair_semantics.specs.declared.entries.Kind.TheVariants.{Wall}
use Rattle.fair_semantics.specs.declared.entries.Use.{Use}
use Rattle.fair_semantics.specs.States.{meets_clauses}
use Rattle.fair_semantics.specs.Entries.{Entry, entry_at, used_entries, set_at, IsSigned, Uses, AreClosed}
use Rattle.fair_semantics.specs.Allowing.{all_allow}
use Rattle.fair_semantics.specs.Validity.{set_behind, NoStepLeaves}
use Rattle.fair_semantics.specs.Laws.{StandAlone}
use Rattle.fair_semantics.proofs.Alone.{uses_stand_alone}
use Rattle.cnf_unroll.specs.Obligations.{units, broken_literals}
use Rattle.cnf_unroll.specs.Laws.{ObligationsTell, BreaksClause, IsUnderstood, AreOver}
use Rattle.cnf_unroll.proofs.Truth.{both}
use Rattle.entry.specs.Faults.{is_signed, are_known}
use Rattle.entry.specs.Laws.{IsGoodList}
use Rattle.entry.proofs.Closed.{signed-true, known-at, one-known}
use Rattle.entry.proofs.Readable.{uses_readable, own_named}
use Rattle.entry.proofs.Valid.{sides-kept, each-true}
use Rattle.ic3_closing.specs.Keeping.{kept_uses}
use Rattle.ic3_closing.specs.Standing.{shared_by, NoneBreaks}
use Rattle.ic3_closing.proofs.Kept.{uses_all, uses_ascend}

-- ---- the uses that are kept are closed

known_each : (uses named : List Use) → are_known uses named ≡ true → All (λ x. IsSigned x → Uses uses x.entry) named
known_each uses [] h = All-nil (λ x. IsSigned x → Uses uses x.entry)
known_each uses (x ∷ named) h =
    let test : Bool = list_any (λ v. v.entry == x.entry) uses in
    let parts = and_parts (not (is_signed x.side) || test) (are_known uses named) h in
    All-cons (λ y. IsSigned y → Uses uses y.entry) x named
    (λ signed. known-at uses x.entry (one-known (is_signed x.side) test parts.0 (signed-true x.side signed)))
    (known_each uses named parts.1)

each_true : (test : Use → Bool) (uses : List Use) → list_all test uses ≡ true → All (λ u. test u ≡ true) uses
each_true test [] h = All-nil (λ u. test u ≡ true)
each_true test (u ∷ uses) h =
    let parts = and_parts (test u) (list_all test uses) h in
    All-cons (λ v. test v ≡ true) u uses parts.0 (each_true test uses parts.1)

-- the entries of which this one names sides have lesser numbers
abbrev NamesLesser : List Entry → Use → Type 0
NamesLesser view u = All (λ x. IsSigned x → x.entry < u.entry) (entry_at view u.entry).uses

pub closed_uses : (view : List Entry) (uses kept : List Use) (marks with : List Bool) → kept ≡ kept_uses marks with 0 uses → AreClosed view uses
    → list_all (λ u. are_known kept (entry_at view u.entry).uses) kept ≡ true → AreClosed view kept
closed_uses view uses kept marks with is closed named =
    let lesser : All (NamesLesser view) kept =
    subst (All (NamesLesser view)) (sym is)
    (uses_all (NamesLesser view) (λ u here. here) marks with 0 uses (λ k d inside. λ j f within signed. (closed.closed k d inside j f within signed).0))
    in
    let known : All (λ u. are_known kept (entry_at view u.entry).uses ≡ true) kept =
    each_true (λ u. are_known kept (entry_at view u.entry).uses) kept named
    in
    record {
      ascend = subst (AllPairs (λ v w. v.entry < w.entry)) (sym is) (uses_ascend marks with 0 uses closed.ascend);
      present = subst (All (λ u. u.entry < length view)) (sym is) (uses_all (λ u. u.entry < length view) (λ u here. here) marks with 0 uses closed.present);
      walls = subst (All (λ u. IsSigned u → (entry_at view u.entry).kind ≡ Wall)) (sym is)
          (uses_all (λ u. IsSigned u → (entry_at view u.entry).kind ≡ Wall) (λ u here signed. absurd (signed refl)) marks with 0 uses closed.walls);
      closed = λ k d inside. λ j f within signed.
          (lesser k d inside j f within signed, known_each kept (entry_at view (get_or kept k d).entry).uses (known k d inside) j f within signed);
    }

-- ---- the obligations

units_true : (v : ℕ → Bool) (literals : List Lit) → clauses_value v (units literals) ≡ true → cube_value v literals ≡ true
units_true v [] h = refl
units_true v (l ∷ literals) h =
    let parts = and_parts (clause_value v (l ∷ [])) (clauses_value v (units literals)) h in
    and_from (literal_value v l) (cube_value v literals) (alone (literal_value v l) parts.0) (units_true v literals parts.1)
  where
    alone : (a : Bool) → (a || false) ≡ true → a ≡ true
    alone true h = refl
    alone false h = h

unbroken : (c : Circuit) (view : List Entry) (e : Entry) → ObligationsTell c → IsGoodList c view → AreClosed view e.uses
    → AreOver (length c.latches) e.clauses → NoneBreaks c view e.clauses e.uses (length e.clauses)
    → (i : ℕ) → i < length e.clauses → BreaksClause c (used_entries view e.uses) e i → ⊥
unbroken c view e tell good closed over none i below breaks =
    let known : IsUnderstood c (used_entries view e.uses) e =
    record { used = uses_readable c view e.uses good closed; over = over; named = own_named view e.uses closed } in
    let model = (tell (used_entries view e.uses) e i known below).1 breaks in
    let literals : List Lit = broken_literals c (get_or e.clauses i []) in
    let parts = both model.0 (shared_by c view e.clauses e.uses) (units literals) model.1 in
    none i below model.0 (record { clauses = parts.0; assumed = units_true model.0 literals parts.1 })

-- ---- sides over a step

-- No step that the uses allow leaves the set of an entry whose obligations have no model.
pub stays : (c : Circuit) (view : List Entry) (e : Entry) → ObligationsTell c → IsGoodList c view → AreClosed view e.uses
    → AreOver (length c.latches) e.clauses → NoneBreaks c view e.clauses e.uses (length e.clauses)
    → NoStepLeaves c (all_allow (set_at view) (used_entries view e.uses)) (set_behind view e)
stays c view e tell good closed over none s t step allowed inside =
    let alone : StandAlone view e.uses = uses_stand_alone view e.uses closed in
    let parts = and_parts _ _ inside in
    let clauses : meets_clauses e.clauses t ≡ true =
    each-true (clause_value (values_of t)) e.clauses (λ i below.
    true_from_ne_false (clause_value (values_of t) (get_or e.clauses i [])) (λ broken.
    unbroken c view e tell good closed over none i below (record {
      from = s;
      to = t;
      step = step;
      allowed = alone.allowed (s ∷ t ∷ []) ∙ allowed;
      inside = alone.entry e refl s ∙ inside;
      broken = broken;
    })))
    in
    and_from _ _ clauses (sides-kept (set_at view) view e.uses s t closed.walls allowed parts.1)
