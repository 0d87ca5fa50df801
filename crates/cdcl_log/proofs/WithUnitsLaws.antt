-- Laws of unit clauses behind the clauses that a solver holds.
use Rattle.std.proofs.Common.{◌≡◌, ℕ, zero, suc, ◌+◌, ◌-◌, ◌<◌, true, false, List, [], ◌∷◌, ◌++◌, length, map, Some, None, refl, ap, sym, subst, ◌∙◌, inl, inr, arith, append_assoc}
use Rattle.std.specs.Prelude.{slice_get}
use Rattle.std.specs.List.{list_all}
use Rattle.std.proofs.lemmas.Bool.{false≢true, or_left, or_right, or_cases}
use Rattle.std.proofs.lemmas.List.{append-nil}
use Rattle.proof_semantics.specs.Propagation.{hints_fault}
use Rattle.proof_semantics.specs.Lines.{AreSized}
use Rattle.proof_semantics.specs.declared.literals.Lit.{Lit}
use Rattle.cnf.specs.Clauses.{clause_numbered}
use Rattle.cdcl_log.specs.LoggedClauses.{LoggedClauses, added_of, IsLog}
use Rattle.cdcl_log.specs.UnitClauses.{unit_clauses}
use Rattle.cdcl_log.specs.WithUnits.{no_sources, with_units}
use Rattle.cdcl_log.proofs.LoggedLaws.{added-IsLog}
use Rattle.cdcl_log.proofs.WritingLaws.{hints_renamed}
use Rattle.cdcl_log.proofs.LoggedLaws.{numbered_more}

pub slice_behind : {X : Type 0} (xs ys : List X) (i n : ℕ) → n ≡ length xs + i → slice_get (xs ++ ys) n ≡ slice_get ys i
slice_behind [] ys i n e = ap (slice_get ys) (omega (arith, e))
slice_behind (x ∷ xs) ys i zero e = absurd (omega (arith, e))
slice_behind (x ∷ xs) ys i (suc n) e = slice_behind xs ys i n (omega (arith, e))

pub none_at : (units : List Lit) (i : ℕ) → i < length units → slice_get (no_sources units) i ≡ Some None
none_at [] i e = absurd (omega (arith, e))
none_at (a ∷ units) zero e = refl
none_at (a ∷ units) (suc i) e = none_at units i (omega (arith, e))

pub long_sources : (units : List Lit) → length (no_sources units) ≡ length units
long_sources [] = refl
long_sources (a ∷ units) = ap suc (long_sources units)

pub long_units : (units : List Lit) → length (unit_clauses units) ≡ length units
long_units [] = refl
long_units (a ∷ units) = ap suc (long_units units)

-- The log with units is one.

sized_unit : (a : Lit) (units : List Lit) → AreSized (a ∷ units) → AreSized (a ∷ [])
sized_unit a units sized b has =
    elim (or_cases _ _ has) [
      | inl here ↦ sized b (or_left _ _ here)
      | inr later ↦ absurd (false≢true later)
    ]

pub units_log : (logged : LoggedClauses) (units : List Lit) → IsLog logged → AreSized units
    → IsLog (with_units logged units) × (added_of (with_units logged units) ≡ added_of logged ++ unit_clauses units)
units_log logged [] log sized =
    let same : logged ≡ with_units logged [] =
    ap (λ cs. record { clauses = cs; sources = logged.sources }) (sym (append-nil logged.clauses))
    ∙ ap (λ ss. record { clauses = logged.clauses ++ []; sources = ss }) (sym (append-nil logged.sources)) in
    (subst IsLog same log, ap added_of (sym same) ∙ sym (append-nil (added_of logged)))
units_log logged (a ∷ units) log sized =
    let next : LoggedClauses = record { clauses = logged.clauses ++ (a ∷ []) ∷ []; sources = logged.sources ++ None ∷ [] } in
    let one = added-IsLog logged next (a ∷ []) log (sized_unit a units sized) refl refl in
    let rest = units_log next units one.0 (λ b has. sized b (or_right _ _ has)) in
    let same : with_units next units ≡ with_units logged (a ∷ units) =
    ap (λ cs. record { clauses = cs; sources = (logged.sources ++ None ∷ []) ++ no_sources units }) (append_assoc logged.clauses ((a ∷ []) ∷ []) (unit_clauses units))
    ∙ ap (λ ss. record { clauses = logged.clauses ++ (a ∷ []) ∷ unit_clauses units; sources = ss }) (append_assoc logged.sources (None ∷ []) (no_sources units)) in (
      subst IsLog same rest.0,
      ap added_of (sym same) ∙ rest.1 ∙ ap (λ cs. cs ++ unit_clauses units) one.1 ∙ append_assoc (added_of logged) ((a ∷ []) ∷ []) (unit_clauses units),
    )

-- Hints where clauses come behind.

pub same_hints : (hints : List ℕ) → map (λ n. n) hints ≡ hints
same_hints [] = refl
same_hints (n ∷ hints) = ap (λ ns. n ∷ ns) (same_hints hints)

pub all_needed : (hints : List ℕ) → list_all (λ _. true) hints ≡ true
all_needed [] = refl
all_needed (n ∷ hints) = all_needed hints

-- hints are hints where clauses come behind
pub hints_more : (clauses more : List (List Lit)) (assumed : List Lit) (hints : List ℕ) → hints_fault (clause_numbered clauses) assumed hints ≡ None
    → hints_fault (clause_numbered (clauses ++ more)) assumed hints ≡ None
hints_more clauses more assumed hints follows =
    ap (hints_fault (clause_numbered (clauses ++ more)) assumed) (sym (same_hints hints))
    ∙ hints_renamed (clause_numbered clauses) (clause_numbered (clauses ++ more)) (λ n. n) (λ _. true) assumed hints (λ n c is _. numbered_more clauses more n c is) (all_needed hints) follows
