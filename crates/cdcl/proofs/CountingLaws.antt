-- Laws of propagation that comes to rest: what is at rest is refuted by no hints.
use Rattle.std.proofs.Common.{◌≡◌, ℕ, zero, suc, ◌-◌, ◌<◌, Bool, true, false, not, ◌||◌, List, [], ◌∷◌, ◌++◌, Option, Some, None, refl, ap, sym, subst, ◌∙◌, ◌⊎◌, inl, inr, arith}
use Rattle.std.specs.Prelude.{slice_get, Result, Ok, Err}
use Rattle.std.specs.Result.{IfErr}
use Rattle.std.specs.List.{list_all}
use Rattle.std.proofs.lemmas.Bool.{false≢true, and_parts, and_from, or_cases, or_left, or_right, or_parts, not-true, cond-true, cond-false}
use Rattle.std.proofs.lemmas.Option.{none-some, same_Some}
use Rattle.proof_semantics.specs.Clauses.{lit_eq, negation, has_literal}
use Rattle.proof_semantics.specs.Propagation.{is_false as is_refused, open_literals, only_literal, with_clause, with_unit, conflict_fault, hints_fault}
use Rattle.proof_semantics.specs.declared.faults.LratFault.{LratFault}
use Rattle.proof_semantics.specs.declared.faults.LratFault.TheVariants.{NoClause, NotUnit, NoConflict}
use Rattle.proof_semantics.specs.declared.literals.Lit.{Lit}
use Rattle.proof_semantics.proofs.LiteralLaws.{lit_eq-true, lit_eq-same, has_literal-push}
use Rattle.cnf.specs.Clauses.{clause_numbered}
use Rattle.cdcl_trail.specs.Trails.{Step, value_of, level, up_to_level}
use Rattle.cdcl_trail.specs.Propagation.{is_value, is_true, is_false, is_falsified, is_unit_for, is_unit, is_complete}
use Rattle.cdcl_trail.proofs.TrailLaws.{either}
use Rattle.cdcl_trail.proofs.ScanLaws.{all_has, any_has, unvalued_test}
use Rattle.cdcl_trail.proofs.PrefixLaws.{all_from, true_more}
use Rattle.cdcl_trail.proofs.PassLaws.{held_at}
use Rattle.cdcl_trail.proofs.GuardLaws.{true_settles}
use Rattle.cdcl.specs.Counting.{IsRefutedAtOnce, IsNoLimit}
use Rattle.cdcl.specs.Resting.{ComesToRest, IsRested, IsLimitedAtRest}
use Rattle.cdcl_log.specs.LoggedClauses.{LoggedClauses, added_of, learned_of}
use Rattle.edge.specs.declared.solve_end.SolveEnd.{SolveEnd}
use Rattle.cdcl.specs.Searching.{IsDeciding}
use Rattle.cdcl_log.specs.UnitClauses.{unit_clauses}
use Rattle.cdcl.proofs.BackLaws.{cut_behind}
use Rattle.cdcl.proofs.ProgressLaws.{added_all, learned_all}

-- the clause is neither unit nor false
abbrev pub is_calm : List Step → List Lit → Bool
is_calm steps clause = not (is_falsified steps clause || is_unit steps clause)

abbrev AreTrueUnder : List Step → List Lit → Type 0
AreTrueUnder steps lits = (a : Lit) → has_literal lits a ≡ true → is_true steps a ≡ true

-- What is open of a clause.

open_first : (assumed : List Lit) (c : Lit) (clause : List Lit) → is_refused assumed c ≡ false → open_literals assumed (c ∷ clause) ≡ c ∷ open_literals assumed clause
open_first assumed c clause is = cond-true (not (is_refused assumed c)) (c ∷ open_literals assumed clause) (open_literals assumed clause) (ap not is)

closed_first : (assumed : List Lit) (c : Lit) (clause : List Lit) → is_refused assumed c ≡ true → open_literals assumed (c ∷ clause) ≡ open_literals assumed clause
closed_first assumed c clause is = cond-false (not (is_refused assumed c)) (c ∷ open_literals assumed clause) (open_literals assumed clause) (ap not is)

stays_open : (assumed : List Lit) (c b : Lit) (clause : List Lit) → has_literal (open_literals assumed clause) b ≡ true → has_literal (open_literals assumed (c ∷ clause)) b ≡ true
stays_open assumed c b clause has =
    elim (either (is_refused assumed c)) [
      | inl closed ↦ ap (λ lits. has_literal lits b) (closed_first assumed c clause closed) ∙ has
      | inr is ↦ ap (λ lits. has_literal lits b) (open_first assumed c clause is) ∙ or_right _ _ has
    ]

-- a literal is false, or open
open_or_false : (steps : List Step) (assumed clause : List Lit) → AreTrueUnder steps assumed → (b : Lit) → has_literal clause b ≡ true
    → (is_false steps b ≡ true) ⊎ (has_literal (open_literals assumed clause) b ≡ true)
open_or_false steps assumed [] all b has = absurd (false≢true has)
open_or_false steps assumed (c ∷ clause) all b has =
    elim (or_cases _ _ has) [
      | inl here ↦ elim (either (is_refused assumed c)) [
        | inl closed ↦ inl (subst (λ x. is_false steps x ≡ true) (sym (lit_eq-true b c here)) (all (negation c) closed))
        | inr is ↦ inr (ap (λ lits. has_literal lits b) (open_first assumed c clause is) ∙ or_left _ _ here)
      ]
      | inr later ↦ elim (open_or_false steps assumed clause all b later) [
        | inl falsified ↦ inl falsified
        | inr is ↦ inr (stays_open assumed c b clause is)
      ]
    ]

open_inside : (assumed clause : List Lit) (b : Lit) → has_literal (open_literals assumed clause) b ≡ true → has_literal clause b ≡ true
open_inside assumed [] b has = has
open_inside assumed (c ∷ clause) b has =
    elim (either (is_refused assumed c)) [
      | inl closed ↦ or_right (lit_eq b c) (has_literal clause b) (open_inside assumed clause b (ap (λ lits. has_literal lits b) (sym (closed_first assumed c clause closed)) ∙ has))
      | inr is ↦ elim (or_cases (lit_eq b c) (has_literal (open_literals assumed clause) b) (ap (λ lits. has_literal lits b) (sym (open_first assumed c clause is)) ∙ has)) [
        | inl here ↦ or_left (lit_eq b c) (has_literal clause b) here
        | inr later ↦ or_right (lit_eq b c) (has_literal clause b) (open_inside assumed clause b later)
      ]
    ]

-- the one literal of a list
only_all : (lits : List Lit) (a : Lit) → only_literal lits ≡ Some a → (has_literal lits a ≡ true) × ((b : Lit) → has_literal lits b ≡ true → a ≡ b)
only_all [] a e = absurd (none-some a e)
only_all (x ∷ more) a e =
    elim (either (list_all (lit_eq x) more)) [
      | inl all ↦
          let same : x ≡ a = same_Some x a (sym (cond-true (list_all (lit_eq x) more) (Some x) None all) ∙ e) in (
            or_left _ _ (subst (λ y. lit_eq a y ≡ true) (sym same) (lit_eq-same a)),
            λ b has. elim (or_cases _ _ has) [
              | inl here ↦ sym same ∙ sym (lit_eq-true b x here)
              | inr later ↦ sym same ∙ lit_eq-true x b (all_has (lit_eq x) more b all later)
            ],
          )
      | inr differs ↦ absurd (none-some a (sym (cond-false (list_all (lit_eq x) more) (Some x) None differs) ∙ e))
    ]

no_open : (lits : List Lit) (b : Lit) → conflict_fault lits ≡ None → has_literal lits b ≡ true → ⊥
no_open [] b e has = false≢true has
no_open (x ∷ more) b e has = none-some NoConflict (sym e)

-- Clauses that are calm.

calm_not_false : (steps : List Step) (clause : List Lit) → is_calm steps clause ≡ true → is_falsified steps clause ≡ true → ⊥
calm_not_false steps clause calm all = false≢true (sym (or_parts _ _ (not-true _ calm)).0 ∙ all)

calm_not_unit : (steps : List Step) (clause : List Lit) (a : Lit) → is_calm steps clause ≡ true → has_literal clause a ≡ true → is_unit_for steps clause a ≡ true → ⊥
calm_not_unit steps clause a calm has unit =
    false≢true (sym (or_parts _ _ (not-true _ calm)).1 ∙ any_has (is_unit_for steps clause) clause a has unit)

value_cases : (value : Option Bool) (b : Bool) → (value ≡ None) ⊎ (is_value value b ≡ true) ⊎ (is_value value (not b) ≡ true)
value_cases None b = inl refl
value_cases (Some true) true = inr (inl refl)
value_cases (Some true) false = inr (inr refl)
value_cases (Some false) true = inr (inr refl)
value_cases (Some false) false = inr (inl refl)

-- the one literal that a calm clause leaves is true
left_true : (steps : List Step) (clause : List Lit) (a : Lit) → is_calm steps clause ≡ true → has_literal clause a ≡ true
    → ((b : Lit) → has_literal clause b ≡ true → (is_false steps b ≡ true) ⊎ (a ≡ b)) → is_true steps a ≡ true
left_true steps clause a calm has others =
    elim (value_cases (value_of steps a.var) a.positive) [
      | inl unvalued ↦
          absurd (calm_not_unit steps clause a calm has
          (and_from _ _ has (and_from _ _ (unvalued_test (value_of steps a.var) unvalued)
          (all_from (λ b. lit_eq a b || is_false steps b) clause (λ b inside. elim (others b inside) [
            | inl falsified ↦ or_right _ _ falsified
            | inr same ↦ or_left _ _ (subst (λ c. lit_eq a c ≡ true) same (lit_eq-same a))
          ])))))
      | inr valued ↦ elim valued [
        | inl is ↦ is
        | inr falsified_one ↦
            absurd (calm_not_false steps clause calm
            (all_from (is_false steps) clause (λ b inside. elim (others b inside) [
              | inl falsified ↦ falsified
              | inr same ↦ subst (λ c. is_false steps c ≡ true) same falsified_one
            ])))
      ]
    ]

-- Hints.

clause_found : (found : Option (List Lit)) (id : ℕ) (rest : List Lit → Option LratFault) → with_clause found id rest ≡ None
    → (clause : List Lit) × (found ≡ Some clause) × (rest clause ≡ None)
clause_found None id rest e = absurd (none-some (NoClause id) (sym e))
clause_found (Some clause) id rest e = (clause, refl, e)

unit_found : (found : Option Lit) (id : ℕ) (rest : Lit → Option LratFault) → with_unit found id rest ≡ None → (a : Lit) × (found ≡ Some a) × (rest a ≡ None)
unit_found None id rest e = absurd (none-some (NotUnit id) (sym e))
unit_found (Some a) id rest e = (a, refl, e)

true_push : (steps : List Step) (assumed : List Lit) (a : Lit) → AreTrueUnder steps assumed → is_true steps a ≡ true → AreTrueUnder steps (assumed ++ a ∷ [])
true_push steps assumed a all is = λ b has.
    elim (or_cases _ _ (sym (has_literal-push assumed a b) ∙ has)) [
      | inl before ↦ all b before
      | inr last ↦ subst (λ c. is_true steps c ≡ true) (sym (lit_eq-true b a last)) is
    ]

-- Where the held clauses are calm, hints from true literals don't end in a conflict.
calm_unrefuted : (at : ℕ → Option (List Lit)) (steps : List Step) → ((id : ℕ) (clause : List Lit) → at id ≡ Some clause → is_calm steps clause ≡ true)
    → (assumed : List Lit) (ids : List ℕ) → AreTrueUnder steps assumed → hints_fault at assumed ids ≡ None → ⊥
calm_unrefuted at steps calm assumed [] all e = none-some NoConflict (sym e)
calm_unrefuted at steps calm assumed (id ∷ []) all e =
    let found = clause_found (at id) id (λ clause. conflict_fault (open_literals assumed clause)) e in
    calm_not_false steps found.0 (calm id found.0 found.1)
    (all_from (is_false steps) found.0 (λ b has. elim (open_or_false steps assumed found.0 all b has) [
      | inl falsified ↦ falsified
      | inr is ↦ absurd (no_open (open_literals assumed found.0) b found.2 is)
    ]))
calm_unrefuted at steps calm assumed (id ∷ next ∷ ids) all e =
    let found = clause_found (at id) id (λ clause. with_unit (only_literal (open_literals assumed clause)) id (λ a. hints_fault at (assumed ++ a ∷ []) (next ∷ ids))) e in
    let left = unit_found (only_literal (open_literals assumed found.0)) id (λ a. hints_fault at (assumed ++ a ∷ []) (next ∷ ids)) found.2 in
    let one = only_all (open_literals assumed found.0) left.0 left.1 in
    let is = left_true steps found.0 left.0 (calm id found.0 found.1) (open_inside assumed found.0 left.0 one.0) (λ b has. elim (open_or_false steps assumed found.0 all b has) [
      | inl falsified ↦ inl falsified
      | inr open_one ↦ inr (one.1 b open_one)
    ]) in
    calm_unrefuted at steps calm (assumed ++ left.0 ∷ []) (next ∷ ids) (true_push steps assumed left.0 all is) left.2

calm_at : (clauses : List (List Lit)) (steps : List Step) (i : ℕ) (clause : List Lit) → is_complete clauses steps ≡ true → slice_get clauses i ≡ Some clause
    → is_calm steps clause ≡ true
calm_at [] steps i clause all e = absurd (none-some clause e)
calm_at (c ∷ clauses) steps zero clause all e = subst (λ x. is_calm steps x ≡ true) (same_Some c clause e) (and_parts _ _ all).0
calm_at (c ∷ clauses) steps (suc i) clause all e = calm_at clauses steps i clause (and_parts _ _ all).1 e

-- What came to rest is refuted by no hints.
pub rest_unrefuted : (clauses : List (List Lit)) (lits : List Lit) → ComesToRest clauses lits → IsRefutedAtOnce clauses lits → ⊥
rest_unrefuted clauses lits r refuted =
    calm_unrefuted (clause_numbered clauses) r.steps (λ id clause e. calm_at clauses r.steps (id - 1) clause r.complete (held_at clauses id clause e)) lits refuted.0 r.assumed refuted.1

-- What is held, and units.

units_calm : (steps : List Step) (units : List Lit) → AreTrueUnder steps units → is_complete (unit_clauses units) steps ≡ true
units_calm steps [] all = refl
units_calm steps (a ∷ units) all =
    and_from _ _ (true_settles steps (a ∷ []) (or_left _ _ (all a (or_left _ _ (lit_eq-same a)))))
    (units_calm steps units (λ b has. all b (or_right _ _ has)))

both_calm : (steps : List Step) (xs ys : List (List Lit)) → is_complete xs steps ≡ true → is_complete ys steps ≡ true → is_complete (xs ++ ys) steps ≡ true
both_calm steps [] ys one other = other
both_calm steps (x ∷ xs) ys one other = and_from _ _ (and_parts _ _ one).0 (both_calm steps xs ys (and_parts _ _ one).1 other)

-- The added clauses and the learned ones, instead of all in the order in which they came.
rest_held : (logged : LoggedClauses) (lits : List Lit) → ComesToRest logged.clauses lits → ComesToRest (added_of logged ++ learned_of logged) lits
rest_held logged lits r = record {
  steps = r.steps;
  complete = both_calm r.steps (added_of logged) (learned_of logged) (added_all (is_calm r.steps) logged.sources logged.clauses r.complete)
      (learned_all (is_calm r.steps) logged.sources logged.clauses r.complete);
  assumed = r.assumed;
}

-- units that are clauses need not be assumed
rest_units : (logged : LoggedClauses) (units : List Lit) → ComesToRest logged.clauses units → ComesToRest (added_of logged ++ unit_clauses units ++ learned_of logged) []
rest_units logged units r = record {
  steps = r.steps;
  complete = both_calm r.steps (added_of logged ++ unit_clauses units) (learned_of logged)
      (both_calm r.steps (added_of logged) (unit_clauses units) (added_all (is_calm r.steps) logged.sources logged.clauses r.complete)
      (units_calm r.steps units r.assumed))
      (learned_all (is_calm r.steps) logged.sources logged.clauses r.complete);
  assumed = λ a has. absurd (false≢true has);
}

-- On the way.

above_base : (clauses : List (List Lit)) (assumptions : List Lit) (base : ℕ) (steps : List Step) → IsDeciding clauses assumptions base steps → base < level steps
    → ComesToRest clauses assumptions
above_base clauses assumptions base steps w above =
    let cut : up_to_level base steps ≡ w.opened ++ up_to_level (base - level w.opened) w.rest =
    ap (up_to_level base) w.begun ∙ cut_behind base w.opened w.rest (omega (arith, w.deep)) in
    record {
      steps = up_to_level base steps;
      complete = w.below base (omega arith) above;
      assumed = λ a has. ap (λ xs. is_true xs a) cut ∙ true_more w.opened (up_to_level (base - level w.opened) w.rest) a (w.assumes.true_all a has);
    }

-- above the base propagation from the assumptions came to rest
pub rest_above : (start now : LoggedClauses) (assumptions : List Lit) (base : ℕ) (steps : List Step) → IsRested assumptions start now → IsDeciding now.clauses assumptions base steps
    → base < level steps → ComesToRest start.clauses assumptions
rest_above start now assumptions base steps rest w above =
    elim rest [
      | inl same ↦ above_base start.clauses assumptions base steps (subst (λ (e : LoggedClauses). IsDeciding e.clauses assumptions base steps) same w) above
      | inr r ↦ r
    ]

-- above the base propagation alone did not refute what is held
pub unrefuted_above : (now : LoggedClauses) (assumptions : List Lit) (base : ℕ) (steps : List Step) → IsDeciding now.clauses assumptions base steps → base < level steps
    → IsRefutedAtOnce (added_of now ++ learned_of now) [] → ⊥
unrefuted_above now assumptions base steps w above refuted =
    let r = above_base now.clauses assumptions base steps w above in
    rest_unrefuted (added_of now ++ learned_of now) [] (rest_held now [] (record {
      steps = r.steps;
      complete = r.complete;
      assumed = λ a has. absurd (false≢true has);
    })) refuted

-- an error may come once propagation came to rest
pub limited_rested : {T : Type 0} (result : Result T SolveEnd) (start : LoggedClauses) (assumptions : List Lit) → ComesToRest start.clauses assumptions
    → IfErr result (IsLimitedAtRest assumptions start)
limited_rested (Ok x) start assumptions r = tt
limited_rested (Err end) start assumptions r = inr r

-- What public calls say.

module _ (lits : List Lit) (start : LoggedClauses) (added learned : List (List Lit)) (same : added_of start ≡ added) (same_learned : learned_of start ≡ learned) where
  not_at_once : ComesToRest start.clauses lits → IsRefutedAtOnce (added ++ learned) lits → ⊥
  not_at_once r refuted =
      rest_unrefuted (added_of start ++ learned_of start) lits (rest_held start lits r)
      (subst (λ cs. IsRefutedAtOnce (cs ++ learned_of start) lits) (sym same) (subst (λ cs. IsRefutedAtOnce (added ++ cs) lits) (sym same_learned) refuted))

  not_at_once_units : ComesToRest start.clauses lits → IsRefutedAtOnce (added ++ unit_clauses lits ++ learned) [] → ⊥
  not_at_once_units r refuted =
      rest_unrefuted (added_of start ++ unit_clauses lits ++ learned_of start) [] (rest_units start lits r)
      (subst (λ cs. IsRefutedAtOnce (cs ++ unit_clauses lits ++ learned_of start) []) (sym same)
      (subst (λ cs. IsRefutedAtOnce (added ++ unit_clauses lits ++ cs) []) (sym same_learned) refuted))

  pub uncounted : (now : LoggedClauses) → IsRested lits start now → IsRefutedAtOnce (added ++ learned) lits → learned_of now ≡ learned
  uncounted now rest refuted = elim rest [ inl unchanged ↦ ap learned_of unchanged ∙ same_learned | inr r ↦ absurd (not_at_once r refuted) ]

  pub uncounted_units : (now : LoggedClauses) → IsRested lits start now → IsRefutedAtOnce (added ++ unit_clauses lits ++ learned) [] → learned_of now ≡ learned
  uncounted_units now rest refuted = elim rest [ inl unchanged ↦ ap learned_of unchanged ∙ same_learned | inr r ↦ absurd (not_at_once_units r refuted) ]

  pub unlimited : {T : Type 0} (result : Result T SolveEnd) → IfErr result (IsLimitedAtRest lits start) → IsRefutedAtOnce (added ++ learned) lits → IfErr result IsNoLimit
  unlimited (Ok x) limited refuted = tt
  unlimited (Err e) limited refuted = elim limited [ inl no_limit ↦ no_limit | inr r ↦ absurd (not_at_once r refuted) ]

  pub unlimited_units : {T : Type 0} (result : Result T SolveEnd) → IfErr result (IsLimitedAtRest lits start) → IsRefutedAtOnce (added ++ unit_clauses lits ++ learned) []
      → IfErr result IsNoLimit
  unlimited_units (Ok x) limited refuted = tt
  unlimited_units (Err e) limited refuted = elim limited [ inl no_limit ↦ no_limit | inr r ↦ absurd (not_at_once_units r refuted) ]
