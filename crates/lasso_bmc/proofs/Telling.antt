-- What the solver's answers say of lassos.
use Rattle.std.proofs.Common.{◌≡◌, ℕ, suc, ◌+◌, ◌<◌, ◌≤◌, Bool, true, false, ◌&&◌, ◌||◌, List, [], ◌∷◌, ◌++◌, length, take, refl, sym, ap, ◌∙◌, subst, inl, inr, Option, Some, None, IfSome, arith, add-one}
use Rattle.std.proofs.lemmas.Bool.{cases_lt}
use Rattle.aig_semantics.specs.declared.traces.Position.{Position}
use Rattle.aig_semantics.specs.declared.traces.Stimulus.{Stimulus}
use Rattle.aig_semantics.specs.declared.traces.Lasso.{Lasso}
use Rattle.aig_semantics.specs.Circuits.{Circuit, fair_literals}
use Rattle.aig_semantics.specs.Runs.{IsFairLasso}
use Rattle.aig_semantics.specs.Stimuli.{simulated, HasLasso, StandsFor}
use Rattle.proof_semantics.specs.declared.literals.Lit.{Lit}
use Rattle.proof_semantics.specs.Clauses.{literal_value, clauses_value}
use Rattle.cdcl.specs.Solving.{IsModel, HasNoModel}
use Rattle.cnf_unroll.proofs.Truth.{both, together}
use Rattle.lasso_clauses.specs.Clauses.{positions_clauses, closing_literal, lasso_clauses}
use Rattle.lasso_clauses.specs.Laws.{LassoClausesTell, ModelsAreLassos, stimulus_in}
use Rattle.lasso_bmc.specs.declared.ends.Searched.{Searched}
use Rattle.lasso_bmc.specs.declared.ends.Searched.TheVariants.{Found}
use Rattle.lasso_bmc.specs.Searching.{HasNoneWithin, IsShortest, IsSearched}

-- ---- an assumption is a unit clause

unit_of : (b : Bool) → (b && true) ≡ true → ((b || false) && true) ≡ true
unit_of true h = refl
unit_of false h = h

assumption_of : (b : Bool) → ((b || false) && true) ≡ true → (b && true) ≡ true
assumption_of true h = refl
assumption_of false h = h

-- ---- the lasso of a model, and that there is none

-- the lasso clauses of one position more are those of the positions, and that it is the last one
lasso_of_last : (c : Circuit) (j k last : ℕ) → k ≡ suc last
    → lasso_clauses c j k ≡ positions_clauses c (fair_literals c j) k ++ (closing_literal c j last ∷ []) ∷ []
lasso_of_last c j k last e =
    ap (λ n. lasso_clauses c j n) e ∙ ap (λ n. positions_clauses c (fair_literals c j) n ++ (closing_literal c j last ∷ []) ∷ []) (sym e)

pub lasso_of_model : (c : Circuit) (j last : ℕ) (v : ℕ → Bool) → ModelsAreLassos c → j < length c.justice
    → IsModel (positions_clauses c (fair_literals c j) (last + 1)) (closing_literal c j last ∷ []) v
    → (from : ℕ) × HasLasso c j (stimulus_in c j (last + 1) v) (last + 1) from
lasso_of_model c j last v law inside model =
    let l : Lit = closing_literal c j last in
    let positions : List (List Lit) = positions_clauses c (fair_literals c j) (last + 1) in
    let all : clauses_value v (positions ++ (l ∷ []) ∷ []) ≡ true =
    together v positions ((l ∷ []) ∷ []) model.clauses (unit_of (literal_value v l) model.assumed)
    in
    law j (last + 1) v inside (subst (λ clauses. clauses_value v clauses ≡ true) (sym (lasso_of_last c j (last + 1) last (add-one last))) all)

model_of_lasso : (c : Circuit) (j last from : ℕ) (run : List Position) → LassoClausesTell c → j < length c.justice
    → HasNoModel (positions_clauses c (fair_literals c j) (last + 1)) (closing_literal c j last ∷ [])
    → IsFairLasso c j run from → length run ≡ last + 1 → ⊥
model_of_lasso c j last from run law inside none lasso count =
    let l : Lit = closing_literal c j last in
    let positions : List (List Lit) = positions_clauses c (fair_literals c j) (last + 1) in
    let written = (law j (last + 1) inside).1 (record { run = run; from = from; count = count; lasso = lasso }) in
    let v : ℕ → Bool = written.0 in
    let all : clauses_value v (positions ++ (l ∷ []) ∷ []) ≡ true =
    subst (λ clauses. clauses_value v clauses ≡ true) (lasso_of_last c j (last + 1) last (add-one last)) written.1
    in
    let parts = both v positions ((l ∷ []) ∷ []) all in
    none v (record { clauses = parts.0; assumed = assumption_of (literal_value v l) parts.1 })

-- where no lasso has so many positions, and none has fewer
pub none_of_core : (c : Circuit) (j last : ℕ) → LassoClausesTell c → j < length c.justice
    → HasNoModel (positions_clauses c (fair_literals c j) (last + 1)) (closing_literal c j last ∷ []) → HasNoneWithin c j last
    → HasNoneWithin c j (last + 1)
none_of_core c j last law inside none fewer = λ run from lasso within.
    elim (cases_lt last (length run)) [
      | inl more ↦ model_of_lasso c j last from run law inside none lasso (omega (arith, within, more))
      | inr past ↦ fewer run from lasso past
    ]

-- ---- how many positions are done

pub fewer_too : (c : Circuit) (j n m : ℕ) → HasNoneWithin c j n → m ≤ n → HasNoneWithin c j m
fewer_too c j n m none below = λ run from lasso within. none run from lasso (omega (arith, below, within))

-- a lasso has a position
pub none_of_none : (c : Circuit) (j : ℕ) → HasNoneWithin c j 0
none_of_none c j = λ run from lasso within. let inside = lasso.inside in absurd (omega (arith, inside, within))

-- ---- the lasso of a stimulus

pub shortest_within : (c : Circuit) (j last : ℕ) (s : Stimulus) (lasso : Lasso) → HasNoneWithin c j last → length lasso.inputs ≤ last + 1
    → StandsFor c j s (length lasso.inputs) lasso.from → lasso.start ≡ s.latches → lasso.inputs ≡ take (length lasso.inputs) s.inputs
    → IsShortest c j lasso
shortest_within c j last s lasso none within stands start inputs =
    let there : IsFairLasso c j (simulated c lasso.start (take (length lasso.inputs) s.inputs)) lasso.from =
    subst (λ latches. IsFairLasso c j (simulated c latches (take (length lasso.inputs) s.inputs)) lasso.from) (sym start) stands.has.lasso
    in
    record {
      fair = subst (λ values. IsFairLasso c j (simulated c lasso.start values) lasso.from) (sym inputs) there;
      fewest = λ run place other.
          elim (cases_lt last (length run)) [
            | inl more ↦ omega (arith, within, more)
            | inr past ↦ absurd (none run place other past)
          ];
    }

pub shortest_of : (c : Circuit) (j last : ℕ) (s : Stimulus) (lasso : Lasso) → HasNoneWithin c j last → (from : ℕ) × HasLasso c j s (last + 1) from
    → StandsFor c j s (length lasso.inputs) lasso.from → lasso.start ≡ s.latches → lasso.inputs ≡ take (length lasso.inputs) s.inputs
    → IsShortest c j lasso
shortest_of c j last s lasso none (from, has) stands start inputs =
    shortest_within c j last s lasso none (stands.shortest (last + 1) from has) stands start inputs

pub told_within : (c : Circuit) (j last : ℕ) (lasso : Lasso) (told : Option Searched) → (length lasso.inputs ≤ last + 1 → IsShortest c j lasso)
    → IfSome told (λ t. (t ≡ Found lasso) × (length lasso.inputs ≤ last + 1)) → IfSome told (IsSearched c j (last + 1))
told_within c j last lasso None shortest is = is
told_within c j last lasso (Some t) shortest (same, within) =
    subst (λ (x : Searched). IsSearched c j (last + 1) x) (sym same) (shortest within, within)
