-- Where the question for a goal has no model, no position from a state of the clauses meets it.
use Rattle.std.proofs.Common.{◌≡◌, ℕ, ◌<◌, Bool, true, false, not, List, [], ◌∷◌, ◌++◌, map, length, refl, sym, ap, subst, ◌∙◌}
use Rattle.std.specs.List.{All}
use Rattle.std.proofs.lemmas.Bool.{and_from, false_from_ne_true}
use Rattle.std.proofs.lemmas.List.Elements.{All-head, All-tail, All-append, All-cons}
use Rattle.aig_semantics.specs.Literals.{variable_of}
use Rattle.aig_semantics.specs.Circuits.{Circuit, IsChecked}
use Rattle.aig_semantics.specs.Runs.{successor}
use Rattle.aig_semantics.specs.Valuations.{HasOneValuation}
use Rattle.proof_semantics.specs.declared.literals.Lit.{Lit}
use Rattle.proof_semantics.specs.Clauses.{negation, literal_value, clause_value, clauses_value, cube_value, values_of}
use Rattle.fair_semantics.specs.States.{meets_clauses}
use Rattle.fair_semantics.specs.Entries.{Entry}
use Rattle.cdcl.specs.Solving.{HasNoModel}
use Rattle.cnf_unroll.specs.Numbers.{state_place, literal_in_block, set_at_place}
use Rattle.cnf_unroll.specs.Uses.{named_sides}
use Rattle.cnf_unroll.specs.Obligations.{units, step_with_uses, after_step, shared_clauses}
use Rattle.cnf_unroll.specs.Laws.{AreOver}
use Rattle.cnf_unroll.proofs.Truth.{both, together, set_there, negations_value}
use Rattle.cnf_unroll.proofs.ObligationLaws.{state_length}
use Rattle.cnf_unroll.proofs.BlockReading.{IsRead}
use Rattle.cnf_unroll.proofs.BlockWriting.{literal_shown}
use Rattle.entry.specs.Laws.{IsGoodList}
use Rattle.ic3_semantics.specs.declared.questions.Start.{Start}
use Rattle.ic3_semantics.specs.Arenas.{restricting}
use Rattle.ic3_semantics.specs.Searching.{Question}
use Rattle.ic3_semantics.specs.Stepping.{IsArenaStep}
use Rattle.ic3_questions.specs.SteppingClauses.{own_uses}
use Rattle.ic3_questions.proofs.BaseLaws.{base_written}
use Rattle.ic3_closing.specs.Goals.{goal_set, MissesLiteral}

-- ---- the question

denied : (v : ℕ → Bool) (cubes : List (List Lit)) → All (λ cube. cube_value v cube ≡ false) cubes
    → clauses_value v (map (λ cube. map negation cube) cubes) ≡ true
denied v [] h = refl
denied v (cube ∷ cubes) h =
    let P : List Lit → Type 0 = λ x. cube_value v x ≡ false in
    and_from (clause_value v (map negation cube)) (clauses_value v (map (λ x. map negation x) cubes))
    (negations_value v cube ∙ ap not (All-head P cube cubes h)) (denied v cubes (All-tail P cube cubes h))

over_negation : (n : ℕ) (cube : List Lit) → All (λ l. l.var < n) cube → All (λ l. l.var < n) (map negation cube)
over_negation n [] h = h
over_negation n (l ∷ cube) h =
    let P : Lit → Type 0 = λ x. x.var < n in
    All-cons P (negation l) (map negation cube) (All-head P l cube h) (over_negation n cube (All-tail P l cube h))

over_denied : (n : ℕ) (cubes : List (List Lit)) → AreOver n cubes → AreOver n (map (λ cube. map negation cube) cubes)
over_denied n [] h = h
over_denied n (cube ∷ cubes) h =
    let P : List Lit → Type 0 = λ x. All (λ l. l.var < n) x in
    All-cons P (map negation cube) (map (λ x. map negation x) cubes) (over_negation n cube (All-head P cube cubes h))
    (over_denied n cubes (All-tail P cube cubes h))

pub goal_missed : (c : Circuit) (view : List Entry) (start : Start) (literal : ℕ) (avoid clauses set : List (List Lit)) (assumptions : List Lit)
    (added : List (List Lit))
    → IsChecked c → HasOneValuation c → IsGoodList c view → IsRead c (variable_of literal)
    → AreOver (length c.latches) avoid → AreOver (length c.latches) clauses
    → set ≡ goal_set clauses avoid → added ≡ shared_clauses c (restricting start view) (own_uses view start) set
    → assumptions ≡ literal_in_block 0 literal ∷ [] → HasNoModel added assumptions
    → MissesLiteral (record { circuit = c; view = view; start = start }) literal avoid (meets_clauses clauses)
goal_missed c view start literal avoid clauses set assumptions added checked law good read over_avoid over is_set is_added is_assumed none p meets =
    false_from_ne_true (meets_clauses clauses p.latches) (λ inside.
    let q : Question = record { circuit = c; view = view; start = start } in
    let step : IsArenaStep q p = record { possible = meets.possible; state = meets.state; next = meets.next } in
    let w = base_written c checked law view good start p (λ i. false) step in
    let v : ℕ → Bool = w.value in
    let place : List ℕ = state_place c 0 in
    let us = restricting start view in
    let names : List Lit = named_sides (after_step c us).sides (own_uses view start) in
    let cubes : List (List Lit) = map (λ cube. map negation cube) avoid in
    let over_set : AreOver (length c.latches) set =
    subst (AreOver (length c.latches)) (sym is_set)
    (All-append (λ x. All (λ l. l.var < length c.latches) x) clauses cubes over (over_denied (length c.latches) avoid over_avoid))
    in
    let over_place : AreOver (length place) set = subst (λ n. AreOver n set) (sym (state_length c 0)) over_set in
    let here : clauses_value (values_of p.latches) set ≡ true =
    ap (clauses_value (values_of p.latches)) is_set
    ∙ together (values_of p.latches) clauses cubes inside (denied (values_of p.latches) avoid meets.avoids)
    in
    let at : clauses_value v (set_at_place place set) ≡ true =
    set_there v place set over_place ∙ ap (λ s. clauses_value (values_of s) set) w.here ∙ here
    in
    let parts = both v (step_with_uses c us ++ units names) (set_at_place place []) w.base in
    let all : clauses_value v (shared_clauses c us (own_uses view start) set) ≡ true =
    together v (step_with_uses c us ++ units names) (set_at_place place set) parts.0 at
    in
    let holds : literal_value v (literal_in_block 0 literal) ≡ true =
    literal_shown c checked law 0 (record { position = p; successor = successor c p })
    (record { possible = meets.possible; next = refl }) v w.shows literal read ∙ meets.holds
    in
    none v (record {
      clauses = ap (clauses_value v) is_added ∙ all;
      assumed = ap (cube_value v) is_assumed ∙ and_from (literal_value v (literal_in_block 0 literal)) true holds refl;
    }))
