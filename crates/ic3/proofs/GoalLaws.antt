-- What an answer to the question for a goal tells.
use Rattle.std.proofs.Common.{◌≡◌, ℕ, Bool, true, false, not, cond, ◌&&◌, List, [], ◌∷◌, map, length, refl, sym, ap, subst, ◌∙◌, arith}
use Rattle.std.specs.List.{All}
use Rattle.std.proofs.lemmas.Bool.{false≢true, and_parts, and_from}
use Rattle.std.proofs.lemmas.List.Folds.{list_all-append}
use Rattle.std.proofs.lemmas.List.Elements.{All-head, All-tail, All-cons, All-nil}
use Rattle.aig_semantics.specs.declared.traces.Position.{Position}
use Rattle.aig_semantics.specs.Literals.{is_negated, variable_of, variable_in}
use Rattle.aig_semantics.specs.Circuits.{Circuit, IsChecked}
use Rattle.aig_semantics.specs.Runs.{literal_at, successor, valuation_at, MeetsConstraints}
use Rattle.aig_semantics.specs.Valuations.{HasOneValuation}
use Rattle.proof_semantics.specs.declared.literals.Lit.{Lit}
use Rattle.proof_semantics.specs.Clauses.{literal_value, clause_value, clauses_value, cube_value, values_of}
use Rattle.cnf_unroll.specs.Numbers.{state_place, literal_in_block}
use Rattle.cnf_unroll.specs.Blocks.{step_clauses}
use Rattle.cnf_unroll.specs.Situations.{situation_in}
use Rattle.cnf_unroll.specs.Laws.{AreOver}
use Rattle.cnf_unroll.proofs.ObligationLaws.{state_length}
use Rattle.cnf_unroll.proofs.BlockReading.{literal_is, block_read}
use Rattle.cnf_unroll.proofs.BlockWriting.{Shows, literal_shown}
use Rattle.ic3_semantics.specs.Stepping.{Stepping, IsArenaStep, MeetsFrom, IsOver}
use Rattle.ic3_questions.specs.SteppingClauses.{base_clauses, question_guard, denied_at, avoid_clause}
use Rattle.ic3.specs.SteppingInside.{IsHeldBy, IsWhole, ModelGoal, NoModelGoal}
use Rattle.ic3_questions.specs.ReadVariables.{is_read}
use Rattle.ic3.specs.declared.stepping_questions.Questions.{Questions}
use Rattle.ic3_questions.proofs.ReadVariables.{read_from, not_read}
use Rattle.ic3.proofs.Guards.{guarded_on, guarded_held}
use Rattle.ic3.proofs.FoundLaws.{denied_there, over_place, not_true, step_read, step_written}

-- ---- variables of the block

-- ---- the goal's literal

-- what is asked of a goal's literal by these literals at the block
pub record Says (c : Circuit) (literal : ℕ) (literals : List Lit) : Type 0 where
  pub read : (v : ℕ → Bool) → clauses_value v (step_clauses c) ≡ true → cube_value v literals ≡ true
      → literal_at c (situation_in c 0 v).position literal ≡ true
  pub shown : (v : ℕ → Bool) (p : Position) → MeetsConstraints c p
      → Shows c 0 (record { position = p; successor = successor c p }) v → literal_at c p literal ≡ true → cube_value v literals ≡ true

one : (b : Bool) → (b && true) ≡ b
one true = refl
one false = refl

pub says_read : (c : Circuit) → IsChecked c → HasOneValuation c → (literal : ℕ) → is_read c (variable_of literal) ≡ true
    → Says c literal (literal_in_block 0 literal ∷ [])
says_read c checked law literal h =
    let read = read_from c (variable_of literal) h in
    record {
      read = λ v block assumed. literal_is c checked law 0 v block literal read ∙ (sym (one (literal_value v (literal_in_block 0 literal))) ∙ assumed);
      shown =
          λ v p possible shows holds.
          one (literal_value v (literal_in_block 0 literal))
          ∙ (literal_shown c checked law 0 (record { position = p; successor = successor c p })
          (record { possible = possible; next = refl }) v shows literal read
          ∙ holds);
    }

signed : (n x : Bool) → x ≡ false → cond n (not x) x ≡ n
signed true x h = ap not h
signed false x h = h

-- a variable that is defined nowhere is false
pub unread_value : (c : Circuit) → HasOneValuation c → (literal : ℕ) → is_read c (variable_of literal) ≡ false
    → (p : Position) → MeetsConstraints c p → literal_at c p literal ≡ is_negated literal
unread_value c law literal h p possible =
    let values = (law p.latches p.inputs (valuation_at c p) possible.position.latches possible.position.inputs).1 refl in
    signed (is_negated literal) (variable_in (valuation_at c p) (variable_of literal))
    (values.nowhere (variable_of literal) (not_read c (variable_of literal) h))

-- ---- avoided cubes

avoided_read : (v : ℕ → Bool) (place : List ℕ) (n free : ℕ) (cubes : List (List Lit)) → length place ≡ n → AreOver n cubes
    → v (question_guard free 0) ≡ true → clauses_value v (map (avoid_clause place free) cubes) ≡ true
    → All (λ cube. cube_value (values_of (map v place)) cube ≡ false) cubes
avoided_read v place n free [] size over on h = All-nil (λ cube. cube_value (values_of (map v place)) cube ≡ false)
avoided_read v place n free (cube ∷ cubes) size over on h =
    let parts = and_parts (clause_value v (avoid_clause place free cube)) (clauses_value v (map (avoid_clause place free) cubes)) h in
    let first : IsOver n cube = All-head (IsOver n) cube cubes over in
    All-cons (λ x. cube_value (values_of (map v place)) x ≡ false) cube cubes
    (not_true (cube_value (values_of (map v place)) cube)
    (sym (denied_there v place cube (over_place n place cube size first)) ∙ guarded_on v (question_guard free 0) (denied_at place cube) on parts.0))
    (avoided_read v place n free cubes size (All-tail (IsOver n) cube cubes over) on parts.1)

avoided_written : (v : ℕ → Bool) (place : List ℕ) (n free : ℕ) (cubes : List (List Lit)) → length place ≡ n → AreOver n cubes
    → All (λ cube. cube_value (values_of (map v place)) cube ≡ false) cubes
    → clauses_value v (map (avoid_clause place free) cubes) ≡ true
avoided_written v place n free [] size over h = refl
avoided_written v place n free (cube ∷ cubes) size over h =
    let P : List Lit → Type 0 = λ x. cube_value (values_of (map v place)) x ≡ false in
    let first : IsOver n cube = All-head (IsOver n) cube cubes over in
    and_from _ _
    (guarded_held v (question_guard free 0) (denied_at place cube)
    (denied_there v place cube (over_place n place cube size first) ∙ ap not (All-head P cube cubes h)))
    (avoided_written v place n free cubes size (All-tail (IsOver n) cube cubes over) (All-tail P cube cubes h))

-- ---- answers

pub goal_found : (st : Stepping) (s : Questions) (level literal : ℕ) (literals : List Lit) (v : ℕ → Bool) → IsHeldBy st s
    → IsWhole (base_clauses st.question) s.solver.added → Says st.question.circuit literal literals → ModelGoal s level literals v
    → MeetsFrom st level literal (situation_in st.question.circuit 0 v).position
goal_found st s level literal literals v by whole says answers =
    let c = st.question.circuit in
    let assumed = and_parts (cube_value v answers.assumed.guards) (cube_value v literals)
    (sym (list_all-append (literal_value v) answers.assumed.guards literals) ∙ (ap (cube_value v) (sym answers.assumed.all) ∙ answers.model.assumed)) in
    let on = (answers.assumed.on v).0 assumed.0 in
    let read = step_read st s level v by whole answers.model.clauses on.each in
    record {
      meets = record {
        possible = read.step.possible;
        holds = says.read v read.block assumed.1;
        avoids = avoided_read v (state_place c 0) (length c.latches) s.free st.avoid (state_length c 0) by.avoid on.question read.avoided;
        state = read.step.state;
        next = read.step.next;
      };
      frame = read.frame;
    }

pub goal_none : (st : Stepping) (s : Questions) (level literal : ℕ) (literals : List Lit) → IsHeldBy st s
    → Says st.question.circuit literal literals → NoModelGoal s level literals
    → (p : Position) → MeetsFrom st level literal p → ⊥
goal_none st s level literal literals by says answers p meets =
    let c = st.question.circuit in
    let step : IsArenaStep st.question p = record { possible = meets.meets.possible; state = meets.meets.state; next = meets.meets.next } in
    let w = step_written st s level 0 p by step meets.frame (λ t low high is. omega arith)
    (λ v here on.
    avoided_written v (state_place c 0) (length c.latches) s.free st.avoid (state_length c 0) by.avoid
    (subst (λ x. All (λ cube. cube_value (values_of x) cube ≡ false) st.avoid) (sym here) meets.meets.avoids))
    in
    let v : ℕ → Bool = w.value in
    answers.none v (record {
      clauses = w.clauses;
      assumed =
          ap (cube_value v) answers.assumed.all
          ∙ (list_all-append (literal_value v) answers.assumed.guards literals
          ∙ and_from _ _ ((answers.assumed.on v).1 w.on) (says.shown v p meets.meets.possible w.shows meets.meets.holds));
    })

-- a variable that is defined nowhere: the negated literal is true at each position, the other at none
pub says_negated : (c : Circuit) → IsChecked c → HasOneValuation c → (literal : ℕ) → is_read c (variable_of literal) ≡ false
    → is_negated literal ≡ true → Says c literal []
says_negated c checked law literal h negated = record {
  read =
      λ v block assumed.
      unread_value c law literal h (situation_in c 0 v).position (block_read c checked law 0 v block).possible ∙ negated;
  shown = λ v p possible shows holds. refl;
}

pub never_met : (st : Stepping) (s : Questions) (level literal : ℕ) → IsHeldBy st s
    → is_read st.question.circuit (variable_of literal) ≡ false → is_negated literal ≡ false
    → (p : Position) → MeetsFrom st level literal p → ⊥
never_met st s level literal by h negated p meets =
    false≢true (sym (unread_value st.question.circuit by.law literal h p meets.meets.possible ∙ negated) ∙ meets.meets.holds)
