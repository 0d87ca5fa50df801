-- What a trial tells.
use Rattle.std.proofs.Common.{◌≡◌, ℕ, suc, ◌+◌, ◌<◌, map, Bool, true, false, not, List, [], ◌∷◌, ◌++◌, length, drop, get_or, Option, Some, None, Result, Ok, Err, IfOk, IfSome, refl, sym, ap, subst, ◌∙◌, arith, append_assoc}
use Rattle.std.specs.List.{All, list_all}
use Rattle.std.proofs.lemmas.Bool.{and_parts}
use Rattle.std.proofs.lemmas.List.Elements.{All-nil, All-cons}
use Rattle.std.proofs.lemmas.List.{length-map, get_or_append_left}
use Rattle.std.proofs.lemmas.Option.{unwrap_or-slice_get}
use Rattle.std.proofs.Math.Seq.{drop-append_seam}
use Rattle.aig_semantics.specs.declared.traces.Position.{Position}
use Rattle.aig_semantics.specs.Circuits.{Circuit}
use Rattle.aig_semantics.specs.Literals.{variable_of, variable_in, literal_in}
use Rattle.aig_semantics.specs.Runs.{IsPosition, valuation_at, successor}
use Rattle.proof_semantics.specs.declared.literals.Lit.{Lit}
use Rattle.proof_semantics.specs.Clauses.{clause_value, clauses_value, cube_value, values_of}
use Rattle.cdcl.specs.Asking.{assigned}
use Rattle.edge.specs.declared.solve_end.SolveEnd.{SolveEnd}
use Rattle.fair_semantics.specs.declared.skeletons.Situation.{Situation}
use Rattle.fair_semantics.specs.Skeletons.{IsSituation}
use Rattle.cnf_unroll.specs.Numbers.{block_size, block_places, number, state_place, set_at_place, clause_at_place, literal_in_block}
use Rattle.cnf_unroll.specs.Blocks.{step_clauses}
use Rattle.cnf_unroll.specs.Obligations.{units, after_step}
use Rattle.cnf_unroll.specs.Uses.{free_from, named_sides, uses_clauses}
use Rattle.cnf_unroll.specs.Situations.{situation_in}
use Rattle.cnf_unroll.proofs.Truth.{both, together}
use Rattle.cnf_unroll.proofs.BlockWriting.{Shows, block_true, shown_situation}
use Rattle.cnf_unroll.proofs.ObligationLaws.{state_length}
use Rattle.ic3_semantics.specs.Arenas.{restricting}
use Rattle.ic3_semantics.specs.Searching.{Question}
use Rattle.ic3_semantics.specs.Stepping.{Stepping, meets_from, IsArenaStep, IsPredecessor, IsMissing, IsFound, MeetsFrom, IsGoalFound, IsOver}
use Rattle.ic3_questions.specs.SteppingClauses.{own_uses, base_clauses, denied_at}
use Rattle.ic3_semantics.specs.declared.found.Found.{Found}
use Rattle.ic3_semantics.specs.declared.found.Found.TheVariants.{Step, Missing}
use Rattle.ic3_questions.proofs.BaseLaws.{base_read}
use Rattle.ic3.specs.SteppingInside.{IsHeldBy, IsHeldWith, ModelInto, ModelGoal, question_clause, IsTold, TriedInto, TellsTried, TriedGoal, TellsTriedGoal}
use Rattle.ic3_questions.specs.ReadVariables.{is_read}
use Rattle.ic3.specs.declared.stepping_questions.Questions.{Questions}
use Rattle.ic3.proofs.FoundLaws.{denied_there, over_place, frame_read, found_missing}
use Rattle.ic3.proofs.GoalLaws.{says_read, goal_none}

-- the position that an assignment gives has a value for each latch and input
pub position_sizes : (c : Circuit) (v : ℕ → Bool) (p : Position) → p ≡ (situation_in c 0 v).position
    → (length p.latches ≡ length c.latches) × (length p.inputs ≡ length c.inputs)
position_sizes c v p is = (
  ap (λ q. length q.latches) is ∙ (length-map (state_place c 0) v ∙ state_length c 0),
  ap (λ q. length q.inputs) is ∙ length-map c.inputs (λ i. v (number 0 i)),
)

-- what is tried of constraints
all_true : (f : ℕ → Bool) (literals : List ℕ) → list_all f literals ≡ true → All (λ literal. f literal ≡ true) literals
all_true f [] h = All-nil (λ literal. f literal ≡ true)
all_true f (literal ∷ literals) h =
    let parts = and_parts (f literal) (list_all f literals) h in
    All-cons (λ x. f x ≡ true) literal literals parts.0 (all_true f literals parts.1)

-- ---- the clauses of the block

in_front : (a b c d : List (List Lit)) → ((a ++ b) ++ c) ++ d ≡ a ++ (b ++ (c ++ d))
in_front a b c d = append_assoc (a ++ b) c d ∙ append_assoc a b (c ++ d)

-- the clauses behind those of the block
pub behind_block : Question → List (List Lit)
behind_block q =
    uses_clauses (block_places q.circuit 0) (free_from (block_size q.circuit + 1)) (restricting q.start q.view)
    ++ (units (named_sides (after_step q.circuit (restricting q.start q.view)).sides (own_uses q.view q.start))
    ++ set_at_place (state_place q.circuit 0) [])

base_is : (q : Question) → base_clauses q ≡ step_clauses q.circuit ++ behind_block q
unfolding behind_block
base_is q =
    in_front (step_clauses q.circuit)
    (uses_clauses (block_places q.circuit 0) (free_from (block_size q.circuit + 1)) (restricting q.start q.view))
    (units (named_sides (after_step q.circuit (restricting q.start q.view)).sides (own_uses q.view q.start)))
    (set_at_place (state_place q.circuit 0) [])

-- ---- a position that stood up to the trial

value_behind : (values rest : List Bool) (n u : ℕ) (b : Bool) → n ≡ u + 1 → u < length values
    → values_of (b ∷ values ++ rest) n ≡ variable_in values u
value_behind values rest n u b is below =
    let next : u + 1 ≡ suc u = omega arith in
    ap (values_of (b ∷ values ++ rest)) is
    ∙ (unwrap_or-slice_get (b ∷ values ++ rest) (u + 1) false
    ∙ (ap (λ k. get_or (b ∷ values ++ rest) k false) next
    ∙ get_or_append_left values rest false u below))

told_step : (st : Stepping) (s : Questions) (p : Position) → IsHeldBy st s → IsPosition st.question.circuit p
    → IsTold (base_clauses st.question) st.question.circuit (valuation_at st.question.circuit p) (successor st.question.circuit p)
    → IsArenaStep st.question p
told_step st s p by sizes told =
    let c = st.question.circuit in
    let q = st.question in
    let v : ℕ → Bool = values_of told.out in
    let values : List Bool = valuation_at st.question.circuit p in
    let size : length (valuation_at st.question.circuit p) ≡ st.question.circuit.max + 1 =
    ((by.law p.latches p.inputs (valuation_at st.question.circuit p) sizes.latches sizes.inputs).1 refl).size
    in
    let situation : Situation = record { position = p; successor = successor st.question.circuit p } in
    let shows : Shows c 0 situation v = record {
      values =
          λ u low.
          ap (λ xs. values_of xs (number 0 u)) told.completes.1
          ∙ value_behind (valuation_at st.question.circuit p) told.completes.0 (number 0 u) u false (omega arith) (omega (arith, size, low));
      next = told.next;
    } in
    let is : IsSituation c situation = record {
      possible = record {
        position = sizes;
        constraints = all_true (literal_in (valuation_at st.question.circuit p)) st.question.circuit.constraints told.constraints;
      };
      next = refl;
    } in
    let rest : clauses_value v (behind_block q) ≡ true =
    subst (λ cs. clauses_value v cs ≡ true)
    (ap (drop (length (step_clauses c))) (base_is q) ∙ drop-append_seam (step_clauses c) (behind_block q)) told.entries
    in
    let all : clauses_value v (base_clauses q) ≡ true =
    subst (λ cs. clauses_value v cs ≡ true) (sym (base_is q))
    (together v (step_clauses c) (behind_block q) (block_true c by.checked by.law 0 situation is v shows) rest)
    in
    let read = base_read c by.checked by.law q.view by.good q.start v all in
    subst (IsArenaStep q) (ap (λ x. x.position) (shown_situation c by.checked by.law 0 situation is v shows)) read.step

tried_step : (st : Stepping) (s : Questions) (level : ℕ) (cube : List Lit) (p : Position) (v : ℕ → Bool) → IsHeldBy st s
    → ModelInto s level cube v → p ≡ (situation_in st.question.circuit 0 v).position
    → TriedInto (base_clauses st.question) st.question.circuit cube p → IsPredecessor st level cube p
tried_step st s level cube p v by answers is tried =
    let parts = both v s.solver.added (question_clause s cube ∷ []) answers.model.clauses in
    let sizes = position_sizes st.question.circuit v p is in
    record {
      step = told_step st s p by (record { latches = sizes.0; inputs = sizes.1 }) tried.told;
      frame =
          ap (λ q. meets_from st.lemmas level q.latches) is
          ∙ (ap (λ here. meets_from st.lemmas level (map v here)) (sym by.here)
          ∙ frame_read st s level (s.asked + 1) (clause_at_place s.next cube) answers.assumptions v by parts.0 answers.assumed answers.model.assumed);
      outside = tried.outside;
      inside = tried.inside;
    }

tried_goal : (st : Stepping) (s : Questions) (level literal : ℕ) (p : Position) (v : ℕ → Bool) → IsHeldBy st s
    → ModelGoal s level (literal_in_block 0 literal ∷ []) v → p ≡ (situation_in st.question.circuit 0 v).position
    → TriedGoal (base_clauses st.question) st.question.circuit st.avoid literal p → MeetsFrom st level literal p
tried_goal st s level literal p v by answers is tried =
    let sizes = position_sizes st.question.circuit v p is in
    let step : IsArenaStep st.question p = told_step st s p by (record { latches = sizes.0; inputs = sizes.1 }) tried.told in
    record {
      meets = record {
        possible = step.possible;
        holds = tried.met;
        avoids = tried.avoids;
        state = step.state;
        next = step.next;
      };
      frame =
          ap (λ q. meets_from st.lemmas level q.latches) is
          ∙ (ap (λ here. meets_from st.lemmas level (map v here)) (sym by.here)
          ∙ frame_read st s level 0 (literal_in_block 0 literal ∷ []) answers.assumptions v by answers.model.clauses answers.assumed
          answers.model.assumed);
    }

-- The state of a position that stood up to the trial is outside the cube, so a model that was found without the question's clause
-- is one of the question.
pub told_from : (c : Circuit) (s : Questions) (base : List (List Lit)) (level : ℕ) (cube : List Lit) (p : Position) (values : List Lit)
    → s.here ≡ state_place c 0 → IsOver (length c.latches) cube
    → (clause_value (assigned values) (denied_at s.here cube) ≡ true → ModelInto s level cube (assigned values))
    → p ≡ (situation_in c 0 (assigned values)).position → TriedInto base c cube p → TellsTried s base c level cube (Some (Step p))
told_from c s base level cube p values here over model is tried =
    let v : ℕ → Bool = assigned values in
    let outside : cube_value (values_of (map (assigned values) (state_place c 0))) cube ≡ false =
    ap (λ q. cube_value (values_of q.latches) cube) (sym is) ∙ tried.outside
    in
    let denied : clause_value (assigned values) (denied_at s.here cube) ≡ true =
    ap (λ place. clause_value v (denied_at place cube)) here
    ∙ (denied_there v (state_place c 0) cube (over_place (length c.latches) (state_place c 0) cube (state_length c 0) over) ∙ ap not outside)
    in
    (v, model denied, is, tried)

-- what is tried over the circuit's values is tried of the position that has them
pub told_at : (base : List (List Lit)) (c : Circuit) (p : Position) (values next : List Bool) → values ≡ valuation_at c p
    → next ≡ map (λ latch. literal_in values latch.next) c.latches → IsTold base c values next
    → IsTold base c (valuation_at c p) (successor c p)
told_at base c p values next is after told =
    subst (λ xs. IsTold base c xs (map (λ latch. literal_in xs latch.next) c.latches)) is (subst (IsTold base c values) after told)

pub inside_at : (c : Circuit) (p : Position) (values next : List Bool) (cube : List Lit) → values ≡ valuation_at c p
    → next ≡ map (λ latch. literal_in values latch.next) c.latches → cube_value (values_of next) cube ≡ true
    → cube_value (values_of (successor c p)) cube ≡ true
inside_at c p values next cube is after h =
    ap (λ xs. cube_value (values_of (map (λ latch. literal_in xs latch.next) c.latches)) cube) (sym is)
    ∙ (ap (λ xs. cube_value (values_of xs) cube) (sym after) ∙ h)

told : (st : Stepping) (s : Questions) (level : ℕ) (cube : List Lit) (found : Option Found) → IsHeldBy st s
    → IsOver (length st.question.circuit.latches) cube
    → TellsTried s (base_clauses st.question) st.question.circuit level cube found → IfSome found (IsFound st level cube)
told st s level cube None by over tells = tt
told st s level cube (Some (Step p)) by over tells = tried_step st s level cube p tells.0 by tells.1 tells.2 tells.3
told st s level cube (Some (Missing part)) by over tells =
    subst (IsMissing st level cube) (sym tells.2) (found_missing st s level cube tells.0 by over tells.1)

pub tells_tried : (st : Stepping) (base : List (List Lit)) (s : Questions) (level : ℕ) (cube : List Lit) (r : Result (Option Found) SolveEnd)
    → IsHeldWith st base s → IsOver (length st.question.circuit.latches) cube
    → IfOk r (TellsTried s base st.question.circuit level cube) → IfOk r (λ found. IfSome found (IsFound st level cube))
tells_tried st base s level cube (Ok found) held over tells =
    told st s level cube found held.by over
    (subst (λ all. TellsTried s all st.question.circuit level cube found) held.whole tells)
tells_tried st base s level cube (Err e) held over tells = tt

told_goal : (st : Stepping) (s : Questions) (level literal : ℕ) (found : Option (Option Position)) → IsHeldBy st s
    → is_read st.question.circuit (variable_of literal) ≡ true
    → TellsTriedGoal s (base_clauses st.question) st.question.circuit st.avoid level literal found
    → IfSome found (IsGoalFound st level literal)
told_goal st s level literal None by inside tells = tt
told_goal st s level literal (Some (Some p)) by inside tells = tried_goal st s level literal p tells.0 by tells.1 tells.2 tells.3
told_goal st s level literal (Some None) by inside tells =
    goal_none st s level literal (literal_in_block 0 literal ∷ []) by
    (says_read st.question.circuit by.checked by.law literal inside) tells

pub tells_tried_goal : (st : Stepping) (base : List (List Lit)) (s : Questions) (level literal : ℕ)
    (r : Result (Option (Option Position)) SolveEnd) → IsHeldWith st base s → is_read st.question.circuit (variable_of literal) ≡ true
    → IfOk r (TellsTriedGoal s base st.question.circuit st.avoid level literal)
    → IfOk r (λ found. IfSome found (IsGoalFound st level literal))
tells_tried_goal st base s level literal (Ok found) held inside tells =
    told_goal st s level literal found held.by inside
    (subst (λ all. TellsTriedGoal s all st.question.circuit st.avoid level literal found) held.whole tells)
tells_tried_goal st base s level literal (Err e) held inside tells = tt
