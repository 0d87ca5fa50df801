-- What the answers of the solver tell: an assignment a step, a core that there is none.
use Rattle.std.proofs.Common.{◌≡◌, ℕ, ◌+◌, ◌<◌, ◌≤◌, ◌==◌, ◌⊎◌, Bool, true, false, not, cond, ◌&&◌, ◌||◌, List, [], ◌∷◌, ◌++◌, map, length, refl, sym, ap, subst, ◌∙◌, inl, inr, arith, nat_lt}
use Rattle.std.specs.List.{All, AllByRecursion}
use Rattle.std.proofs.lemmas.Bool.{false≢true, and_parts, and_from, cases_Bool, ltb-false, le-ltb, eq-eqb, ne_eqb}
use Rattle.std.proofs.lemmas.List.Folds.{list_all-append, list_any-append}
use Rattle.std.proofs.lemmas.List.Elements.{All-head, All-tail}
use Rattle.aig_semantics.specs.declared.traces.Position.{Position}
use Rattle.aig_semantics.specs.Runs.{successor}
use Rattle.proof_semantics.specs.declared.literals.Lit.{Lit}
use Rattle.proof_semantics.specs.Clauses.{literal_value, clause_value, clauses_value, cube_value, values_of, lit_eq, has_literal, is_part}
use Rattle.proof_semantics.proofs.LiteralLaws.{literal_value-negation, lit_eq-true, lit_eq-same, cube_value-has}
use Rattle.cdcl.specs.Solving.{IsModel}
use Rattle.cnf_unroll.specs.Numbers.{state_place, successor_place, literal_at_place, clause_at_place}
use Rattle.cnf_unroll.specs.Blocks.{step_clauses}
use Rattle.cnf_unroll.specs.Situations.{situation_in}
use Rattle.cnf_unroll.proofs.Truth.{both, together, literal_there, clause_there}
use Rattle.cnf_unroll.proofs.BlockWriting.{Shows}
use Rattle.cnf_unroll.proofs.ObligationLaws.{state_length, successor_length}
use Rattle.ic3_semantics.specs.Stepping.{Stepping, meets_from, IsArenaStep, EntersFrom, IsPredecessor, IsMissing, IsOver}
use Rattle.ic3_questions.specs.SteppingClauses.{base_clauses, level_guard, question_guard, guarded, denied_at, lemma_clause, avoid_clause, held_clauses, AreBelow, IsOn, AreAssumed, part_at}
use Rattle.ic3.specs.SteppingInside.{keeping, IsHeldBy, IsWhole, ModelInto, CoreInto, question_clause}
use Rattle.ic3_semantics.specs.declared.lemmas.Lemma.{Lemma}
use Rattle.ic3.specs.declared.stepping_questions.Questions.{Questions}
use Rattle.ic3_questions.proofs.BaseLaws.{base_read, base_written}
use Rattle.ic3.proofs.Guards.{guards, level_value, question_value, guarded_off, guarded_on, guarded_held, one_clause}

-- ---- cubes at a place

not_both : (a b : Bool) → (not a || not b) ≡ not (a && b)
not_both true b = refl
not_both false b = refl

pub cube_there : (v : ℕ → Bool) (place : List ℕ) (cube : List Lit) → All (λ l. l.var < length place) cube
    → cube_value v (clause_at_place place cube) ≡ cube_value (values_of (map v place)) cube
cube_there v place [] over = refl
cube_there v place (l ∷ cube) over =
    ap (λ x. x && cube_value v (clause_at_place place cube)) (literal_there v place l (All-head (λ x. x.var < length place) l cube over))
    ∙ ap (λ y. literal_value (values_of (map v place)) l && y) (cube_there v place cube (All-tail (λ x. x.var < length place) l cube over))

pub denied_there : (v : ℕ → Bool) (place : List ℕ) (cube : List Lit) → All (λ l. l.var < length place) cube
    → clause_value v (denied_at place cube) ≡ not (cube_value (values_of (map v place)) cube)
denied_there v place [] over = refl
denied_there v place (l ∷ cube) over =
    let here = literal_value (values_of (map v place)) l in
    let rest = denied_there v place cube (All-tail (λ x. x.var < length place) l cube over) in
    ap (λ x. x || clause_value v (denied_at place cube))
    (literal_value-negation v (literal_at_place place l) ∙ ap not (literal_there v place l (All-head (λ x. x.var < length place) l cube over)))
    ∙ ap (λ y. not here || y) rest
    ∙ not_both here (cube_value (values_of (map v place)) cube)

pub over_place : (n : ℕ) (place : List ℕ) (literals : List Lit) → length place ≡ n → IsOver n literals → All (λ l. l.var < length place) literals
over_place n place literals e over = λ k d inside. let x = over k d inside in omega arith

pub not_true : (a : Bool) → not a ≡ true → a ≡ false
not_true true h = sym h
not_true false h = refl

-- ---- parts of a cube

part_has : (part whole : List Lit) (a : Lit) → is_part part whole ≡ true → has_literal part a ≡ true → has_literal whole a ≡ true
part_has [] whole a h there = absurd (false≢true there)
part_has (b ∷ part) whole a h there =
    let parts = and_parts (has_literal whole b) (is_part part whole) h in
    elim (cases_Bool (lit_eq a b)) [
      | inl t ↦ subst (λ x. has_literal whole x ≡ true) (sym (lit_eq-true a b t)) parts.0
      | inr t ↦ part_has part whole a parts.1 (sym (ap (λ x. x || has_literal part a) t) ∙ there)
    ]

or_behind : (a b : Bool) → b ≡ true → (a || b) ≡ true
or_behind true b h = refl
or_behind false b h = h

part_more : (part whole : List Lit) (a : Lit) → is_part part whole ≡ true → is_part part (a ∷ whole) ≡ true
part_more [] whole a h = refl
part_more (b ∷ part) whole a h =
    let parts = and_parts (has_literal whole b) (is_part part whole) h in
    and_from _ _ (or_behind (lit_eq b a) (has_literal whole b) parts.0) (part_more part whole a parts.1)

part_same : (literals : List Lit) → is_part literals literals ≡ true
part_same [] = refl
part_same (a ∷ literals) =
    and_from _ _ (ap (λ x. x || has_literal literals a) (lit_eq-same a)) (part_more literals literals a (part_same literals))

part_taken : (b : Bool) (a : Lit) (part cube : List Lit) → is_part part cube ≡ true → is_part (cond b (a ∷ part) part) (a ∷ cube) ≡ true
part_taken true a part cube h =
    and_from _ _ (ap (λ x. x || has_literal cube a) (lit_eq-same a)) (part_more part cube a h)
part_taken false a part cube h = part_more part cube a h

pub part_among : (place : List ℕ) (core cube : List Lit) → is_part (part_at place core cube) cube ≡ true
part_among place core [] = refl
part_among place core (l ∷ cube) =
    part_taken (has_literal core (literal_at_place place l)) l (part_at place core cube) cube (part_among place core cube)

cube_taken : (v : ℕ → Bool) (b : Bool) (a : Lit) (part cube : List Lit)
    → (cube_value v cube ≡ true → cube_value v part ≡ true) → cube_value v (a ∷ cube) ≡ true → cube_value v (cond b (a ∷ part) part) ≡ true
cube_taken v true a part cube on h = let parts = and_parts (literal_value v a) (cube_value v cube) h in and_from _ _ parts.0 (on parts.1)
cube_taken v false a part cube on h = on (and_parts (literal_value v a) (cube_value v cube) h).1

-- where the cube is true, so is the part
pub part_true : (v : ℕ → Bool) (place : List ℕ) (core cube : List Lit) → cube_value v cube ≡ true → cube_value v (part_at place core cube) ≡ true
part_true v place core [] h = refl
part_true v place core (l ∷ cube) h =
    cube_taken v (has_literal core (literal_at_place place l)) l (part_at place core cube) cube (part_true v place core cube) h

part_rest : (v : ℕ → Bool) (b : Bool) (a : Lit) (part : List Lit) → cube_value v (cond b (a ∷ part) part) ≡ true → cube_value v part ≡ true
part_rest v true a part h = (and_parts (literal_value v a) (cube_value v part) h).1
part_rest v false a part h = h

part_first : (v : ℕ → Bool) (b : Bool) (a : Lit) (part : List Lit) → b ≡ true → cube_value v (cond b (a ∷ part) part) ≡ true → literal_value v a ≡ true
part_first v true a part e h = (and_parts (literal_value v a) (cube_value v part) h).0
part_first v false a part e h = absurd (false≢true e)

-- a literal of the core that is one of the cube's at the place is true where the part is
core_there : (v : ℕ → Bool) (place : List ℕ) (core cube : List Lit) (a : Lit) → All (λ l. l.var < length place) cube
    → cube_value (values_of (map v place)) (part_at place core cube) ≡ true
    → has_literal core a ≡ true → has_literal (clause_at_place place cube) a ≡ true → literal_value v a ≡ true
core_there v place core [] a over h inside there = absurd (false≢true there)
core_there v place core (l ∷ cube) a over h inside there =
    let s : ℕ → Bool = values_of (map v place) in
    elim (cases_Bool (lit_eq a (literal_at_place place l))) [
      | inl t ↦
          let is : a ≡ literal_at_place place l = lit_eq-true a (literal_at_place place l) t in
          let taken : has_literal core (literal_at_place place l) ≡ true = subst (λ x. has_literal core x ≡ true) is inside in
          ap (literal_value v) is
          ∙ literal_there v place l (All-head (λ x. x.var < length place) l cube over)
          ∙ part_first s (has_literal core (literal_at_place place l)) l (part_at place core cube) taken h
      | inr t ↦
          core_there v place core cube a (All-tail (λ x. x.var < length place) l cube over)
          (part_rest s (has_literal core (literal_at_place place l)) l (part_at place core cube) h)
          inside (sym (ap (λ x. x || has_literal (clause_at_place place cube) a) t) ∙ there)
    ]

or_cases : (a b : Bool) → (a || b) ≡ true → (a ≡ true) ⊎ (b ≡ true)
or_cases true b h = inl refl
or_cases false b h = inr h

-- a core of guards and such literals is true where the guards and the part are
each_true : (v : ℕ → Bool) (whole : List Lit) (core : List Lit) → ((a : Lit) → has_literal whole a ≡ true → literal_value v a ≡ true)
    → is_part core whole ≡ true → cube_value v core ≡ true
each_true v whole [] f h = refl
each_true v whole (a ∷ core) f h =
    let parts = and_parts (has_literal whole a) (is_part core whole) h in
    and_from _ _ (f a parts.0) (each_true v whole core f parts.1)

core_true : (v : ℕ → Bool) (place : List ℕ) (on core cube : List Lit) → All (λ l. l.var < length place) cube
    → cube_value v on ≡ true → cube_value (values_of (map v place)) (part_at place core cube) ≡ true
    → is_part core (on ++ clause_at_place place cube) ≡ true → cube_value v core ≡ true
core_true v place on core cube over guarded inside among =
    let there : List Lit = clause_at_place place cube in
    each_true v core core
    (λ a h.
    let whole : (has_literal on a || has_literal there a) ≡ true =
    sym (list_any-append (lit_eq a) on there) ∙ part_has core (on ++ there) a among h in
    elim (or_cases (has_literal on a) (has_literal there a) whole) [
      | inl x ↦ cube_value-has v on a guarded x
      | inr x ↦ core_there v place core cube a over inside h x
    ])
    (part_same core)

-- ---- lemmas and avoided cubes

or_case : (a b : Bool) → (a ≡ false → b ≡ true) → (a || b) ≡ true
or_case true b f = refl
or_case false b f = f refl

pub lemmas_read : (v : ℕ → Bool) (place : List ℕ) (n free level levels : ℕ) (lemmas : List Lemma) → length place ≡ n
    → AreBelow levels lemmas → AllByRecursion (λ lemma. IsOver n lemma.clause) lemmas
    → ((k : ℕ) → level ≤ k → k < levels → v (level_guard free k) ≡ true)
    → clauses_value v (map (lemma_clause place free) lemmas) ≡ true → meets_from lemmas level (map v place) ≡ true
lemmas_read v place n free level levels [] size below over guard h = refl
lemmas_read v place n free level levels (lemma ∷ lemmas) size below over guard h =
    let parts = and_parts (clause_value v (lemma_clause place free lemma)) (clauses_value v (map (lemma_clause place free) lemmas)) h in
    and_from _ _
    (or_case (nat_lt lemma.level level) (clause_value (values_of (map v place)) lemma.clause)
    (λ not_lower.
    let above : level ≤ lemma.level = ltb-false lemma.level level not_lower in
    sym (clause_there v place lemma.clause (over_place n place lemma.clause size over.0))
    ∙ guarded_on v (level_guard free lemma.level) (clause_at_place place lemma.clause) (guard lemma.level above below.0) parts.0))
    (lemmas_read v place n free level levels lemmas size below.1 over.1 guard parts.1)

pub lemmas_written : (v : ℕ → Bool) (place : List ℕ) (n free level : ℕ) (lemmas : List Lemma) → length place ≡ n
    → AllByRecursion (λ lemma. IsOver n lemma.clause) lemmas
    → ((k : ℕ) → v (level_guard free k) ≡ not (nat_lt k level))
    → meets_from lemmas level (map v place) ≡ true → clauses_value v (map (lemma_clause place free) lemmas) ≡ true
lemmas_written v place n free level [] size over guard h = refl
lemmas_written v place n free level (lemma ∷ lemmas) size over guard h =
    let g : ℕ = level_guard free lemma.level in
    let clause : List Lit = clause_at_place place lemma.clause in
    let parts = and_parts (nat_lt lemma.level level || clause_value (values_of (map v place)) lemma.clause) (meets_from lemmas level (map v place)) h in
    and_from _ _
    (elim (or_cases (nat_lt lemma.level level) (clause_value (values_of (map v place)) lemma.clause) parts.0) [
      | inl lower ↦ guarded_off v g clause (guard lemma.level ∙ ap not lower)
      | inr met ↦ guarded_held v g clause (clause_there v place lemma.clause (over_place n place lemma.clause size over.0) ∙ met)
    ])
    (lemmas_written v place n free level lemmas size over.1 guard parts.1)

avoided_off : (v : ℕ → Bool) (place : List ℕ) (free : ℕ) (cubes : List (List Lit)) → v (question_guard free 0) ≡ false
    → clauses_value v (map (avoid_clause place free) cubes) ≡ true
avoided_off v place free [] h = refl
avoided_off v place free (cube ∷ cubes) h =
    and_from _ _ (guarded_off v (question_guard free 0) (denied_at place cube) h) (avoided_off v place free cubes h)

-- ---- an assignment is a step

pub record Reads (st : Stepping) (free level : ℕ) (v : ℕ → Bool) : Type 0 where
  pub step : IsArenaStep st.question (situation_in st.question.circuit 0 v).position
  pub next : map v (successor_place st.question.circuit 0) ≡ successor st.question.circuit (situation_in st.question.circuit 0 v).position
  pub frame : meets_from st.lemmas level (map v (state_place st.question.circuit 0)) ≡ true
  pub block : clauses_value v (step_clauses st.question.circuit) ≡ true
  pub avoided : clauses_value v (map (avoid_clause (state_place st.question.circuit 0) free) st.avoid) ≡ true

pub step_read : (st : Stepping) (s : Questions) (level : ℕ) (v : ℕ → Bool) → IsHeldBy st s
    → IsWhole (base_clauses st.question) s.solver.added → clauses_value v s.solver.added ≡ true
    → ((k : ℕ) → level ≤ k → k < s.levels → v (level_guard s.free k) ≡ true) → Reads st s.free level v
step_read st s level v by whole h guard =
    let c = st.question.circuit in
    let place = state_place st.question.circuit 0 in
    let avoids = map (avoid_clause (state_place st.question.circuit 0) s.free) st.avoid in
    let lemmas = map (lemma_clause (state_place st.question.circuit 0) s.free) by.kept in
    let held = by.retires.fewer v (together v (base_clauses st.question) s.solver.added (whole v h) h) in
    let parts = both v (base_clauses st.question ++ avoids) lemmas held in
    let front = both v (base_clauses st.question) avoids parts.0 in
    let read = base_read c by.checked by.law st.question.view by.good st.question.start v front.0 in
    record {
      step = read.step;
      next = read.next;
      frame =
          sym (by.same level (map v (state_place st.question.circuit 0)))
          ∙ lemmas_read v place (length c.latches) s.free level s.levels by.kept (state_length c 0) by.levels by.over guard parts.1;
      block = read.block;
      avoided = front.1;
    }

-- the state of a model meets the lemmas from the level on
pub frame_read : (st : Stepping) (s : Questions) (level number : ℕ) (literals assumptions : List Lit) (v : ℕ → Bool) → IsHeldBy st s
    → clauses_value v s.solver.added ≡ true → AreAssumed s.free level s.levels number literals assumptions → cube_value v assumptions ≡ true
    → meets_from st.lemmas level (map v s.here) ≡ true
frame_read st s level number literals assumptions v by h assumed all =
    let place : List ℕ = state_place st.question.circuit 0 in
    let parts = and_parts (cube_value v assumed.guards) (cube_value v literals)
    (sym (list_all-append (literal_value v) assumed.guards literals) ∙ (ap (cube_value v) (sym assumed.all) ∙ all)) in
    let on = (assumed.on v).0 parts.0 in
    ap (λ here. meets_from st.lemmas level (map v here)) by.here
    ∙ (sym (by.same level (map v place))
    ∙ lemmas_read v place (length st.question.circuit.latches) s.free level s.levels by.kept (state_length st.question.circuit 0) by.levels by.over
    on.each (by.lemmas_held v h))

-- ---- a step is an assignment

pub record Writes (st : Stepping) (s : Questions) (level number : ℕ) (p : Position) : Type 0 where
  pub value : ℕ → Bool
  pub clauses : clauses_value value s.solver.added ≡ true
  pub here : map value (state_place st.question.circuit 0) ≡ p.latches
  pub next : map value (successor_place st.question.circuit 0) ≡ successor st.question.circuit p
  pub shows : Shows st.question.circuit 0 (record { position = p; successor = successor st.question.circuit p }) value
  pub on : IsOn s.free level s.levels number value

not_lower : (k level : ℕ) → level ≤ k → not (nat_lt k level) ≡ true
not_lower k level h = ap not (le-ltb k level h)

pub step_written : (st : Stepping) (s : Questions) (level number : ℕ) (p : Position) → IsHeldBy st s → IsArenaStep st.question p
    → meets_from st.lemmas level p.latches ≡ true
    → ((t : ℕ) → 1 ≤ t → t ≤ s.asked → t ≡ number → ⊥)
    → ((v : ℕ → Bool) → map v (state_place st.question.circuit 0) ≡ p.latches → v (question_guard s.free 0) ≡ (0 == number)
    → clauses_value v (map (avoid_clause (state_place st.question.circuit 0) s.free) st.avoid) ≡ true)
    → Writes st s level number p
step_written st s level number p by step frame other avoids =
    let c = st.question.circuit in
    let place : List ℕ = state_place st.question.circuit 0 in
    let lv : ℕ → Bool = λ k. not (nat_lt k level) in
    let qs : ℕ → Bool = λ t. t == number in
    let w = base_written c by.checked by.law st.question.view by.good st.question.start p (guards lv qs) step in
    let v : ℕ → Bool = w.value in
    let guard : (i : ℕ) → v (s.free + i) ≡ guards lv qs i = λ i. ap (λ n. v (n + i)) by.free ∙ w.guard i in
    let levels : (k : ℕ) → v (level_guard s.free k) ≡ not (nat_lt k level) = level_value v lv qs s.free guard in
    let questions : (t : ℕ) → v (question_guard s.free t) ≡ (t == number) = question_value v lv qs s.free guard in
    let avoided = map (avoid_clause (state_place st.question.circuit 0) s.free) st.avoid in
    let lemmas = map (lemma_clause (state_place st.question.circuit 0) s.free) by.kept in
    let held : clauses_value v (held_clauses (keeping st by.kept) s.free) ≡ true =
    together v (base_clauses st.question ++ avoided) lemmas
    (together v (base_clauses st.question) avoided w.base (avoids v w.here (questions 0)))
    (lemmas_written v place (length c.latches) s.free level by.kept (state_length c 0) by.over levels
    (ap (meets_from by.kept level) w.here ∙ (by.same level p.latches ∙ frame)))
    in
    record {
      value = v;
      clauses =
          (both v (base_clauses st.question) s.solver.added
          (by.retires.more v held (λ t low high. questions t ∙ ne_eqb t number (other t low high)))).1;
      here = w.here;
      next = w.next;
      shows = w.shows;
      on = record {
        each = λ k above below. levels k ∙ not_lower k level above;
        question = questions number ∙ eq-eqb number number refl;
      };
    }

-- ---- steps into a cube

pub found_step : (st : Stepping) (s : Questions) (level : ℕ) (cube : List Lit) (v : ℕ → Bool) → IsHeldBy st s
    → IsWhole (base_clauses st.question) s.solver.added → IsOver (length st.question.circuit.latches) cube → ModelInto s level cube v
    → IsPredecessor st level cube (situation_in st.question.circuit 0 v).position
found_step st s level cube v by whole over answers =
    let c = st.question.circuit in
    let model = answers.model in
    let guarded_by : List Lit = answers.assumed.guards in
    let there : List Lit = clause_at_place s.next cube in
    let parts = both v s.solver.added (question_clause s cube ∷ []) model.clauses in
    let assumed = and_parts (cube_value v guarded_by) (cube_value v there)
    (sym (list_all-append (literal_value v) guarded_by there) ∙ (ap (cube_value v) (sym answers.assumed.all) ∙ model.assumed)) in
    let on = (answers.assumed.on v).0 assumed.0 in
    let read = step_read st s level v by whole parts.0 on.each in
    let denied : clause_value v (denied_at s.here cube) ≡ true =
    guarded_on v (question_guard s.free (s.asked + 1)) (denied_at s.here cube) on.question
    (and_parts (clause_value v (question_clause s cube)) true parts.1).0
    in
    record {
      step = read.step;
      frame = read.frame;
      outside =
          not_true (cube_value (values_of (map v (state_place c 0))) cube)
          (sym (denied_there v (state_place c 0) cube (over_place (length c.latches) (state_place c 0) cube (state_length c 0) over))
          ∙ (ap (λ place. clause_value v (denied_at place cube)) (sym by.here) ∙ denied));
      inside =
          ap (λ t. cube_value (values_of t) cube) (sym read.next)
          ∙ (sym (cube_there v (successor_place c 0) cube (over_place (length c.latches) (successor_place c 0) cube (successor_length c 0) over))
          ∙ (ap (λ place. cube_value v (clause_at_place place cube)) (sym by.next) ∙ assumed.1));
    }

false_part : (v : ℕ → Bool) (place : List ℕ) (core cube : List Lit) → cube_value v (part_at place core cube) ≡ false → cube_value v cube ≡ false
false_part v place core cube h = elim (cases_Bool (cube_value v cube)) [
  | inl t ↦ absurd (false≢true (sym h ∙ part_true v place core cube t))
  | inr f ↦ f
]

none_into : (st : Stepping) (s : Questions) (level : ℕ) (cube core : List Lit) → IsHeldBy st s
    → IsOver (length st.question.circuit.latches) cube
    → (assumptions : List Lit) → AreAssumed s.free level s.levels (s.asked + 1) (clause_at_place s.next cube) assumptions
    → is_part core assumptions ≡ true
    → ((v : ℕ → Bool) → IsModel (s.solver.added ++ question_clause s cube ∷ []) core v → ⊥)
    → (p : Position) → EntersFrom st level cube (part_at s.next core cube) p → ⊥
none_into st s level cube core by over assumptions assumed among refused p enters =
    let c = st.question.circuit in
    let w = step_written st s level (s.asked + 1) p by enters.step enters.frame (λ t low high is. omega arith)
    (λ v here off. avoided_off v (state_place c 0) s.free st.avoid (off ∙ ne_eqb 0 (s.asked + 1) (λ e. omega arith)))
    in
    let v : ℕ → Bool = w.value in
    let outside : cube_value (values_of (map v (state_place c 0))) cube ≡ false = ap (λ x. cube_value (values_of x) cube) w.here ∙ enters.outside in
    let denied : clause_value v (denied_at s.here cube) ≡ true =
    ap (λ place. clause_value v (denied_at place cube)) by.here
    ∙ (denied_there v (state_place c 0) cube (over_place (length c.latches) (state_place c 0) cube (state_length c 0) over)
    ∙ ap not outside)
    in
    let inside : cube_value (values_of (map v s.next)) (part_at s.next core cube) ≡ true =
    ap (λ place. cube_value (values_of (map v place)) (part_at s.next core cube)) by.next
    ∙ (ap (λ x. cube_value (values_of x) (part_at s.next core cube)) w.next ∙ enters.inside)
    in
    let size : length s.next ≡ length c.latches = ap length by.next ∙ successor_length c 0 in
    let there : is_part core (assumed.guards ++ clause_at_place s.next cube) ≡ true = ap (λ xs. is_part core xs) (sym assumed.all) ∙ among in
    refused v (record {
      clauses =
          together v s.solver.added (question_clause s cube ∷ []) w.clauses
          (one_clause v (question_clause s cube) (guarded_held v (question_guard s.free (s.asked + 1)) (denied_at s.here cube) denied));
      assumed =
          core_true v s.next assumed.guards core cube (over_place (length c.latches) s.next cube size over)
          ((assumed.on v).1 w.on) inside there;
    })

pub found_missing : (st : Stepping) (s : Questions) (level : ℕ) (cube core : List Lit) → IsHeldBy st s
    → IsOver (length st.question.circuit.latches) cube → CoreInto s level cube core
    → IsMissing st level cube (part_at s.next core cube)
found_missing st s level cube core by over answers =
    let none = none_into st s level cube core by over answers.assumptions answers.assumed answers.core.among answers.core.refused in
    record {
      among = part_among s.next core cube;
      none = none;
      of_cube =
          λ p e.
          none p (record {
            step = e.step;
            frame = e.frame;
            outside = e.outside;
            inside = part_true (values_of (successor st.question.circuit p)) s.next core cube e.inside;
          });
      of_part =
          λ p e.
          none p (record {
            step = e.step;
            frame = e.frame;
            outside = false_part (values_of p.latches) s.next core cube e.outside;
            inside = e.inside;
          });
    }
