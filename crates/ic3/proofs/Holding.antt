-- What the solver of a search keeps, from call to call, and what its calls tell.
use Rattle.std.proofs.Common.{◌≡◌, ℕ, ◌<◌, ◌≤◌, ◌&&◌, ◌||◌, nat_lt, Bool, true, List, [], ◌∷◌, ◌++◌, map, length, Option, Some, None, Result, Ok, Err, IfOk, refl, sym, ap, subst, ◌∙◌, inl, inr, arith, append-nil, append_assoc}
use Rattle.std.specs.List.{AllByRecursion, list_all}
use Rattle.std.proofs.lemmas.List.Folds.{list_all-append}
use Rattle.aig_semantics.specs.declared.traces.Position.{Position}
use Rattle.aig_semantics.specs.Circuits.{IsChecked}
use Rattle.aig_semantics.specs.Valuations.{HasOneValuation}
use Rattle.proof_semantics.specs.declared.literals.Lit.{Lit}
use Rattle.proof_semantics.specs.Clauses.{clause_value, clauses_value, values_of}
use Rattle.edge.specs.declared.solve_end.SolveEnd.{SolveEnd}
use Rattle.cnf_unroll.specs.Numbers.{state_place, successor_place, clause_at_place, literal_in_block}
use Rattle.cnf_unroll.specs.Laws.{AreOver}
use Rattle.entry.specs.Laws.{IsGoodList}
use Rattle.ic3_semantics.specs.Searching.{Question}
use Rattle.ic3_semantics.specs.Stepping.{Stepping, no_lemmas, with_lemma, IsOver, IsPredecessor, IsMissing, IsFound, MeetsFrom, IsGoalFound}
use Rattle.ic3_questions.specs.SteppingClauses.{base_clauses, first_guard, level_guard, guarded, avoid_clause, lemma_clause, held_clauses, Retires, AreBelow}
use Rattle.ic3.specs.SteppingInside.{MeetAlike, keeping, IsHeldBy, IsHeldWith, KeepsNumbers, Keeps, Grows, IsWhole, Holds, MayHold, TellsInto, TellsGoal, TellsLiteral}
use Rattle.ic3_semantics.specs.declared.lemmas.Lemma.{Lemma}
use Rattle.ic3_semantics.specs.declared.found.Found.{Found}
use Rattle.ic3_semantics.specs.declared.found.Found.TheVariants.{Step, Missing}
use Rattle.ic3.specs.declared.stepping_questions.Questions.{Questions}
use Rattle.cnf_unroll.proofs.Truth.{both, together}
use Rattle.ic3.proofs.Guards.{retires_more, behind}
use Rattle.ic3.proofs.FoundLaws.{found_step, found_missing}
use Rattle.ic3.proofs.GoalLaws.{Says, says_read, says_negated, goal_found, goal_none, never_met}

-- ---- at the beginning

retires_begun : (base front avoids : List (List Lit)) (free asked : ℕ) → Grows base [] front
    → Retires (base ++ (front ++ avoids)) (base ++ avoids) free asked
retires_begun base front avoids free asked grows = record {
  fewer =
      λ v h.
      let parts = both v base (front ++ avoids) h in
      together v base avoids parts.0 (both v front avoids parts.1).1;
  more =
      λ v h offs.
      let parts = both v base avoids h in
      together v base (front ++ avoids) parts.0 (together v front avoids (grows.more v parts.0 refl) parts.1);
}

pub begun_held : (q : Question) (avoid front : List (List Lit)) (s : Questions) → IsChecked q.circuit → HasOneValuation q.circuit
    → IsGoodList q.circuit q.view → AreOver (length q.circuit.latches) avoid
    → s.here ≡ state_place q.circuit 0 → s.next ≡ successor_place q.circuit 0 → s.free ≡ first_guard q
    → Grows (base_clauses q) [] front → s.solver.added ≡ front ++ map (avoid_clause (state_place q.circuit 0) s.free) avoid
    → IsHeldBy (no_lemmas q avoid) s
begun_held q avoid front s checked law good over here next free grows added =
    let avoids : List (List Lit) = map (avoid_clause (state_place q.circuit 0) s.free) avoid in
    record {
      kept = [];
      same = λ level state. refl;
      checked = checked;
      law = law;
      good = good;
      here = here;
      next = next;
      free = free;
      levels = tt;
      over = tt;
      lemmas = tt;
      avoid = over;
      lemmas_held = λ v h. refl;
      retires =
          subst (λ cs. Retires (base_clauses q ++ cs) (held_clauses (no_lemmas q avoid) s.free) s.free s.asked) (sym added)
          (subst (λ held. Retires (base_clauses q ++ (front ++ avoids)) held s.free s.asked) (sym (append-nil (base_clauses q ++ avoids)))
          (retires_begun (base_clauses q) front avoids s.free s.asked grows));
    }

-- ---- after clauses of the base

retires_grown : (base old new held : List (List Lit)) (free asked : ℕ) → Grows base old new → Retires (base ++ old) held free asked
    → Retires (base ++ new) held free asked
retires_grown base old new held free asked grows r = record {
  fewer = λ v h. let parts = both v base new h in r.fewer v (together v base old parts.0 (grows.fewer v parts.1));
  more =
      λ v h offs.
      let parts = both v base old (r.more v h offs) in
      together v base new parts.0 (grows.more v parts.0 parts.1);
}

pub grown_held : (st : Stepping) (old new : Questions) → IsHeldBy st old → KeepsNumbers old new → new.asked ≡ old.asked
    → Grows (base_clauses st.question) old.solver.added new.solver.added → IsHeldBy st new
grown_held st old new by numbers asked grows = record {
  kept = by.kept;
  same = by.same;
  checked = by.checked;
  law = by.law;
  good = by.good;
  here = numbers.here ∙ by.here;
  next = numbers.next ∙ by.next;
  free = numbers.free ∙ by.free;
  levels = subst (λ n. AreBelow n by.kept) (sym numbers.levels) by.levels;
  over = by.over;
  lemmas = by.lemmas;
  avoid = by.avoid;
  lemmas_held =
      λ v h.
      subst (λ f. clauses_value v (map (lemma_clause (state_place st.question.circuit 0) f) by.kept) ≡ true) (sym numbers.free)
      (by.lemmas_held v (grows.fewer v h));
  retires =
      subst (λ f. Retires (base_clauses st.question ++ new.solver.added) (held_clauses (keeping st by.kept) f) f new.asked) (sym numbers.free)
      (subst (λ n. Retires (base_clauses st.question ++ new.solver.added) (held_clauses (keeping st by.kept) old.free) old.free n) (sym asked)
      (retires_grown (base_clauses st.question) old.solver.added new.solver.added (held_clauses (keeping st by.kept) old.free) old.free old.asked grows by.retires));
}

-- ---- after a question

-- what clauses of questions left implies what was there
keeps_all : (old new : Questions) → Keeps old new → (v : ℕ → Bool) → clauses_value v new.solver.added ≡ true
    → clauses_value v old.solver.added ≡ true
keeps_all old new keeps =
    (keeps.retires [] old.solver.added (record { fewer = λ v h. h; more = λ v h offs. h })).fewer

pub still_held : (st : Stepping) (old new : Questions) → IsHeldBy st old → Keeps old new → IsHeldBy st new
still_held st old new by keeps = record {
  kept = by.kept;
  same = by.same;
  checked = by.checked;
  law = by.law;
  good = by.good;
  here = keeps.numbers.here ∙ by.here;
  next = keeps.numbers.next ∙ by.next;
  free = keeps.numbers.free ∙ by.free;
  levels = subst (λ n. AreBelow n by.kept) (sym keeps.numbers.levels) by.levels;
  over = by.over;
  lemmas = by.lemmas;
  avoid = by.avoid;
  lemmas_held =
      λ v h.
      subst (λ f. clauses_value v (map (lemma_clause (state_place st.question.circuit 0) f) by.kept) ≡ true) (sym keeps.numbers.free)
      (by.lemmas_held v (keeps_all old new keeps v h));
  retires =
      keeps.retires (base_clauses st.question) (held_clauses (keeping st by.kept) new.free)
      (subst (λ f. Retires (base_clauses st.question ++ old.solver.added) (held_clauses (keeping st by.kept) f) old.free old.asked) (sym keeps.numbers.free)
      by.retires);
}

-- ---- with the base beside it

pub after_growth : (st : Stepping) (base : List (List Lit)) (old new : Questions) → IsHeldWith st base old → KeepsNumbers old new
    → new.asked ≡ old.asked → Grows base old.solver.added new.solver.added → IsHeldWith st base new
after_growth st base old new held numbers asked grows = record {
  whole = held.whole;
  by =
      grown_held st old new held.by numbers asked
      (subst (λ all. Grows all old.solver.added new.solver.added) held.whole grows);
}

pub after_question : (st : Stepping) (base : List (List Lit)) (old new : Questions) → IsHeldWith st base old → Keeps old new
    → IsHeldWith st base new
after_question st base old new held keeps = record { whole = held.whole; by = still_held st old new held.by keeps }

-- ---- after a lemma

all_push : (P : Lemma → Type 0) (lemmas : List Lemma) (lemma : Lemma) → AllByRecursion P lemmas → P lemma → AllByRecursion P (lemmas ++ lemma ∷ [])
all_push P [] lemma h last = (last, tt)
all_push P (first ∷ lemmas) lemma h last = (h.0, all_push P lemmas lemma h.1 last)

all_below : (low high : ℕ) → low ≤ high → (lemmas : List Lemma) → AreBelow low lemmas → AreBelow high lemmas
all_below low high le [] h = tt
all_below low high le (lemma ∷ lemmas) h = (let x : lemma.level < low = h.0 in omega arith, all_below low high le lemmas h.1)

map_push : (place : List ℕ) (free : ℕ) (lemmas : List Lemma) (lemma : Lemma)
    → map (lemma_clause place free) (lemmas ++ lemma ∷ []) ≡ map (lemma_clause place free) lemmas ++ lemma_clause place free lemma ∷ []
map_push place free [] lemma = refl
map_push place free (first ∷ lemmas) lemma = ap (λ xs. lemma_clause place free first ∷ xs) (map_push place free lemmas lemma)

held_more : (st : Stepping) (free level : ℕ) (clause : List Lit)
    → held_clauses (with_lemma st level clause) free
    ≡ held_clauses st free ++ guarded (level_guard free level) (clause_at_place (state_place st.question.circuit 0) clause) ∷ []
held_more st free level clause =
    let place : List ℕ = state_place st.question.circuit 0 in
    let front : List (List Lit) = base_clauses st.question ++ map (avoid_clause (state_place st.question.circuit 0) free) st.avoid in
    let lemma : Lemma = record { level = level; clause = clause } in
    ap (λ xs. front ++ xs) (map_push place free st.lemmas lemma)
    ∙ sym (append_assoc front (map (lemma_clause (state_place st.question.circuit 0) free) st.lemmas) (lemma_clause place free lemma ∷ []))

same_more : (these those : List Lemma) (lemma : Lemma) → MeetAlike these those → MeetAlike (these ++ lemma ∷ []) (those ++ lemma ∷ [])
same_more these those lemma same = λ level state.
    let f : Lemma → Bool = λ x. nat_lt x.level level || clause_value (values_of state) x.clause in
    list_all-append f these (lemma ∷ [])
    ∙ (ap (λ b. b && list_all f (lemma ∷ [])) (same level state)
    ∙ sym (list_all-append f those (lemma ∷ [])))

pub more_held : (st : Stepping) (old new : Questions) (level : ℕ) (clause : List Lit) → IsHeldBy st old
    → IsOver (length st.question.circuit.latches) clause → Holds level clause old new → IsHeldBy (with_lemma st level clause) new
more_held st old new level clause by over h =
    let lemma : Lemma = record { level = level; clause = clause } in
    let few : Stepping = keeping st by.kept in
    let added : new.solver.added ≡ old.solver.added ++ guarded (level_guard old.free level) (clause_at_place (state_place st.question.circuit 0) clause) ∷ [] =
    h.added ∙ ap (λ here. old.solver.added ++ guarded (level_guard old.free level) (clause_at_place here clause) ∷ []) by.here
    in
    let held : List Lit = guarded (level_guard old.free level) (clause_at_place (state_place st.question.circuit 0) clause) in
    let base : List (List Lit) = base_clauses st.question in
    let more : Retires (base_clauses st.question ++ new.solver.added) (held_clauses (with_lemma few level clause) old.free) old.free old.asked =
    subst (λ cs. Retires (base ++ cs) (held_clauses (with_lemma few level clause) old.free) old.free old.asked) (sym added)
    (behind base old.solver.added (held ∷ []) (held_clauses (with_lemma few level clause) old.free) old.free old.asked
    (subst (λ all. Retires ((base ++ old.solver.added) ++ held ∷ []) all old.free old.asked) (sym (held_more few old.free level clause))
    (retires_more (base ++ old.solver.added) (held_clauses few old.free) (held ∷ []) old.free old.asked by.retires)))
    in
    record {
      kept = by.kept ++ lemma ∷ [];
      same = same_more by.kept st.lemmas lemma by.same;
      checked = by.checked;
      law = by.law;
      good = by.good;
      here = h.here ∙ by.here;
      next = h.next ∙ by.next;
      free = h.free ∙ by.free;
      levels = all_push (λ x. x.level < new.levels) by.kept lemma (all_below old.levels new.levels h.levels by.kept by.levels) h.below;
      over = all_push (λ x. IsOver (length st.question.circuit.latches) x.clause) by.kept lemma by.over over;
      lemmas = all_push (λ x. IsOver (length st.question.circuit.latches) x.clause) st.lemmas lemma by.lemmas over;
      avoid = by.avoid;
      lemmas_held =
          λ v all.
          let parts = both v old.solver.added (held ∷ []) (subst (λ cs. clauses_value v cs ≡ true) added all) in
          subst (λ f. clauses_value v (map (lemma_clause (state_place st.question.circuit 0) f) (by.kept ++ lemma ∷ [])) ≡ true) (sym h.free)
          (subst (λ cs. clauses_value v cs ≡ true) (sym (map_push (state_place st.question.circuit 0) old.free by.kept lemma))
          (together v (map (lemma_clause (state_place st.question.circuit 0) old.free) by.kept) (held ∷ [])
          (by.lemmas_held v parts.0) parts.1));
      retires =
          subst (λ n. Retires (base_clauses st.question ++ new.solver.added) (held_clauses (with_lemma few level clause) new.free) new.free n) (sym h.asked)
          (subst (λ f. Retires (base_clauses st.question ++ new.solver.added) (held_clauses (with_lemma few level clause) f) f old.asked) (sym h.free) more);
    }

pub may_held : (st : Stepping) (old new : Questions) (level : ℕ) (clause : List Lit) (lemmas : List Lemma) → IsHeldBy st old
    → IsOver (length st.question.circuit.latches) clause → MayHold level clause st.lemmas lemmas old new
    → IsHeldBy (record { question = st.question; avoid = st.avoid; lemmas = lemmas }) new
may_held st old new level clause lemmas by over (inl h) =
    subst (λ xs. IsHeldBy (record { question = st.question; avoid = st.avoid; lemmas = xs }) new) (sym h.0)
    (more_held st old new level clause by over h.1)
may_held st old new level clause lemmas by over (inr h) =
    subst (λ xs. IsHeldBy (record { question = st.question; avoid = st.avoid; lemmas = xs }) new) (sym h.0)
    (subst (λ s. IsHeldBy st s) (sym h.1) by)

-- ---- what calls tell

pub tells_found : (st : Stepping) (base : List (List Lit)) (s : Questions) (level : ℕ) (cube : List Lit) (r : Result Found SolveEnd)
    → IsHeldWith st base s → IsWhole base s.solver.added → IsOver (length st.question.circuit.latches) cube
    → IfOk r (TellsInto s st.question.circuit level cube) → IfOk r (IsFound st level cube)
tells_found st base s level cube (Ok (Step p)) held whole over tells =
    subst (IsPredecessor st level cube) (sym tells.2)
    (found_step st s level cube tells.0 held.by (subst (λ all. IsWhole all s.solver.added) held.whole whole) over tells.1)
tells_found st base s level cube (Ok (Missing part)) held whole over tells =
    subst (IsMissing st level cube) (sym tells.2) (found_missing st s level cube tells.0 held.by over tells.1)
tells_found st base s level cube (Err e) held whole over tells = tt

says_found : (st : Stepping) (s : Questions) (level literal : ℕ) (literals : List Lit) (found : Option Position) → IsHeldBy st s
    → IsWhole (base_clauses st.question) s.solver.added → Says st.question.circuit literal literals → TellsGoal s st.question.circuit level literals found → IsGoalFound st level literal found
says_found st s level literal literals (Some p) by whole says tells =
    subst (MeetsFrom st level literal) (sym tells.2) (goal_found st s level literal literals tells.0 by whole says tells.1)
says_found st s level literal literals None by whole says tells = goal_none st s level literal literals by says tells

tells_literal : (st : Stepping) (s : Questions) (level literal : ℕ) (found : Option Position) → IsHeldBy st s
    → IsWhole (base_clauses st.question) s.solver.added → TellsLiteral s st.question.circuit level literal found → IsGoalFound st level literal found
tells_literal st s level literal found by whole (inl h) =
    says_found st s level literal (literal_in_block 0 literal ∷ []) found by whole
    (says_read st.question.circuit by.checked by.law literal h.0) h.1
tells_literal st s level literal found by whole (inr (inl h)) =
    says_found st s level literal [] found by whole (says_negated st.question.circuit by.checked by.law literal h.0 h.1.0) h.1.1
tells_literal st s level literal found by whole (inr (inr h)) =
    subst (IsGoalFound st level literal) (sym h.1.1) (never_met st s level literal by h.0 h.1.0)

pub tells_goal : (st : Stepping) (base : List (List Lit)) (s : Questions) (level literal : ℕ) (r : Result (Option Position) SolveEnd)
    → IsHeldWith st base s → IsWhole base s.solver.added → IfOk r (TellsLiteral s st.question.circuit level literal)
    → IfOk r (IsGoalFound st level literal)
tells_goal st base s level literal (Ok found) held whole tells =
    tells_literal st s level literal found held.by (subst (λ all. IsWhole all s.solver.added) held.whole whole) tells
tells_goal st base s level literal (Err e) held whole tells = tt
