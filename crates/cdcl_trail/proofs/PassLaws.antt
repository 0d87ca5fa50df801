-- Laws of passes over the clauses, and of what propagation adds.
use Rattle.std.proofs.Common.{◌≡◌, ℕ, zero, suc, ◌+◌, ◌-◌, ◌<◌, ◌≤◌, Bool, true, false, cond, eqb, List, [], ◌∷◌, ◌++◌, Option, Some, None, refl, ap, sym, subst, ◌∙◌, inl, inr, arith, append_assoc}
use Rattle.std.specs.Prelude.{slice_get}
use Rattle.std.specs.List.{list_any}
use Rattle.std.specs.Option.{option_map}
use Rattle.std.proofs.lemmas.List.{append-nil}
use Rattle.std.proofs.lemmas.Bool.{false≢true, and_parts, cond-true, cond-false, ne_eqb, eq-eqb}
use Rattle.std.proofs.lemmas.Option.{none-some, same_Some}
use Rattle.proof_semantics.specs.declared.literals.Lit.{Lit}
use Rattle.proof_semantics.proofs.LiteralLaws.{bool_eq-same}
use Rattle.cdcl_trail.specs.Trails.{Step, step, opened_by, step_of, value_of, level}
use Rattle.cdcl_trail.specs.Propagation.{is_value, is_true, is_falsified, is_unit_for, is_complete, IsConflict, IsForced, AreForced, Propagates}
use Rattle.cnf.specs.Clauses.{clause_numbered}
use Rattle.cdcl_trail.specs.Measure.{unsatisfied}
use Rattle.cdcl_trail.proofs.TrailLaws.{either, not-true, or_neither}
use Rattle.cdcl_trail.proofs.ScanLaws.{any_gives, any_has, unit_true, unvalued, untrue}

-- Values stay when a step comes.

pub step_stays : (steps : List Step) (s : Step) (v : ℕ) (x : Step) → step_of steps v ≡ Some x → step_of (steps ++ s ∷ []) v ≡ Some x
step_stays [] s v x e = absurd (none-some x e)
step_stays (y ∷ steps) s v x e =
    elim (either (eqb y.literal.var v)) [
      | inl same ↦ cond-true (eqb y.literal.var v) (Some y) (step_of (steps ++ s ∷ []) v) same ∙ sym (cond-true (eqb y.literal.var v) (Some y) (step_of steps v) same) ∙ e
      | inr differs ↦ cond-false (eqb y.literal.var v) (Some y) (step_of (steps ++ s ∷ []) v) differs ∙ step_stays steps s v x (sym (cond-false (eqb y.literal.var v) (Some y) (step_of steps v) differs) ∙ e)
    ]

pub step_comes : (steps : List Step) (s : Step) → step_of steps s.literal.var ≡ None → step_of (steps ++ s ∷ []) s.literal.var ≡ Some s
step_comes [] s fresh = cond-true (eqb s.literal.var s.literal.var) (Some s) None (eq-eqb s.literal.var s.literal.var refl)
step_comes (y ∷ steps) s fresh =
    elim (either (eqb y.literal.var s.literal.var)) [
      | inl same ↦ absurd (none-some y (sym fresh ∙ cond-true (eqb y.literal.var s.literal.var) (Some y) (step_of steps s.literal.var) same))
      | inr differs ↦
          cond-false (eqb y.literal.var s.literal.var) (Some y) (step_of (steps ++ s ∷ []) s.literal.var) differs
          ∙ step_comes steps s (sym (cond-false (eqb y.literal.var s.literal.var) (Some y) (step_of steps s.literal.var) differs) ∙ fresh)
    ]

value_stays : (steps : List Step) (s : Step) (v : ℕ) (b : Bool) (o : Option Step) → step_of steps v ≡ o → is_value (value_of steps v) b ≡ true
    → is_value (value_of (steps ++ s ∷ []) v) b ≡ true
value_stays steps s v b None is e = absurd (false≢true (sym (ap (λ p. is_value (option_map (λ (s : Step). s.literal.positive) p) b) is) ∙ e))
value_stays steps s v b (Some x) is e =
    ap (λ p. is_value (option_map (λ (s : Step). s.literal.positive) p) b) (step_stays steps s v x is ∙ sym is) ∙ e

true_stays : (steps : List Step) (s : Step) (a : Lit) → is_true steps a ≡ true → is_true (steps ++ s ∷ []) a ≡ true
true_stays steps s a e = value_stays steps s a.var a.positive (step_of steps a.var) refl e

satisfied_stays : (steps : List Step) (s : Step) (clause : List Lit) → list_any (is_true steps) clause ≡ true → list_any (is_true (steps ++ s ∷ [])) clause ≡ true
satisfied_stays steps s clause e =
    let found = any_gives (is_true steps) clause e in
    any_has (is_true (steps ++ s ∷ [])) clause found.0 found.1 (true_stays steps s found.0 found.2)

-- The measure: clauses without a true literal.

count_step : (b c : Bool) (m n : ℕ) → (b ≡ true → c ≡ true) → n ≤ m → cond c n (n + 1) ≤ cond b m (m + 1)
count_step true true m n h le = le
count_step true false m n h le = absurd (false≢true (h refl))
count_step false true m n h le = omega (arith, le)
count_step false false m n h le = omega (arith, le)

count_step_less : (b c : Bool) (m n : ℕ) → (b ≡ true → c ≡ true) → n < m → cond c n (n + 1) < cond b m (m + 1)
count_step_less true true m n h le = le
count_step_less true false m n h le = absurd (false≢true (h refl))
count_step_less false true m n h le = omega (arith, le)
count_step_less false false m n h le = omega (arith, le)

count_here : (b c : Bool) (m n : ℕ) → b ≡ false → c ≡ true → n ≤ m → cond c n (n + 1) < cond b m (m + 1)
count_here true c m n e f le = absurd (false≢true (sym e))
count_here false true m n e f le = omega (arith, le)
count_here false false m n e f le = absurd (false≢true f)

pub unsatisfied_falls : (clauses : List (List Lit)) (steps : List Step) (s : Step) → unsatisfied clauses (steps ++ s ∷ []) ≤ unsatisfied clauses steps
unsatisfied_falls [] steps s = omega arith
unsatisfied_falls (clause ∷ clauses) steps s =
    count_step (list_any (is_true steps) clause) (list_any (is_true (steps ++ s ∷ [])) clause) _ _ (satisfied_stays steps s clause) (unsatisfied_falls clauses steps s)

pub unsatisfied_less : (clauses : List (List Lit)) (i : ℕ) (steps : List Step) (s : Step) (clause : List Lit) → slice_get clauses i ≡ Some clause
    → list_any (is_true steps) clause ≡ false → list_any (is_true (steps ++ s ∷ [])) clause ≡ true → unsatisfied clauses (steps ++ s ∷ []) < unsatisfied clauses steps
unsatisfied_less [] i steps s clause is before after = absurd (none-some clause is)
unsatisfied_less (c ∷ clauses) zero steps s clause is before after =
    let same : c ≡ clause = same_Some c clause is in
    count_here (list_any (is_true steps) c) (list_any (is_true (steps ++ s ∷ [])) c) _ _ (ap (list_any (is_true steps)) same ∙ before)
    (ap (list_any (is_true (steps ++ s ∷ []))) same ∙ after) (unsatisfied_falls clauses steps s)
unsatisfied_less (c ∷ clauses) (suc i) steps s clause is before after =
    count_step_less (list_any (is_true steps) c) (list_any (is_true (steps ++ s ∷ [])) c) _ _ (satisfied_stays steps s c) (unsatisfied_less clauses i steps s clause is before after)

pub no_step : (o : Option Step) → option_map (λ (s : Step). s.literal.positive) o ≡ None → o ≡ None
no_step None e = refl
no_step (Some s) e = absurd (none-some s.literal.positive (sym e))

pub unit_unvalued : (steps : List Step) (clause : List Lit) (u : Lit) → is_unit_for steps clause u ≡ true → value_of steps u.var ≡ None
unit_unvalued steps clause u unit = unvalued _ (and_parts _ _ (and_parts _ _ unit).1).0

pub unit_counts : (clauses : List (List Lit)) (i : ℕ) (steps : List Step) (clause : List Lit) (u : Lit) (number : ℕ) → slice_get clauses i ≡ Some clause
    → is_unit_for steps clause u ≡ true → unsatisfied clauses (steps ++ step u (Some number) ∷ []) < unsatisfied clauses steps
unit_counts clauses i steps clause u number is unit =
    let s = step u (Some number) in
    unsatisfied_less clauses i steps s clause is
    (untrue _ (λ e. let found = any_gives (is_true steps) clause e in unit_true steps clause u found.0 unit found.1 found.2))
    (any_has (is_true (steps ++ s ∷ [])) clause u (and_parts _ _ unit).0
    (ap (λ p. is_value (option_map (λ (s : Step). s.literal.positive) p) u.positive) (step_comes steps s (no_step _ (unit_unvalued steps clause u unit))) ∙ bool_eq-same u.positive))

-- What propagation adds.

pub propagates_none : (clauses : List (List Lit)) (steps : List Step) → Propagates clauses steps steps
propagates_none clauses steps = record { added = []; behind = sym (append-nil steps); reasons = tt }

forced_append : (clauses : List (List Lit)) (before xs ys : List Step) → AreForced clauses before xs → AreForced clauses (before ++ xs) ys → AreForced clauses before (xs ++ ys)
forced_append clauses before [] ys first later = subst (λ b. AreForced clauses b ys) (append-nil before) later
forced_append clauses before (x ∷ xs) ys first later =
    (first.0, forced_append clauses (before ++ x ∷ []) xs ys first.1 (subst (λ b. AreForced clauses b ys) (sym (append_assoc before (x ∷ []) xs)) later))

pub propagates_more : (clauses : List (List Lit)) (a b c : List Step) → Propagates clauses a b → Propagates clauses b c → Propagates clauses a c
propagates_more clauses a b c first later = record {
  added = first.added ++ later.added;
  behind = later.behind ∙ ap (λ xs. xs ++ later.added) first.behind ∙ append_assoc a first.added later.added;
  reasons = forced_append clauses a first.added later.added first.reasons (subst (λ xs. AreForced clauses xs later.added) first.behind later.reasons);
}

pub propagates_one : (clauses : List (List Lit)) (steps : List Step) (s : Step) → IsForced clauses steps s → Propagates clauses steps (steps ++ s ∷ [])
propagates_one clauses steps s is_forced = record { added = s ∷ []; behind = refl; reasons = (is_forced, tt) }

opened_none : (r : Option ℕ) (n : ℕ) → r ≡ Some n → opened_by r ≡ 0
opened_none None n e = absurd (none-some n e)
opened_none (Some m) n e = refl

pub forced_level : (clauses : List (List Lit)) (before xs : List Step) → AreForced clauses before xs → level xs ≡ 0
forced_level clauses before [] all = refl
forced_level clauses before (x ∷ xs) all =
    omega (arith, opened_none x.reason all.0.number all.0.reason, forced_level clauses (before ++ x ∷ []) xs all.1)

pub level-append : (xs ys : List Step) → level (xs ++ ys) ≡ level xs + level ys
level-append [] ys = omega arith
level-append (x ∷ xs) ys = omega (arith, level-append xs ys)

pub propagates_level : (clauses : List (List Lit)) (a b : List Step) → Propagates clauses a b → level b ≡ level a
propagates_level clauses a b p =
    ap level p.behind ∙ omega (arith, level-append a p.added, forced_level clauses a p.added p.reasons)

-- Numbers of clauses.

pub numbered_at : (clauses : List (List Lit)) (i : ℕ) (clause : List Lit) → slice_get clauses i ≡ Some clause → clause_numbered clauses (i + 1) ≡ Some clause
numbered_at clauses i clause is =
    cond-false (eqb (i + 1) 0) None (slice_get clauses (i + 1 - 1)) (ne_eqb (i + 1) 0 (λ e. omega (arith, e)))
    ∙ ap (slice_get clauses) (omega arith) ∙ is

pub forced_at : (clauses : List (List Lit)) (i : ℕ) (steps : List Step) (clause : List Lit) (u : Lit) → slice_get clauses i ≡ Some clause
    → is_unit_for steps clause u ≡ true → IsForced clauses steps (step u (Some (i + 1)))
forced_at clauses i steps clause u is unit = record { number = i + 1; reason = refl; clause = clause; held = numbered_at clauses i clause is; left = unit }

pub complete_at : (clauses : List (List Lit)) (i : ℕ) (steps : List Step) (clause : List Lit) → slice_get clauses i ≡ Some clause → is_complete clauses steps ≡ true
    → is_falsified steps clause ≡ false
complete_at [] i steps clause is all = absurd (none-some clause is)
complete_at (c ∷ clauses) zero steps clause is all =
    let same : c ≡ clause = same_Some c clause is in ap (is_falsified steps) (sym same) ∙ (or_neither _ _ (not-true _ (and_parts _ _ all).0)).0
complete_at (c ∷ clauses) (suc i) steps clause is all = complete_at clauses i steps clause is (and_parts _ _ all).1

pub held_at : (clauses : List (List Lit)) (number : ℕ) (clause : List Lit) → clause_numbered clauses number ≡ Some clause → slice_get clauses (number - 1) ≡ Some clause
held_at clauses number clause held =
    elim (either (eqb number 0)) [
      | inl zero_is ↦ absurd (none-some clause (sym (cond-true (eqb number 0) None (slice_get clauses (number - 1)) zero_is) ∙ held))
      | inr above ↦ sym (cond-false (eqb number 0) None (slice_get clauses (number - 1)) above) ∙ held
    ]

pub conflict_incomplete : (clauses : List (List Lit)) (steps : List Step) (number : ℕ) → IsConflict clauses steps number → is_complete clauses steps ≡ true → ⊥
conflict_incomplete clauses steps number conflict all =
    false≢true (sym (complete_at clauses (number - 1) steps conflict.0 (held_at clauses number conflict.0 conflict.1) all) ∙ conflict.2)

pub answered_some : (clauses : List (List Lit)) (steps : List Step) (number : ℕ) → IsConflict clauses steps number
    → (Some number ≡ None → is_complete clauses steps ≡ true) × (is_complete clauses steps ≡ true → Some number ≡ None)
answered_some clauses steps number conflict =
    (λ e. absurd (none-some number (sym e)), λ all. absurd (conflict_incomplete clauses steps number conflict all))
