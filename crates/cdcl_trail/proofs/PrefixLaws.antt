-- Laws of trails and of what comes before in them.
use Rattle.std.proofs.Math.Dec.{leb}
use Rattle.std.proofs.Common.{◌≡◌, ℕ, ◌-◌, Bool, true, false, not, ◌&&◌, eqb, List, [], ◌∷◌, ◌++◌, Option, Some, None, refl, ap, sym, subst, ◌∙◌, inl, inr, arith, append_assoc, eqb-true}
use Rattle.std.specs.List.{list_all}
use Rattle.std.specs.Option.{option_map}
use Rattle.std.proofs.lemmas.List.{append-nil}
use Rattle.std.proofs.lemmas.Bool.{false≢true, and_from, or_left, or_right, cond-true, cond-false, le-leb}
use Rattle.std.proofs.lemmas.Option.{none-some}
use Rattle.proof_semantics.specs.Clauses.{bool_eq, lit_eq, negation, has_literal}
use Rattle.proof_semantics.specs.declared.literals.Lit.{Lit}
use Rattle.proof_semantics.proofs.LiteralLaws.{lit_eq-same, bool_eq-true, same_lit, not-not}
use Rattle.cdcl_trail.specs.Trails.{Step, opened_by, step_of, value_of, level, up_to_level, assumed, lower_steps}
use Rattle.cdcl_trail.specs.Propagation.{is_value, is_true, is_false, AreForced, Propagates, HaveReasons, IsReasonedTrail}
use Rattle.cdcl_trail.proofs.TrailLaws.{either, level_push}
use Rattle.cdcl_trail.proofs.PassLaws.{step_stays, step_comes, propagates_level}

-- Tests over lists.

pub all_from : (f : Lit → Bool) (xs : List Lit) → ((a : Lit) → has_literal xs a ≡ true → f a ≡ true) → list_all f xs ≡ true
all_from f [] each = refl
all_from f (a ∷ xs) each = and_from _ _ (each a (or_left _ _ (lit_eq-same a))) (all_from f xs (λ b has. each b (or_right _ _ has)))

pub not_all_gives : (f : Lit → Bool) (xs : List Lit) → list_all f xs ≡ false → (a : Lit) × (has_literal xs a ≡ true) × (f a ≡ false)
not_all_gives f [] e = absurd (false≢true (sym e))
not_all_gives f (a ∷ xs) e =
    elim (either (f a)) [
      | inl here ↦
          let found = not_all_gives f xs (sym (ap (λ b. b && list_all f xs) here) ∙ e) in (found.0, or_right _ _ found.1, found.2)
      | inr fails ↦ (a, or_left _ _ (lit_eq-same a), fails)
    ]

-- What came stays.

pub step_more : (xs ys : List Step) (v : ℕ) (x : Step) → step_of xs v ≡ Some x → step_of (xs ++ ys) v ≡ Some x
step_more [] ys v x e = absurd (none-some x e)
step_more (z ∷ xs) ys v x e =
    elim (either (eqb z.literal.var v)) [
      | inl same ↦ cond-true (eqb z.literal.var v) (Some z) (step_of (xs ++ ys) v) same ∙ sym (cond-true (eqb z.literal.var v) (Some z) (step_of xs v) same) ∙ e
      | inr differs ↦ cond-false (eqb z.literal.var v) (Some z) (step_of (xs ++ ys) v) differs ∙ step_more xs ys v x (sym (cond-false (eqb z.literal.var v) (Some z) (step_of xs v) differs) ∙ e)
    ]

value_more : (xs ys : List Step) (v : ℕ) (b : Bool) (o : Option Step) → step_of xs v ≡ o → is_value (value_of xs v) b ≡ true → is_value (value_of (xs ++ ys) v) b ≡ true
value_more xs ys v b None is e = absurd (false≢true (sym (ap (λ p. is_value (option_map (λ (s : Step). s.literal.positive) p) b) is) ∙ e))
value_more xs ys v b (Some x) is e =
    ap (λ p. is_value (option_map (λ (s : Step). s.literal.positive) p) b) (step_more xs ys v x is ∙ sym is) ∙ e

pub false_more : (xs ys : List Step) (a : Lit) → is_false xs a ≡ true → is_false (xs ++ ys) a ≡ true
false_more xs ys a e = value_more xs ys a.var (not a.positive) (step_of xs a.var) refl e

pub true_more : (xs ys : List Step) (a : Lit) → is_true xs a ≡ true → is_true (xs ++ ys) a ≡ true
true_more xs ys a e = value_more xs ys a.var a.positive (step_of xs a.var) refl e

none_before-at : (xs ys : List Step) (v : ℕ) (o : Option Step) → step_of xs v ≡ o → value_of (xs ++ ys) v ≡ None → value_of xs v ≡ None
none_before-at xs ys v None is e = ap (option_map (λ (s : Step). s.literal.positive)) is
none_before-at xs ys v (Some x) is e =
    absurd (none-some x.literal.positive (sym e ∙ ap (option_map (λ (s : Step). s.literal.positive)) (step_more xs ys v x is)))

-- what has no value had none before
pub none_before : (xs ys : List Step) (v : ℕ) → value_of (xs ++ ys) v ≡ None → value_of xs v ≡ None
none_before xs ys v e = none_before-at xs ys v (step_of xs v) refl e

-- The last step.

step_not : (xs : List Step) (s : Step) (v : ℕ) → step_of xs v ≡ None → eqb s.literal.var v ≡ false → step_of (xs ++ s ∷ []) v ≡ None
step_not [] s v e differs = cond-false (eqb s.literal.var v) (Some s) None differs
step_not (x ∷ xs) s v e differs =
    elim (either (eqb x.literal.var v)) [
      | inl same ↦ absurd (none-some x (sym e ∙ cond-true (eqb x.literal.var v) (Some x) (step_of xs v) same))
      | inr apart ↦
          cond-false (eqb x.literal.var v) (Some x) (step_of (xs ++ s ∷ []) v) apart
          ∙ step_not xs s v (sym (cond-false (eqb x.literal.var v) (Some x) (step_of xs v) apart) ∙ e) differs
    ]

not_swap : (b c : Bool) → b ≡ not c → c ≡ not b
not_swap b c e = sym (not-not c) ∙ sym (ap not e)

false_last : (xs : List Step) (s : Step) (a : Lit) → step_of xs a.var ≡ None → is_false (xs ++ s ∷ []) a ≡ true → lit_eq a (negation s.literal) ≡ true
false_last xs s a none e =
    elim (either (eqb s.literal.var a.var)) [
      | inl same ↦
          let v : s.literal.var ≡ a.var = eqb-true s.literal.var a.var same in
          let comes : step_of (xs ++ s ∷ []) a.var ≡ Some s =
          subst (λ n. step_of (xs ++ s ∷ []) n ≡ Some s) v (step_comes xs s (ap (step_of xs) v ∙ none)) in
          let differs : bool_eq s.literal.positive (not a.positive) ≡ true =
          sym (ap (λ p. is_value (option_map (λ (t : Step). t.literal.positive) p) (not a.positive)) comes) ∙ e in
          let is : a ≡ negation s.literal =
          same_lit a (negation s.literal) (sym v) (not_swap s.literal.positive a.positive (bool_eq-true s.literal.positive (not a.positive) differs)) in
          ap (lit_eq a) (sym is) ∙ lit_eq-same a
      | inr differs ↦
          absurd (false≢true (sym (ap (λ p. is_value (option_map (λ (t : Step). t.literal.positive) p) (not a.positive)) (step_not xs s a.var none differs)) ∙ e))
    ]

false_before-at : (xs : List Step) (s : Step) (a : Lit) (o : Option Step) → step_of xs a.var ≡ o → is_false (xs ++ s ∷ []) a ≡ true → lit_eq a (negation s.literal) ≡ false
    → is_false xs a ≡ true
false_before-at xs s a None is e other = absurd (false≢true (sym other ∙ false_last xs s a is e))
false_before-at xs s a (Some x) is e other =
    ap (λ p. is_value (option_map (λ (t : Step). t.literal.positive) p) (not a.positive)) (is ∙ sym (step_stays xs s a.var x is)) ∙ e

-- a literal that is false and not the negation of the last one was false before
pub false_before : (xs : List Step) (s : Step) (a : Lit) → is_false (xs ++ s ∷ []) a ≡ true → lit_eq a (negation s.literal) ≡ false → is_false xs a ≡ true
false_before xs s a e other = false_before-at xs s a (step_of xs a.var) refl e other

-- Reasons.

pub reasons_append : (clauses : List (List Lit)) (before xs ys : List Step) → HaveReasons clauses before xs → HaveReasons clauses (before ++ xs) ys → HaveReasons clauses before (xs ++ ys)
reasons_append clauses before [] ys first later = subst (λ b. HaveReasons clauses b ys) (append-nil before) later
reasons_append clauses before (x ∷ xs) ys first later =
    (first.0, reasons_append clauses (before ++ x ∷ []) xs ys first.1 (subst (λ b. HaveReasons clauses b ys) (sym (append_assoc before (x ∷ []) xs)) later))

-- What assuming and propagating keep.

pub reasoned_assumed : (clauses : List (List Lit)) (steps later : List Step) (a : Lit) → later ≡ steps ++ assumed a ∷ []
    → IsReasonedTrail clauses steps → IsReasonedTrail clauses later
reasoned_assumed clauses steps later a is reasoned =
    subst (λ xs. IsReasonedTrail clauses xs) (sym is)
    (reasons_append clauses [] steps (assumed a ∷ []) reasoned (inl refl, tt))

reasoned_forced : (clauses : List (List Lit)) (before xs : List Step) → AreForced clauses before xs → HaveReasons clauses before xs
reasoned_forced clauses before [] all = tt
reasoned_forced clauses before (x ∷ xs) all =
    (inr all.0, reasoned_forced clauses (before ++ x ∷ []) xs all.1)

pub reasoned_propagated : (clauses : List (List Lit)) (steps later : List Step) → Propagates clauses steps later → IsReasonedTrail clauses steps → IsReasonedTrail clauses later
reasoned_propagated clauses steps later p reasoned =
    subst (λ xs. IsReasonedTrail clauses xs) (sym p.behind)
    (reasons_append clauses [] steps p.added reasoned (reasoned_forced clauses steps p.added p.reasons))

pub cut_at_level : (xs : List Step) (a : Lit) (ys : List Step) → up_to_level (level xs) (xs ++ assumed a ∷ ys) ≡ xs
cut_at_level [] a ys = refl
cut_at_level (x ∷ xs) a ys =
    cond-true (leb (opened_by x.reason) (level (x ∷ xs))) (x ∷ up_to_level (level (x ∷ xs) - opened_by x.reason) (xs ++ assumed a ∷ ys)) []
    (le-leb (opened_by x.reason) (level (x ∷ xs)) (omega arith))
    ∙ ap (λ n. x ∷ up_to_level n (xs ++ assumed a ∷ ys)) (omega arith)
    ∙ ap (λ zs. x ∷ zs) (cut_at_level xs a ys)

-- the lower levels are those from before the last assumed literal
pub lower_assumed : (clauses : List (List Lit)) (steps opened later : List Step) (a : Lit) → opened ≡ steps ++ assumed a ∷ [] → Propagates clauses opened later
    → lower_steps later ≡ steps
lower_assumed clauses steps opened later a is p =
    let whole : later ≡ steps ++ assumed a ∷ p.added = p.behind ∙ ap (λ xs. xs ++ p.added) is ∙ append_assoc steps (assumed a ∷ []) p.added in
    let deep : level later - 1 ≡ level steps =
    omega (arith, propagates_level clauses opened later p, ap level is, level_push steps (assumed a)) in
    ap (λ n. up_to_level n later) deep ∙ ap (up_to_level (level steps)) whole ∙ cut_at_level steps a p.added
