-- Laws of the walk back to the assumed literals.
use Rattle.std.proofs.Common.{◌≡◌, ℕ, zero, suc, ◌+◌, ◌-◌, ◌<◌, ◌≤◌, Bool, true, false, ◌&&◌, ◌||◌, List, [], ◌∷◌, ◌++◌, length, get_or, take, drop, map, reverse, Option, Some, None, refl, ap, sym, subst, ◌∙◌, inl, inr, arith}
use Rattle.std.specs.Prelude.{is_none}
use Rattle.std.specs.Option.{option_map}
use Rattle.std.proofs.lemmas.List.{take-append-drop, take_all, reverse-append}
use Rattle.std.proofs.lemmas.Bool.{false≢true, and_parts, and_from, or_cases, or_left, or_right}
use Rattle.std.proofs.lemmas.Option.{same_Some}
use Rattle.proof_semantics.specs.Clauses.{lit_eq, negation, has_literal}
use Rattle.proof_semantics.specs.Propagation.{hints_fault}
use Rattle.proof_semantics.specs.declared.literals.Lit.{Lit}
use Rattle.proof_semantics.proofs.LiteralLaws.{lit_eq-true, lit_eq-same, negation_twice, bool_eq-same}
use Rattle.cdcl_trail.specs.Trails.{Step, literals_of, reasons_in}
use Rattle.cdcl_trail.specs.Propagation.{is_value, is_true, is_false, is_unit_for, IsConflict}
use Rattle.cnf.specs.Clauses.{clause_numbered}
use Rattle.cdcl_learn.proofs.FreshLaws.{IsFreshTrail, fresh_at}
use Rattle.cdcl_trail.proofs.TrailLaws.{either}
use Rattle.cdcl_trail.proofs.ScanLaws.{all_has, untrue}
use Rattle.cdcl_trail.proofs.PassLaws.{step_comes, no_step}
use Rattle.cdcl_trail.proofs.PrefixLaws.{true_more, false_before}
use Rattle.cdcl_learn.specs.Learning.{is_assumed}
use Rattle.cdcl_learn.specs.Walking.{IsResolvent, Explains, IsTraced}
use Rattle.cdcl_learn.proofs.ExplainLaws.{explains_conflict, explains_resolvent, explained_ends}
use Rattle.cdcl_learn.proofs.WalkLaws.{step_in, came_from, kept_first, kept_second, flip, no_literal, no_step_there, reads, reads_reason, reason_here, conflict_at}

abbrev Has : List Lit → Lit → Type 0
Has lits a = has_literal lits a ≡ true

pub trace_starts : (clauses : List (List Lit)) (steps : List Step) (place number : ℕ) (held clause : List Lit) (hints : List ℕ)
    → clause_numbered clauses number ≡ Some held → IsConflict clauses steps number → length steps ≤ place
    → ((a : Lit) → has_literal clause a ≡ has_literal held a) → hints ≡ number ∷ []
    → IsTraced clauses steps place clause (reverse hints)
trace_starts clauses steps place number held clause hints is conflict past same one = record {
  sources = λ a has. inr (ap (λ xs. is_false xs a) (take_all place steps past)
      ∙ all_has (is_false steps) held a (conflict_at clauses steps number held conflict is) (sym (same a) ∙ has));
  explained = subst (λ h. Explains clauses steps clause h) (sym (ap reverse one)) (explains_conflict clauses steps number held clause is same);
}

pub trace_on : (clauses : List (List Lit)) (steps : List Step) (p : ℕ) (clause : List Lit) (hints : List ℕ) (literals : List Lit) (negated : Lit) (contained : Bool)
    → literals ≡ literals_of steps → 0 < p → p ≤ length literals → negated ≡ negation (get_or literals (p - 1) no_literal)
    → contained ≡ has_literal clause negated → contained ≡ false
    → IsTraced clauses steps p clause hints → IsTraced clauses steps (p - 1) clause hints
trace_on clauses steps p clause hints literals negated contained same after within negates told lacks traced =
    let r = reads steps literals 0 p same after within in
    let none : has_literal clause (negation (get_or steps (p - 1) no_step_there).literal) ≡ false =
    ap (has_literal clause) (sym (negates ∙ ap negation r.literal)) ∙ sym told ∙ lacks in
    record {
      sources = λ a has. elim (traced.sources a has) [
        | inl assumed ↦ inl assumed
        | inr falsified ↦ inr (false_before (take (p - 1) steps) (get_or steps (p - 1) no_step_there) a
            (ap (λ xs. is_false xs a) (sym (step_in steps (p - 1) no_step_there r.below)) ∙ ap (λ n. is_false (take n steps) a) r.next ∙ falsified)
            (untrue _ (λ e. false≢true (sym none ∙ ap (has_literal clause) (sym (lit_eq-true a _ e)) ∙ has))))
      ];
      explained = traced.explained;
    }

-- a step without a reason stands among the assumed ones
assumed_here : (steps : List Step) (i : ℕ) (d : Step) (a : Lit) → i < length steps → (get_or steps i d).reason ≡ None → (get_or steps i d).literal ≡ a
    → is_assumed steps a ≡ true
assumed_here [] i d a below none is = absurd (omega (arith, below))
assumed_here (x ∷ steps) zero d a below none is =
    or_left _ _ (and_from _ _ (ap (λ b. lit_eq b a) is ∙ lit_eq-same a) (ap (λ r. is_none r) none))
assumed_here (x ∷ steps) (suc i) d a below none is = or_right _ _ (assumed_here steps i d a (omega (arith, below)) none is)

pub trace_keeps : (clauses : List (List Lit)) (steps : List Step) (p : ℕ) (clause : List Lit) (hints : List ℕ) (literals : List Lit) (reasons : List (Option ℕ))
    → literals ≡ literals_of steps → reasons ≡ reasons_in steps → 0 < p → p ≤ length literals → get_or reasons (p - 1) None ≡ None
    → IsTraced clauses steps p clause hints → IsTraced clauses steps (p - 1) clause hints
trace_keeps clauses steps p clause hints literals reasons same same_reasons after within read traced =
    let r = reads steps literals 0 p same after within in
    let s = get_or steps (p - 1) no_step_there in
    let none : s.reason ≡ None = sym (ap (λ rs. get_or rs (p - 1) None) same_reasons ∙ reason_here steps (p - 1) no_step_there None r.below) ∙ read in
    record {
      sources = λ a has. elim (traced.sources a has) [
        | inl assumed ↦ inl assumed
        | inr falsified ↦ elim (either (lit_eq a (negation s.literal))) [
          | inl here ↦ inl (assumed_here steps (p - 1) no_step_there (negation a) r.below none (sym (ap negation (lit_eq-true a (negation s.literal) here) ∙ negation_twice s.literal)))
          | inr differs ↦ inr (false_before (take (p - 1) steps) s a
              (ap (λ xs. is_false xs a) (sym (step_in steps (p - 1) no_step_there r.below)) ∙ ap (λ n. is_false (take n steps) a) r.next ∙ falsified) differs)
        ]
      ];
      explained = traced.explained;
    }

pub trace_resolves : (clauses : List (List Lit)) (steps : List Step) (p : ℕ) (clause seen more reason : List Lit) (hints longer : List ℕ) (literals : List Lit)
    (reasons : List (Option ℕ)) (number : ℕ)
    → literals ≡ literals_of steps → reasons ≡ reasons_in steps → 0 < p → p ≤ length literals
    → get_or reasons (p - 1) None ≡ Some number → clause_numbered clauses number ≡ Some reason
    → IsFreshTrail clauses steps → seen ≡ clause → IsResolvent seen (get_or literals (p - 1) no_literal) reason more
    → longer ≡ hints ++ number ∷ []
    → IsTraced clauses steps p clause (reverse hints) → IsTraced clauses steps (p - 1) more (reverse longer)
trace_resolves clauses steps p clause seen more reason hints longer literals reasons number same same_reasons after within read held reasoned sees resolvent pushed traced =
    let r = reads steps literals 0 p same after within in
    let q = reads_reason clauses steps literals reasons 0 p number same same_reasons after within read reasoned in
    let s = get_or steps (p - 1) no_step_there in
    let u = s.literal in
    let one : q.clause ≡ reason = same_Some q.clause reason (sym q.held ∙ held) in
    let left : is_unit_for (take (p - 1) steps) reason u ≡ true = ap (λ c. is_unit_for (take (p - 1) steps) c u) (sym one) ∙ q.left in
    let resolved : IsResolvent clause u reason more =
    subst (λ v. IsResolvent clause v reason more) r.literal (subst (λ c. IsResolvent c (get_or literals (p - 1) no_literal) reason more) sees resolvent) in
    let parts = and_parts _ _ left in
    let rest = and_parts _ _ parts.1 in
    let fresh = (fresh_at clauses [] steps (p - 1) no_step_there r.below reasoned).fresh in
    let holds : is_true steps u ≡ true =
    ap (λ xs. is_true xs u) (sym (take-append-drop (p - 1 + 1) steps))
    ∙ true_more (take (p - 1 + 1) steps) (drop (p - 1 + 1) steps) u
    (ap (λ xs. is_true xs u) (step_in steps (p - 1) no_step_there r.below)
    ∙ ap (λ o. is_value (option_map (λ (x : Step). x.literal.positive) o) u.positive) (step_comes (take (p - 1) steps) s (no_step _ fresh)) ∙ bool_eq-same u.positive) in
    record {
      sources = λ a has. elim (came_from _ _ _ _ _ (resolved a) has) [
        | inl first ↦ elim (traced.sources a first.0) [
          | inl assumed ↦ inl assumed
          | inr falsified ↦ inr (false_before (take (p - 1) steps) s a
              (ap (λ xs. is_false xs a) (sym (step_in steps (p - 1) no_step_there r.below)) ∙ ap (λ n. is_false (take n steps) a) r.next ∙ falsified) first.1)
        ]
        | inr second ↦ elim (or_cases _ _ (all_has (λ b. lit_eq u b || is_false (take (p - 1) steps) b) reason a rest.1 second.0)) [
          | inl here ↦ absurd (false≢true (sym (flip a u second.1) ∙ here))
          | inr falsified ↦ inr falsified
        ]
      ];
      explained = subst (λ h. Explains clauses steps more h) (sym (ap reverse pushed ∙ reverse-append hints (number ∷ [])))
          (explains_resolvent clauses steps number reason clause more u (reverse hints) held holds parts.0
          (λ a has. elim (either (lit_eq u a)) [ inl here ↦ inl here | inr differs ↦ inr (kept_second _ _ _ _ _ (resolved a) has (flip u a differs)) ])
          (λ a has. elim (either (lit_eq a (negation u))) [ inl here ↦ inl here | inr differs ↦ inr (kept_first _ _ _ _ _ (resolved a) has differs) ])
          traced.explained);
    }

-- At the front of the trail only assumed literals are left.
zero_is : (p : ℕ) → p ≤ 0 → p ≡ 0
zero_is p e = omega (arith, e)

pub traced_assumed : (clauses : List (List Lit)) (steps : List Step) (p : ℕ) (clause told : List Lit) (hints : List ℕ) → p ≤ 0 → told ≡ clause → IsTraced clauses steps p clause hints
    → (a : Lit) → Has told a → is_assumed steps (negation a) ≡ true
traced_assumed clauses steps p clause told hints at_front same traced a has =
    elim (traced.sources a (ap (λ c. has_literal c a) (sym same) ∙ has)) [
      | inl assumed ↦ assumed
      | inr falsified ↦ absurd (false≢true (ap (λ n. is_false (take n steps) a) (sym (zero_is p at_front)) ∙ falsified))
    ]

pub assumed_true : (steps : List Step) (a : Lit) → is_assumed steps (negation a) ≡ true → (i : ℕ) × (i < length steps) × ((get_or steps i no_step_there).literal ≡ negation a)
assumed_true [] a assumed = absurd (false≢true assumed)
assumed_true (x ∷ steps) a assumed =
    elim (or_cases (lit_eq x.literal (negation a) && is_none x.reason) (is_assumed steps (negation a)) assumed) [
      | inl here ↦ (0, omega arith, lit_eq-true x.literal (negation a) (and_parts (lit_eq x.literal (negation a)) (is_none x.reason) here).0)
      | inr later ↦ let found = assumed_true steps a later in (suc found.0, omega (arith, found.1), found.2)
    ]

-- what stands on a trail is true under it
pub standing_true : (clauses : List (List Lit)) (steps : List Step) (i : ℕ) → i < length steps → IsFreshTrail clauses steps
    → is_true steps (get_or steps i no_step_there).literal ≡ true
standing_true clauses steps i below reasoned =
    let s = get_or steps i no_step_there in
    let fresh = (fresh_at clauses [] steps i no_step_there below reasoned).fresh in
    ap (λ xs. is_true xs s.literal) (sym (take-append-drop (i + 1) steps))
    ∙ true_more (take (i + 1) steps) (drop (i + 1) steps) s.literal
    (ap (λ xs. is_true xs s.literal) (step_in steps i no_step_there below)
    ∙ ap (λ o. is_value (option_map (λ (x : Step). x.literal.positive) o) s.literal.positive) (step_comes (take i steps) s (no_step _ fresh)) ∙ bool_eq-same s.literal.positive)

pub traced_ends : (clauses : List (List Lit)) (steps : List Step) (p : ℕ) (clause told : List Lit) (hints told_hints : List ℕ) → p ≤ 0 → told ≡ clause → told_hints ≡ hints
    → IsFreshTrail clauses steps → IsTraced clauses steps p clause hints
    → hints_fault (clause_numbered clauses) (map negation told) told_hints ≡ None
traced_ends clauses steps p clause told hints told_hints at_front same same_hints reasoned traced =
    ap (λ c. hints_fault (clause_numbered clauses) (map negation c) told_hints) same
    ∙ ap (hints_fault (clause_numbered clauses) (map negation clause)) same_hints
    ∙ explained_ends clauses steps clause hints traced.explained (λ a has.
    let found = assumed_true steps a (traced_assumed clauses steps p clause clause hints at_front refl traced a has) in
    sym (ap (is_true steps) found.2) ∙ standing_true clauses steps found.0 found.1 reasoned)
