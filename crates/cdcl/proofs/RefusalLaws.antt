-- Laws of the refusal of assumptions.
use Rattle.std.proofs.Common.{◌≡◌, ℕ, ◌-◌, Bool, true, List, [], ◌∷◌, map, Some, None, refl, ap, sym, subst, ◌∙◌}
use Rattle.std.specs.Prelude.{IsOkAnd}
use Rattle.std.proofs.lemmas.Bool.{and_parts, and_from, or_left, or_right}
use Rattle.proof_semantics.specs.Clauses.{negation, has_literal, is_part, cube_value}
use Rattle.proof_semantics.specs.Propagation.{hints_fault}
use Rattle.proof_semantics.specs.Proofs.{clause_at}
use Rattle.proof_semantics.specs.declared.literals.Lit.{Lit}
use Rattle.proof_semantics.proofs.LiteralLaws.{lit_eq-same, negation_twice, cube_value-has}
use Rattle.proof_semantics.proofs.Soundness.{hints_refute}
use Rattle.cnf.specs.Clauses.{clause_numbered}
use Rattle.cdcl_log.specs.LoggedClauses.{LoggedClauses, added_of, IsLog}
use Rattle.cdcl.specs.Solving.{IsRefusal}
use Rattle.cdcl_log.specs.Writing.{Proves}
use Rattle.cdcl_log.proofs.LoggedLaws.{numbered_true}

pub part_negations : (assumptions clause : List Lit) → ((a : Lit) → has_literal clause a ≡ true → has_literal assumptions (negation a) ≡ true) → is_part (map negation clause) assumptions ≡ true
part_negations assumptions [] each = refl
part_negations assumptions (a ∷ clause) each =
    and_from _ _ (each a (or_left _ _ (lit_eq-same a))) (part_negations assumptions clause (λ b has. each b (or_right _ _ has)))

negations_twice : (clause : List Lit) → map negation (map negation clause) ≡ clause
negations_twice [] = refl
negations_twice (a ∷ clause) = ap (λ b. b ∷ map negation (map negation clause)) (negation_twice a) ∙ ap (λ xs. a ∷ xs) (negations_twice clause)

pub core_holds : (v : ℕ → Bool) (assumptions core : List Lit) → is_part core assumptions ≡ true → cube_value v assumptions ≡ true → cube_value v core ≡ true
core_holds v assumptions [] part all = refl
core_holds v assumptions (a ∷ core) part all =
    let parts = and_parts _ _ part in
    and_from _ _ (cube_value-has v assumptions a all parts.0) (core_holds v assumptions core parts.1 all)

empty_negations : (clause : List Lit) → map negation clause ≡ [] → clause ≡ []
empty_negations [] e = refl
empty_negations (a ∷ clause) e = absurd (cc)

-- A proof of the traced clause refuses the assumptions.
pub refusal_from : (logged : LoggedClauses) (assumptions clause core : List Lit) (hints : List ℕ) (lines : List (List ℕ)) → IsLog logged
    → ((a : Lit) → has_literal clause a ≡ true → has_literal assumptions (negation a) ≡ true) → hints_fault (clause_numbered logged.clauses) (map negation clause) hints ≡ None
    → core ≡ map negation clause → Proves (added_of logged) lines clause → IsRefusal (added_of logged) assumptions core lines
refusal_from logged assumptions clause core hints lines log each follows is proves =
    let part : is_part core assumptions ≡ true = ap (λ c. is_part c assumptions) is ∙ part_negations assumptions clause each in
    let back : map negation core ≡ clause = ap (map negation) is ∙ negations_twice clause in
    record {
      among = part;
      derived = subst (λ r. IsOkAnd r (λ s. clause_at s.held s.last ≡ Some (map negation core))) (sym proves.judged) (proves.gives ∙ ap (λ c. Some c) (sym back));
      refuted = λ none. subst (λ r. IsOkAnd r (λ s. s.finished ≡ true)) (sym proves.judged) (proves.finishes (empty_negations clause (sym is ∙ none)));
      no_model = λ v model.
          hints_refute v (clause_numbered logged.clauses) (map negation clause) hints (numbered_true v logged.clauses (log.implied v model.clauses))
          (ap (cube_value v) (sym is) ∙ core_holds v assumptions core part model.assumed) follows;
    }
