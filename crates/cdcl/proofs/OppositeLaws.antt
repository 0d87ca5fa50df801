-- What a literal and its negation among assumptions tell.
use Rattle.std.proofs.Common.{◌≡◌, Bool, true, false, not, List, [], ◌∷◌, Option, Some, None, refl, sym, subst, ◌∙◌, inl, inr}
use Rattle.std.specs.Prelude.{is_some, IfNone, IfSome}
use Rattle.std.specs.List.{list_any}
use Rattle.std.proofs.lemmas.Bool.{false≢true, and_from, or_left, or_right, or_cases}
use Rattle.proof_semantics.specs.declared.literals.Lit.{Lit}
use Rattle.proof_semantics.specs.Clauses.{lit_eq, negation, has_literal, has_opposites}
use Rattle.proof_semantics.proofs.LiteralLaws.{lit_eq-true, lit_eq-same, literal_value-negation, cube_value-has}
use Rattle.cdcl.specs.Asking.{IsCore}
use Rattle.cdcl.specs.Solving.{HasNoModel}

some_opposite : (whole literals : List Lit) (a : Lit) → has_literal literals a ≡ true → has_literal whole (negation a) ≡ true
    → list_any (λ b. has_literal whole (negation b)) literals ≡ true
some_opposite whole [] a here there = absurd (false≢true here)
some_opposite whole (l ∷ literals) a here there =
    elim (or_cases (lit_eq a l) (has_literal literals a) here) [
      | inl same ↦ or_left _ _ (subst (λ (b : Lit). has_literal whole (negation b) ≡ true) (lit_eq-true a l same) there)
      | inr later ↦ or_right _ _ (some_opposite whole literals a later there)
    ]

pub opposite_told : (literals : List Lit) (found : Option Lit) → IfSome found (λ a. has_literal literals a ≡ true)
    → IfSome found (λ a. has_literal literals (negation a) ≡ true) → IfNone found (has_opposites literals ≡ false)
    → is_some found ≡ has_opposites literals
opposite_told literals None one other none = sym none
opposite_told literals (Some a) one other none = sym (some_opposite literals literals a one other)

never_both : (a : Bool) → a ≡ true → not a ≡ true → ⊥
never_both true h n = false≢true n
never_both false h n = false≢true h

no_model_of : (added : List (List Lit)) (assumptions : List Lit) (a : Lit) → has_literal assumptions a ≡ true
    → has_literal assumptions (negation a) ≡ true → HasNoModel added assumptions
no_model_of added assumptions a one other v model =
    never_both _ (cube_value-has v assumptions a model.assumed one)
    (sym (literal_value-negation v a) ∙ cube_value-has v assumptions (negation a) model.assumed other)

pub opposites_core : (added : List (List Lit)) (assumptions : List Lit) (a b : Lit) → has_literal assumptions a ≡ true
    → has_literal assumptions (negation a) ≡ true → b ≡ negation a → IsCore added assumptions (a ∷ b ∷ [])
opposites_core added assumptions a b one other is =
    subst (λ x. IsCore added assumptions (a ∷ x ∷ [])) (sym is)
    (record {
      among = and_from _ _ one (and_from _ _ other refl);
      refused = no_model_of added (a ∷ negation a ∷ []) a (or_left _ _ (lit_eq-same a))
          (or_right (lit_eq (negation a) a) _ (or_left _ _ (lit_eq-same (negation a))));
      no_model = no_model_of added assumptions a one other;
    })
