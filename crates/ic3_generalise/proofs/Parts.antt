-- Laws of parts of cubes, and of cubes without a literal.
use Rattle.std.proofs.Common.{◌≡◌, ℕ, ◌+◌, ◌<◌, ◌≤◌, Bool, true, false, not, ◌||◌, cond, List, [], ◌∷◌, ◌++◌, length, take, get_or, refl, ap, sym, subst, ◌∙◌, inl, inr}
use Rattle.std.proofs.lemmas.List.{take_all, take_more}
use Rattle.std.proofs.lemmas.Bool.{false≢true, and_parts, and_from, or_cases, or_left, or_right}
use Rattle.proof_semantics.specs.Clauses.{lit_eq, has_literal, is_part}
use Rattle.proof_semantics.specs.declared.literals.Lit.{Lit}
use Rattle.proof_semantics.proofs.LiteralLaws.{lit_eq-true, lit_eq-same, has_literal-push}
use Rattle.ic3_generalise.specs.Generalising.{all_but, IsNeeded, EachIsNeeded}

pub part_has : (part whole : List Lit) (a : Lit) → is_part part whole ≡ true → has_literal part a ≡ true → has_literal whole a ≡ true
part_has [] whole a all has = absurd (false≢true has)
part_has (b ∷ part) whole a all has =
    elim (or_cases _ _ has) [
      | inl same ↦ ap (has_literal whole) (lit_eq-true a b same) ∙ (and_parts _ _ all).0
      | inr later ↦ part_has part whole a (and_parts _ _ all).1 later
    ]

pub part_from : (part whole : List Lit) → ((a : Lit) → has_literal part a ≡ true → has_literal whole a ≡ true) → is_part part whole ≡ true
part_from [] whole each = refl
part_from (b ∷ part) whole each =
    and_from _ _ (each b (or_left _ _ (lit_eq-same b))) (part_from part whole (λ a has. each a (or_right _ _ has)))

pub part_same : (cube : List Lit) → is_part cube cube ≡ true
part_same cube = part_from cube cube (λ a has. has)

pub part_on : (a b c : List Lit) → is_part a b ≡ true → is_part b c ≡ true → is_part a c ≡ true
part_on a b c first second = part_from a c (λ l has. part_has b c l second (part_has a b l first has))

-- Without a literal.

has_step : (b c : Lit) (rest cube : List Lit) (t : Bool) → (has_literal rest b ≡ true → has_literal cube b ≡ true)
    → has_literal (cond (not t) (c ∷ rest) rest) b ≡ true → has_literal (c ∷ cube) b ≡ true
has_step b c rest cube true on has = or_right (lit_eq b c) (has_literal cube b) (on has)
has_step b c rest cube false on has =
    elim (or_cases (lit_eq b c) (has_literal rest b) has) [
      | inl here ↦ or_left (lit_eq b c) (has_literal cube b) here
      | inr later ↦ or_right (lit_eq b c) (has_literal cube b) (on later)
    ]

all_but_has : (a : Lit) (cube : List Lit) (b : Lit) → has_literal (all_but a cube) b ≡ true → has_literal cube b ≡ true
all_but_has a [] b has = has
all_but_has a (c ∷ cube) b has = has_step b c (all_but a cube) cube (lit_eq a c) (all_but_has a cube b) has

pub part_all_but : (a : Lit) (cube : List Lit) → is_part (all_but a cube) cube ≡ true
part_all_but a cube = part_from (all_but a cube) cube (all_but_has a cube)

lacks_step : (a c : Lit) (rest : List Lit) (t : Bool) → lit_eq a c ≡ t → has_literal rest a ≡ false
    → has_literal (cond (not t) (c ∷ rest) rest) a ≡ false
lacks_step a c rest true is none = none
lacks_step a c rest false is none = ap (λ b. b || has_literal rest a) is ∙ none

pub all_but_lacks : (a : Lit) (cube : List Lit) → has_literal (all_but a cube) a ≡ false
all_but_lacks a [] = refl
all_but_lacks a (c ∷ cube) = lacks_step a c (all_but a cube) (lit_eq a c) refl (all_but_lacks a cube)

-- A part of the cube without a literal lacks it.
pub part_lacks : (a : Lit) (cube part : List Lit) → is_part part (all_but a cube) ≡ true → has_literal part a ≡ true → ⊥
part_lacks a cube part within has = false≢true (sym (all_but_lacks a cube) ∙ part_has part (all_but a cube) a within has)

-- What is needed.

needed_on : (passes : List Lit → Type 0) (cube old new : List Lit) (a : Lit) → is_part new old ≡ true
    → IsNeeded passes cube old a → IsNeeded passes cube new a
needed_on passes cube old new a part is = record {
  between = is.between;
  holds = part_on new old is.between part is.holds;
  within = is.within;
  passed = is.passed;
  failed = is.failed;
}

-- The new cube is a part of the old one, which fails the test without the literal if the new one has it.
pub record IsDecided (passes : List Lit → Type 0) (old new : List Lit) (a : Lit) : Type 0 where
  pub part : is_part new old ≡ true
  pub needed : has_literal new a ≡ true → passes (all_but a old) → ⊥

-- The literal is left, or is none of the cube's. The asker tested by what it is now.
pub decided_none : (passes now : List Lit → Type 0) (cube : List Lit) (a : Lit) → (passes (all_but a cube) → now (all_but a cube))
    → (has_literal cube a ≡ true → now (all_but a cube) → ⊥) → IsDecided passes cube cube a
decided_none passes now cube a same needed = record { part = part_same cube; needed = λ has passed. needed has (same passed) }

-- The literal went.
pub decided_some : (passes : List Lit → Type 0) (old new : List Lit) (a : Lit) → is_part new (all_but a old) ≡ true → IsDecided passes old new a
decided_some passes old new a within = record {
  part = part_on new (all_but a old) old within (part_all_but a old);
  needed = λ has _. absurd (part_lacks a old new within has);
}

decided_needed : (passes : List Lit → Type 0) (cube old new : List Lit) (a : Lit) → is_part old cube ≡ true → passes old
    → IsDecided passes old new a → has_literal new a ≡ true → IsNeeded passes cube new a
decided_needed passes cube old new a within passed is has = record {
  between = old;
  holds = is.part;
  within = within;
  passed = passed;
  failed = is.needed has;
}

pub more_needed : (passes : List Lit → Type 0) (cube asked old new : List Lit) (a : Lit) → is_part old cube ≡ true → passes old
    → IsDecided passes old new a → EachIsNeeded passes cube asked old → EachIsNeeded passes cube (asked ++ a ∷ []) new
more_needed passes cube asked old new a within passed is before b asked_b has =
    elim (or_cases (has_literal asked b) (lit_eq b a) (sym (has_literal-push asked a b) ∙ asked_b)) [
      | inl earlier ↦ needed_on passes cube old new b is.part (before b earlier (part_has new old b is.part has))
      | inr here ↦
          subst (λ l. IsNeeded passes cube new l) (sym (lit_eq-true b a here))
          (decided_needed passes cube old new a within passed is (ap (has_literal new) (sym (lit_eq-true b a here)) ∙ has))
    ]

-- After the literal at place i of a list.
pub next_needed : (passes : List Lit → Type 0) (cube asked old new : List Lit) (i : ℕ) (d : Lit) → i < length asked
    → is_part old cube ≡ true → passes old → IsDecided passes old new (get_or asked i d)
    → EachIsNeeded passes cube (take i asked) old → EachIsNeeded passes cube (take (i + 1) asked) new
next_needed passes cube asked old new i d below within passed is before =
    subst (λ front. EachIsNeeded passes cube front new) (sym (take_more asked i d below))
    (more_needed passes cube (take i asked) old new (get_or asked i d) within passed is before)

-- After all literals of the list.
pub all_needed : (passes : List Lit → Type 0) (cube asked answer : List Lit) (i : ℕ) → length asked ≤ i
    → EachIsNeeded passes cube (take i asked) answer → EachIsNeeded passes cube asked answer
all_needed passes cube asked answer i past needed a asked_a = needed a (ap (λ front. has_literal front a) (take_all i asked past) ∙ asked_a)
