-- Laws of literals, and of tests over lists of them.
use Rattle.std.proofs.Common.{◌≡◌, ℕ, Bool, true, false, not, ◌&&◌, ◌||◌, List, [], ◌∷◌, ◌++◌, map, refl, sym, ap, ◌∙◌, inl, inr, eqb-true, eq-eqb}
use Rattle.std.proofs.lemmas.Bool.{false≢true, and_parts, or_cases, or_left, or_right, and_from}
use Rattle.std.specs.List.{list_any}
use Rattle.proof_semantics.specs.Clauses.{bool_eq, lit_eq, negation, literal_value, clause_value, cube_value, has_literal}
use Rattle.proof_semantics.specs.declared.literals.Lit.{Lit}

pub bool_eq-true : (b c : Bool) → bool_eq b c ≡ true → b ≡ c
bool_eq-true true true e = refl
bool_eq-true true false e = sym e
bool_eq-true false true e = e
bool_eq-true false false e = refl

pub bool_eq-same : (b : Bool) → bool_eq b b ≡ true
bool_eq-same true = refl
bool_eq-same false = refl

pub bool_eq-not : (b c : Bool) → bool_eq (not b) c ≡ not (bool_eq b c)
bool_eq-not true true = refl
bool_eq-not true false = refl
bool_eq-not false true = refl
bool_eq-not false false = refl

or-false : (b : Bool) → (b || false) ≡ b
or-false true = refl
or-false false = refl

or-assoc : (b c d : Bool) → ((b || c) || d) ≡ (b || (c || d))
or-assoc true c d = refl
or-assoc false c d = refl

pub not-or : (b c : Bool) → not (b || c) ≡ (not b && not c)
not-or true c = refl
not-or false c = refl

pub not-not : (b : Bool) → not (not b) ≡ b
not-not true = refl
not-not false = refl

pub lit_eq-same : (a : Lit) → lit_eq a a ≡ true
lit_eq-same a = and_from _ _ (eq-eqb a.var a.var refl) (bool_eq-same a.positive)

pub same_lit : (a b : Lit) → a.var ≡ b.var → a.positive ≡ b.positive → a ≡ b
same_lit a b e f = λ i. record { var = e i; positive = f i }

-- the test of literals tells whether they are the same
pub lit_eq-true : (a b : Lit) → lit_eq a b ≡ true → a ≡ b
lit_eq-true a b e =
    let parts = and_parts _ _ e in same_lit a b (eqb-true a.var b.var parts.0) (bool_eq-true a.positive b.positive parts.1)

pub negation_twice : (a : Lit) → negation (negation a) ≡ a
negation_twice a = same_lit _ a refl (not-not a.positive)

pub literal_value-negation : (v : ℕ → Bool) (a : Lit) → literal_value v (negation a) ≡ not (literal_value v a)
literal_value-negation v a = bool_eq-not a.positive (v a.var)

-- Where all literals of a list are true, each one is that the test finds there.
pub cube_value-has : (v : ℕ → Bool) (cube : List Lit) (a : Lit) → cube_value v cube ≡ true → has_literal cube a ≡ true → literal_value v a ≡ true
cube_value-has v [] a all has = absurd (false≢true has)
cube_value-has v (b ∷ cube) a all has =
    let parts = and_parts _ _ all in
    elim (or_cases _ _ has) [
      | inl same ↦ ap (literal_value v) (lit_eq-true a b same) ∙ parts.0
      | inr later ↦ cube_value-has v cube a parts.1 later
    ]

-- A clause that has a true literal is true.
pub clause_value-has : (v : ℕ → Bool) (clause : List Lit) (a : Lit) → literal_value v a ≡ true → has_literal clause a ≡ true → clause_value v clause ≡ true
clause_value-has v [] a holds has = absurd (false≢true has)
clause_value-has v (b ∷ clause) a holds has =
    elim (or_cases _ _ has) [
      | inl same ↦ or_left _ _ (ap (literal_value v) (sym (lit_eq-true a b same)) ∙ holds)
      | inr later ↦ or_right _ _ (clause_value-has v clause a holds later)
    ]

-- The negations of a false clause's literals are all true.
pub cube_value-negations : (v : ℕ → Bool) (clause : List Lit) → cube_value v (map negation clause) ≡ not (clause_value v clause)
cube_value-negations v [] = refl
cube_value-negations v (a ∷ clause) =
    ap (λ b. b && cube_value v (map negation clause)) (literal_value-negation v a)
    ∙ ap (λ b. not (literal_value v a) && b) (cube_value-negations v clause)
    ∙ sym (not-or (literal_value v a) (clause_value v clause))

-- One more true literal leaves all of them true.
pub cube_value-push : (v : ℕ → Bool) (cube : List Lit) (a : Lit) → cube_value v cube ≡ true → literal_value v a ≡ true → cube_value v (cube ++ a ∷ []) ≡ true
cube_value-push v [] a all holds = and_from _ _ holds refl
cube_value-push v (b ∷ cube) a all holds =
    let parts = and_parts _ _ all in and_from _ _ parts.0 (cube_value-push v cube a parts.1 holds)

-- A literal is in a list with one more where it is in the list or is that one.
pub has_literal-push : (lits : List Lit) (a b : Lit) → has_literal (lits ++ a ∷ []) b ≡ (has_literal lits b || lit_eq b a)
has_literal-push [] a b = or-false (lit_eq b a)
has_literal-push (c ∷ lits) a b =
    ap (λ t. lit_eq b c || t) (has_literal-push lits a b) ∙ sym (or-assoc (lit_eq b c) (has_literal lits b) (lit_eq b a))

-- ---- a literal of two lists, either way

lit-swap : (a b : Lit) → lit_eq a b ≡ true → lit_eq b a ≡ true
lit-swap a b h = let e : a ≡ b = lit_eq-true a b h in ap (lit_eq b) e ∙ lit_eq-same b

any-weaker : (p q : Lit → Bool) → ((l : Lit) → p l ≡ true → q l ≡ true) → (xs : List Lit) → list_any p xs ≡ true → list_any q xs ≡ true
any-weaker p q w [] h = h
any-weaker p q w (x ∷ xs) h =
    elim (or_cases (p x) (list_any p xs) h) [
      | inl here ↦ or_left (q x) (list_any q xs) (w x here)
      | inr later ↦ or_right (q x) (list_any q xs) (any-weaker p q w xs later)
    ]

pub common-swap : (xs ys : List Lit) → list_any (has_literal xs) ys ≡ true → list_any (has_literal ys) xs ≡ true
common-swap xs [] h = absurd (false≢true h)
common-swap xs (y ∷ ys) h =
    elim (or_cases (has_literal xs y) (list_any (has_literal xs) ys) h) [
      | inl here ↦
          any-weaker (lit_eq y) (has_literal (y ∷ ys)) (λ l e. or_left (lit_eq l y) (list_any (lit_eq l) ys) (lit-swap y l e)) xs here
      | inr later ↦
          any-weaker (has_literal ys) (has_literal (y ∷ ys)) (λ l e. or_right (lit_eq l y) (list_any (lit_eq l) ys) e) xs (common-swap xs ys later)
    ]
