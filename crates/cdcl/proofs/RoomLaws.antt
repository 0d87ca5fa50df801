-- Laws of how many clauses can still be learned.
use Rattle.std.proofs.Common.{◌≡◌, ℕ, suc, ◌*◌, ◌^◌, ◌<◌, ◌≤◌, Bool, true, false, not, ◌||◌, cond, List, [], ◌∷◌, ◌++◌, length, refl, ap, sym, subst, ◌∙◌, ◌⊎◌, inl, inr, arith, rules, eqb-true}
use native.Mathlib.Numerals.{unary_clauses}
use Rattle.std.specs.Prelude.{nat_eq}
use Rattle.std.specs.List.{list_any}
use Rattle.std.proofs.lemmas.List.Folds.{list_any-append}
use Rattle.std.proofs.lemmas.Bool.{false≢true, and_parts, and_from, or_cases, or_left, or_right}
use Rattle.proof_semantics.specs.Clauses.{lit_eq, negation, has_literal, is_part, is_subsumed, has_opposites}
use Rattle.proof_semantics.specs.declared.literals.Lit.{Lit}
use Rattle.proof_semantics.proofs.LiteralLaws.{lit_eq-true, lit_eq-same, same_lit}
use Rattle.cdcl_trail.proofs.TrailLaws.{either}
use Rattle.cdcl_trail.proofs.PrefixLaws.{all_from}
use Rattle.cdcl.specs.Room.{lit, room_from, clause_room, literal_variables, variables_in}
use Rattle.cdcl.specs.Searching.{is_over, are_over}

abbrev Has : List Lit → Lit → Type 0
Has lits a = has_literal lits a ≡ true

-- At most three choices for each variable.

leaf_small : (b : Bool) → cond b 0 1 ≤ 1
leaf_small true = omega arith
leaf_small false = omega arith

pub room_small : (held : List (List Lit)) (vars : List ℕ) (part : List Lit) → room_from held vars part ≤ 3 ^ length vars
room_small held [] part = leaf_small (is_subsumed held part)
room_small held (v ∷ vars) part =
    let p = 3 ^ length vars in
    let a = room_small held vars part in
    let b = room_small held vars (lit v true ∷ part) in
    let c = room_small held vars (lit v false ∷ part) in
    let e : 3 ^ suc (length vars) ≡ 3 * p = simp unary_clauses (omega arith) in
    omega (arith, a, b, c, e)

-- One more held clause.

subsumed_more : (held : List (List Lit)) (c part : List Lit) → is_subsumed (held ++ c ∷ []) part ≡ (is_subsumed held part || (is_part c part || false))
subsumed_more held c part = list_any-append (λ d. is_part d part) held (c ∷ [])

leaf_less : (b d : Bool) → cond (b || d) 0 1 ≤ cond b 0 1
leaf_less true d = omega arith
leaf_less false true = omega arith
leaf_less false false = omega arith

room_less : (held : List (List Lit)) (c : List Lit) (vars : List ℕ) (part : List Lit) → room_from (held ++ c ∷ []) vars part ≤ room_from held vars part
room_less held c [] part =
    subst (λ b. cond b 0 1 ≤ cond (is_subsumed held part) 0 1) (sym (subsumed_more held c part)) (leaf_less (is_subsumed held part) (is_part c part || false))
room_less held c (v ∷ vars) part =
    let x = room_less held c vars part in
    let y = room_less held c vars (lit v true ∷ part) in
    let z = room_less held c vars (lit v false ∷ part) in
    omega (arith, x, y, z)

-- The clause is the part with literals of these variables.
record IsBuilt (c : List Lit) (vars : List ℕ) (part : List Lit) : Type 0 where
  inside : (a : Lit) → Has part a → Has c a
  covered : (a : Lit) → Has c a → (Has part a) ⊎ (list_any (nat_eq a.var) vars ≡ true)

leaf_falls : (b d : Bool) → b ≡ false → d ≡ true → cond (b || d) 0 1 < cond b 0 1
leaf_falls true d e f = absurd (false≢true (sym e))
leaf_falls false true e f = omega arith
leaf_falls false false e f = absurd (false≢true f)

part_of : (c part : List Lit) → ((a : Lit) → Has c a → Has part a) → is_part c part ≡ true
part_of c part each = all_from (has_literal part) c each

part_has : (d part : List Lit) (a : Lit) → is_part d part ≡ true → Has d a → Has part a
part_has [] part a all has = absurd (false≢true has)
part_has (b ∷ d) part a all has =
    elim (or_cases _ _ has) [
      | inl same ↦ ap (has_literal part) (lit_eq-true a b same) ∙ (and_parts _ _ all).0
      | inr later ↦ part_has d part a (and_parts _ _ all).1 later
    ]

not_held : (held : List (List Lit)) (c part : List Lit) → is_subsumed held c ≡ false → ((a : Lit) → Has part a → Has c a) → is_subsumed held part ≡ false
not_held [] c part none inside = refl
not_held (d ∷ held) c part none inside =
    elim (either (is_part d c)) [
      | inl is ↦ absurd (false≢true (sym none ∙ or_left _ _ is))
      | inr isnt ↦
          let rest = not_held held c part (sym (ap (λ b. b || is_subsumed held c) isnt) ∙ none) inside in
          elim (either (is_part d part)) [
            | inl within ↦ absurd (false≢true (sym isnt ∙ part_of d c (λ a has. inside a (part_has d part a within has))))
            | inr apart ↦ ap (λ b. b || is_subsumed held part) apart ∙ rest
          ]
    ]

-- what is left of the covered literals
put_here : (c part : List Lit) (v : ℕ) (vars : List ℕ) (positive : Bool) → Has c (lit v positive) → IsBuilt c (v ∷ vars) part
    → ((a : Lit) → Has c a → a.var ≡ v → a ≡ lit v positive) → IsBuilt c vars (lit v positive ∷ part)
put_here c part v vars positive has built only = record {
  inside = λ a is. elim (or_cases _ _ is) [
    | inl same ↦ ap (has_literal c) (lit_eq-true a (lit v positive) same) ∙ has
    | inr later ↦ built.inside a later
  ];
  covered = λ a is. elim (built.covered a is) [
    | inl before ↦ inl (or_right (lit_eq a (lit v positive)) (has_literal part a) before)
    | inr among ↦ elim (or_cases (nat_eq a.var v) (list_any (nat_eq a.var) vars) among) [
      | inl here ↦ inl (or_left (lit_eq a (lit v positive)) (has_literal part a) (ap (λ b. lit_eq b (lit v positive)) (only a is (eqb-true a.var v here)) ∙ lit_eq-same (lit v positive)))
      | inr later ↦ inr later
    ]
  ];
}

leave_out : (c part : List Lit) (v : ℕ) (vars : List ℕ) → has_literal c (lit v true) ≡ false → has_literal c (lit v false) ≡ false → IsBuilt c (v ∷ vars) part
    → IsBuilt c vars part
leave_out c part v vars no_positive no_negative built = record {
  inside = built.inside;
  covered = λ a is. elim (built.covered a is) [
    | inl before ↦ inl before
    | inr among ↦ elim (or_cases (nat_eq a.var v) (list_any (nat_eq a.var) vars) among) [
      | inl here ↦ absurd (neither a.positive a is (same_lit a (lit v a.positive) (eqb-true a.var v here) refl))
      | inr later ↦ inr later
    ]
  ];
}
  where
    neither : (b : Bool) (a : Lit) → Has c a → a ≡ lit v b → ⊥
    neither true a is e = false≢true (sym no_positive ∙ ap (has_literal c) (sym e) ∙ is)
    neither false a is e = false≢true (sym no_negative ∙ ap (has_literal c) (sym e) ∙ is)

opposite_none : (c whole : List Lit) (a : Lit) → list_any (λ b. has_literal whole (negation b)) c ≡ false → Has c a → has_literal whole (negation a) ≡ false
opposite_none [] whole a none has = absurd (false≢true has)
opposite_none (b ∷ c) whole a none has =
    elim (either (has_literal whole (negation b))) [
      | inl is ↦ absurd (false≢true (sym none ∙ or_left _ _ is))
      | inr isnt ↦ elim (or_cases _ _ has) [
        | inl same ↦ ap (λ x. has_literal whole (negation x)) (lit_eq-true a b same) ∙ isnt
        | inr later ↦ opposite_none c whole a (sym (ap (λ x. x || list_any (λ y. has_literal whole (negation y)) c) isnt) ∙ none) later
      ]
    ]

only_one : (c : List Lit) (v : ℕ) (positive : Bool) → has_opposites c ≡ false → Has c (lit v positive) → (a : Lit) → Has c a → a.var ≡ v → a ≡ lit v positive
only_one c v positive none has a is same = pick a.positive positive refl refl
  where
    differs : a.positive ≡ not positive → a ≡ lit v positive
    differs e =
        absurd (false≢true (sym (opposite_none c c (lit v positive) none has) ∙ ap (has_literal c) (sym (same_lit a (negation (lit v positive)) same e)) ∙ is))

    pick : (b d : Bool) → a.positive ≡ b → positive ≡ d → a ≡ lit v positive
    pick true true e f = same_lit a (lit v positive) same (e ∙ sym f)
    pick true false e f = differs (e ∙ ap not (sym f))
    pick false true e f = differs (e ∙ ap not (sym f))
    pick false false e f = same_lit a (lit v positive) same (e ∙ sym f)

falls_from : (held : List (List Lit)) (c : List Lit) (vars : List ℕ) (part : List Lit) → is_subsumed held c ≡ false → has_opposites c ≡ false → IsBuilt c vars part
    → room_from (held ++ c ∷ []) vars part < room_from held vars part
falls_from held c [] part new apart built =
    subst (λ b. cond b 0 1 < cond (is_subsumed held part) 0 1) (sym (subsumed_more held c part))
    (leaf_falls (is_subsumed held part) (is_part c part || false) (not_held held c part new built.inside)
    (or_left _ _ (part_of c part (λ a has. elim (built.covered a has) [ inl is ↦ is | inr among ↦ absurd (false≢true among) ]))))
falls_from held c (v ∷ vars) part new apart built =
    let x = room_less held c vars part in
    let y = room_less held c vars (lit v true ∷ part) in
    let z = room_less held c vars (lit v false ∷ part) in
    elim (either (has_literal c (lit v true))) [
      | inl positive ↦
          let less = falls_from held c vars (lit v true ∷ part) new apart (put_here c part v vars true positive built (only_one c v true apart positive)) in
          omega (arith, x, z, less)
      | inr no_positive ↦ elim (either (has_literal c (lit v false))) [
        | inl negative ↦
            let less = falls_from held c vars (lit v false ∷ part) new apart (put_here c part v vars false negative built (only_one c v false apart negative)) in
            omega (arith, x, y, less)
        | inr no_negative ↦
            let less = falls_from held c vars part new apart (leave_out c part v vars no_positive no_negative built) in
            omega (arith, y, z, less)
      ]
    ]

over_has : (vars : List ℕ) (c : List Lit) (a : Lit) → is_over vars c ≡ true → Has c a → list_any (nat_eq a.var) vars ≡ true
over_has vars [] a all has = absurd (false≢true has)
over_has vars (b ∷ c) a all has =
    elim (or_cases _ _ has) [
      | inl same ↦ ap (λ (x : Lit). list_any (nat_eq x.var) vars) (lit_eq-true a b same) ∙ (and_parts _ _ all).0
      | inr later ↦ over_has vars c a (and_parts _ _ all).1 later
    ]

-- A clause that is new leaves room for less.
pub room_falls : (vars : List ℕ) (held : List (List Lit)) (c : List Lit) → is_subsumed held c ≡ false → has_opposites c ≡ false → is_over vars c ≡ true
    → clause_room vars (held ++ c ∷ []) < clause_room vars held
room_falls vars held c new apart over =
    falls_from held c vars [] new apart (record {
      inside = λ a is. absurd (false≢true is);
      covered = λ a is. inr (over_has vars c a over is);
    })

-- The variables of clauses cover them.

among_left : (xs ys : List ℕ) (n : ℕ) → list_any (nat_eq n) xs ≡ true → list_any (nat_eq n) (xs ++ ys) ≡ true
among_left xs ys n e = list_any-append (nat_eq n) xs ys ∙ or_left _ _ e

among_right : (xs ys : List ℕ) (n : ℕ) → list_any (nat_eq n) ys ≡ true → list_any (nat_eq n) (xs ++ ys) ≡ true
among_right xs ys n e = list_any-append (nat_eq n) xs ys ∙ or_right _ _ e

eqb_same : (n : ℕ) → nat_eq n n ≡ true
eqb_same n = search rules

variables_has : (lits : List Lit) (a : Lit) → Has lits a → list_any (nat_eq a.var) (literal_variables lits) ≡ true
variables_has [] a has = absurd (false≢true has)
variables_has (b ∷ lits) a has =
    elim (or_cases _ _ has) [
      | inl same ↦ or_left _ _ (ap (λ (x : Lit). nat_eq a.var x.var) (sym (lit_eq-true a b same)) ∙ eqb_same a.var)
      | inr later ↦ or_right _ _ (variables_has lits a later)
    ]

pub over_from : (vars : List ℕ) (lits : List Lit) → ((a : Lit) → Has lits a → list_any (nat_eq a.var) vars ≡ true) → is_over vars lits ≡ true
over_from vars lits each = all_from (λ a. list_any (nat_eq a.var) vars) lits each

pub own_over : (lits : List Lit) (more : List ℕ) → is_over (more ++ literal_variables lits) lits ≡ true
own_over lits more = over_from (more ++ literal_variables lits) lits (λ a has. among_right more (literal_variables lits) a.var (variables_has lits a has))

pub clauses_over : (clauses : List (List Lit)) (vars : List ℕ) → ((n : ℕ) → list_any (nat_eq n) (variables_in clauses) ≡ true → list_any (nat_eq n) vars ≡ true) → are_over vars clauses ≡ true
clauses_over [] vars each = refl
clauses_over (c ∷ clauses) vars each =
    and_from _ _ (over_from vars c (λ a has. each a.var (among_left (literal_variables c) (variables_in clauses) a.var (variables_has c a has))))
    (clauses_over clauses vars (λ n is. each n (among_right (literal_variables c) (variables_in clauses) n is)))

pub all_over : (clauses : List (List Lit)) (more : List ℕ) → are_over (variables_in clauses ++ more) clauses ≡ true
all_over clauses more = clauses_over clauses (variables_in clauses ++ more) (λ n is. among_left (variables_in clauses) more n is)

pub over_append : (vars : List ℕ) (clauses : List (List Lit)) (c : List Lit) → are_over vars clauses ≡ true → is_over vars c ≡ true → are_over vars (clauses ++ c ∷ []) ≡ true
over_append vars [] c all last = and_from _ _ last refl
over_append vars (d ∷ clauses) c all last = let parts = and_parts _ _ all in and_from _ _ parts.0 (over_append vars clauses c parts.1 last)
