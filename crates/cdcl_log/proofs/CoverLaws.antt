-- Laws of the variables of clauses.
use Rattle.std.proofs.Common.{◌≡◌, ℕ, zero, suc, true, false, ◌+◌, List, [], ◌∷◌, ◌++◌, length, take, get_or, Some, refl, ap, sym, ◌∙◌, ◌<◌, eq-eqb}
use Rattle.std.specs.Prelude.{slice_get, nat_eq}
use Rattle.std.specs.List.{list_any}
use Rattle.std.proofs.lemmas.List.{take_more}
use Rattle.std.proofs.lemmas.Bool.{and_parts, and_from, or_left, or_right}
use Rattle.std.proofs.lemmas.Option.{none-some, same_Some}
use Rattle.proof_semantics.specs.declared.literals.Lit.{Lit}
use Rattle.cdcl_log.specs.Variables.{is_over, are_over, HasAll}

-- Lists of variables.

pub has_all_same : (xs : List ℕ) → HasAll xs xs
has_all_same xs v has = has

pub has_all_chain : (xs ys zs : List ℕ) → HasAll xs ys → HasAll ys zs → HasAll xs zs
has_all_chain xs ys zs first second v has = second v (first v has)

pub has_at : (xs : List ℕ) (i v w : ℕ) → slice_get xs i ≡ Some w → v ≡ w → list_any (nat_eq v) xs ≡ true
has_at [] i v w is same = absurd (none-some w is)
has_at (x ∷ xs) zero v w is same = or_left (nat_eq v x) (list_any (nat_eq v) xs) (eq-eqb v x (same ∙ sym (same_Some x w is)))
has_at (x ∷ xs) (suc i) v w is same = or_right (nat_eq v x) (list_any (nat_eq v) xs) (has_at xs i v w is same)

pub over_more : (xs ys : List ℕ) (lits : List Lit) → HasAll xs ys → is_over xs lits ≡ true → is_over ys lits ≡ true
over_more xs ys [] more all = refl
over_more xs ys (a ∷ lits) more all = let parts = and_parts _ _ all in and_from _ _ (more a.var parts.0) (over_more xs ys lits more parts.1)

pub are_over_more : (xs ys : List ℕ) (clauses : List (List Lit)) → HasAll xs ys → are_over xs clauses ≡ true → are_over ys clauses ≡ true
are_over_more xs ys [] more all = refl
are_over_more xs ys (c ∷ clauses) more all = let parts = and_parts _ _ all in and_from _ _ (over_more xs ys c more parts.0) (are_over_more xs ys clauses more parts.1)

pub over_push : (vars : List ℕ) (lits : List Lit) (a : Lit) → is_over vars lits ≡ true → list_any (nat_eq a.var) vars ≡ true → is_over vars (lits ++ a ∷ []) ≡ true
over_push vars [] a all here = and_from _ _ here refl
over_push vars (b ∷ lits) a all here = let parts = and_parts _ _ all in and_from _ _ parts.0 (over_push vars lits a parts.1 here)

-- what stands past the end of a clause
abbrev pub no_literal : Lit
no_literal = record { var = 0; positive = false }

-- one more literal of a clause
pub over_taken : (xs ys : List ℕ) (lits : List Lit) (i : ℕ) (d : Lit) → i < length lits → HasAll xs ys → is_over xs (take i lits) ≡ true
    → list_any (nat_eq (get_or lits i d).var) ys ≡ true → is_over ys (take (i + 1) lits) ≡ true
over_taken xs ys lits i d below more so_far here =
    ap (is_over ys) (take_more lits i d below) ∙ over_push ys (take i lits) (get_or lits i d) (over_more xs ys (take i lits) more so_far) here

are_over_push : (vars : List ℕ) (clauses : List (List Lit)) (c : List Lit) → are_over vars clauses ≡ true → is_over vars c ≡ true → are_over vars (clauses ++ c ∷ []) ≡ true
are_over_push vars [] c all here = and_from _ _ here refl
are_over_push vars (x ∷ clauses) c all here = let parts = and_parts _ _ all in and_from _ _ parts.0 (are_over_push vars clauses c parts.1 here)

-- the same clauses
pub are_over_kept : (xs ys : List ℕ) (clauses later : List (List Lit)) → HasAll xs ys → are_over xs clauses ≡ true → later ≡ clauses → are_over ys later ≡ true
are_over_kept xs ys clauses later more all is = ap (are_over ys) is ∙ are_over_more xs ys clauses more all

-- one more clause
pub are_over_next : (xs ys : List ℕ) (clauses later : List (List Lit)) (c lits : List Lit) → HasAll xs ys → are_over xs clauses ≡ true → lits ≡ c → is_over ys lits ≡ true
    → later ≡ clauses ++ c ∷ [] → are_over ys later ≡ true
are_over_next xs ys clauses later c lits more all same here is =
    ap (are_over ys) is ∙ are_over_push ys clauses c (are_over_more xs ys clauses more all) (ap (is_over ys) (sym same) ∙ here)
