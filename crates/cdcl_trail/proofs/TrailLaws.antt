-- Laws of literals, reasons and places beside each other.
use Rattle.std.proofs.Common.{◌≡◌, ℕ, zero, suc, ◌+◌, ◌-◌, ◌<◌, ◌≤◌, Bool, true, false, not, ◌||◌, cond, eqb, List, [], ◌∷◌, ◌++◌, length, get_or, take, Option, Some, None, refl, ap, sym, subst, ◌∙◌, ◌⊎◌, inl, inr, arith, eqb-true, eq-eqb}
use Rattle.std.specs.Prelude.{Result, Ok, Err, slice_get}
use Rattle.std.specs.List.{list_any}
use Rattle.std.specs.Option.{option_map, option_flatten, unwrap_or, IsSome}
use Rattle.std.specs.Result.{OnOk}
use Rattle.std.proofs.lemmas.Bool.{false≢true, and_parts, and_from, cond-true, cond-false, ne_eqb, leb-true, le-leb}
use Rattle.std.proofs.lemmas.List.{length_push}
use Rattle.std.proofs.lemmas.Option.{none-some, slice_get-get_or}
use Rattle.std.proofs.lemmas.Bool.Decides.{leb_tells}
use Rattle.std.proofs.Math.Dec.{leb}
use Rattle.proof_semantics.specs.declared.literals.Lit.{Lit}
use Rattle.cdcl_trail.specs.Trails.{Step, step, assumed, opened_by, literals_of, reasons_in, step_of, value_of, reason_in, reason_of, level, up_to_variable, level_of, up_to_level, once}
use Rattle.cdcl_trail.specs.AssignmentOf.{steps_from, place_in, reason_at, count_assumed, levels_from, state_of, IsTabulated}
use Rattle.cdcl_trail.specs.declared.assignment.Assignment.TheInside.{Inside}
use Rattle.packed_literals.proofs.NamingLaws.{place_cases, no_place_cases, swap_cond, map_cond, apart_at}
use Rattle.packed_literals.specs.DenseOf.{told}
use Rattle.packed_literals.specs.ValuesOf.{value_told}

pub either : (b : Bool) → (b ≡ true) ⊎ (b ≡ false)
either true = inl refl
either false = inr refl

pub literals_beside : (lits : List Lit) (reasons : List (Option ℕ)) → length reasons ≡ length lits → literals_of (steps_from lits reasons) ≡ lits
literals_beside [] reasons e = refl
literals_beside (a ∷ lits) [] e = absurd (omega arith)
literals_beside (a ∷ lits) (r ∷ reasons) e = ap (λ xs. a ∷ xs) (literals_beside lits reasons (omega arith))

pub length_beside : (lits : List Lit) (reasons : List (Option ℕ)) → length reasons ≡ length lits → length (steps_from lits reasons) ≡ length lits
length_beside [] reasons e = refl
length_beside (a ∷ lits) [] e = absurd (omega arith)
length_beside (a ∷ lits) (r ∷ reasons) e = ap suc (length_beside lits reasons (omega arith))

pub steps_push : (lits : List Lit) (reasons : List (Option ℕ)) (a : Lit) (r : Option ℕ) → length reasons ≡ length lits
    → steps_from (lits ++ a ∷ []) (reasons ++ r ∷ []) ≡ steps_from lits reasons ++ step a r ∷ []
steps_push [] [] a r e = refl
steps_push [] (q ∷ reasons) a r e = absurd (omega arith)
steps_push (b ∷ lits) [] a r e = absurd (omega arith)
steps_push (b ∷ lits) (q ∷ reasons) a r e = ap (λ xs. step b q ∷ xs) (steps_push lits reasons a r (omega arith))

pub level_push : (xs : List Step) (s : Step) → level (xs ++ s ∷ []) ≡ level xs + opened_by s.reason
level_push [] s = omega arith
level_push (x ∷ xs) s = omega (arith, level_push xs s)

pub opened_small : (r : Option ℕ) → opened_by r ≤ 1
opened_small None = omega arith
opened_small (Some n) = omega arith

pub level_length : (xs : List Step) → level xs ≤ length xs
level_length [] = omega arith
level_length (x ∷ xs) = omega (arith, level_length xs, opened_small x.reason)

-- Places.

pub no_place : (lits : List Lit) (reasons : List (Option ℕ)) (v : ℕ) → place_in lits v ≡ None → step_of (steps_from lits reasons) v ≡ None
no_place [] reasons v e = refl
no_place (a ∷ lits) [] v e = refl
no_place (a ∷ lits) (r ∷ reasons) v e =
    let parts = no_place_cases _ _ e in
    cond-false (eqb a.var v) (Some (step a r)) (step_of (steps_from lits reasons) v) parts.0 ∙ no_place lits reasons v parts.1

-- what a place tells of its variable
pub record IsAt (lits : List Lit) (reasons : List (Option ℕ)) (v p : ℕ) (d : Lit) (q : Option ℕ) : Type 0 where
  pub below : p < length lits
  pub found : step_of (steps_from lits reasons) v ≡ Some (step (get_or lits p d) (get_or reasons p q))
  pub depth : level_of (steps_from lits reasons) v ≡ count_assumed (take (p + 1) reasons)

at_first : (a : Lit) (lits : List Lit) (r : Option ℕ) (reasons : List (Option ℕ)) (v p : ℕ) (d : Lit) (q : Option ℕ) → eqb a.var v ≡ true → p ≡ 0
    → IsAt (a ∷ lits) (r ∷ reasons) v p d q
at_first a lits r reasons v p d q same zero_is = subst (λ n. IsAt (a ∷ lits) (r ∷ reasons) v n d q) (sym zero_is) (record {
  below = omega arith;
  found = cond-true (eqb a.var v) (Some (step a r)) (step_of (steps_from lits reasons) v) same;
  depth = ap level (cond-true (eqb a.var v) (step a r ∷ []) (step a r ∷ up_to_variable (steps_from lits reasons) v) same);
})

next_up : (p : ℕ) → suc (p + 1) ≡ suc p + 1
next_up p = omega arith

at_later : (a : Lit) (lits : List Lit) (r : Option ℕ) (reasons : List (Option ℕ)) (v p p' : ℕ) (d : Lit) (q : Option ℕ) → eqb a.var v ≡ false → p' ≡ suc p
    → IsAt lits reasons v p d q → IsAt (a ∷ lits) (r ∷ reasons) v p' d q
at_later a lits r reasons v p p' d q differs next later = subst (λ n. IsAt (a ∷ lits) (r ∷ reasons) v n d q) (sym next) (record {
  below = omega (arith, later.below);
  found = cond-false (eqb a.var v) (Some (step a r)) (step_of (steps_from lits reasons) v) differs ∙ later.found;
  depth =
      ap level (cond-false (eqb a.var v) (step a r ∷ []) (step a r ∷ up_to_variable (steps_from lits reasons) v) differs)
      ∙ ap (λ n. opened_by r + n) later.depth
      ∙ ap (λ n. count_assumed (take n (r ∷ reasons))) (next_up p);
})

pub at_place : (lits : List Lit) (reasons : List (Option ℕ)) (v p : ℕ) (d : Lit) (q : Option ℕ) → length reasons ≡ length lits → place_in lits v ≡ Some p
    → IsAt lits reasons v p d q
at_place [] reasons v p d q e found = absurd (none-some p found)
at_place (a ∷ lits) [] v p d q e found = absurd (omega arith)
at_place (a ∷ lits) (r ∷ reasons) v p d q e found =
    elim (place_cases _ _ p found) [
      | inl here ↦ at_first a lits r reasons v p d q here.0 here.1
      | inr later ↦ at_later a lits r reasons v later.0 p d q later.1 (omega (arith, later.3)) (at_place lits reasons v later.0 d q (omega arith) later.2)
    ]

valued : (o : Option Step) (x : Step) → o ≡ Some x → option_map (λ (s : Step). s.literal.positive) o ≡ None → ⊥
valued None x e f = none-some x e
valued (Some y) x e f = none-some y.literal.positive (sym f)

-- A variable without a value has no place.
pub without_value : (lits : List Lit) (reasons : List (Option ℕ)) (v : ℕ) (place : Option ℕ) → length reasons ≡ length lits → place_in lits v ≡ place
    → value_of (steps_from lits reasons) v ≡ None → place ≡ None
without_value lits reasons v None e found f = refl
without_value lits reasons v (Some p) e found f =
    absurd (valued _ _ (at_place lits reasons v p (record { var = 0; positive = true }) None e found).found f)

next_length : (n : ℕ) → n + 1 ≡ suc n
next_length n = omega arith

pub place_push : (lits : List Lit) (a : Lit) (v : ℕ) → place_in lits a.var ≡ None
    → place_in (lits ++ a ∷ []) v ≡ cond (eqb a.var v) (Some (length lits)) (place_in lits v)
place_push [] a v none = refl
place_push (b ∷ lits) a v none =
    let parts = no_place_cases _ _ none in
    ap (λ later. cond (eqb b.var v) (Some 0) (option_map (λ place. place + 1) later)) (place_push lits a v parts.1)
    ∙ ap (cond (eqb b.var v) (Some 0)) (map_cond (eqb a.var v) (length lits) (place_in lits v))
    ∙ swap_cond (eqb b.var v) (eqb a.var v) (Some 0) (Some (length lits + 1)) _ (apart_at b.var a.var v parts.0)
    ∙ ap (λ n. cond (eqb a.var v) (Some n) (place_in (b ∷ lits) v)) (next_length (length lits))

-- Once.

or-none : (b : Bool) → (b || false) ≡ b
or-none true = refl
or-none false = refl

or_step : (b c d e : Bool) → c ≡ (d || e) → (b || c) ≡ ((b || d) || e)
or_step true c d e h = refl
or_step false c d e h = h

pub or_both : (b c : Bool) → b ≡ false → c ≡ false → (b || c) ≡ false
or_both true c e f = e
or_both false c e f = f

pub or_neither : (b c : Bool) → (b || c) ≡ false → (b ≡ false) × (c ≡ false)
or_neither true c e = absurd (false≢true (sym e))
or_neither false c e = (refl, e)

pub not-true : (b : Bool) → not b ≡ true → b ≡ false
not-true true e = absurd (false≢true e)
not-true false e = refl

pub not-false : (b : Bool) → b ≡ false → not b ≡ true
not-false true e = absurd (false≢true (sym e))
not-false false e = refl

eqb-sym : (m n : ℕ) → eqb m n ≡ false → eqb n m ≡ false
eqb-sym m n e = ne_eqb n m (λ same. false≢true (sym e ∙ eq-eqb m n (sym same)))

any_push : (f : Lit → Bool) (xs : List Lit) (a : Lit) → list_any f (xs ++ a ∷ []) ≡ (list_any f xs || f a)
any_push f [] a = or-none (f a)
any_push f (x ∷ xs) a = or_step (f x) _ _ _ (any_push f xs a)

lacked : (lits : List Lit) (v : ℕ) → list_any (λ b. eqb b.var v) lits ≡ false → place_in lits v ≡ None
lacked [] v none = refl
lacked (a ∷ lits) v none =
    let parts = or_neither _ _ none in
    cond-false (eqb a.var v) (Some 0) _ parts.0 ∙ ap (option_map (λ place. place + 1)) (lacked lits v parts.1)

pub once_push : (lits : List Lit) (a : Lit) → once lits ≡ true → place_in lits a.var ≡ None → once (lits ++ a ∷ []) ≡ true
once_push [] a all none = refl
once_push (b ∷ lits) a all none =
    let parts = and_parts _ _ all in
    let places = no_place_cases _ _ none in
    and_from _ _
    (not-false _ (any_push (λ c. eqb c.var b.var) lits a ∙ or_both _ _ (not-true _ parts.0) (eqb-sym b.var a.var places.0)))
    (once_push lits a parts.1 places.1)

pub once_pop : (lits : List Lit) (a : Lit) → once (lits ++ a ∷ []) ≡ true → (once lits ≡ true) × (place_in lits a.var ≡ None)
once_pop [] a all = (refl, refl)
once_pop (b ∷ lits) a all =
    let parts = and_parts _ _ all in
    let rest = once_pop lits a parts.1 in
    let apart = or_neither _ _ (sym (any_push (λ c. eqb c.var b.var) lits a) ∙ not-true _ parts.0) in (
      and_from _ _ (not-false _ apart.0) rest.0,
      cond-false (eqb b.var a.var) (Some 0) _ (eqb-sym a.var b.var apart.1) ∙ ap (option_map (λ place. place + 1)) rest.1,
    )

pub place_pop : (lits : List Lit) (a : Lit) (v : ℕ) → place_in lits a.var ≡ None
    → cond (eqb a.var v) None (place_in (lits ++ a ∷ []) v) ≡ place_in lits v
place_pop lits a v none =
    elim (either (eqb a.var v)) [
      | inl same ↦ cond-true (eqb a.var v) None _ same ∙ sym none ∙ ap (place_in lits) (eqb-true a.var v same)
      | inr differs ↦ cond-false (eqb a.var v) None _ differs ∙ place_push lits a v none ∙ cond-false (eqb a.var v) _ _ differs
    ]

-- Levels.

pub cut_step : (b : Bool) (x : Step) (xs ys : List Step) → (b ≡ true → xs ≡ ys) → cond b (x ∷ xs) [] ≡ cond b (x ∷ ys) []
cut_step true x xs ys e = ap (λ zs. x ∷ zs) (e refl)
cut_step false x xs ys e = refl

cut_none : (n m : ℕ) (s : Step) → n < m → cond (leb m n) (s ∷ []) [] ≡ []
cut_none n m s above =
    elim (leb_tells m n) [
      | inl fits ↦ absurd (omega (arith, above, fits.1))
      | inr over ↦ cond-false (leb m n) (s ∷ []) [] over.0
    ]

pub cut_last : (n : ℕ) (xs : List Step) (s : Step) → n < level (xs ++ s ∷ []) → up_to_level n (xs ++ s ∷ []) ≡ up_to_level n xs
cut_last n [] s above = cut_none n (opened_by s.reason) s (omega (arith, above))
cut_last n (x ∷ xs) s above =
    cut_step (leb (opened_by x.reason) n) x _ _ (λ fits. cut_last (n - opened_by x.reason) xs s (omega (arith, above, leb-true (opened_by x.reason) n fits)))

pub cut_nothing : (n : ℕ) (xs : List Step) → level xs ≤ n → up_to_level n xs ≡ xs
cut_nothing n [] within = refl
cut_nothing n (x ∷ xs) within =
    cond-true (leb (opened_by x.reason) n) (x ∷ up_to_level (n - opened_by x.reason) xs) [] (le-leb (opened_by x.reason) n (omega (arith, within)))
    ∙ ap (λ ys. x ∷ ys) (cut_nothing (n - opened_by x.reason) xs (omega (arith, within)))

-- one step back
pub record IsBack (n : ℕ) (older newer : List Step) : Type 0 where
  pub same : up_to_level n newer ≡ up_to_level n older
  pub above : n ≤ level newer
  pub shorter : length newer < length older

pub step_back : (n : ℕ) (older newer : List Step) → (last : Step) × (older ≡ newer ++ last ∷ []) → n < level older → IsBack n older newer
step_back n older newer popped above =
    let last = popped.0 in
    let behind : older ≡ newer ++ last ∷ [] = popped.1 in
    let deep : n < level (newer ++ last ∷ []) = subst (λ xs. n < level xs) behind above in
    record {
      same = sym (cut_last n newer last deep) ∙ ap (up_to_level n) (sym behind);
      above = omega (arith, deep, level_push newer last, opened_small last.reason);
      shorter = omega (arith, ap length behind, length_push newer last);
    }

pub level_assumed : (xs ys : List Step) (a : Lit) → ys ≡ xs ++ assumed a ∷ [] → level ys ≡ level xs + 1
level_assumed xs ys a e = ap level e ∙ level_push xs (assumed a)

pub on_ok : {T E : Type 0} (r : Result T E) (P Q : Type 0) → OnOk r P → (P → Q) → OnOk r Q
on_ok (Ok x) P Q p f = f p
on_ok (Err e) P Q p f = p

-- What the fields tell.

flat : (o : Option ℕ) → option_flatten (Some o) ≡ o
flat None = refl
flat (Some n) = refl

pub nothing_some : {o : Option Bool} → o ≡ None → IsSome o → ⊥
nothing_some {o = None} e some = false≢true some
nothing_some {o = Some b} e some = none-some b (sym e)

pub reason_told : (lits : List Lit) (reasons : List (Option ℕ)) (v : ℕ) (place : Option ℕ) → length reasons ≡ length lits → place_in lits v ≡ place
    → reason_at reasons place ≡ reason_of (steps_from lits reasons) v
reason_told lits reasons v None e found = sym (ap reason_in (no_place lits reasons v found))
reason_told lits reasons v (Some p) e found =
    let told = at_place lits reasons v p (record { var = 0; positive = true }) None e found in
    ap option_flatten (slice_get-get_or reasons p None (omega (arith, e, told.below)))
    ∙ flat (get_or reasons p None)
    ∙ sym (ap reason_in told.found)

-- what the fields tell of a variable, by what was read of them
pub reason_read : (told : Option ℕ) (lits : List Lit) (seen reasons : List (Option ℕ)) (v : ℕ) (found place : Option ℕ) → told ≡ reason_at seen found
    → seen ≡ reasons → found ≡ place → length reasons ≡ length lits → place ≡ place_in lits v → told ≡ reason_of (steps_from lits reasons) v
reason_read told lits seen reasons v found place is same at beside placed =
    is ∙ ap (λ xs. reason_at xs found) same ∙ ap (reason_at reasons) at ∙ reason_told lits reasons v place beside (sym placed)

pub reasons_beside : (lits : List Lit) (reasons : List (Option ℕ)) → length reasons ≡ length lits → reasons_in (steps_from lits reasons) ≡ reasons
reasons_beside [] [] e = refl
reasons_beside [] (r ∷ reasons) e = absurd (omega arith)
reasons_beside (a ∷ lits) [] e = absurd (omega arith)
reasons_beside (a ∷ lits) (r ∷ reasons) e = ap (λ xs. r ∷ xs) (reasons_beside lits reasons (omega arith))

-- a variable without a value has no level to tell
pub no_level : {P : Type 0} (lits : List Lit) (reasons : List (Option ℕ)) (v : ℕ) → place_in lits v ≡ None → IsSome (value_of (steps_from lits reasons) v) → P
no_level lits reasons v found some =
    absurd (nothing_some (ap (option_map (λ (s : Step). s.literal.positive)) (no_place lits reasons v found)) some)

-- The levels of literals.

level_counts : (lits : List Lit) (reasons : List (Option ℕ)) → length reasons ≡ length lits → level (steps_from lits reasons) ≡ count_assumed reasons
level_counts [] [] e = refl
level_counts [] (r ∷ reasons) e = absurd (omega arith)
level_counts (a ∷ lits) [] e = absurd (omega arith)
level_counts (a ∷ lits) (r ∷ reasons) e = ap (λ n. opened_by r + n) (level_counts lits reasons (omega arith))

levels_push : (n : ℕ) (reasons : List (Option ℕ)) (r : Option ℕ)
    → levels_from n (reasons ++ r ∷ []) ≡ levels_from n reasons ++ (n + count_assumed reasons + opened_by r) ∷ []
levels_push n [] r = ap (λ m. m ∷ []) (none_more n (opened_by r))
  where
    none_more : (n m : ℕ) → n + m ≡ n + 0 + m
    none_more n m = omega arith
levels_push n (x ∷ reasons) r =
    ap (λ ms. (n + opened_by x) ∷ ms)
    (levels_push (n + opened_by x) reasons r
    ∙ ap (λ m. levels_from (n + opened_by x) reasons ++ m ∷ []) (regroup n (opened_by x) (count_assumed reasons) (opened_by r)))
  where
    regroup : (n m k l : ℕ) → n + m + k + l ≡ n + (m + k) + l
    regroup n m k l = omega arith

levels_pop : (n : ℕ) (reasons : List (Option ℕ)) (r : Option ℕ) → take (length reasons) (levels_from n (reasons ++ r ∷ [])) ≡ levels_from n reasons
levels_pop n [] r = refl
levels_pop n (x ∷ reasons) r = ap (λ ms. (n + opened_by x) ∷ ms) (levels_pop (n + opened_by x) reasons r)

levels_read : (n : ℕ) (reasons : List (Option ℕ)) (p : ℕ) → p < length reasons
    → unwrap_or (slice_get (levels_from n reasons) p) 0 ≡ n + count_assumed (take (p + 1) reasons)
levels_read n [] p below = absurd (omega (arith, below))
levels_read n (x ∷ reasons) zero below = one_more n (opened_by x)
  where
    one_more : (n m : ℕ) → n + m ≡ n + (m + 0)
    one_more n m = omega arith
levels_read n (x ∷ reasons) (suc p) below =
    levels_read (n + opened_by x) reasons p (omega (arith, below))
    ∙ regroup n (opened_by x) (count_assumed (take (p + 1) reasons))
    ∙ ap (λ m. n + count_assumed (take m (x ∷ reasons))) (next_up p)
  where
    regroup : (n m k : ℕ) → n + m + k ≡ n + (m + k)
    regroup n m k = omega arith

-- the level that is read at a place
pub level_read : (levels : List ℕ) (reasons : List (Option ℕ)) (p : ℕ) → levels ≡ levels_from 0 reasons → p < length reasons
    → unwrap_or (slice_get levels p) 0 ≡ count_assumed (take (p + 1) reasons)
level_read levels reasons p is below = ap (λ ms. unwrap_or (slice_get ms p) 0) is ∙ levels_read 0 reasons p below ∙ from_none (count_assumed (take (p + 1) reasons))
  where
    from_none : (n : ℕ) → 0 + n ≡ n
    from_none n = omega arith

-- One more literal, and one less.

pub pushed_steps : (t u : Inside) (a : Lit) (r : Option ℕ) → IsTabulated t
    → u.literals.items ≡ t.literals.items ++ a ∷ [] → u.reasons.items ≡ t.reasons.items ++ r ∷ []
    → (state_of u).steps ≡ (state_of t).steps ++ step a r ∷ []
pushed_steps t u a r orderly literals reasons =
    ap (λ lits. steps_from lits u.reasons.items) literals ∙ ap (steps_from (t.literals.items ++ a ∷ [])) reasons
    ∙ steps_push t.literals.items t.reasons.items a r orderly.beside

popped_beside : (t u : Inside) (a : Lit) (r : Option ℕ) → IsTabulated t
    → t.literals.items ≡ u.literals.items ++ a ∷ [] → t.reasons.items ≡ u.reasons.items ++ r ∷ [] → length u.reasons.items ≡ length u.literals.items
popped_beside t u a r orderly literals reasons =
    omega (arith, ap length literals, ap length reasons, length_push u.literals.items a, length_push u.reasons.items r, orderly.beside)

pub popped_steps : (t u : Inside) (a : Lit) (r : Option ℕ) → IsTabulated t
    → t.literals.items ≡ u.literals.items ++ a ∷ [] → t.reasons.items ≡ u.reasons.items ++ r ∷ []
    → (state_of t).steps ≡ (state_of u).steps ++ step a r ∷ []
popped_steps t u a r orderly literals reasons =
    ap (λ lits. steps_from lits t.reasons.items) literals ∙ ap (steps_from (u.literals.items ++ a ∷ [])) reasons
    ∙ steps_push u.literals.items u.reasons.items a r (popped_beside t u a r orderly literals reasons)

step_nowhere : (b : Bool) (x : Step) (later : Option Step) → cond b (Some x) later ≡ None → (b ≡ false) × (later ≡ None)
step_nowhere true x later e = absurd (none-some x (sym e))
step_nowhere false x later e = (refl, e)

step_pushed : (xs : List Step) (s : Step) (v : ℕ) → step_of xs s.literal.var ≡ None → step_of (xs ++ s ∷ []) v ≡ cond (eqb s.literal.var v) (Some s) (step_of xs v)
step_pushed [] s v none = refl
step_pushed (x ∷ xs) s v none =
    let parts = step_nowhere _ x _ none in
    ap (cond (eqb x.literal.var v) (Some x)) (step_pushed xs s v parts.1)
    ∙ swap_cond (eqb x.literal.var v) (eqb s.literal.var v) (Some x) (Some s) (step_of xs v) (apart_at x.literal.var s.literal.var v parts.0)

map_step : (b : Bool) (s : Step) (later : Option Step)
    → option_map (λ (x : Step). x.literal.positive) (cond b (Some s) later) ≡ cond b (Some s.literal.positive) (option_map (λ (x : Step). x.literal.positive) later)
map_step true s later = refl
map_step false s later = refl

pub value_pushed : (xs : List Step) (s : Step) (v : ℕ) → step_of xs s.literal.var ≡ None
    → value_of (xs ++ s ∷ []) v ≡ cond (eqb s.literal.var v) (Some s.literal.positive) (value_of xs v)
value_pushed xs s v none =
    ap (option_map (λ (x : Step). x.literal.positive)) (step_pushed xs s v none) ∙ map_step (eqb s.literal.var v) s (step_of xs v)

pub value_popped : (xs : List Step) (s : Step) (v : ℕ) → step_of xs s.literal.var ≡ None → cond (eqb s.literal.var v) None (value_of (xs ++ s ∷ []) v) ≡ value_of xs v
value_popped xs s v none =
    elim (either (eqb s.literal.var v)) [
      | inl same ↦
          cond-true (eqb s.literal.var v) None _ same
          ∙ sym (ap (option_map (λ (x : Step). x.literal.positive)) (ap (step_of xs) (sym (eqb-true s.literal.var v same)) ∙ none))
      | inr differs ↦ cond-false (eqb s.literal.var v) None _ differs ∙ value_pushed xs s v none ∙ cond-false (eqb s.literal.var v) _ _ differs
    ]

pub pushed : (t u : Inside) (a : Lit) (r : Option ℕ) → IsTabulated t → value_of (state_of t).steps a.var ≡ None
    → u.literals.items ≡ t.literals.items ++ a ∷ [] → u.reasons.items ≡ t.reasons.items ++ r ∷ []
    → ((v : ℕ) → told u.places v ≡ cond (eqb a.var v) (Some (length t.literals.items)) (told t.places v))
    → ((v : ℕ) → value_told u.values v ≡ cond (eqb a.var v) (Some a.positive) (value_told t.values v))
    → u.level ≡ t.level + opened_by r → u.levels.items ≡ t.levels.items ++ u.level ∷ [] → IsTabulated u
pushed t u a r orderly fresh literals reasons places values deep levels =
    let none_there = without_value t.literals.items t.reasons.items a.var (place_in t.literals.items a.var) orderly.beside refl fresh in
    let steps : (state_of u).steps ≡ (state_of t).steps ++ step a r ∷ [] = pushed_steps t u a r orderly literals reasons in
    record {
      beside = omega (arith, ap length literals, ap length reasons, length_push t.literals.items a, length_push t.reasons.items r, orderly.beside);
      apart = ap once literals ∙ once_push t.literals.items a orderly.apart none_there;
      levels = levels
          ∙ ap (λ ms. ms ++ u.level ∷ []) orderly.levels
          ∙ ap (λ n. levels_from 0 t.reasons.items ++ n ∷ [])
          (omega (arith, deep, orderly.depth, level_counts t.literals.items t.reasons.items orderly.beside))
          ∙ sym (levels_push 0 t.reasons.items r)
          ∙ ap (levels_from 0) (sym reasons);
      places = λ v.
          places v
          ∙ ap (cond (eqb a.var v) (Some (length t.literals.items))) (orderly.places v)
          ∙ sym (place_push t.literals.items a v none_there)
          ∙ ap (λ lits. place_in lits v) (sym literals);
      values = λ v.
          values v
          ∙ ap (cond (eqb a.var v) (Some a.positive)) (orderly.values v)
          ∙ sym (value_pushed (state_of t).steps (step a r) v (no_place t.literals.items t.reasons.items a.var none_there))
          ∙ ap (λ xs. value_of xs v) (sym steps);
      depth = deep ∙ ap (λ n. n + opened_by r) orderly.depth ∙ sym (level_push (state_of t).steps (step a r)) ∙ ap level (sym steps);
    }

pub popped : (t u : Inside) (a : Lit) (r : Option ℕ) → IsTabulated t
    → t.literals.items ≡ u.literals.items ++ a ∷ [] → t.reasons.items ≡ u.reasons.items ++ r ∷ []
    → ((v : ℕ) → told u.places v ≡ cond (eqb a.var v) None (told t.places v))
    → ((v : ℕ) → value_told u.values v ≡ cond (eqb a.var v) None (value_told t.values v))
    → u.level ≡ t.level - opened_by r → u.levels.items ≡ take (length u.literals.items) t.levels.items → IsTabulated u
popped t u a r orderly literals reasons places values deep levels =
    let beside : length u.reasons.items ≡ length u.literals.items = popped_beside t u a r orderly literals reasons in
    let parts = once_pop u.literals.items a (ap once (sym literals) ∙ orderly.apart) in
    let steps : (state_of t).steps ≡ (state_of u).steps ++ step a r ∷ [] = popped_steps t u a r orderly literals reasons in
    record {
      beside = beside;
      apart = parts.0;
      levels = levels
          ∙ ap (λ n. take n t.levels.items) (sym beside)
          ∙ ap (take (length u.reasons.items)) (orderly.levels ∙ ap (levels_from 0) reasons)
          ∙ levels_pop 0 u.reasons.items r;
      places = λ v.
          places v
          ∙ ap (cond (eqb a.var v) None) (orderly.places v ∙ ap (λ lits. place_in lits v) literals)
          ∙ place_pop u.literals.items a v parts.1;
      values = λ v.
          values v
          ∙ ap (cond (eqb a.var v) None) (orderly.values v ∙ ap (λ xs. value_of xs v) steps)
          ∙ value_popped (state_of u).steps (step a r) v (no_place u.literals.items u.reasons.items a.var parts.1);
      depth = omega (arith, deep, orderly.depth, ap level steps, level_push (state_of u).steps (step a r));
    }

pub popped_level : (t u : Inside) (a : Lit) (r : Option ℕ) → IsTabulated t
    → t.literals.items ≡ u.literals.items ++ a ∷ [] → t.reasons.items ≡ u.reasons.items ++ r ∷ [] → opened_by r ≤ t.level
popped_level t u a r orderly literals reasons =
    omega (arith, orderly.depth, ap level (popped_steps t u a r orderly literals reasons), level_push (state_of u).steps (step a r))

-- What the first steps lack.

pub none_take : (steps : List Step) (n v : ℕ) → step_of steps v ≡ None → step_of (take n steps) v ≡ None
none_take [] zero v e = refl
none_take [] (suc n) v e = refl
none_take (x ∷ steps) zero v e = refl
none_take (x ∷ steps) (suc n) v e =
    let parts = step_nowhere _ x _ e in cond-false (eqb x.literal.var v) (Some x) (step_of (take n steps) v) parts.0 ∙ none_take steps n v parts.1

pub none_to_place : (lits : List Lit) (reasons : List (Option ℕ)) (v p : ℕ) → place_in lits v ≡ Some p → step_of (take p (steps_from lits reasons)) v ≡ None
none_to_place [] reasons v p e = absurd (none-some p e)
none_to_place (a ∷ lits) [] v p e = none_take [] p v refl
none_to_place (a ∷ lits) (r ∷ reasons) v p e =
    elim (place_cases _ _ p e) [
      | inl here ↦ subst (λ n. step_of (take n (steps_from (a ∷ lits) (r ∷ reasons))) v ≡ None) (sym here.1) refl
      | inr later ↦
          subst (λ n. step_of (take n (steps_from (a ∷ lits) (r ∷ reasons))) v ≡ None) (sym (later.3 ∙ next_length later.0))
          (cond-false (eqb a.var v) (Some (step a r)) (step_of (take later.0 (steps_from lits reasons)) v) later.1 ∙ none_to_place lits reasons v later.0 later.2)
    ]
