-- Laws of the ids that clauses have in a proof.
use Rattle.std.proofs.Common.{◌≡◌, ℕ, zero, suc, ◌+◌, ◌-◌, ◌^◌, ◌<◌, ◌≤◌, true, false, cond, List, [], ◌∷◌, ◌++◌, length, Option, Some, None, refl, ap, sym, ◌∙◌, inl, inr, arith, eqb-true}
use Rattle.std.specs.Prelude.{slice_get, nat_lt, nat_eq}
use Rattle.std.specs.Option.{unwrap_or}
use Rattle.std.proofs.lemmas.Bool.{cases_Bool, cond-true, cond-false, leb-true, le-leb}
use Rattle.std.proofs.lemmas.Option.{none-some, same_Some}
use Rattle.proof_semantics.specs.declared.literals.Lit.{Lit}
use Rattle.cdcl_log.specs.LoggedClauses.{added_in}
use Rattle.cdcl_log.specs.Ids.{ids_from, count_added, AreCounted, unit_id, given_id}

-- One more clause.

ids_none : (k : ℕ) (sources : List (Option (List ℕ))) → ids_from k (sources ++ None ∷ []) ≡ ids_from k sources ++ (k + count_added sources + 1) ∷ []
ids_none k [] = ap (λ n. (n + 1) ∷ []) (same k)
  where
    same : (k : ℕ) → k ≡ k + 0
    same k = omega arith
ids_none k (None ∷ sources) =
    ap (λ ids. (k + 1) ∷ ids) (ids_none (k + 1) sources ∙ ap (λ n. ids_from (k + 1) sources ++ n ∷ []) (moved k (count_added sources)))
  where
    moved : (k n : ℕ) → (k + 1) + n + 1 ≡ k + (n + 1) + 1
    moved k n = omega arith
ids_none k (Some hints ∷ sources) = ap (λ ids. 0 ∷ ids) (ids_none k sources)

ids_some : (k : ℕ) (sources : List (Option (List ℕ))) (hints : List ℕ) → ids_from k (sources ++ Some hints ∷ []) ≡ ids_from k sources ++ 0 ∷ []
ids_some k [] hints = refl
ids_some k (None ∷ sources) hints = ap (λ ids. (k + 1) ∷ ids) (ids_some (k + 1) sources hints)
ids_some k (Some own ∷ sources) hints = ap (λ ids. 0 ∷ ids) (ids_some k sources hints)

count_none : (sources : List (Option (List ℕ))) → count_added (sources ++ None ∷ []) ≡ count_added sources + 1
count_none [] = refl
count_none (None ∷ sources) = ap (λ n. n + 1) (count_none sources)
count_none (Some hints ∷ sources) = count_none sources

count_some : (sources : List (Option (List ℕ))) (hints : List ℕ) → count_added (sources ++ Some hints ∷ []) ≡ count_added sources
count_some [] hints = refl
count_some (None ∷ sources) hints = ap (λ n. n + 1) (count_some sources hints)
count_some (Some own ∷ sources) hints = count_some sources hints

pub counted_kept : {sources later : List (Option (List ℕ))} {ids after : List ℕ} {added : ℕ} → later ≡ sources → after ≡ ids → AreCounted sources ids added → AreCounted later after added
counted_kept same same_ids (is, counts) = (same_ids ∙ is ∙ ap (ids_from 0) (sym same), counts ∙ ap count_added (sym same))

from_zero : (n : ℕ) → n + 1 ≡ 0 + n + 1
from_zero n = omega arith

-- a clause is added
pub counted_none : {sources between later : List (Option (List ℕ))} {ids ids_between after : List ℕ} {added next : ℕ} → between ≡ sources → ids_between ≡ ids
    → later ≡ between ++ None ∷ [] → next ≡ added + 1 → after ≡ ids_between ++ next ∷ [] → AreCounted sources ids added → AreCounted later after next
counted_none {sources} {between} {later} {ids} {ids_between} {after} {added} {next} same same_ids more up puts (is, counts) = (
  puts ∙ ap (λ xs. xs ++ next ∷ []) (same_ids ∙ is) ∙ ap (λ n. ids_from 0 sources ++ n ∷ []) (up ∙ ap (λ n. n + 1) counts ∙ from_zero (count_added sources)) ∙ sym (ids_none 0 sources)
      ∙ ap (λ xs. ids_from 0 (xs ++ None ∷ [])) (sym same) ∙ ap (ids_from 0) (sym more),
  up ∙ ap (λ n. n + 1) counts ∙ sym (count_none sources) ∙ ap (λ xs. count_added (xs ++ None ∷ [])) (sym same) ∙ ap count_added (sym more),
)

-- a clause is learned
pub counted_some : {sources between later : List (Option (List ℕ))} {ids ids_between after : List ℕ} {added : ℕ} (hints : List ℕ) → between ≡ sources → ids_between ≡ ids
    → later ≡ between ++ Some hints ∷ [] → after ≡ ids_between ++ 0 ∷ [] → AreCounted sources ids added → AreCounted later after added
counted_some {sources} {between} {later} {ids} {ids_between} {after} {added} hints same same_ids more puts (is, counts) = (
  puts ∙ ap (λ xs. xs ++ 0 ∷ []) (same_ids ∙ is) ∙ sym (ids_some 0 sources hints)
      ∙ ap (λ xs. ids_from 0 (xs ++ Some hints ∷ [])) (sym same) ∙ ap (ids_from 0) (sym more),
  counts ∙ sym (count_some sources hints) ∙ ap (λ xs. count_added (xs ++ Some hints ∷ [])) (sym same) ∙ ap count_added (sym more),
)

pub counted_added : (sources : List (Option (List ℕ))) (clauses : List (List Lit)) → length sources ≡ length clauses → count_added sources ≡ length (added_in sources clauses)
counted_added [] [] e = refl
counted_added [] (c ∷ clauses) e = absurd (omega (arith, e))
counted_added (s ∷ sources) [] e = absurd (omega (arith, e))
counted_added (None ∷ sources) (c ∷ clauses) e = omega (arith, counted_added sources clauses (omega (arith, e)))
counted_added (Some hints ∷ sources) (c ∷ clauses) e = counted_added sources clauses (omega (arith, e))

-- What has an id from the first on.

pub long_ids : (k : ℕ) (sources : List (Option (List ℕ))) → length (ids_from k sources) ≡ length sources
long_ids k [] = refl
long_ids k (None ∷ sources) = ap suc (long_ids (k + 1) sources)
long_ids k (Some hints ∷ sources) = ap suc (long_ids k sources)

pub id_found : (k : ℕ) (sources : List (Option (List ℕ))) (clauses : List (List Lit)) (i id : ℕ) (c : List Lit) → slice_get (ids_from k sources) i ≡ Some id → nat_lt 0 id ≡ true
    → slice_get clauses i ≡ Some c → (j : ℕ) × (id ≡ k + 1 + j) × (slice_get (added_in sources clauses) j ≡ Some c)
id_found k [] clauses i id c is has at = absurd (none-some id is)
id_found k (None ∷ sources) [] i id c is has at = absurd (none-some c at)
id_found k (Some hints ∷ sources) [] i id c is has at = absurd (none-some c at)
id_found k (None ∷ sources) (d ∷ clauses) zero id c is has at = (0, omega (arith, same_Some (k + 1) id is), at)
id_found k (Some hints ∷ sources) (d ∷ clauses) zero id c is has at = absurd (omega (arith, same_Some 0 id is, leb-true 1 id has))
id_found k (None ∷ sources) (d ∷ clauses) (suc i) id c is has at =
    let rest = id_found (k + 1) sources clauses i id c is has at in (suc rest.0, omega (arith, rest.1), rest.2)
id_found k (Some hints ∷ sources) (d ∷ clauses) (suc i) id c is has at = id_found k sources clauses i id c is has at

pub id_given : (k : ℕ) (sources : List (Option (List ℕ))) (i : ℕ) → slice_get sources i ≡ Some None → nat_lt 0 (unwrap_or (slice_get (ids_from k sources) i) 0) ≡ true
id_given k [] i e = absurd (none-some _ e)
id_given k (None ∷ sources) zero e = le-leb 1 (k + 1) (omega arith)
id_given k (Some hints ∷ sources) zero e = absurd (none-some hints (sym (same_Some (Some hints) None e)))
id_given k (None ∷ sources) (suc i) e = id_given (k + 1) sources i e
id_given k (Some hints ∷ sources) (suc i) e = id_given k sources i e

above : (n p : ℕ) → n ≡ p + 1 → nat_eq n 0 ≡ false
above n p is = elim (cases_Bool (nat_eq n 0)) [ inl same ↦ absurd (omega (arith, is, eqb-true n 0 same)) | inr differs ↦ differs ]

less : (n p : ℕ) → n ≡ p + 1 → n - 1 ≡ p
less n p is = omega (arith, is)

not_less : (p q : ℕ) → q ≤ p → nat_lt p q ≡ false
not_less p q e = elim (cases_Bool (nat_lt p q)) [ inl is ↦ absurd (omega (arith, e, leb-true (suc p) q is)) | inr isnt ↦ isnt ]

behind : (p m i : ℕ) → p ≡ m + i → p - m ≡ i
behind p m i e = omega (arith, e)

pub given_near : (given : List ℕ) (added units n p : ℕ) → n ≡ p + 1 → p < length given → given_id given added units n ≡ unwrap_or (slice_get given p) 0
given_near given added units n p is below =
    cond-false (nat_eq n 0) 0 _ (above n p is)
    ∙ ap (λ q. cond (nat_lt q (length given)) (unwrap_or (slice_get given q) 0) (unit_id added units (q - length given))) (less n p is)
    ∙ cond-true (nat_lt p (length given)) _ _ (le-leb (suc p) (length given) below)

pub given_far : (given : List ℕ) (added units n p i : ℕ) → n ≡ p + 1 → p ≡ length given + i → given_id given added units n ≡ unit_id added units i
given_far given added units n p i is far =
    cond-false (nat_eq n 0) 0 _ (above n p is)
    ∙ ap (λ q. cond (nat_lt q (length given)) (unwrap_or (slice_get given q) 0) (unit_id added units (q - length given))) (less n p is)
    ∙ cond-false (nat_lt p (length given)) _ _ (not_less p (length given) (omega (arith, far)))
    ∙ ap (unit_id added units) (behind p (length given) i far)

pub unit_given : (added units i : ℕ) → i < units → units < 2 ^ 60 → added < 2 ^ 60 → unit_id added units i ≡ added + i + 1
unit_given added units i below few few_added =
    cond-true (nat_lt i units) _ 0 (le-leb (suc i) units below) ∙ cond-true (nat_lt units (2 ^ 60)) _ 0 (le-leb (suc units) (2 ^ 60) few)
    ∙ cond-true (nat_lt added (2 ^ 60)) _ 0 (le-leb (suc added) (2 ^ 60) few_added)
