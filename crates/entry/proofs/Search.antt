-- What a search finds among uses that ascend.
use Rattle.std.proofs.Common.{◌≡◌, ℕ, suc, ◌+◌, ◌<◌, ◌≤◌, Bool, true, List, [], ◌∷◌, ◌++◌, length, get_or, take, drop, refl, sym, ap, subst, ◌∙◌, inl, inr, arith, Ok, Err, Result, is_ok}
use Rattle.std.specs.Prelude.{◌==◌}
use Rattle.std.specs.List.{All, AllPairs, list_any}
use Rattle.std.specs.List.Sorted.{IsSearchInRange, IsBinarySearchResult, IsNonDecreasingBy}
use Rattle.std.specs.Ordering.{nat_cmp, ordering_index}
use Rattle.std.proofs.lemmas.Cmp.{ranked}
use Rattle.std.proofs.lemmas.Bool.{eq-eqb, ne_eqb, cases_lt}
use Rattle.std.proofs.lemmas.Bool.Decides.{nat_tests}
use Rattle.std.proofs.Math.Seq.{take-suc}
use Rattle.std.proofs.lemmas.List.{get_or_default, drop_more}
use Rattle.std.proofs.lemmas.List.Elements.{All-cons, All-nil, All-append}
use Rattle.std.proofs.lemmas.List.Quantifiers.{all_pairs_push}
use Rattle.std.proofs.lemmas.List.Folds.{list_any-from_Any, list_any_none}
use Rattle.fair_semantics.specs.declared.entries.Use.{Use}
use Rattle.fair_semantics.specs.declared.entries.Side.TheVariants as sides
use Rattle.fair_semantics.specs.Entries.{Entry}
use Rattle.entry.specs.declared.uses.User.{User}
use Rattle.entry.specs.Faults.{may_stand, bad_use_behind}
use Rattle.entry.proofs.Closed.{stands-from_test}

module _ (uses : List Use) (ascend : AllPairs (λ u v. u.entry < v.entry) uses) (n : ℕ) where
  comparisons_rise : IsNonDecreasingBy (λ u. ordering_index (nat_cmp u.entry n)) uses
  comparisons_rise i j d le inside =
      let rise : (get_or uses i d).entry ≤ (get_or uses j d).entry =
      grind (arith, ascend i j d, λ (same : i ≡ j). ap (λ k. (get_or uses k d).entry) same) in
      grind (arith, nat_tests)

  pub searched : (r : Result ℕ ℕ) → IsSearchInRange r (length uses) → IsBinarySearchResult (λ u. nat_cmp u.entry n) uses r
      → is_ok r ≡ list_any (λ u. u.entry == n) uses
  searched (Ok at) inside equal =
      let any : Use = record { entry = 0; side = sides.Any } in
      sym (list_any-from_Any (λ u. u.entry == n) uses (at, get_or uses at any, inside, get_or_default uses at (get_or uses at any) any inside, eq-eqb _ n (ranked _ n _ (sym (equal any)))))
  searched (Err at) inside parted =
      let parts = parted comparisons_rise in
      sym (list_any_none (λ u. u.entry == n) uses (λ k d below. ne_eqb (get_or uses k d).entry n
      (λ same. elim (cases_lt k at) [
        | inl before ↦ (let r = ranked _ n _ (sym (parts.0 k d (omega arith) before)) in omega arith)
        | inr behind ↦ (let r = ranked _ n _ (sym (parts.1 k d behind below)) in omega arith)
      ])))

took_more : (uses : List Use) (i : ℕ) (d : Use) → i < length uses → take (i + 1) uses ≡ take i uses ++ get_or uses i d ∷ []
took_more uses i d inside =
    let next : suc i ≡ i + 1 = omega arith in
    subst (λ n. take n uses ≡ take i uses ++ get_or uses i d ∷ []) next (take-suc uses i d inside)

-- Uses before i, and that with the number i, which is from `least` on.
pub below_more : (uses : List Use) (i least : ℕ) (d : Use) → i < length uses → least ≤ (get_or uses i d).entry
    → All (λ u. u.entry < least) (take i uses) → All (λ u. u.entry < (get_or uses i d).entry + 1) (take (i + 1) uses)
below_more uses i least d inside low below =
    let top = (get_or uses i d).entry + 1 in
    subst (λ l. All (λ u. u.entry < top) l) (sym (took_more uses i d inside))
    (All-append (λ u. u.entry < top) (take i uses) (get_or uses i d ∷ []) (λ k e here. (let a = below k e here in omega arith))
    (All-cons (λ u. u.entry < top) (get_or uses i d) [] (omega arith) (All-nil (λ u. u.entry < top))))

pub ascend_more : (uses : List Use) (i least : ℕ) (d : Use) → i < length uses → least ≤ (get_or uses i d).entry
    → All (λ u. u.entry < least) (take i uses) → AllPairs (λ u v. u.entry < v.entry) (take i uses)
    → AllPairs (λ u v. u.entry < v.entry) (take (i + 1) uses)
ascend_more uses i least d inside low below ascend =
    subst (λ l. AllPairs (λ u v. u.entry < v.entry) l) (sym (took_more uses i d inside))
    (all_pairs_push (λ u v. u.entry < v.entry) (take i uses) (get_or uses i d) ascend (λ k e here. (let a = below k e here in omega arith)))

-- What a loop over uses keeps where the next one may stand.
module _ (user : User) (before : List Entry) (uses : List Use) (i least next : ℕ) (stands : Bool) (d : Use)
    (inside : i < length uses) (is : stands ≡ may_stand user before least (take i uses) (get_or uses i d)) (h : stands ≡ true)
    (same : next ≡ (get_or uses i d).entry) where
  low : least ≤ (get_or uses i d).entry
  low = (stands-from_test user before least (take i uses) (get_or uses i d) (sym is ∙ h)).above

  pub next_rest : bad_use_behind user before (next + 1) (take (i + 1) uses) (drop (i + 1) uses)
      ≡ bad_use_behind user before least (take i uses) (drop i uses)
  next_rest = rw (drop_more uses i d inside, took_more uses i d inside, same, sym is ∙ h) refl

  pub next_below : All (λ u. u.entry < least) (take i uses) → All (λ u. u.entry < next + 1) (take (i + 1) uses)
  next_below below = subst (λ n. All (λ u. u.entry < n + 1) (take (i + 1) uses)) (sym same) (below_more uses i least d inside low below)

  pub next_ascend : All (λ u. u.entry < least) (take i uses) → AllPairs (λ u v. u.entry < v.entry) (take i uses)
      → AllPairs (λ u v. u.entry < v.entry) (take (i + 1) uses)
  next_ascend below ascend = ascend_more uses i least d inside low below ascend
