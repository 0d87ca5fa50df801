-- Of which kind a worker is, from turn to turn.
use Rattle.std.proofs.Common.{◌≡◌, ℕ, zero, suc, ◌-◌, ◌<◌, ◌≤◌, min, ◌⊎◌, inl, inr, true, false, List, [], ◌∷◌, length, get_or, refl, sym, ap, ◌∙◌, subst, arith}
use Rattle.std.specs.Prelude.{Option, Some, None}
use Rattle.std.specs.List.{All}
use Rattle.std.proofs.lemmas.Bool.{false≢true}
use Rattle.aig_semantics.specs.Circuits.{Circuit}
use Rattle.edge.specs.Units.{Spendings}
use Rattle.lasso_bmc.specs.Searching.{HasNoneWithin}
use Rattle.fair_workers.specs.declared.lasso_search.LassoSearch.{LassoSearch}
use Rattle.search_reports.specs.declared.limits.Limits.{Limits}
use Rattle.fair_workers.specs.declared.working.Phase.{Phase}
use Rattle.fair_workers.specs.declared.working.Phase.TheVariants as phases
use Rattle.shared_lists.specs.Knowing.{Known}
use Rattle.fair_workers.specs.Working.{is_running, is_deep, is_round, Seeks, IsSearchOf, IsDeepIn, IsOfKind, StaysOfKind, IsNumbered}
use Rattle.fair_workers.specs.Ends.{done_in, EndsDeep, IsEndOfKind, IsEndNumbered}

-- ---- phases

pub round-runs : (p : Phase) → is_round p ≡ true → is_running p ≡ true
round-runs phases.Asks h = refl
round-runs phases.Looks h = refl
round-runs phases.Searches h = refl
round-runs (phases.AsksLast from) h = refl
round-runs phases.LooksLast h = refl
round-runs phases.SearchesLast h = refl
round-runs (phases.AsksDeeper after) h = absurd (false≢true h)
round-runs (phases.Deepens after) h = absurd (false≢true h)
round-runs phases.Closed h = absurd (false≢true h)
round-runs phases.Full h = absurd (false≢true h)
round-runs phases.Spent h = absurd (false≢true h)
round-runs phases.Deep h = absurd (false≢true h)
round-runs phases.Refused h = absurd (false≢true h)

-- a lasso worker is in none of the others' phases
not-deep : (c : Circuit) (j : ℕ) (m : Spendings) (s : LassoSearch) (p : Phase) → is_round p ≡ true → IsDeepIn c j m s p → ⊥
not-deep c j m s phases.Asks h is = is
not-deep c j m s phases.Looks h is = is
not-deep c j m s phases.Searches h is = is
not-deep c j m s (phases.AsksLast from) h is = is
not-deep c j m s phases.LooksLast h is = is
not-deep c j m s phases.SearchesLast h is = is
not-deep c j m s (phases.AsksDeeper after) h is = false≢true h
not-deep c j m s (phases.Deepens after) h is = false≢true h
not-deep c j m s phases.Closed h is = false≢true h
not-deep c j m s phases.Full h is = false≢true h
not-deep c j m s phases.Spent h is = false≢true h
not-deep c j m s phases.Deep h is = false≢true h
not-deep c j m s phases.Refused h is = false≢true h

-- ---- kinds

pub same-kind : (o : Option LassoSearch) → StaysOfKind o o
same-kind None = tt
same-kind (Some s) = refl

pub on-kind : (o p q : Option LassoSearch) → StaysOfKind o p → StaysOfKind p q → StaysOfKind o q
on-kind None None None a b = tt
on-kind None None (Some u) a b = absurd b
on-kind None (Some t) q a b = absurd a
on-kind (Some s) None q a b = absurd a
on-kind (Some s) (Some t) None a b = absurd b
on-kind (Some s) (Some t) (Some u) a b = b ∙ a

-- who is in a phase of rounds is no lasso worker
pub round-kind : (i j : ℕ) (k l : Known) (m n : Spendings) (p q : Phase) (o : Option LassoSearch) → IsOfKind i k m p o → is_round p ≡ true → is_deep q ≡ false
    → IsOfKind j l n q o
round-kind i j k l m n p q None is round plain = plain
round-kind i j k l m n p q (Some s) is round plain = absurd (not-deep k.circuit i m s p round is.1)

-- what a search is worth does not depend on who else works
pub seeks-on : (j : ℕ) (k l : Known) (s : LassoSearch) → l.circuit ≡ k.circuit → l.properties ≡ k.properties → l.given ≡ k.given → l.list ≡ k.list
    → Seeks k j s → Seeks l j s
seeks-on j k l s circuit properties given list is = record {
  only = properties ∙ is.only;
  list = ap length list ∙ is.list ∙ sym given;
  search = subst (λ (c : Circuit). IsSearchOf c j s) (sym circuit) is.search;
}

pub kind-stays : (j : ℕ) (k l : Known) (m : Spendings) (p : Phase) (o : Option LassoSearch) → l.circuit ≡ k.circuit → l.properties ≡ k.properties
    → l.given ≡ k.given → l.list ≡ k.list → IsOfKind j k m p o → IsOfKind j l m p o
kind-stays j k l m p None circuit properties given list is = is
kind-stays j k l m p (Some s) circuit properties given list is =
    (seeks-on j k l s circuit properties given list is.0, subst (λ (c : Circuit). IsDeepIn c j m s p) (sym circuit) is.1)

-- ---- numbers

-- where a worker is a lasso worker, there are to be some
pub some-lassos : (workers lassos n : ℕ) → n < workers → workers - min lassos (workers - 1) ≤ n → 0 < lassos
some-lassos workers zero n below last = absurd (omega (arith, below, none-least (workers - 1), last))
  where
    none-least : (m : ℕ) → min 0 m ≡ 0
    none-least m = grind (arith)
some-lassos workers (suc lassos) n below last = omega arith

-- a list of one number has that alone
pub one-number : (js : List ℕ) (d : ℕ) → length js ≡ 1 → js ≡ get_or js 0 d ∷ []
one-number [] d one = absurd (omega (arith, one))
one-number (j ∷ []) d one = refl
one-number (j ∷ i ∷ js) d one = absurd (omega (arith, one))

pub numbered-on : (limits : Limits) (n : ℕ) (o q : Option LassoSearch) → StaysOfKind o q → IsNumbered limits n o → IsNumbered limits n q
numbered-on limits n None None stays is = is
numbered-on limits n None (Some t) stays is = absurd stays
numbered-on limits n (Some s) None stays is = absurd stays
numbered-on limits n (Some s) (Some t) stays is = (is.0, stays ∙ is.1)

-- ---- ends

ends-deep : (c : Circuit) (j depth : ℕ) (m : Spendings) (s : LassoSearch) (p : Phase) → s.depth ≡ depth → is_running p ≡ false → IsDeepIn c j m s p
    → EndsDeep depth m s.done p
ends-deep c j depth m s phases.Asks same ended h = h
ends-deep c j depth m s phases.Looks same ended h = h
ends-deep c j depth m s phases.Searches same ended h = h
ends-deep c j depth m s (phases.AsksLast from) same ended h = h
ends-deep c j depth m s phases.LooksLast same ended h = h
ends-deep c j depth m s phases.SearchesLast same ended h = h
ends-deep c j depth m s (phases.AsksDeeper after) same ended h = absurd (false≢true (sym ended))
ends-deep c j depth m s (phases.Deepens after) same ended h = absurd (false≢true (sym ended))
ends-deep c j depth m s phases.Closed same ended h = tt
ends-deep c j depth m s phases.Full same ended h = h
ends-deep c j depth m s phases.Spent same ended h = h
ends-deep c j depth m s phases.Deep same ended h = spent-same h
  where
    spent-same : (m.conflict_limit ≡ Some m.conflicts) ⊎ (s.done ≡ s.depth) → (m.conflict_limit ≡ Some m.conflicts) ⊎ (s.done ≡ depth)
    spent-same (inl spent) = inl spent
    spent-same (inr done) = inr (done ∙ same)
ends-deep c j depth m s phases.Refused same ended h = tt

-- of a list of one number
all-only : (P : ℕ → Type 0) (js : List ℕ) (j : ℕ) → js ≡ j ∷ [] → P j → All P js
all-only P js j only p = subst (All P) (sym only) (λ k d below. at-only P j k d below p)
  where
    at-only : (P : ℕ → Type 0) (j k d : ℕ) → k < 1 → P j → P (get_or (j ∷ []) k d)
    at-only P j zero d below p = p
    at-only P j (suc k) d below p = absurd (omega (arith, below))

-- what a worker of its kind comes to that has ended
pub ends-kind : (limits : Limits) (n j : ℕ) (k : Known) (m : Spendings) (p : Phase) (o : Option LassoSearch) → is_running p ≡ false
    → IsNumbered limits n o → IsOfKind j k m p o → IsEndOfKind limits k.circuit k.properties m p (done_in o)
ends-kind limits n j k m p None ended number is = is
ends-kind limits n j k m p (Some s) ended number is = (
  (let within = is.0.search.within in let same = number.1 in omega (arith, within, same)),
  all-only (λ (i : ℕ). HasNoneWithin k.circuit i s.done) k.properties j is.0.only is.0.search.none,
  ends-deep k.circuit j limits.depth m s p number.1 ended is.1,
)

pub ends-numbered : (limits : Limits) (n : ℕ) (o : Option LassoSearch) → IsNumbered limits n o → IsEndNumbered limits n (done_in o)
ends-numbered limits n None is = is
ends-numbered limits n (Some s) is = is.0
