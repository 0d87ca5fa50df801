-- Runs by their places.
use Rattle.std.proofs.Common.{◌≡◌, ℕ, zero, suc, ◌+◌, ◌<◌, ◌≤◌, ◌⊎◌, Bool, true, false, List, [], ◌∷◌, ◌++◌, length, get_or, refl, sym, ap, ◌∙◌, inl, inr, Some, slice_get, arith, add-one}
use Rattle.std.proofs.lemmas.Bool.{cases_Bool, cases_lt}
use Rattle.std.proofs.lemmas.List.{get_or_append_left, get_or_push, length_push}
use Rattle.aig_semantics.specs.declared.traces.Position.{Position}
use Rattle.aig_semantics.specs.Circuits.{Circuit}
use Rattle.aig_semantics.specs.Runs.{successor, MeetsConstraints, StartsIn, IsRun, IsInitial, IsInitialRun}

-- ---- a list of the values at 0, 1, .. below k

unfoldable pub upto : {X : Type 0} → (ℕ → X) → ℕ → List X
upto f zero = []
upto f (suc k) = upto f k ++ f k ∷ []

module _ {X : Type 0} (f : ℕ → X) where
  pub length-upto : (k : ℕ) → length (upto f k) ≡ k
  unfolding upto
  length-upto zero = refl
  length-upto (suc k) = length_push (upto f k) (f k) ∙ ap (λ n. n + 1) (length-upto k) ∙ add-one k

  pub get_or-upto : (k i : ℕ) (d : X) → i < k → get_or (upto f k) i d ≡ f i
  unfolding upto
  get_or-upto zero i d below = absurd (omega arith)
  get_or-upto (suc k) i d below = elim (cases_lt i k) [
    | inl lt ↦
        let inside : i < length (upto f k) = omega (arith, length-upto k, lt) in
        get_or_append_left (upto f k) (f k ∷ []) d i inside ∙ get_or-upto k i d lt
    | inr ge ↦
        let e : i ≡ k = omega arith in
        ap (λ n. get_or (upto f k ++ f k ∷ []) n d) e ∙ get_or_push (upto f k) (f k) d k (length-upto k) ∙ ap f (sym e)
  ]

-- ---- places

pub get_some : {X : Type 0} (xs : List X) (i : ℕ) (d : X) → i < length xs → slice_get xs i ≡ Some (get_or xs i d)
get_some [] i d below = absurd (omega arith)
get_some (x ∷ xs) zero d below = refl
get_some (x ∷ xs) (suc i) d below = get_some xs i d (omega arith)

pub from_some : {X : Type 0} (xs : List X) (i : ℕ) (x d : X) → slice_get xs i ≡ Some x → get_or xs i d ≡ x
from_some [] i x d e = absurd (cc)
from_some (y ∷ xs) zero x d e = cc
from_some (y ∷ xs) (suc i) x d e = from_some xs i x d e

-- the first place below n that passes, or none
pub record IsFirst (test : ℕ → Bool) (n : ℕ) : Type 0 where
  pub place : ℕ
  pub below : place < n
  pub here : test place ≡ true
  pub before : (h : ℕ) → h < place → test h ≡ false

pub first_or_none : (test : ℕ → Bool) (n : ℕ) → IsFirst test n ⊎ ((h : ℕ) → h < n → test h ≡ false)
first_or_none test zero = inr (λ h below. absurd (omega arith))
first_or_none test (suc n) = elim (first_or_none test n) [
  | inl found ↦ inl (let small = found.below in record { place = found.place; below = omega arith; here = found.here; before = found.before })
  | inr never ↦ elim (cases_Bool (test n)) [
    | inl yes_here ↦ inl (record { place = n; below = omega arith; here = yes_here; before = never })
    | inr not_here ↦ inr (λ h below. elim (cases_lt h n) [
      | inl lt ↦ never h lt
      | inr ge ↦ let e : h ≡ n = omega arith in ap test e ∙ not_here
    ])
  ]
]

-- the first place that passes, where one does
pub first : (test : ℕ → Bool) (n h : ℕ) → h < n → test h ≡ true → IsFirst test n
first test n h below t = elim (first_or_none test n) [
  | inl found ↦ found
  | inr never ↦ let f : true ≡ false = sym t ∙ never h below in absurd (cc)
]

pub first_least : (test : ℕ → Bool) (n : ℕ) (found : IsFirst test n) (h : ℕ) → test h ≡ true → found.place ≤ h
first_least test n found h t = elim (cases_lt h found.place) [
  | inl lt ↦ let f : true ≡ false = sym t ∙ found.before h lt in absurd (cc)
  | inr ge ↦ ge
]

-- ---- runs

-- the successor of each position is the state of the next one
abbrev pub AreLinked : Circuit → List Position → Type 0
AreLinked c run = (i : ℕ) (d : Position) → suc i < length run → successor c (get_or run i d) ≡ (get_or run (suc i) d).latches

abbrev pub AllPossible : Circuit → List Position → Type 0
AllPossible c run = (i : ℕ) (d : Position) → i < length run → MeetsConstraints c (get_or run i d)

starts_from : (c : Circuit) (p : Position) (run : List Position) → AreLinked c (p ∷ run) → StartsIn (successor c p) run
starts_from c p [] linked = tt
starts_from c p (q ∷ run) linked = sym (linked 0 p (omega arith))

pub run_from : (c : Circuit) (run : List Position) → AllPossible c run → AreLinked c run → IsRun c run
run_from c [] possible linked = tt
run_from c (p ∷ run) possible linked = (
  possible 0 p (omega arith),
  starts_from c p run linked,
  run_from c run (λ i d below. possible (suc i) d (omega arith)) (λ i d below. linked (suc i) d (omega arith)),
)

pub run_possible : (c : Circuit) (run : List Position) → IsRun c run → AllPossible c run
run_possible c [] h i d below = absurd (omega arith)
run_possible c (p ∷ run) h zero d below = h.0
run_possible c (p ∷ run) h (suc i) d below = run_possible c run h.2 i d (omega arith)

pub run_linked : (c : Circuit) (run : List Position) → IsRun c run → AreLinked c run
run_linked c [] h i d below = absurd (omega arith)
run_linked c (p ∷ []) h i d below = absurd (omega arith)
run_linked c (p ∷ q ∷ run) h zero d below = sym h.1
run_linked c (p ∷ q ∷ run) h (suc i) d below = run_linked c (q ∷ run) h.2 i d (omega arith)

pub initial_from : (c : Circuit) (run : List Position) → IsRun c run → ((d : Position) → 0 < length run → IsInitial c (get_or run 0 d).latches) → IsInitialRun c run
initial_from c [] h f = tt
initial_from c (p ∷ run) h f = (f p (omega arith), h)

pub starts_at : (c : Circuit) (run : List Position) (s : List Bool) → ((d : Position) → 0 < length run → (get_or run 0 d).latches ≡ s) → StartsIn s run
starts_at c [] s f = tt
starts_at c (p ∷ run) s f = f p (omega arith)
