-- How often a number stands in a list.
use Rattle.std.proofs.Common.{◌≡◌, ◌≢◌, ℕ, zero, suc, ◌+◌, ◌<◌, ◌≤◌, ◌==◌, cond, List, [], ◌∷◌, map, length, refl, sym, ap, ◌∙◌, inl, inr, arith}
use Rattle.std.specs.List.{All, Contains, flat_map, count_by}
use Rattle.std.proofs.lemmas.Bool.{cases_eq, cases_lt, eq-eqb, ne_eqb}
use Rattle.std.proofs.lemmas.List.{get_or-map, get_or_default, length-map}
use Rattle.std.proofs.lemmas.List.Sums.{sum_by-cons}
use Rattle.std.proofs.lemmas.List.Elements.{All-append, All-head, All-tail}
use Rattle.aig_semantics.proofs.Lists.{AllDiffer, AllDiffer-tail, All-left, All-right}

abbrev pub count : ℕ → List ℕ → ℕ
count u vs = count_by (λ w. w == u) vs

count-cons : (u v : ℕ) (vs : List ℕ) → count u (v ∷ vs) ≡ cond (v == u) 1 0 + count u vs
count-cons u v vs = sum_by-cons (λ w. cond (w == u) 1 0) v vs

pub count-same : (u v : ℕ) (vs : List ℕ) → v ≡ u → count u (v ∷ vs) ≡ suc (count u vs)
count-same u v vs e =
    let s : count u (v ∷ vs) ≡ 1 + count u vs = count-cons u v vs ∙ ap (λ b. cond b 1 0 + count u vs) (eq-eqb v u e) in
    omega arith

pub count-other : (u v : ℕ) (vs : List ℕ) → v ≢ u → count u (v ∷ vs) ≡ count u vs
count-other u v vs ne =
    let s : count u (v ∷ vs) ≡ 0 + count u vs = count-cons u v vs ∙ ap (λ b. cond b 1 0 + count u vs) (ne_eqb v u ne) in
    omega arith

pub Contains-from_count : (u : ℕ) (vs : List ℕ) → 1 ≤ count u vs → Contains vs u
Contains-from_count u [] h = absurd (omega arith)
Contains-from_count u (v ∷ vs) h =
    elim (cases_eq v u) [
      | inl e ↦ (0, omega arith, e)
      | inr ne ↦
          let rest = Contains-from_count u vs (omega (arith, count-other u v vs ne)) in
          (suc rest.0, (let l : rest.0 < length vs = rest.1 in omega arith), rest.2)
    ]

pub count-from_Contains : (u : ℕ) (vs : List ℕ) → Contains vs u → 1 ≤ count u vs
count-from_Contains u [] (k, below, at) = absurd (omega arith)
count-from_Contains u (v ∷ vs) (zero, below, at) = omega (arith, count-same u v vs at)
count-from_Contains u (v ∷ vs) (suc k, below, at) =
    let rest = count-from_Contains u vs (k, omega arith, at) in
    elim (cases_eq v u) [
      | inl e ↦ omega (arith, count-same u v vs e)
      | inr ne ↦ omega (arith, count-other u v vs ne)
    ]

-- in a list whose elements differ each stands once at most
pub count-differ : (u : ℕ) (vs : List ℕ) → AllDiffer vs → count u vs ≤ 1
count-differ u [] h = omega arith
count-differ u (v ∷ vs) h =
    let rest = count-differ u vs (AllDiffer-tail v vs h) in
    elim (cases_eq v u) [
      | inl e ↦ elim (cases_lt 0 (count u vs)) [
        | inl lt ↦
            let there = Contains-from_count u vs (omega arith) in
            let l : there.0 < length vs = there.1 in
            absurd (h 0 (suc there.0) u (omega arith) (omega arith) (e ∙ sym there.2))
        | inr ge ↦ omega (arith, count-same u v vs e)
      ]
      | inr ne ↦ omega (arith, count-other u v vs ne)
    ]

AllDiffer-cons : (v : ℕ) (vs : List ℕ) → (Contains vs v → ⊥) → AllDiffer vs → AllDiffer (v ∷ vs)
AllDiffer-cons v vs none rest i zero d lt below = absurd (omega arith)
AllDiffer-cons v vs none rest zero (suc j) d lt below =
    let l : j < length vs = omega arith in
    λ e. none (j, l, get_or_default vs j v d l ∙ sym e)
AllDiffer-cons v vs none rest (suc i) (suc j) d lt below = rest i j d (omega arith) (omega arith)

pub AllDiffer-from_count : (vs : List ℕ) → ((u : ℕ) → count u vs ≤ 1) → AllDiffer vs
AllDiffer-from_count [] h = λ i j d lt below. absurd (omega arith)
AllDiffer-from_count (v ∷ vs) h =
    AllDiffer-cons v vs
    (λ there. omega (arith, count-from_Contains v vs there, count-same v v vs refl, h v))
    (AllDiffer-from_count vs (λ u.
    elim (cases_eq v u) [
      | inl e ↦ omega (arith, count-same u v vs e, h u)
      | inr ne ↦ omega (arith, count-other u v vs ne, h u)
    ]))

-- ---- lists of lists

pub All-unmap : {X : Type 0} (P : ℕ → Type 0) (f : X → ℕ) (xs : List X) → All P (map f xs) → All (λ x. P (f x)) xs
All-unmap P f xs h = λ k d below. rw (get_or-map f xs k d 0 below) at (h k 0 (omega (arith, length-map xs f)))

pub All-parts : {X : Type 0} (P : ℕ → Type 0) (f : X → List ℕ) (xs : List X) → All P (flat_map f xs) → All (λ x. All P (f x)) xs
All-parts P f [] h k d below = absurd (omega arith)
All-parts P f (x ∷ xs) h zero d below = All-left P (f x) (flat_map f xs) h
All-parts P f (x ∷ xs) h (suc k) d below = All-parts P f xs (All-right P (f x) (flat_map f xs) h) k d (omega arith)

pub All-joined : {X : Type 0} (P : ℕ → Type 0) (f : X → List ℕ) (xs : List X) → All (λ x. All P (f x)) xs → All P (flat_map f xs)
All-joined P f [] h = λ k d below. absurd (omega arith)
All-joined P f (x ∷ xs) h =
    All-append P (f x) (flat_map f xs) (All-head (λ y. All P (f y)) x xs h) (All-joined P f xs (All-tail (λ y. All P (f y)) x xs h))

pub All-pair : (P : ℕ → Type 0) (v w : ℕ) → P v → P w → All P (v ∷ w ∷ [])
All-pair P v w p q zero d below = p
All-pair P v w p q (suc zero) d below = q
All-pair P v w p q (suc (suc k)) d below = absurd (omega arith)
