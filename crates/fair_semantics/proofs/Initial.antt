-- Steps that entries allow, and the initial cube.
use Rattle.std.proofs.Common.{◌≡◌, ℕ, suc, ◌+◌, ◌<◌, Bool, true, false, not, ◌&&◌, ◌||◌, ◌↔◌, List, [], ◌∷◌, length, get_or, refl, sym, ap, ◌∙◌, arith}
use Rattle.std.proofs.Common.{inl, inr}
use Rattle.std.specs.List.{All, AllZip, list_all, list_any}
use Rattle.std.proofs.lemmas.List.Elements.{All-head, All-tail}
use Rattle.proof_semantics.specs.declared.literals.Lit.{Lit}
use Rattle.proof_semantics.proofs.LiteralLaws.{lit_eq-true}
use Rattle.fair_semantics.specs.States.{meets_clauses}
use Rattle.std.proofs.lemmas.Bool.{and_parts, and_from, or_cases, or_left, or_right, both_ways, not-true}
use Rattle.std.proofs.lemmas.Option.{unwrap_or-slice_get}
use Rattle.std.proofs.lemmas.Slice.Zip.{AllZip-long}
use Rattle.std.proofs.lemmas.List.Folds.{list_all-append}
use Rattle.aig_semantics.specs.declared.parts.Latch.{Latch}
use Rattle.aig_semantics.specs.declared.parts.Reset.{Reset}
use Rattle.aig_semantics.specs.declared.parts.Reset.TheVariants.{Zero, One, Free}
use Rattle.aig_semantics.specs.Circuits.{Circuit}
use Rattle.aig_semantics.specs.Runs.{AgreesWith, IsInitial}
use Rattle.proof_semantics.specs.Clauses.{bool_eq, lit_eq, has_literal, clause_value, literal_value, cube_value, values_of}
use Rattle.fair_semantics.specs.declared.entries.Kind.TheVariants.{Reach, Wall}
use Rattle.fair_semantics.specs.States.{crosses, reset_literals, initial_literals, initial_cube}
use Rattle.fair_semantics.specs.Allowing.{allows_by}

-- ---- steps

pub reach-step : (set : List Bool → Bool) (s t : List Bool) → (allows_by Reach set (s ∷ t ∷ []) ≡ true) ↔ ((set s ≡ true) × (set t ≡ true))
reach-step set s t = (
  λ h. (let both = and_parts _ _ h in (both.0, (and_parts _ _ both.1).0)),
  λ h. and_from _ _ h.0 (and_from _ _ h.1 refl),
)

wall-values : (a b : Bool) → ((bool_eq true a && (bool_eq true b && true)) || (bool_eq false a && (bool_eq false b && true))) ≡ not (not (bool_eq a b))
wall-values true true = refl
wall-values true false = refl
wall-values false true = refl
wall-values false false = refl

pub wall-step : (set : List Bool → Bool) (s t : List Bool) → allows_by Wall set (s ∷ t ∷ []) ≡ not (crosses set s t)
wall-step set s t = wall-values (set s) (set t)

-- ---- the initial cube

reset-agrees : (v : ℕ → Bool) (n : ℕ) (reset : Reset) (b : Bool) → v n ≡ b → AgreesWith reset b → list_all (literal_value v) (reset_literals n reset) ≡ true
reset-agrees v n Zero b value h = and_from _ _ (ap not (value ∙ h)) refl
reset-agrees v n One b value h = and_from _ _ (value ∙ h) refl
reset-agrees v n Free b value h = refl

reset-agreed : (v : ℕ → Bool) (n : ℕ) (reset : Reset) (b : Bool) → v n ≡ b → list_all (literal_value v) (reset_literals n reset) ≡ true → AgreesWith reset b
reset-agreed v n Zero b value h = sym value ∙ not-true (v n) (and_parts _ _ h).0
reset-agreed v n One b value h = sym value ∙ (and_parts _ _ h).0
reset-agreed v n Free b value h = tt

-- from variable n on the assignment has these values
abbrev Has : (ℕ → Bool) → ℕ → List Bool → Type 0
Has v n values = (i : ℕ) → i < length values → v (n + i) ≡ get_or values i false

Has-first : (v : ℕ → Bool) (n : ℕ) (b : Bool) (values : List Bool) → Has v n (b ∷ values) → v n ≡ b
Has-first v n b values h = ap v (let e : n ≡ n + 0 = omega arith in e) ∙ h 0 (omega arith)

Has-later : (v : ℕ → Bool) (n : ℕ) (b : Bool) (values : List Bool) → Has v n (b ∷ values) → Has v (n + 1) values
Has-later v n b values h i below = ap v (let e : (n + 1) + i ≡ n + suc i = omega arith in e) ∙ h (suc i) (omega arith)

cube-true : (v : ℕ → Bool) (n : ℕ) (latches : List Latch) (values : List Bool) → Has v n values
    → AllZip (λ latch value. AgreesWith latch.reset value) latches values → list_all (literal_value v) (initial_literals n latches) ≡ true
cube-true v n [] values has h = refl
cube-true v n (latch ∷ latches) [] has h = absurd h
cube-true v n (latch ∷ latches) (b ∷ values) has h =
    list_all-append (literal_value v) (reset_literals n latch.reset) (initial_literals (n + 1) latches)
    ∙ and_from _ _ (reset-agrees v n latch.reset b (Has-first v n b values has) h.0)
    (cube-true v (n + 1) latches values (Has-later v n b values has) h.1)

cube-agrees : (v : ℕ → Bool) (n : ℕ) (latches : List Latch) (values : List Bool) → Has v n values
    → length values ≡ length latches → list_all (literal_value v) (initial_literals n latches) ≡ true
    → AllZip (λ latch value. AgreesWith latch.reset value) latches values
cube-agrees v n [] [] has size h = tt
cube-agrees v n [] (b ∷ values) has size h = absurd (omega arith)
cube-agrees v n (latch ∷ latches) [] has size h = absurd (omega arith)
cube-agrees v n (latch ∷ latches) (b ∷ values) has size h =
    let both = and_parts _ _ (sym (list_all-append (literal_value v) (reset_literals n latch.reset) (initial_literals (n + 1) latches)) ∙ h) in (
      reset-agreed v n latch.reset b (Has-first v n b values has) both.0,
      cube-agrees v (n + 1) latches values (Has-later v n b values has) (omega arith) both.1,
    )

state-has : (s : List Bool) → Has (values_of s) 0 s
state-has s i below = ap (values_of s) (let e : 0 + i ≡ i = omega arith in e) ∙ unwrap_or-slice_get s i false

pub initial-in_cube : (c : Circuit) (s : List Bool)
    → IsInitial c s ↔ ((length s ≡ length c.latches) × (cube_value (values_of s) (initial_cube c) ≡ true))
initial-in_cube c s = (
  λ h. (AllZip-long (λ (latch : Latch) (value : Bool). AgreesWith latch.reset value) c.latches s h, cube-true (values_of s) 0 c.latches s (state-has s) h),
  λ h. cube-agrees (values_of s) 0 c.latches s (state-has s) h.0 h.1,
)

-- ---- clauses that hold a literal of the initial cube

has-true : (v : ℕ → Bool) (clause : List Lit) (a : Lit) → has_literal clause a ≡ true → literal_value v a ≡ true → clause_value v clause ≡ true
has-true v [] a has h = absurd (both_ways true (sym has) refl)
has-true v (b ∷ clause) a has h =
    elim (or_cases (lit_eq a b) (has_literal clause a) has) [
      | inl same ↦ or_left (literal_value v b) _ (ap (literal_value v) (sym (lit_eq-true a b same)) ∙ h)
      | inr later ↦ or_right (literal_value v b) _ (has-true v clause a later h)
    ]

cube-meets : (v : ℕ → Bool) (clause cube : List Lit) → list_any (has_literal clause) cube ≡ true → list_all (literal_value v) cube ≡ true → clause_value v clause ≡ true
cube-meets v clause [] some h = absurd (both_ways true (sym some) refl)
cube-meets v clause (a ∷ cube) some h =
    let parts = and_parts _ _ h in
    elim (or_cases (has_literal clause a) (list_any (has_literal clause) cube) some) [
      | inl here ↦ has-true v clause a here parts.0
      | inr later ↦ cube-meets v clause cube later parts.1
    ]

pub holds-initial : (c : Circuit) (clauses : List (List Lit)) (s : List Bool)
    → All (λ clause. list_any (has_literal clause) (initial_cube c) ≡ true) clauses → IsInitial c s → meets_clauses clauses s ≡ true
holds-initial c [] s each initial = refl
holds-initial c (clause ∷ clauses) s each initial =
    let P : List Lit → Type 0 = λ k. list_any (has_literal k) (initial_cube c) ≡ true in
    let cube : list_all (literal_value (values_of s)) (initial_cube c) ≡ true = cube-true (values_of s) 0 c.latches s (state-has s) initial in
    and_from _ _ (cube-meets (values_of s) clause (initial_cube c) (All-head P clause clauses each) cube)
    (holds-initial c clauses s (All-tail P clause clauses each) initial)
