-- States as literals over the numbers of a place, and what a core of them says.
use Rattle.std.proofs.Common.{◌≡◌, ℕ, suc, ◌+◌, ◌<◌, ◌≤◌, Bool, true, false, ◌&&◌, List, [], ◌∷◌, ◌++◌, map, length, refl, sym, ap, subst, ◌∙◌, inl, inr, arith, append_assoc}
use Rattle.std.specs.List.{All, AllByRecursion, list_all}
use Rattle.std.proofs.lemmas.Bool.{and_parts, and_from, cases_Bool, or_cases, or_left, or_right, false≢true}
use Rattle.std.proofs.Math.Seq.{get_or-append_seam}
use Rattle.std.proofs.lemmas.Option.{unwrap_or-slice_get}
use Rattle.std.proofs.lemmas.List.{length-append}
use Rattle.std.proofs.lemmas.List.Elements.{All-from_recursion}
use Rattle.proof_semantics.specs.declared.literals.Lit.{Lit}
use Rattle.proof_semantics.specs.Clauses.{bool_eq, lit_eq, literal_value, cube_value, values_of, has_literal, is_part}
use Rattle.proof_semantics.proofs.LiteralLaws.{bool_eq-true, bool_eq-same, lit_eq-true, lit_eq-same}
use Rattle.skeleton.specs.Reading.{state_literals, core_cube}

-- ---- an assignment that makes the literals true gives the place the state

pub literals_told : (f : ℕ → Bool) (place : List ℕ) (state : List Bool) → length state ≡ length place
    → cube_value f (state_literals place state) ≡ true → map f place ≡ state
literals_told f [] [] l h = refl
literals_told f [] (b ∷ state) l h = absurd (omega arith)
literals_told f (k ∷ place) [] l h = absurd (omega arith)
literals_told f (k ∷ place) (b ∷ state) l h =
    let parts = and_parts (bool_eq b (f k)) (cube_value f (state_literals place state)) h in
    ap (λ x. x ∷ map f place) (sym (bool_eq-true b (f k) parts.0)) ∙ ap (λ xs. b ∷ xs) (literals_told f place state (omega arith) parts.1)

pub literals_length : (place : List ℕ) (state : List Bool) → length state ≡ length place → length (state_literals place state) ≡ length place
literals_length [] state l = refl
literals_length (k ∷ place) [] l = absurd (omega arith)
literals_length (k ∷ place) (b ∷ state) l = ap suc (literals_length place state (omega arith))

-- ---- the cube of a core

-- f has the values from n on
Has : (ℕ → Bool) → ℕ → List Bool → Type 0
Has f n [] = Unit {0}
Has f n (b ∷ state) = (f n ≡ b) × Has f (n + 1) state

cube_over : (core : List Lit) (n m : ℕ) (assumptions : List Lit) → n + length assumptions ≤ m
    → AllByRecursion (λ l. l.var < m) (core_cube core n assumptions)
cube_over core n m [] h = tt
cube_over core n m (a ∷ assumptions) h =
    let rest = cube_over core (n + 1) m assumptions (omega arith) in
    elim (cases_Bool (has_literal core a)) [
      | inl has ↦ rw has (omega arith, rest)
      | inr lacks ↦ rw lacks rest
    ]

cube_has : (f : ℕ → Bool) (core : List Lit) (n : ℕ) (place : List ℕ) (state : List Bool) → Has f n state
    → cube_value f (core_cube core n (state_literals place state)) ≡ true
unfolding Has
cube_has f core n [] state h = refl
cube_has f core n (k ∷ place) [] h = refl
cube_has f core n (k ∷ place) (b ∷ state) h =
    let rest = cube_has f core (n + 1) place state h.1 in
    elim (cases_Bool (has_literal core (record { var = k; positive = b }))) [
      | inl has ↦ rw has (and_from _ _ (ap (bool_eq b) h.0 ∙ bool_eq-same b) rest)
      | inr lacks ↦ rw lacks rest
    ]

-- where the cube holds the state that an assignment gives the place, the assignment makes the core's literals true
core_true : (f w : ℕ → Bool) (core : List Lit) (n : ℕ) (place : List ℕ) (state : List Bool) → Has f n (map w place)
    → cube_value f (core_cube core n (state_literals place state)) ≡ true
    → (a : Lit) → has_literal (state_literals place state) a ≡ true → has_literal core a ≡ true → literal_value w a ≡ true
unfolding Has
core_true f w core n [] state has h a among inside = absurd (false≢true among)
core_true f w core n (k ∷ place) [] has h a among inside = absurd (false≢true among)
core_true f w core n (k ∷ place) (b ∷ state) has h a among inside =
    let first : Lit = record { var = k; positive = b } in
    let rest = core_cube core (n + 1) (state_literals place state) in
    elim (or_cases (lit_eq a (record { var = k; positive = b })) (has_literal (state_literals place state) a) among) [
      | inl same ↦
          let e : a ≡ record { var = k; positive = b } = lit_eq-true a (record { var = k; positive = b }) same in
          let here : has_literal core (record { var = k; positive = b }) ≡ true = sym (ap (has_literal core) e) ∙ inside in
          let all : (bool_eq b (f n) && cube_value f rest) ≡ true = rw here at h in
          let parts = and_parts (bool_eq b (f n)) (cube_value f rest) all in
          ap (literal_value w) e ∙ ap (bool_eq b) (sym has.0) ∙ parts.0
      | inr later ↦
          elim (cases_Bool (has_literal core (record { var = k; positive = b }))) [
            | inl is ↦
                let all : (bool_eq b (f n) && cube_value f rest) ≡ true = rw is at h in
                core_true f w core (n + 1) place state has.1 (and_parts (bool_eq b (f n)) (cube_value f rest) all).1 a later inside
            | inr lacks ↦
                let all : cube_value f rest ≡ true = rw lacks at h in
                core_true f w core (n + 1) place state has.1 all a later inside
          ]
    ]

all_from : (f : Lit → Bool) (xs : List Lit) → ((a : Lit) → has_literal xs a ≡ true → f a ≡ true) → list_all f xs ≡ true
all_from f [] each = refl
all_from f (a ∷ xs) each =
    and_from _ _ (each a (or_left _ _ (lit_eq-same a))) (all_from f xs (λ b has. each b (or_right _ _ has)))

part_has : (core whole : List Lit) (a : Lit) → is_part core whole ≡ true → has_literal core a ≡ true → has_literal whole a ≡ true
part_has [] whole a part has = absurd (false≢true has)
part_has (b ∷ core) whole a part has =
    let parts = and_parts (has_literal whole b) (is_part core whole) part in
    elim (or_cases (lit_eq a b) (has_literal core a) has) [
      | inl same ↦ ap (has_literal whole) (lit_eq-true a b same) ∙ parts.0
      | inr later ↦ part_has core whole a parts.1 later
    ]

-- the values of a list, from its first on
values_has : (before state : List Bool) → Has (values_of (before ++ state)) (length before) state
unfolding Has
values_has before [] = tt
values_has before (b ∷ state) = (
  unwrap_or-slice_get (before ++ b ∷ state) (length before) false ∙ get_or-append_seam before b state false,
  subst (λ n. Has (values_of (before ++ b ∷ state)) n state) (length-append before (b ∷ []))
      (subst (λ s. Has (values_of s) (length (before ++ b ∷ [])) state) (append_assoc before (b ∷ []) state) (values_has (before ++ b ∷ []) state)),
)

pub cube_holds : (core : List Lit) (place : List ℕ) (state : List Bool)
    → cube_value (values_of state) (core_cube core 0 (state_literals place state)) ≡ true
cube_holds core place state = cube_has (values_of state) core 0 place state (values_has [] state)

pub cube_latches : (core : List Lit) (place : List ℕ) (state : List Bool) (n : ℕ) → length state ≡ length place → length place ≡ n
    → All (λ l. l.var < n) (core_cube core 0 (state_literals place state))
cube_latches core place state n l m =
    All-from_recursion (λ a. a.var < n) (core_cube core 0 (state_literals place state))
    (cube_over core 0 n (state_literals place state) (omega (arith, literals_length place state l)))

pub cube_core : (w : ℕ → Bool) (core : List Lit) (place : List ℕ) (state : List Bool)
    → is_part core (state_literals place state) ≡ true
    → cube_value (values_of (map w place)) (core_cube core 0 (state_literals place state)) ≡ true → cube_value w core ≡ true
cube_core w core place state part h =
    all_from (literal_value w) core
    (λ a has. core_true (values_of (map w place)) w core 0 place state (values_has [] (map w place)) h a (part_has core (state_literals place state) a part has) has)
