-- A closed set from which no position makes the last latch true, with the clause that this latch is false: a valid entry.
use Rattle.std.proofs.Common.{◌≡◌, ℕ, zero, suc, ◌+◌, ◌-◌, ◌<◌, ◌⊎◌, Bool, true, false, not, ◌&&◌, ◌||◌, List, [], ◌∷◌, ◌++◌, length, get_or, refl, sym, ap, ◌∙◌, subst, inl, inr, arith}
use Rattle.std.specs.List.{All, list_any}
use Rattle.std.proofs.lemmas.Bool.{and_parts, and_from, or_left, or_right, cases_Bool, false≢true}
use Rattle.std.proofs.lemmas.Option.{unwrap_or-slice_get}
use Rattle.std.proofs.lemmas.List.Folds.{list_all-append}
use Rattle.std.proofs.lemmas.List.Elements.{All-nil, All-cons, All-append, All-head}
use Rattle.aig_semantics.specs.declared.parts.Latch.{Latch}
use Rattle.aig_semantics.specs.declared.parts.Reset.TheVariants.{Zero}
use Rattle.aig_semantics.specs.declared.traces.Position.{Position}
use Rattle.aig_semantics.specs.Circuits.{Circuit}
use Rattle.aig_semantics.specs.Runs.{literal_at}
use Rattle.proof_semantics.specs.declared.literals.Lit.{Lit}
use Rattle.proof_semantics.specs.Clauses.{lit_eq, has_literal, clause_value, values_of}
use Rattle.proof_semantics.proofs.LiteralLaws.{lit_eq-same}
use Rattle.fair_semantics.specs.declared.entries.Use.{Use}
use Rattle.fair_semantics.specs.Laws.{HoldsInitialStates}
use Rattle.fair_semantics.specs.States.{IsStep, meets_clauses, reset_literals, initial_literals, initial_cube}
use Rattle.fair_semantics.specs.Validity.{set_behind}
use Rattle.entry.proofs.Faultless.{base-swap}
use Rattle.k_live.specs.Asking.{next_of_last, reach_entry, last_false, IsClosedSet, IsClaim}
use Rattle.k_live.proofs.Paths.{no_latch, last-next}

or-cases : (a b : Bool) → (a || b) ≡ true → (a ≡ true) ⊎ (b ≡ true)
or-cases true b h = inl refl
or-cases false b h = inr h

none-used : (uses : List Use) → All (λ u. u.entry < 0) uses → uses ≡ []
none-used [] all = refl
none-used (u ∷ uses) all = absurd (let a = All-head (λ u. u.entry < 0) u uses all in omega (arith, a))

any-behind : (P : Lit → Bool) (xs ys : List Lit) → list_any P ys ≡ true → list_any P (xs ++ ys) ≡ true
any-behind P [] ys h = h
any-behind P (x ∷ xs) ys h = or_right (P x) (list_any P (xs ++ ys)) (any-behind P xs ys h)

-- a latch that begins with 0 stands in the initial cube
cube-has : (n i m : ℕ) (latches : List Latch) → i < length latches → m ≡ n + i → (get_or latches i no_latch).reset ≡ Zero
    → list_any (has_literal (record { var = m; positive = false } ∷ [])) (initial_literals n latches) ≡ true
cube-has n i m [] below is begins = absurd (omega (arith, below))
cube-has n zero m (latch ∷ latches) below is begins =
    let P : Lit → Bool = has_literal (record { var = m; positive = false } ∷ []) in
    let l : Lit = record { var = n; positive = false } in
    let same : n ≡ m = omega (arith, is) in
    let here : P l ≡ true =
    or_left (lit_eq l (record { var = m; positive = false })) false
    (subst (λ v. lit_eq l (record { var = v; positive = false }) ≡ true) same (lit_eq-same l))
    in
    subst (λ r. list_any P (reset_literals n r ++ initial_literals (n + 1) latches) ≡ true) (sym begins)
    (or_left (P l) (list_any P (initial_literals (n + 1) latches)) here)
cube-has n (suc i) m (latch ∷ latches) below is begins =
    any-behind (has_literal (record { var = m; positive = false } ∷ [])) (reset_literals n latch.reset) (initial_literals (n + 1) latches)
    (cube-has (n + 1) i m latches (omega (arith, below)) (omega (arith, is)) begins)

not-false : (b : Bool) → (not b || false) ≡ true → b ≡ false
not-false true h = absurd (false≢true h)
not-false false h = refl

not-true-of : (b : Bool) → b ≡ false → (not b || false) ≡ true
not-true-of true h = absurd (false≢true (sym h))
not-true-of false h = refl

module _ (t : Circuit) (some : 0 < length t.latches) (begins : (get_or t.latches (length t.latches - 1) no_latch).reset ≡ Zero) (law : HoldsInitialStates) (clauses : List (List Lit)) where
  abbrev last : ℕ
  last = length t.latches - 1

  abbrev all : List (List Lit)
  all = clauses ++ last_false t ∷ []

  value-is : (s : List Bool) → values_of s last ≡ get_or s last false
  value-is s = unwrap_or-slice_get s last false

  all-is : (s : List Bool) → meets_clauses all s ≡ (meets_clauses clauses s && ((not (values_of s last) || false) && true))
  all-is s = list_all-append (clause_value (values_of s)) clauses (last_false t ∷ [])

  parts : (s : List Bool) → meets_clauses all s ≡ true → (meets_clauses clauses s ≡ true) × (get_or s last false ≡ false)
  parts s h =
      let both = and_parts (meets_clauses clauses s) ((not (values_of s last) || false) && true) (sym (all-is s) ∙ h) in
      let one = and_parts (not (values_of s last) || false) true both.1 in
      (both.0, sym (value-is s) ∙ not-false (values_of s last) one.0)

  from : (s : List Bool) → meets_clauses clauses s ≡ true → get_or s last false ≡ false → meets_clauses all s ≡ true
  from s h none =
      all-is s
      ∙ and_from (meets_clauses clauses s) ((not (values_of s last) || false) && true) h
      (and_from (not (values_of s last) || false) true (not-true-of (values_of s last) (value-is s ∙ none)) refl)

  -- a position from the set does not make the last latch true
  stays-false : IsClosedSet t clauses [] → (s u : List Bool) → IsStep t s u
      → set_behind [] (reach_entry clauses) s ≡ true → get_or u last false ≡ false
  stays-false sep s u step inside = elim (cases_Bool (get_or u last false)) [
    | inl true_next ↦
        let p : Position = step.position in
        let holds : literal_at t p (next_of_last t) ≡ true = sym (last-next t p some) ∙ ap (λ x. get_or x last false) step.ends ∙ true_next in
        let outside : set_behind [] (reach_entry clauses) p.latches ≡ false =
        sep.misses p (record { possible = step.possible; holds = holds; avoids = All-nil _; state = refl; next = refl })
        in
        absurd (false≢true (sym outside ∙ ap (set_behind [] (reach_entry clauses)) step.begins ∙ inside))
    | inr none ↦ none
  ]

  base-any : All (λ clause. list_any (has_literal clause) (initial_cube t) ≡ true) clauses → All (λ clause. list_any (has_literal clause) (initial_cube t) ≡ true) all
  base-any given =
      let P : List Lit → Type 0 = λ clause. list_any (has_literal clause) (initial_cube t) ≡ true in
      All-append P clauses (last_false t ∷ []) given
      (All-cons P (last_false t) [] (cube-has 0 last last t.latches (omega (arith, some)) (omega arith) begins) (All-nil P))

  kept : IsClosedSet t clauses [] → IsClaim t all
  kept sep = record {
    over =
        All-append (λ clause. All (λ l. l.var < length t.latches) clause) clauses (last_false t ∷ []) sep.over
        (All-cons (λ clause. All (λ l. l.var < length t.latches) clause) (last_false t) []
        (All-cons (λ l. l.var < length t.latches) _ [] (omega (arith, some)) (All-nil _)) (All-nil _));
    valid = record {
      uses = sep.valid.uses;
      closed = λ s u step allowed inside.
          let whole = and_parts (meets_clauses all s) true inside in
          let in_all = parts s whole.0 in
          let old : set_behind [] (reach_entry clauses) s ≡ true = and_from (meets_clauses clauses s) true in_all.0 refl in
          let next = and_parts (meets_clauses clauses u) true (sep.valid.closed s u step refl old) in
          and_from (meets_clauses all u) true (from u next.0 (stays-false sep s u step old)) refl;
      reach = λ _. record {
        initial = λ s initial. and_from (meets_clauses all s) true (law t all s (base-any sep.base) initial) refl;
        uses = All-nil _;
      };
    };
    base = base-swap t all (base-any sep.base);
    front = clauses;
    last = refl;
  }

  pub keeps : (uses : List Use) → IsClosedSet t clauses uses → IsClaim t all
  keeps uses sep = kept (subst (λ us. IsClosedSet t clauses us) (none-used uses sep.valid.uses.present) sep)
