-- What the new gates come to, over any values that meet their equations.
use Rattle.std.proofs.Common.{◌≡◌, ℕ, zero, suc, ◌+◌, ◌-◌, ◌*◌, ◌/◌, ◌%◌, ◌<◌, ◌==◌, Bool, true, false, not, cond, ◌&&◌, ◌||◌, List, [], ◌∷◌, ◌++◌, map, length, refl, sym, ap, ◌∙◌, subst, inl, inr, arith}
use Rattle.std.specs.List.{All, list_all, range_with_len}
use Rattle.std.proofs.lemmas.Bool.{cond_both, cases_lt, eqb-true, eq-eqb, both_ways}
use Rattle.std.proofs.lemmas.Nat.{mod_below}
use Rattle.std.proofs.lemmas.List.Elements.{All-head, All-tail}
use Rattle.std.proofs.lemmas.List.Folds.{list_all-append}
use Rattle.aig_semantics.specs.declared.parts.Latch.{Latch}
use Rattle.aig_semantics.specs.declared.parts.Gate.{Gate}
use Rattle.aig_semantics.specs.Literals.{variable_of, is_negated, literal_by}
use Rattle.aig_semantics.specs.Valuations.{conjunction}
use Rattle.aig_semantics.proofs.Lists.{All-left, All-right}
use Rattle.live_to_safe.specs.declared.sizes.Sizes.{Sizes}
use Rattle.live_to_safe.specs.Numbers.{negation, save, saved, copy, seen, saving, idle, latch_gate, literal_gate, bad_gate}
use Rattle.live_to_safe.specs.Watching.{numbered, for_each, saving_gates, latch_gates, literal_gates, chain, chain_end, back_and_seen, new_gates, bad_literal}
use Rattle.live_to_safe.proofs.Before.{negation-variable}

-- ---- literals

-- a literal by the rest of its number modulo 2 and by its variable
abbrev by_rest : (ℕ → Bool) → ℕ → ℕ → Bool
by_rest value rest v = cond (rest == 1) (not (value v)) (value v)

pub positive-value : (value : ℕ → Bool) (v : ℕ) → literal_by value (2 * v) ≡ value v
positive-value value v =
    let r : (2 * v) % 2 ≡ 0 = omega arith in
    let e : (2 * v) / 2 ≡ v = omega arith in
    ap (λ x. by_rest value x ((2 * v) / 2)) r ∙ ap value e

pub negative-value : (value : ℕ → Bool) (v : ℕ) → literal_by value (2 * v + 1) ≡ not (value v)
negative-value value v =
    let r : (2 * v + 1) % 2 ≡ 1 = omega arith in
    let e : (2 * v + 1) / 2 ≡ v = omega arith in
    ap (λ x. by_rest value x ((2 * v + 1) / 2)) r ∙ ap (λ x. not (value x)) e

pub not_not : (b : Bool) → not (not b) ≡ b
not_not true = refl
not_not false = refl

turned : (value : ℕ → Bool) (a b : Bool) (v w : ℕ) → b ≡ not a → w ≡ v → cond b (not (value w)) (value w) ≡ not (cond a (not (value v)) (value v))
turned value true b v w e same = ap (λ x. cond x (not (value w)) (value w)) e ∙ ap value same ∙ sym (not_not (value v))
turned value false b v w e same = ap (λ x. cond x (not (value w)) (value w)) e ∙ ap (λ x. not (value x)) same

negation-sign : (literal : ℕ) → is_negated (negation literal) ≡ not (is_negated literal)
negation-sign literal =
    cond_both (is_negated literal) (literal - 1) (literal + 1) (λ l. is_negated l ≡ not (is_negated literal))
    (λ e.
    let r : literal % 2 ≡ 1 = eqb-true (literal % 2) 1 e in
    let s : (literal - 1) % 2 ≡ 0 = omega (arith, r) in
    ap (λ x. x == 1) s ∙ ap not (sym e))
    (λ e. elim (cases_lt (literal % 2) 1) [
      | inl lt ↦
          let s : (literal + 1) % 2 ≡ 1 = omega (arith, lt) in
          ap (λ x. x == 1) s ∙ ap not (sym e)
      | inr ge ↦
          let m : literal % 2 < 2 = mod_below literal 2 (omega arith) in
          let r : literal % 2 ≡ 1 = omega (arith, ge, m) in
          absurd (both_ways (is_negated literal) e (eq-eqb (literal % 2) 1 r))
    ])

pub negation-value : (value : ℕ → Bool) (literal : ℕ) → literal_by value (negation literal) ≡ not (literal_by value literal)
negation-value value literal =
    turned value (is_negated literal) (is_negated (negation literal)) (variable_of literal) (variable_of (negation literal))
    (negation-sign literal) (negation-variable literal)

-- ---- what gates come to

-- the copy's next value
chosen : (s l k : Bool) → not (not (s && l) && not (not s && k)) ≡ cond s l k
chosen true true k = refl
chosen true false k = refl
chosen false l true = refl
chosen false l false = refl

abbrev pub same_bool : Bool → Bool → Bool
same_bool a b = cond a b (not b)

-- latch and copy are equal
equal : (l k : Bool) → (not (l && not k) && not (not l && k)) ≡ same_bool l k
equal true true = refl
equal true false = refl
equal false true = refl
equal false false = refl

-- what is seen next
seen_next : (idle s l : Bool) → (not idle && not (not s && not l)) ≡ (not idle && (s || l))
seen_next true s l = refl
seen_next false true l = refl
seen_next false false true = refl
seen_next false false false = refl

and_assoc : (a b c : Bool) → ((a && b) && c) ≡ (a && (b && c))
and_assoc true b c = refl
and_assoc false b c = refl

and_true : (a : Bool) → a ≡ (a && true)
and_true true = refl
and_true false = refl

pub both_same : (a b c d : Bool) → a ≡ c → b ≡ d → (a && b) ≡ (c && d)
both_same a b c d e f = ap (λ x. x && b) e ∙ ap (λ x. c && x) f

-- two lists of one length with the same values
abbrev pub same_lists : List Bool → List Bool → Bool
same_lists [] ys = true
same_lists (x ∷ xs) [] = false
same_lists (x ∷ xs) (y ∷ ys) = same_bool x y && same_lists xs ys

-- which literals are seen next, where a state is saved now or was before
abbrev pub seen_after : Bool → List Bool → List Bool → List Bool
seen_after on [] values = []
seen_after on (s ∷ seens) [] = []
seen_after on (s ∷ seens) (l ∷ values) = (on && (s || l)) ∷ seen_after on seens values

abbrev pub all_true : List Bool → Bool
all_true xs = list_all (λ b. b) xs

module _ (value : ℕ → Bool) where
  abbrev Meets : Gate → Type 0
  Meets gate = value gate.var ≡ conjunction value gate

  -- a gate by the values of its right sides
  pub gate-by : (v a b : ℕ) (x y : Bool) → value v ≡ (literal_by value a && literal_by value b) → literal_by value a ≡ x → literal_by value b ≡ y → value v ≡ (x && y)
  gate-by v a b x y e f g = e ∙ both_same (literal_by value a) (literal_by value b) x y f g

  pub saving-is : (z : Sizes) → All Meets (saving_gates z) → value (saving z) ≡ (value (save z) && not (value (saved z)))
  saving-is z all =
      gate-by (saving z) (2 * save z) (2 * saved z + 1) (value (save z)) (not (value (saved z))) (all 0 (record { var = 0; rhs0 = 0; rhs1 = 0 }) (omega arith))
      (positive-value value (save z)) (negative-value value (saved z))

  pub idle-is : (z : Sizes) → All Meets (saving_gates z) → value (idle z) ≡ (not (value (save z)) && not (value (saved z)))
  idle-is z all =
      gate-by (idle z) (2 * save z + 1) (2 * saved z + 1) (not (value (save z))) (not (value (saved z))) (all 1 (record { var = 0; rhs0 = 0; rhs1 = 0 }) (omega arith))
      (negative-value value (save z)) (negative-value value (saved z))

  -- ---- one latch

  copy-next : (z : Sizes) (i : ℕ) (latch : Latch) → All Meets (latch_gates z i latch)
      → not (value (latch_gate z i + 2)) ≡ cond (value (saving z)) (value latch.var) (value (copy z i))
  copy-next z i latch all =
      let d : Gate = record { var = 0; rhs0 = 0; rhs1 = 0 } in
      let v : ℕ = latch_gate z i in
      let s : Bool = value (saving z) in
      let l : Bool = value latch.var in
      let k : Bool = value (copy z i) in
      let a : value (latch_gate z i) ≡ (s && l) =
      gate-by (latch_gate z i) (2 * saving z) (2 * latch.var) s l (all 0 d (omega arith)) (positive-value value (saving z)) (positive-value value latch.var)
      in
      let b : value (latch_gate z i + 1) ≡ (not s && k) =
      gate-by (latch_gate z i + 1) (2 * saving z + 1) (2 * copy z i) (not s) k (all 1 d (omega arith)) (negative-value value (saving z)) (positive-value value (copy z i))
      in
      let e : value (latch_gate z i + 2) ≡ (not (s && l) && not (not s && k)) =
      gate-by (latch_gate z i + 2) (2 * latch_gate z i + 1) (2 * (latch_gate z i + 1) + 1) (not (s && l)) (not (not s && k)) (all 2 d (omega arith))
      (negative-value value (latch_gate z i) ∙ ap not a) (negative-value value (latch_gate z i + 1) ∙ ap not b)
      in
      ap not e ∙ chosen s l k

  same-now : (z : Sizes) (i : ℕ) (latch : Latch) → All Meets (latch_gates z i latch)
      → value (latch_gate z i + 5) ≡ same_bool (value latch.var) (value (copy z i))
  same-now z i latch all =
      let d : Gate = record { var = 0; rhs0 = 0; rhs1 = 0 } in
      let l : Bool = value latch.var in
      let k : Bool = value (copy z i) in
      let a : value (latch_gate z i + 3) ≡ (l && not k) =
      gate-by (latch_gate z i + 3) (2 * latch.var) (2 * copy z i + 1) l (not k) (all 3 d (omega arith)) (positive-value value latch.var) (negative-value value (copy z i))
      in
      let b : value (latch_gate z i + 4) ≡ (not l && k) =
      gate-by (latch_gate z i + 4) (2 * latch.var + 1) (2 * copy z i) (not l) k (all 4 d (omega arith)) (negative-value value latch.var) (positive-value value (copy z i))
      in
      gate-by (latch_gate z i + 5) (2 * (latch_gate z i + 3) + 1) (2 * (latch_gate z i + 4) + 1) (not (l && not k)) (not (not l && k)) (all 5 d (omega arith))
      (negative-value value (latch_gate z i + 3) ∙ ap not a) (negative-value value (latch_gate z i + 4) ∙ ap not b)
      ∙ equal l k

  -- ---- all latches

  abbrev latch_values : List Latch → List Bool
  latch_values latches = map (λ latch. value latch.var) latches

  abbrev copy_values : Sizes → ℕ → ℕ → List Bool
  copy_values z k n = numbered (λ i. value (copy z i)) k n

  cond-cons : (s x y : Bool) (xs ys : List Bool) → cond s x y ∷ cond s xs ys ≡ cond s (x ∷ xs) (y ∷ ys)
  cond-cons true x y xs ys = refl
  cond-cons false x y xs ys = refl

  cond-nil : (s : Bool) → [] ≡ cond {A = List Bool} s [] []
  cond-nil true = refl
  cond-nil false = refl

  pub copies-next : (z : Sizes) (k : ℕ) (latches : List Latch) → All Meets (for_each (latch_gates z) k latches)
      → numbered (λ i. not (value (latch_gate z i + 2))) k (length latches) ≡ cond (value (saving z)) (latch_values latches) (copy_values z k (length latches))
  copies-next z k [] all = cond-nil (value (saving z))
  copies-next z k (latch ∷ latches) all =
      ap (λ x. x ∷ numbered (λ i. not (value (latch_gate z i + 2))) (k + 1) (length latches))
      (copy-next z k latch (All-left Meets (latch_gates z k latch) (for_each (latch_gates z) (k + 1) latches) all))
      ∙ ap (λ xs. cond (value (saving z)) (value latch.var) (value (copy z k)) ∷ xs)
      (copies-next z (k + 1) latches (All-right Meets (latch_gates z k latch) (for_each (latch_gates z) (k + 1) latches) all))
      ∙ cond-cons (value (saving z)) (value latch.var) (value (copy z k)) (latch_values latches) (copy_values z (k + 1) (length latches))

  pub back-is : (z : Sizes) (k : ℕ) (latches : List Latch) → All Meets (for_each (latch_gates z) k latches)
      → list_all (λ i. value (latch_gate z i + 5)) (range_with_len k (length latches)) ≡ same_lists (latch_values latches) (copy_values z k (length latches))
  back-is z k [] all = refl
  back-is z k (latch ∷ latches) all =
      both_same (value (latch_gate z k + 5)) (list_all (λ i. value (latch_gate z i + 5)) (range_with_len (k + 1) (length latches)))
      (same_bool (value latch.var) (value (copy z k))) (same_lists (latch_values latches) (copy_values z (k + 1) (length latches)))
      (same-now z k latch (All-left Meets (latch_gates z k latch) (for_each (latch_gates z) (k + 1) latches) all))
      (back-is z (k + 1) latches (All-right Meets (latch_gates z k latch) (for_each (latch_gates z) (k + 1) latches) all))

  -- ---- literals

  abbrev seen_values : Sizes → ℕ → ℕ → List Bool
  seen_values z k n = numbered (λ m. value (seen z m)) k n

  seen-next : (z : Sizes) (m literal : ℕ) → All Meets (literal_gates z m literal)
      → value (literal_gate z m + 1) ≡ (not (value (idle z)) && (value (seen z m) || literal_by value literal))
  seen-next z m literal all =
      let d : Gate = record { var = 0; rhs0 = 0; rhs1 = 0 } in
      let s : Bool = value (seen z m) in
      let l : Bool = literal_by value literal in
      let a : value (literal_gate z m) ≡ (not s && not l) =
      gate-by (literal_gate z m) (2 * seen z m + 1) (negation literal) (not s) (not l) (all 0 d (omega arith)) (negative-value value (seen z m)) (negation-value value literal)
      in
      gate-by (literal_gate z m + 1) (2 * idle z + 1) (2 * literal_gate z m + 1) (not (value (idle z))) (not (not s && not l)) (all 1 d (omega arith))
      (negative-value value (idle z)) (negative-value value (literal_gate z m) ∙ ap not a)
      ∙ seen_next (value (idle z)) s l

  pub seens-next : (z : Sizes) (k : ℕ) (literals : List ℕ) → All Meets (for_each (literal_gates z) k literals)
      → numbered (λ m. value (literal_gate z m + 1)) k (length literals)
      ≡ seen_after (not (value (idle z))) (seen_values z k (length literals)) (map (literal_by value) literals)
  seens-next z k [] all = refl
  seens-next z k (literal ∷ literals) all =
      ap (λ x. x ∷ numbered (λ m. value (literal_gate z m + 1)) (k + 1) (length literals))
      (seen-next z k literal (All-left Meets (literal_gates z k literal) (for_each (literal_gates z) (k + 1) literals) all))
      ∙ ap (λ xs. (not (value (idle z)) && (value (seen z k) || literal_by value literal)) ∷ xs)
      (seens-next z (k + 1) literals (All-right Meets (literal_gates z k literal) (for_each (literal_gates z) (k + 1) literals) all))

  -- ---- the chain

  pub chain-is : (v so_far : ℕ) (literals : List ℕ) → All Meets (chain v so_far literals)
      → literal_by value (chain_end v so_far literals) ≡ (literal_by value so_far && list_all (literal_by value) literals)
  chain-is v so_far [] all = and_true (literal_by value so_far)
  chain-is v so_far (literal ∷ literals) all =
      let here : value v ≡ (literal_by value so_far && literal_by value literal) =
      All-head Meets (record { var = v; rhs0 = so_far; rhs1 = literal }) (chain (v + 1) (2 * v) literals) all
      in
      chain-is (v + 1) (2 * v) literals (All-tail Meets (record { var = v; rhs0 = so_far; rhs1 = literal }) (chain (v + 1) (2 * v) literals) all)
      ∙ ap (λ x. x && list_all (literal_by value) literals) (positive-value value v ∙ here)
      ∙ and_assoc (literal_by value so_far) (literal_by value literal) (list_all (literal_by value) literals)

  all_positive : (f : ℕ → ℕ) (k n : ℕ) → list_all (literal_by value) (numbered (λ i. 2 * f i) k n) ≡ list_all (λ i. value (f i)) (range_with_len k n)
  all_positive f k zero = refl
  all_positive f k (suc n) =
      both_same (literal_by value (2 * f k)) (list_all (literal_by value) (numbered (λ i. 2 * f i) (k + 1) n)) (value (f k)) (list_all (λ i. value (f i)) (range_with_len (k + 1) n))
      (positive-value value (f k)) (all_positive f (k + 1) n)

  all_seen : (z : Sizes) (k n : ℕ) → list_all (λ m. value (seen z m)) (range_with_len k n) ≡ all_true (seen_values z k n)
  all_seen z k zero = refl
  all_seen z k (suc n) = ap (λ x. value (seen z k) && x) (all_seen z (k + 1) n)

  pub bad-is : (z : Sizes) (latches : List Latch) (literals : List ℕ) → length latches ≡ z.latches → All Meets (new_gates z latches literals)
      → literal_by value (bad_literal z)
      ≡ (value (saved z) && (same_lists (latch_values latches) (copy_values z 0 z.latches) && all_true (seen_values z 0 z.literals)))
  bad-is z latches literals l all =
      let one = for_each (latch_gates z) 0 latches in
      let two = for_each (literal_gates z) 0 literals in
      let three = chain (bad_gate z) (2 * saved z) (back_and_seen z) in
      let upto_two = All-left Meets (saving_gates z ++ one ++ two) three all in
      let of_latches = All-right Meets (saving_gates z) one (All-left Meets (saving_gates z ++ one) two upto_two) in
      let of_chain = All-right Meets (saving_gates z ++ one ++ two) three all in
      let back = all_positive (λ i. latch_gate z i + 5) 0 z.latches in
      let seens = all_positive (seen z) 0 z.literals in
      let same : list_all (λ i. value (latch_gate z i + 5)) (range_with_len 0 z.latches) ≡ same_lists (latch_values latches) (copy_values z 0 z.latches) =
      subst (λ n. list_all (λ i. value (latch_gate z i + 5)) (range_with_len 0 n) ≡ same_lists (latch_values latches) (copy_values z 0 n)) l (back-is z 0 latches of_latches)
      in
      chain-is (bad_gate z) (2 * saved z) (back_and_seen z) of_chain
      ∙ both_same (literal_by value (2 * saved z)) (list_all (literal_by value) (back_and_seen z)) (value (saved z))
      (same_lists (latch_values latches) (copy_values z 0 z.latches) && all_true (seen_values z 0 z.literals))
      (positive-value value (saved z))
      (list_all-append (literal_by value) (numbered (λ i. 2 * (latch_gate z i + 5)) 0 z.latches) (numbered (λ m. 2 * seen z m) 0 z.literals)
      ∙ both_same (list_all (literal_by value) (numbered (λ i. 2 * (latch_gate z i + 5)) 0 z.latches)) (list_all (literal_by value) (numbered (λ m. 2 * seen z m) 0 z.literals))
      (same_lists (latch_values latches) (copy_values z 0 z.latches)) (all_true (seen_values z 0 z.literals))
      (back ∙ same) (seens ∙ all_seen z 0 z.literals))
