-- States that are the same, and initial ones.
use Rattle.std.proofs.Common.{◌≡◌, ℕ, ◌+◌, Bool, true, false, not, ◌&&◌, ◌||◌, List, [], ◌∷◌, ◌++◌, map, refl, sym, ap, ap₂, ◌∙◌, inl, inr}
use Rattle.std.specs.List.{flat_map, AllZip}
use Rattle.std.proofs.lemmas.Bool.{and_parts, and_from, cases_Bool}
use Rattle.aig_semantics.specs.declared.parts.Latch.{Latch}
use Rattle.aig_semantics.specs.declared.parts.Reset.{Reset}
use Rattle.aig_semantics.specs.declared.parts.Reset.TheVariants.{Zero, One, Free}
use Rattle.aig_semantics.specs.Circuits.{Circuit}
use Rattle.aig_semantics.specs.Runs.{AgreesWith}
use Rattle.proof_semantics.specs.declared.literals.Lit.{Lit}
use Rattle.proof_semantics.specs.Clauses.{clause_value, clauses_value}
use Rattle.cnf_unroll.proofs.Truth.{both, together}
use Rattle.lasso_clauses.specs.Clauses.{same_value, reset_clauses}

-- ---- truth values alone

same_is : (x y u : Bool) → ((not x || (y || u)) && ((x || (not y || u)) && true)) ≡ true → u ≡ false → x ≡ y
same_is true true u h e = refl
same_is true false true h e = absurd (cc)
same_is true false false h e = let f : false ≡ true = h in absurd (cc)
same_is false true true h e = absurd (cc)
same_is false true false h e = let f : false ≡ true = h in absurd (cc)
same_is false false u h e = refl

same_from : (x y u : Bool) → (u ≡ false → x ≡ y) → ((not x || (y || u)) && ((x || (not y || u)) && true)) ≡ true
same_from true true u f = refl
same_from true false true f = refl
same_from true false false f = let e : true ≡ false = f refl in absurd (cc)
same_from false true true f = refl
same_from false true false f = let e : false ≡ true = f refl in absurd (cc)
same_from false false u f = refl

first_same : (x y : Bool) (xs ys : List Bool) → x ∷ xs ≡ y ∷ ys → x ≡ y
first_same x y xs ys e = cc

rest_same : (x y : Bool) (xs ys : List Bool) → x ∷ xs ≡ y ∷ ys → xs ≡ ys
rest_same x y xs ys e = cc

-- ---- the same state, at numbers from a and from b on

module _ (v : ℕ → Bool) (unless : List Lit) (a b : ℕ) where
  abbrev there : List Latch → List (List Lit)
  there latches = flat_map (λ latch. same_value unless (a + latch.var) (b + latch.var)) latches

  pub same_read : (latches : List Latch) → clauses_value v (there latches) ≡ true → clause_value v unless ≡ false → map v (map (λ latch. a + latch.var) latches) ≡ map v (map (λ latch. b + latch.var) latches)
  same_read [] h e = refl
  same_read (latch ∷ latches) h e =
      let parts = both v (same_value unless (a + latch.var) (b + latch.var)) (there latches) h in
      ap₂ (λ x xs. x ∷ xs) (same_is (v (a + latch.var)) (v (b + latch.var)) (clause_value v unless) parts.0 e) (same_read latches parts.1 e)

  pub same_written : (latches : List Latch) → (clause_value v unless ≡ false → map v (map (λ latch. a + latch.var) latches) ≡ map v (map (λ latch. b + latch.var) latches)) → clauses_value v (there latches) ≡ true
  same_written [] f = refl
  same_written (latch ∷ latches) f =
      let xs : List Bool = map v (map (λ latch. a + latch.var) latches) in
      let ys : List Bool = map v (map (λ latch. b + latch.var) latches) in
      together v (same_value unless (a + latch.var) (b + latch.var)) (there latches)
      (same_from (v (a + latch.var)) (v (b + latch.var)) (clause_value v unless) (λ e. first_same (v (a + latch.var)) (v (b + latch.var)) xs ys (f e)))
      (same_written latches (λ e. rest_same (v (a + latch.var)) (v (b + latch.var)) xs ys (f e)))

-- ---- initial states

false_read : (x : Bool) → ((not x || false) && true) ≡ true → x ≡ false
false_read true h = let f : false ≡ true = h in absurd (cc)
false_read false h = refl

true_read : (x : Bool) → ((x || false) && true) ≡ true → x ≡ true
true_read true h = refl
true_read false h = h

false_written : (x : Bool) → x ≡ false → ((not x || false) && true) ≡ true
false_written true e = absurd (cc)
false_written false e = refl

true_written : (x : Bool) → x ≡ true → ((x || false) && true) ≡ true
true_written true e = refl
true_written false e = e

reset_read : (v : ℕ → Bool) (reset : Reset) (n : ℕ) → clauses_value v (reset_clauses reset n) ≡ true → AgreesWith reset (v n)
reset_read v Zero n h = false_read (v n) h
reset_read v One n h = true_read (v n) h
reset_read v Free n h = tt

reset_written : (v : ℕ → Bool) (reset : Reset) (n : ℕ) → AgreesWith reset (v n) → clauses_value v (reset_clauses reset n) ≡ true
reset_written v Zero n h = false_written (v n) h
reset_written v One n h = true_written (v n) h
reset_written v Free n h = refl

module _ (v : ℕ → Bool) (a : ℕ) where
  abbrev resets : List Latch → List (List Lit)
  resets latches = flat_map (λ latch. reset_clauses latch.reset (a + latch.var)) latches

  pub initial_read : (latches : List Latch) → clauses_value v (resets latches) ≡ true → AllZip (λ latch value. AgreesWith latch.reset value) latches (map v (map (λ latch. a + latch.var) latches))
  initial_read [] h = tt
  initial_read (latch ∷ latches) h =
      let parts = both v (reset_clauses latch.reset (a + latch.var)) (resets latches) h in
      (reset_read v latch.reset (a + latch.var) parts.0, initial_read latches parts.1)

  pub initial_written : (latches : List Latch) → AllZip (λ latch value. AgreesWith latch.reset value) latches (map v (map (λ latch. a + latch.var) latches)) → clauses_value v (resets latches) ≡ true
  initial_written [] h = refl
  initial_written (latch ∷ latches) h =
      together v (reset_clauses latch.reset (a + latch.var)) (resets latches) (reset_written v latch.reset (a + latch.var) h.0) (initial_written latches h.1)
