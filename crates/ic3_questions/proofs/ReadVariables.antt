-- The variables of which the clauses of a block tell.
use Rattle.std.proofs.Common.{◌≡◌, ℕ, zero, suc, ◌<◌, ◌==◌, ◌⊎◌, Bool, true, false, ◌||◌, List, [], ◌∷◌, ◌++◌, map, length, refl, sym, ap, ◌∙◌, inl, inr, arith}
use Rattle.std.specs.List.{Contains, list_any}
use Rattle.std.proofs.lemmas.Bool.{false≢true, eqb-true, eq-eqb}
use Rattle.std.proofs.lemmas.List.Folds.{list_any-append}
use Rattle.aig_semantics.specs.Circuits.{Circuit, defined}
use Rattle.cnf_unroll.proofs.BlockReading.{IsRead}
use Rattle.ic3_questions.specs.ReadVariables.{is_read}

or_inl : (a b : Bool) → a ≡ true → (a || b) ≡ true
or_inl true b h = refl
or_inl false b h = absurd (false≢true h)

or_inr : (a b : Bool) → b ≡ true → (a || b) ≡ true
or_inr true b h = refl
or_inr false b h = h

or_cases : (a b : Bool) → (a || b) ≡ true → (a ≡ true) ⊎ (b ≡ true)
or_cases true b h = inl refl
or_cases false b h = inr h

there : (vs : List ℕ) (v : ℕ) → Contains vs v → list_any (λ u. u == v) vs ≡ true
there [] v (k, below, at) = absurd (omega arith)
there (u ∷ vs) v (zero, below, at) = or_inl (u == v) (list_any (λ w. w == v) vs) (eq-eqb u v at)
there (u ∷ vs) v (suc k, below, at) = or_inr (u == v) (list_any (λ w. w == v) vs) (there vs v (k, omega arith, at))

only : (vs : List ℕ) (v : ℕ) → list_any (λ u. u == v) vs ≡ true → Contains vs v
only [] v h = absurd (false≢true h)
only (u ∷ vs) v h = elim (or_cases (u == v) (list_any (λ w. w == v) vs) h) [
  | inl t ↦ (0, omega arith, eqb-true u v t)
  | inr t ↦ let rest = only vs v t in (suc rest.0, (let l : rest.0 < length vs = rest.1 in omega arith), rest.2)
]

any_map : {X : Type 0} (f : X → ℕ) (v : ℕ) (xs : List X) → list_any (λ u. u == v) (map f xs) ≡ list_any (λ x. f x == v) xs
any_map f v [] = refl
any_map f v (x ∷ xs) = ap (λ b. (f x == v) || b) (any_map f v xs)

defined_is : (c : Circuit) (v : ℕ) → list_any (λ u. u == v) (defined c)
    ≡ (list_any (λ u. u == v) c.inputs || list_any (λ latch. latch.var == v) c.latches || list_any (λ gate. gate.var == v) c.gates)
defined_is c v =
    let latches = map (λ latch. latch.var) c.latches in
    let gates = map (λ gate. gate.var) c.gates in
    list_any-append (λ u. u == v) (c.inputs ++ map (λ latch. latch.var) c.latches) (map (λ gate. gate.var) c.gates)
    ∙ ap (λ b. b || list_any (λ u. u == v) (map (λ gate. gate.var) c.gates))
    (list_any-append (λ u. u == v) c.inputs (map (λ latch. latch.var) c.latches)
    ∙ ap (λ b. list_any (λ u. u == v) c.inputs || b) (any_map (λ latch. latch.var) v c.latches))
    ∙ ap (λ b. list_any (λ u. u == v) c.inputs || list_any (λ latch. latch.var == v) c.latches || b) (any_map (λ gate. gate.var) v c.gates)

four : (a b c d : Bool) → (a || b || c || d) ≡ (a || (b || c || d))
four true b c d = refl
four false b c d = refl

read_is : (c : Circuit) (v : ℕ) → is_read c v ≡ ((v == 0) || list_any (λ u. u == v) (defined c))
read_is c v =
    four (v == 0) (list_any (λ u. u == v) c.inputs) (list_any (λ latch. latch.var == v) c.latches) (list_any (λ gate. gate.var == v) c.gates)
    ∙ ap (λ b. (v == 0) || b) (sym (defined_is c v))

pub read_from : (c : Circuit) (v : ℕ) → is_read c v ≡ true → IsRead c v
read_from c v h = elim (or_cases (v == 0) (list_any (λ u. u == v) (defined c)) (sym (read_is c v) ∙ h)) [
  | inl t ↦ inl (eqb-true v 0 t)
  | inr t ↦ inr (only (defined c) v t)
]

pub not_read : (c : Circuit) (v : ℕ) → is_read c v ≡ false → Contains (defined c) v → ⊥
not_read c v h inside =
    false≢true (sym h ∙ (read_is c v ∙ or_inr (v == 0) (list_any (λ u. u == v) (defined c)) (there (defined c) v inside)))
