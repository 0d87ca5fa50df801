-- The cube of the values that are known: which states lie in it, and what it tells with a literal dropped.
use Rattle.std.proofs.Common.{◌≡◌, ◌≢◌, ℕ, zero, suc, ◌+◌, ◌<◌, ◌≤◌, Bool, true, false, not, ◌&&◌, List, [], ◌∷◌, length, get_or, set, if◌then◌else◌, refl, sym, ap, ◌∙◌, inl, inr, arith}
use Rattle.std.specs.List.{All, list_all}
use Rattle.std.proofs.lemmas.Bool.{ne_eqb, eq-eqb}
use Rattle.std.proofs.lemmas.List.{ext_get_or, length-set}
use Rattle.std.proofs.lemmas.List.Elements.{All-cons, All-nil}
use Rattle.proof_semantics.specs.declared.literals.Lit.{Lit}
use Rattle.proof_semantics.specs.Clauses.{literal_value}
use Rattle.ternary.specs.declared.values.Value3.{Value3}
use Rattle.ternary.specs.declared.values.Value3.TheVariants.{Zero, One, X}
use Rattle.ternary.specs.Values.{known, IsCompletion}
use Rattle.ternary.specs.Simulation.{values3_below}
use Rattle.ternary.specs.Cubes.{told_by, state_of, without}
use Rattle.ternary.specs.Lifting.{literals_from}
use Rattle.ternary.proofs.Simulated.{length-values3_below, get_or-values3_below}

abbrev lit : ℕ → Bool → Lit
lit n b = record { var = n; positive = b }

pub over-from : (n m : ℕ) (xs : List Value3) → n + length xs ≤ m → All (λ literal. literal.var < m) (literals_from n xs)
over-from n m [] h = All-nil (λ literal. literal.var < m)
over-from n m (Zero ∷ xs) h = All-cons (λ literal. literal.var < m) (lit n false) (literals_from (suc n) xs) (omega arith) (over-from (suc n) m xs (omega arith))
over-from n m (One ∷ xs) h = All-cons (λ literal. literal.var < m) (lit n true) (literals_from (suc n) xs) (omega arith) (over-from (suc n) m xs (omega arith))
over-from n m (X ∷ xs) h = over-from (suc n) m xs (omega arith)

-- ---- states of the cube

abbrev HasFrom : (ℕ → Bool) → ℕ → List Bool → Type 0
HasFrom f n bs = (i w : ℕ) → i < length bs → n + i ≡ w → f w ≡ get_or bs i false

has-rest : (f : ℕ → Bool) (n : ℕ) (b : Bool) (bs : List Bool) → HasFrom f n (b ∷ bs) → HasFrom f (suc n) bs
has-rest f n b bs h = λ i w below e. h (suc i) w (omega arith) (omega arith)

has-first : (f : ℕ → Bool) (n : ℕ) (b : Bool) (bs : List Bool) → HasFrom f n (b ∷ bs) → f n ≡ b
has-first f n b bs h = h 0 n (omega arith) (omega arith)

pub lies-from : (f : ℕ → Bool) (n : ℕ) (xs : List Value3) (bs : List Bool) → IsCompletion xs bs → HasFrom f n bs → list_all (literal_value f) (literals_from n xs) ≡ true
lies-from f n [] bs h k = refl
lies-from f n (x ∷ xs) [] h k = absurd h
lies-from f n (Zero ∷ xs) (false ∷ bs) h k =
    let rest = lies-from f (suc n) xs bs h.1 (has-rest f n false bs k) in
    ap (λ b. not b && list_all (literal_value f) (literals_from (suc n) xs)) (has-first f n false bs k) ∙ rest
lies-from f n (Zero ∷ xs) (true ∷ bs) h k = elim h.0 [
  | inl e ↦ absurd (zero-not_x e)
  | inr e ↦ absurd (zero-not_one e)
]
  where
    zero-not_x : Zero ≡ X → ⊥
    zero-not_x e = cc

    zero-not_one : Zero ≡ One → ⊥
    zero-not_one e = cc
lies-from f n (One ∷ xs) (true ∷ bs) h k =
    let rest = lies-from f (suc n) xs bs h.1 (has-rest f n true bs k) in
    ap (λ b. b && list_all (literal_value f) (literals_from (suc n) xs)) (has-first f n true bs k) ∙ rest
lies-from f n (One ∷ xs) (false ∷ bs) h k = elim h.0 [
  | inl e ↦ absurd (one-not_x e)
  | inr e ↦ absurd (one-not_zero e)
]
  where
    one-not_x : One ≡ X → ⊥
    one-not_x e = cc

    one-not_zero : One ≡ Zero → ⊥
    one-not_zero e = cc
lies-from f n (X ∷ xs) (b ∷ bs) h k = lies-from f (suc n) xs bs h.1 (has-rest f n b bs k)

and-left : (a b : Bool) → (a && b) ≡ true → a ≡ true
and-left true b e = refl
and-left false b e = absurd cc

and-right : (a b : Bool) → (a && b) ≡ true → b ≡ true
and-right true b e = e
and-right false b e = absurd cc

not-true : (b : Bool) → not b ≡ true → b ≡ false
not-true true e = absurd cc
not-true false e = refl

pub completes-from : (f : ℕ → Bool) (n : ℕ) (xs : List Value3) (bs : List Bool) → length bs ≡ length xs → list_all (literal_value f) (literals_from n xs) ≡ true → HasFrom f n bs → IsCompletion xs bs
completes-from f n [] [] l h k = tt
completes-from f n [] (b ∷ bs) l h k = absurd (omega arith)
completes-from f n (x ∷ xs) [] l h k = absurd (omega arith)
completes-from f n (Zero ∷ xs) (b ∷ bs) l h k =
    let low = not-true (f n) (and-left (not (f n)) (list_all (literal_value f) (literals_from (suc n) xs)) h) in
    let is : b ≡ false = sym (has-first f n b bs k) ∙ low in (
      inr (ap known (sym is)),
      completes-from f (suc n) xs bs (omega arith) (and-right (not (f n)) (list_all (literal_value f) (literals_from (suc n) xs)) h) (has-rest f n b bs k),
    )
completes-from f n (One ∷ xs) (b ∷ bs) l h k =
    let is : b ≡ true = sym (has-first f n b bs k) ∙ and-left (f n) (list_all (literal_value f) (literals_from (suc n) xs)) h in (
      inr (ap known (sym is)),
      completes-from f (suc n) xs bs (omega arith) (and-right (f n) (list_all (literal_value f) (literals_from (suc n) xs)) h) (has-rest f n b bs k),
    )
completes-from f n (X ∷ xs) (b ∷ bs) l h k = (inl refl, completes-from f (suc n) xs bs (omega arith) h (has-rest f n b bs k))

-- ---- what the cube tells

pub tells-other : (n w : ℕ) (b : Bool) (cube : List Lit) → n ≢ w → told_by (lit n b ∷ cube) w ≡ told_by cube w
tells-other n w b cube ne = ap (λ t. if t then known b else told_by cube w) (ne_eqb n w ne)

tells-here : (n w : ℕ) (b : Bool) (cube : List Lit) → n ≡ w → told_by (lit n b ∷ cube) w ≡ known b
tells-here n w b cube e = ap (λ t. if t then known b else told_by cube w) (eq-eqb n w e)

tells-before : (n w : ℕ) (xs : List Value3) → w < n → told_by (literals_from n xs) w ≡ X
tells-before n w [] below = refl
tells-before n w (Zero ∷ xs) below = tells-other n w false (literals_from (suc n) xs) (λ e. omega arith) ∙ tells-before (suc n) w xs (omega arith)
tells-before n w (One ∷ xs) below = tells-other n w true (literals_from (suc n) xs) (λ e. omega arith) ∙ tells-before (suc n) w xs (omega arith)
tells-before n w (X ∷ xs) below = tells-before (suc n) w xs (omega arith)

pub tells-at : (n u w : ℕ) (xs : List Value3) → n + u ≡ w → told_by (literals_from n xs) w ≡ get_or xs u X
tells-at n u w [] e = refl
tells-at n zero w (Zero ∷ xs) e = tells-here n w false (literals_from (suc n) xs) (omega arith)
tells-at n (suc u) w (Zero ∷ xs) e = tells-other n w false (literals_from (suc n) xs) (λ s. omega arith) ∙ tells-at (suc n) u w xs (omega arith)
tells-at n zero w (One ∷ xs) e = tells-here n w true (literals_from (suc n) xs) (omega arith)
tells-at n (suc u) w (One ∷ xs) e = tells-other n w true (literals_from (suc n) xs) (λ s. omega arith) ∙ tells-at (suc n) u w xs (omega arith)
tells-at n zero w (X ∷ xs) e = tells-before (suc n) w xs (omega arith)
tells-at n (suc u) w (X ∷ xs) e = tells-at (suc n) u w xs (omega arith)

-- the state that a cube tells is the one of which it was made
pub state-told : (xs : List Value3) → state_of (length xs) (literals_from 0 xs) ≡ xs
state-told xs =
    let cube : List Lit = literals_from 0 xs in
    ext_get_or X (values3_below (length xs) (told_by cube)) xs
    (length-values3_below (length xs) (told_by cube))
    (λ v inside.
    get_or-values3_below (length xs) (told_by cube) v X (omega (arith, length-values3_below (length xs) (told_by cube)))
    ∙ tells-at 0 v v xs (omega arith))

-- ---- without a literal

without-before : (n w k : ℕ) (xs : List Value3) → w < n → told_by (without k (literals_from n xs)) w ≡ X
without-before n w zero [] below = refl
without-before n w (suc k) [] below = refl
without-before n w zero (Zero ∷ xs) below = tells-before (suc n) w xs (omega arith)
without-before n w (suc k) (Zero ∷ xs) below = tells-other n w false (without k (literals_from (suc n) xs)) (λ e. omega arith) ∙ without-before (suc n) w k xs (omega arith)
without-before n w zero (One ∷ xs) below = tells-before (suc n) w xs (omega arith)
without-before n w (suc k) (One ∷ xs) below = tells-other n w true (without k (literals_from (suc n) xs)) (λ e. omega arith) ∙ without-before (suc n) w k xs (omega arith)
without-before n w k (X ∷ xs) below = without-before (suc n) w k xs (omega arith)

-- a place whose value is known, and without it the cube tells the same of all others
abbrev IsDropped : ℕ → ℕ → List Value3 → ℕ → Type 0
IsDropped n k xs i =
    (i < length xs) × (get_or xs i X ≢ X)
    × ((u w : ℕ) → n + u ≡ w → told_by (without k (literals_from n xs)) w ≡ get_or (set xs i X) u X)

dropped-first : (n : ℕ) (b : Bool) (xs : List Value3) → (u w : ℕ) → n + u ≡ w → told_by (literals_from (suc n) xs) w ≡ get_or (X ∷ xs) u X
dropped-first n b xs zero w e = tells-before (suc n) w xs (omega arith)
dropped-first n b xs (suc u) w e = tells-at (suc n) u w xs (omega arith)

dropped-later : (n k i : ℕ) (b : Bool) (xs : List Value3) → ((u w : ℕ) → suc n + u ≡ w → told_by (without k (literals_from (suc n) xs)) w ≡ get_or (set xs i X) u X) → (u w : ℕ) → n + u ≡ w → told_by (lit n b ∷ without k (literals_from (suc n) xs)) w ≡ get_or (known b ∷ set xs i X) u X
dropped-later n k i b xs h zero w e = tells-here n w b (without k (literals_from (suc n) xs)) (omega arith)
dropped-later n k i b xs h (suc u) w e = tells-other n w b (without k (literals_from (suc n) xs)) (λ s. omega arith) ∙ h u w (omega arith)

dropped-behind_x : (n k i : ℕ) (xs : List Value3) → ((u w : ℕ) → suc n + u ≡ w → told_by (without k (literals_from (suc n) xs)) w ≡ get_or (set xs i X) u X) → (u w : ℕ) → n + u ≡ w → told_by (without k (literals_from (suc n) xs)) w ≡ get_or (X ∷ set xs i X) u X
dropped-behind_x n k i xs h zero w e = without-before (suc n) w k xs (omega arith)
dropped-behind_x n k i xs h (suc u) w e = h u w (omega arith)

known-not_x : (b : Bool) → known b ≢ X
known-not_x true e = cc
known-not_x false e = cc

dropped-from : (n k : ℕ) (xs : List Value3) → k < length (literals_from n xs) → (i : ℕ) × IsDropped n k xs i
dropped-from n k [] below = absurd (omega arith)
dropped-from n zero (Zero ∷ xs) below = (0, (omega arith, known-not_x false, dropped-first n false xs))
dropped-from n (suc k) (Zero ∷ xs) below =
    let rest = dropped-from (suc n) k xs (omega arith) in
    let inside : rest.0 < length xs = rest.1.0 in
    (suc rest.0, (omega arith, rest.1.1, dropped-later n k rest.0 false xs rest.1.2))
dropped-from n zero (One ∷ xs) below = (0, (omega arith, known-not_x true, dropped-first n true xs))
dropped-from n (suc k) (One ∷ xs) below =
    let rest = dropped-from (suc n) k xs (omega arith) in
    let inside : rest.0 < length xs = rest.1.0 in
    (suc rest.0, (omega arith, rest.1.1, dropped-later n k rest.0 true xs rest.1.2))
dropped-from n k (X ∷ xs) below =
    let rest = dropped-from (suc n) k xs below in
    let inside : rest.0 < length xs = rest.1.0 in
    (suc rest.0, (omega arith, rest.1.1, dropped-behind_x n k rest.0 xs rest.1.2))

-- the state that a cube tells is the one of which it was made, but for the latch of a literal that is dropped
pub state-without : (k : ℕ) (xs : List Value3) → k < length (literals_from 0 xs) → (i : ℕ) × (i < length xs) × (get_or xs i X ≢ X) × (state_of (length xs) (without k (literals_from 0 xs)) ≡ set xs i X)
state-without k xs below =
    let at = dropped-from 0 k xs below in
    let cube : List Lit = without k (literals_from 0 xs) in (
      at.0,
      at.1.0,
      at.1.1,
      ext_get_or X (values3_below (length xs) (told_by cube)) (set xs at.0 X)
          (length-values3_below (length xs) (told_by cube) ∙ sym (length-set xs at.0 X))
          (λ v inside.
          get_or-values3_below (length xs) (told_by cube) v X (omega (arith, length-values3_below (length xs) (told_by cube)))
          ∙ at.1.2 v v (omega arith)),
    )
