-- States as lists of values: how many pass a test, and whether two are the same.
use Rattle.std.proofs.Common.{◌≡◌, ℕ, zero, suc, ◌+◌, ◌*◌, ◌^◌, ◌≤◌, Bool, true, false, cond, List, [], ◌∷◌, length, refl, ap, ◌∙◌, arith}
use Rattle.std.proofs.Math.Nat.{pow-suc}
use Rattle.std.proofs.lemmas.Bool.{false≢true}
use Rattle.proof_semantics.specs.Clauses.{bool_eq}

-- ---- how many states pass a test

-- of the states of n latches
abbrev pub count : ℕ → (List Bool → Bool) → ℕ
count zero test = cond (test []) 1 0
count (suc n) test = count n (λ s. test (true ∷ s)) + count n (λ s. test (false ∷ s))

pub one-less : (a b : Bool) → (a ≡ true → b ≡ true) → cond a 1 0 ≤ cond b 1 0
one-less true true h = omega arith
one-less true false h = absurd (false≢true (h refl))
one-less false true h = omega arith
one-less false false h = omega arith

pub count-within : (n : ℕ) (f g : List Bool → Bool) → ((s : List Bool) → f s ≡ true → g s ≡ true) → count n f ≤ count n g
count-within zero f g h = one-less (f []) (g []) (h [])
count-within (suc n) f g h =
    let yes = count-within n (λ s. f (true ∷ s)) (λ s. g (true ∷ s)) (λ s. h (true ∷ s)) in
    let not_so = count-within n (λ s. f (false ∷ s)) (λ s. g (false ∷ s)) (λ s. h (false ∷ s)) in
    omega arith

pub count-less : (n : ℕ) (f g : List Bool → Bool) → ((s : List Bool) → f s ≡ true → g s ≡ true)
    → (s : List Bool) → length s ≡ n → f s ≡ false → g s ≡ true → count n f + 1 ≤ count n g
count-less zero f g h [] size out within = rw (out, within) (omega arith)
count-less zero f g h (b ∷ s) size out within = absurd (omega arith)
count-less (suc n) f g h [] size out within = absurd (omega arith)
count-less (suc n) f g h (true ∷ s) size out within =
    let yes = count-less n (λ s. f (true ∷ s)) (λ s. g (true ∷ s)) (λ s. h (true ∷ s)) s (omega arith) out within in
    let not_so = count-within n (λ s. f (false ∷ s)) (λ s. g (false ∷ s)) (λ s. h (false ∷ s)) in
    omega arith
count-less (suc n) f g h (false ∷ s) size out within =
    let yes = count-within n (λ s. f (true ∷ s)) (λ s. g (true ∷ s)) (λ s. h (true ∷ s)) in
    let not_so = count-less n (λ s. f (false ∷ s)) (λ s. g (false ∷ s)) (λ s. h (false ∷ s)) s (omega arith) out within in
    omega arith

pub count-all : (n : ℕ) → count n (λ s. true) ≡ 2 ^ n
count-all zero = refl
count-all (suc n) =
    let h = count-all n in
    let e : 2 ^ suc n ≡ 2 ^ n * 2 = pow-suc 2 n in
    omega arith

pub count-most : (n : ℕ) (test : List Bool → Bool) → count n test ≤ 2 ^ n
count-most n test =
    let h = count-within n test (λ s. true) (λ s e. refl) in
    omega (arith, h, count-all n)

-- ---- the same state

pub same : List Bool → List Bool → Bool
same [] [] = true
same [] (b ∷ t) = false
same (a ∷ s) [] = false
same (a ∷ s) (b ∷ t) = cond (bool_eq a b) (same s t) false

pub bool_same : (a b : Bool) → bool_eq a b ≡ true → a ≡ b
bool_same true true e = refl
bool_same true false e = absurd (false≢true e)
bool_same false true e = absurd (false≢true e)
bool_same false false e = refl

bool_itself : (a : Bool) → bool_eq a a ≡ true
bool_itself true = refl
bool_itself false = refl

cond_true : (x y : Bool) → cond x y false ≡ true → (x ≡ true) × (y ≡ true)
cond_true true y e = (refl, e)
cond_true false y e = absurd (false≢true e)

pub same_is : (s t : List Bool) → same s t ≡ true → s ≡ t
unfolding same
same_is [] [] e = refl
same_is [] (b ∷ t) e = absurd (false≢true e)
same_is (a ∷ s) [] e = absurd (false≢true e)
same_is (a ∷ s) (b ∷ t) e =
    let parts = cond_true (bool_eq a b) (same s t) e in
    let first : a ≡ b = bool_same a b parts.0 in
    let others : s ≡ t = same_is s t parts.1 in
    λ i. first i ∷ others i

pub same_itself : (s : List Bool) → same s s ≡ true
unfolding same
same_itself [] = refl
same_itself (a ∷ s) = ap (λ x. cond x (same s s) false) (bool_itself a) ∙ same_itself s
