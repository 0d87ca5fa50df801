-- Counting lists of values by a test.
use Rattle.std.proofs.Common.{◌≡◌, ℕ, zero, suc, ◌+◌, ◌*◌, ◌^◌, ◌≤◌, Bool, true, false, List, [], ◌∷◌, length, refl, if◌then◌else◌, arith}
use Rattle.std.proofs.Math.Nat.{pow-suc}
use Rattle.std.proofs.lemmas.Bool.{false≢true}
use Rattle.ic3_frames.specs.Room.{count_states}

one-less : (a b : Bool) → (a ≡ true → b ≡ true) → (if a then 1 else 0) ≤ (if b then 1 else 0)
one-less true true h = omega arith
one-less true false h = absurd (false≢true (h refl))
one-less false true h = omega arith
one-less false false h = omega arith

pub count-within : (n : ℕ) (f g : List Bool → Bool) → ((s : List Bool) → f s ≡ true → g s ≡ true) → count_states n f ≤ count_states n g
count-within zero f g h = one-less (f []) (g []) (h [])
count-within (suc n) f g h =
    let yes = count-within n (λ s. f (true ∷ s)) (λ s. g (true ∷ s)) (λ s. h (true ∷ s)) in
    let not_so = count-within n (λ s. f (false ∷ s)) (λ s. g (false ∷ s)) (λ s. h (false ∷ s)) in
    omega arith

pub count-less : (n : ℕ) (f g : List Bool → Bool) → ((s : List Bool) → f s ≡ true → g s ≡ true)
    → (s : List Bool) → length s ≡ n → f s ≡ false → g s ≡ true → count_states n f + 1 ≤ count_states n g
count-less zero f g h [] size out within = rw (out, within) (omega arith)
count-less zero f g h (b ∷ s) size out within = absurd (omega arith)
count-less (suc n) f g h [] size out within = absurd (omega arith)
count-less (suc n) f g h (true ∷ s) size out within =
    let yes = count-less n (λ s. f (true ∷ s)) (λ s. g (true ∷ s)) (λ s. h (true ∷ s)) s (omega arith) out within in
    let not_so = count-within n (λ s. f (false ∷ s)) (λ s. g (false ∷ s)) (λ s. h (false ∷ s)) in
    omega arith
count-less (suc n) f g h (false ∷ s) size out within =
    let yes = count-within n (λ s. f (true ∷ s)) (λ s. g (true ∷ s)) (λ s. h (true ∷ s)) in
    let not_so = count-less n (λ s. f (false ∷ s)) (λ s. g (false ∷ s)) (λ s. h (false ∷ s)) s (omega arith) out within in
    omega arith

pub count-all : (n : ℕ) → count_states n (λ s. true) ≡ 2 ^ n
count-all zero = refl
count-all (suc n) =
    let h = count-all n in
    let e : 2 ^ suc n ≡ 2 ^ n * 2 = pow-suc 2 n in
    omega arith

-- two answers of which the second is yes where the first is, and would add to a count where the first is no
same-test : (f g : Bool) (m k : ℕ) → (f ≡ true → g ≡ true) → (f ≡ false → g ≡ true → m + 1 ≤ k) → k ≤ m → f ≡ g
same-test true true m k within less few = refl
same-test true false m k within less few = absurd (false≢true (within refl))
same-test false true m k within less few = absurd (no_more (less refl refl) few)
  where
    no_more : m + 1 ≤ k → k ≤ m → ⊥
    no_more h few = omega (arith, h, few)
same-test false false m k within less few = refl

-- what passes one test passes the other, and no more do: the two are alike
pub count-same : (n : ℕ) (f g : List Bool → Bool) → ((s : List Bool) → f s ≡ true → g s ≡ true) → count_states n g ≤ count_states n f
    → (s : List Bool) → length s ≡ n → f s ≡ g s
count-same n f g within few s size =
    same-test (f s) (g s) (count_states n f) (count_states n g) (within s) (λ out inside. count-less n f g within s size out inside) few
