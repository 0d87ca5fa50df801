-- The value at a place of two words, after operations on the words.
use Rattle.std.proofs.Common.{◌≡◌, ◌≢◌, ℕ, zero, suc, ◌-◌, ◌*◌, ◌^◌, ◌%◌, ◌/◌, ◌<◌, ◌≤◌, ◌⊎◌, List, [], ◌∷◌, min, max, ◌↔◌, get_or, bit_and, bit_or, refl, sym, ap, subst, ◌∙◌, inl, inr, arith, w64, ◌+◌}
use Rattle.std.specs.Int.{bit_at, trailing_ones}
use Rattle.std.proofs.lemmas.Nat.Bits.{bit_at_and, bit_at_not, bit_at_ones, bit_at-zero, bit_at-lt, shr_and_one, bit_at_set_same, bit_at_set_other, bit_at_clear_same, bit_at_clear_other, bit_at_or, ones_shl, bit_at_mask_inside, bit_at_mask_below, bit_at-trailing_ones}
use Rattle.std.proofs.lemmas.Nat.{and_le_l}
use lib.Lanes.{zip2}
use Rattle.ternary.specs.declared.values.Value3.TheVariants.{Zero, One, X}
use Rattle.ternary.specs.Values.{negation3, and3}
use Rattle.ternary.specs.Lanes.{of_bits, value_at}
use Rattle.std.specs.Int.Bits.{and_zero_l, and_zero_r}

pub two_bits : (n i : ℕ) → (bit_at n i ≡ 0) ⊎ (bit_at n i ≡ 1)
two_bits n i = small (bit_at n i) (bit_at-lt n i)
  where
    small : (b : ℕ) → b < 2 → (b ≡ 0) ⊎ (b ≡ 1)
    small zero h = inl refl
    small (suc zero) h = inr refl
    small (suc (suc b)) h = absurd (omega arith)

-- ---- conjunctions

of_bits-and : (a b c d : ℕ) → a < 2 → b < 2 → c < 2 → d < 2 → of_bits (min a c) (min b d) ≡ and3 (of_bits a b) (of_bits c d)
of_bits-and a b c d ha hb hc hd =
    cases a b c d (bound a ha) (bound b hb) (bound c hc) (bound d hd)
  where
    bound : (b : ℕ) → b < 2 → (b ≡ 0) ⊎ (b ≡ 1)
    bound zero h = inl refl
    bound (suc zero) h = inr refl
    bound (suc (suc b)) h = absurd (omega arith)

    Goal : ℕ → ℕ → ℕ → ℕ → Type 0
    Goal a b c d = of_bits (min a c) (min b d) ≡ and3 (of_bits a b) (of_bits c d)

    cases : (a b c d : ℕ) → (a ≡ 0) ⊎ (a ≡ 1) → (b ≡ 0) ⊎ (b ≡ 1) → (c ≡ 0) ⊎ (c ≡ 1) → (d ≡ 0) ⊎ (d ≡ 1) → of_bits (min a c) (min b d) ≡ and3 (of_bits a b) (of_bits c d)
    cases a b c d (inl p) (inl q) (inl r) (inl s) = rw (p, q, r, s)
    cases a b c d (inl p) (inl q) (inl r) (inr s) = rw (p, q, r, s)
    cases a b c d (inl p) (inl q) (inr r) (inl s) = rw (p, q, r, s)
    cases a b c d (inl p) (inl q) (inr r) (inr s) = rw (p, q, r, s)
    cases a b c d (inl p) (inr q) (inl r) (inl s) = rw (p, q, r, s)
    cases a b c d (inl p) (inr q) (inl r) (inr s) = rw (p, q, r, s)
    cases a b c d (inl p) (inr q) (inr r) (inl s) = rw (p, q, r, s)
    cases a b c d (inl p) (inr q) (inr r) (inr s) = rw (p, q, r, s)
    cases a b c d (inr p) (inl q) (inl r) (inl s) = rw (p, q, r, s)
    cases a b c d (inr p) (inl q) (inl r) (inr s) = rw (p, q, r, s)
    cases a b c d (inr p) (inl q) (inr r) (inl s) = rw (p, q, r, s)
    cases a b c d (inr p) (inl q) (inr r) (inr s) = rw (p, q, r, s)
    cases a b c d (inr p) (inr q) (inl r) (inl s) = rw (p, q, r, s)
    cases a b c d (inr p) (inr q) (inl r) (inr s) = rw (p, q, r, s)
    cases a b c d (inr p) (inr q) (inr r) (inl s) = rw (p, q, r, s)
    cases a b c d (inr p) (inr q) (inr r) (inr s) = rw (p, q, r, s)

place-and : (xs ys : List ℕ) (i : ℕ) → get_or (zip2 bit_and xs ys) i 0 ≡ bit_and (get_or xs i 0) (get_or ys i 0)
place-and [] ys i = sym (and_zero_l (get_or ys i 0))
place-and (x ∷ xs) [] i = sym (and_zero_r (get_or (x ∷ xs) i 0))
place-and (x ∷ xs) (y ∷ ys) zero = refl
place-and (x ∷ xs) (y ∷ ys) (suc i) = place-and xs ys i

pub value-and : (xs ys : List ℕ) (k : ℕ) → value_at (zip2 bit_and xs ys) k ≡ and3 (value_at xs k) (value_at ys k)
value-and xs ys k =
    ap (λ n. of_bits (bit_at n k) (bit_at (get_or (zip2 bit_and xs ys) 1 0) k)) (place-and xs ys 0)
    ∙ (ap (λ n. of_bits (bit_at (bit_and (get_or xs 0 0) (get_or ys 0 0)) k) (bit_at n k)) (place-and xs ys 1)
    ∙ (ap (λ n. of_bits n (bit_at (bit_and (get_or xs 1 0) (get_or ys 1 0)) k)) (bit_at_and (get_or xs 0 0) (get_or ys 0 0) k)
    ∙ (ap (λ n. of_bits (min (bit_at (get_or xs 0 0) k) (bit_at (get_or ys 0 0) k)) n) (bit_at_and (get_or xs 1 0) (get_or ys 1 0) k)
    ∙ of_bits-and (bit_at (get_or xs 0 0) k) (bit_at (get_or xs 1 0) k) (bit_at (get_or ys 0 0) k) (bit_at (get_or ys 1 0) k)
    (bit_at-lt (get_or xs 0 0) k) (bit_at-lt (get_or xs 1 0) k) (bit_at-lt (get_or ys 0 0) k) (bit_at-lt (get_or ys 1 0) k))))

-- ---- the same value at each place

pub value-ones : (k : ℕ) → k < 64 → value_at (18446744073709551615 ∷ 18446744073709551615 ∷ []) k ≡ One
value-ones k below = let one : bit_at 18446744073709551615 k ≡ 1 = bit_at_ones 64 k below in ap (λ n. of_bits n n) one

pub value-possible : (k : ℕ) → k < 64 → value_at (0 ∷ 18446744073709551615 ∷ []) k ≡ X
value-possible k below =
    let one : bit_at 18446744073709551615 k ≡ 1 = bit_at_ones 64 k below in
    let none : bit_at 0 k ≡ 0 = bit_at-zero k in
    ap (λ n. of_bits n (bit_at 18446744073709551615 k)) none ∙ ap (λ n. of_bits 0 n) one

-- ---- negations

of_bits-not : (a b : ℕ) → (a ≡ 0) ⊎ (a ≡ 1) → (b ≡ 0) ⊎ (b ≡ 1) → of_bits (1 - b) (1 - min a b) ≡ negation3 (of_bits a b)
of_bits-not a b (inl p) (inl q) = rw (p, q)
of_bits-not a b (inl p) (inr q) = rw (p, q)
of_bits-not a b (inr p) (inl q) = rw (p, q)
of_bits-not a b (inr p) (inr q) = rw (p, q)

pub value-not : (a b k : ℕ) → k < 64 → a < 2 ^ 64 → b < 2 ^ 64 → value_at ((18446744073709551615 - b) ∷ (18446744073709551615 - bit_and a b) ∷ []) k ≡ negation3 (of_bits (bit_at a k) (bit_at b k))
value-not a b k below fit fit2 =
    let first : bit_at (18446744073709551615 - b) k ≡ 1 - bit_at b k = bit_at_not w64 b k fit2 below in
    let small : bit_and a b < 2 ^ 64 = omega (arith, and_le_l a b) in
    let second : bit_at (18446744073709551615 - bit_and a b) k ≡ 1 - bit_at (bit_and a b) k = bit_at_not w64 (bit_and a b) k small below in
    ap (λ n. of_bits n (bit_at (18446744073709551615 - bit_and a b) k)) first
    ∙ (ap (λ n. of_bits (1 - bit_at b k) n) (second ∙ ap (λ n. 1 - n) (bit_at_and a b k))
    ∙ of_bits-not (bit_at a k) (bit_at b k) (two_bits a k) (two_bits b k))

-- ---- one place

pub value-set_zero : (a b k : ℕ) → k < 64 → value_at (a ∷ bit_and b (18446744073709551615 - 1 * 2 ^ k % 18446744073709551616) ∷ []) k ≡ Zero
value-set_zero a b k below =
    let none : bit_at (bit_and b (18446744073709551615 - 1 * 2 ^ k % 18446744073709551616)) k ≡ 0 = bit_at_clear_same w64 b k below in
    ap (λ n. of_bits (bit_at a k) n) none

pub value-set_one : (a b k : ℕ) → k < 64 → value_at (bit_or a (1 * 2 ^ k % 18446744073709551616) ∷ bit_or b (1 * 2 ^ k % 18446744073709551616) ∷ []) k ≡ One
value-set_one a b k below =
    let first : bit_at (bit_or a (1 * 2 ^ k % 18446744073709551616)) k ≡ 1 = bit_at_set_same w64 a k below in
    let second : bit_at (bit_or b (1 * 2 ^ k % 18446744073709551616)) k ≡ 1 = bit_at_set_same w64 b k below in
    ap (λ n. of_bits n (bit_at (bit_or b (1 * 2 ^ k % 18446744073709551616)) k)) first ∙ ap (λ n. of_bits 1 n) second

pub value-set_x : (a b k : ℕ) → k < 64 → value_at (bit_and a (18446744073709551615 - 1 * 2 ^ k % 18446744073709551616) ∷ bit_or b (1 * 2 ^ k % 18446744073709551616) ∷ []) k ≡ X
value-set_x a b k below =
    let first : bit_at (bit_and a (18446744073709551615 - 1 * 2 ^ k % 18446744073709551616)) k ≡ 0 = bit_at_clear_same w64 a k below in
    let second : bit_at (bit_or b (1 * 2 ^ k % 18446744073709551616)) k ≡ 1 = bit_at_set_same w64 b k below in
    ap (λ n. of_bits n (bit_at (bit_or b (1 * 2 ^ k % 18446744073709551616)) k)) first ∙ ap (λ n. of_bits 0 n) second

abbrev KeepsAt : ℕ → ℕ → ℕ → Type 0
KeepsAt i a b = bit_at a i ≡ bit_at b i

pub value-kept : (a b c d i : ℕ) → KeepsAt i a c → KeepsAt i b d → value_at (a ∷ b ∷ []) i ≡ of_bits (bit_at c i) (bit_at d i)
value-kept a b c d i e f = ap (λ n. of_bits n (bit_at b i)) e ∙ ap (λ n. of_bits (bit_at c i) n) f

pub set-kept : (a k i : ℕ) → k < 64 → i ≢ k → bit_at (bit_or a (1 * 2 ^ k % 18446744073709551616)) i ≡ bit_at a i
set-kept a k i below ne = bit_at_set_other w64 a k below i ne

pub cleared-kept : (a k i : ℕ) → k < 64 → i < 64 → i ≢ k → bit_at (bit_and a (18446744073709551615 - 1 * 2 ^ k % 18446744073709551616)) i ≡ bit_at a i
cleared-kept a k i below inside ne = bit_at_clear_other w64 a k below i inside ne

-- ---- reading

pub value-reads_x : (a b k : ℕ) → (bit_and (b / 2 ^ k) 1 ≡ 0 → ⊥) → bit_and (a / 2 ^ k) 1 ≡ 0 → X ≡ of_bits (bit_at a k) (bit_at b k)
value-reads_x a b k possible none =
    let first : bit_at a k ≡ 0 = sym (shr_and_one a k) ∙ none in
    elim (two_bits b k) [
      | inl e ↦ absurd (possible (shr_and_one b k ∙ e))
      | inr e ↦ sym (ap (λ n. of_bits n (bit_at b k)) first ∙ ap (λ n. of_bits 0 n) e)
    ]

pub value-reads_one : (a b k : ℕ) → (bit_and (b / 2 ^ k) 1 ≡ 0 → ⊥) → (bit_and (a / 2 ^ k) 1 ≡ 0 → ⊥) → One ≡ of_bits (bit_at a k) (bit_at b k)
value-reads_one a b k possible some =
    elim (two_bits b k) [
      | inl e ↦ absurd (possible (shr_and_one b k ∙ e))
      | inr e ↦ elim (two_bits a k) [
        | inl f ↦ absurd (some (shr_and_one a k ∙ f))
        | inr f ↦ sym (ap (λ n. of_bits n (bit_at b k)) f ∙ ap (λ n. of_bits 1 n) e)
      ]
    ]

-- ---- X from a place on

abbrev high : ℕ → ℕ
high from = 18446744073709551615 * 2 ^ from % 18446744073709551616

high-is : (from : ℕ) → from < 64 → high from ≡ 18446744073709551616 - 2 ^ from
high-is from below = let within : from ≤ 64 = omega arith in ones_shl 64 from within

high-at : (from k : ℕ) → from < 64 → from ≤ k → k < 64 → bit_at (high from) k ≡ 1
high-at from k below le lt = ap (λ n. bit_at n k) (high-is from below) ∙ bit_at_mask_inside from 64 k le lt

high-before : (from k : ℕ) → from < 64 → k < from → bit_at (high from) k ≡ 0
high-before from k below lt = ap (λ n. bit_at n k) (high-is from below) ∙ bit_at_mask_below from 64 k lt

bits-hidden : (a r k : ℕ) → r < 2 ^ 64 → k < 64 → bit_at r k ≡ 1 → bit_at (bit_and a (18446744073709551615 - r)) k ≡ 0
bits-hidden a r k fits below e =
    let other : bit_at (18446744073709551615 - r) k ≡ 1 - bit_at r k = bit_at_not w64 r k fits below in
    bit_at_and a (18446744073709551615 - r) k ∙ (ap (λ n. min (bit_at a k) n) (other ∙ ap (λ n. 1 - n) e) ∙ least (bit_at a k))
  where
    least : (b : ℕ) → min b 0 ≡ 0
    least b = omega arith

bits-shown : (a r k : ℕ) → r < 2 ^ 64 → k < 64 → bit_at r k ≡ 0 → bit_at (bit_and a (18446744073709551615 - r)) k ≡ bit_at a k
bits-shown a r k fits below e =
    let other : bit_at (18446744073709551615 - r) k ≡ 1 - bit_at r k = bit_at_not w64 r k fits below in
    bit_at_and a (18446744073709551615 - r) k ∙ (ap (λ n. min (bit_at a k) n) (other ∙ ap (λ n. 1 - n) e) ∙ least (bit_at a k) (bit_at-lt a k))
  where
    least : (b : ℕ) → b < 2 → min b 1 ≡ b
    least b h = omega arith

bits-with : (a r k : ℕ) → bit_at r k ≡ 1 → bit_at (bit_or a r) k ≡ 1
bits-with a r k e = bit_at_or a r k ∙ (ap (λ n. max (bit_at a k) n) e ∙ most (bit_at a k) (bit_at-lt a k))
  where
    most : (b : ℕ) → b < 2 → max b 1 ≡ 1
    most b h = omega arith

bits-without : (a r k : ℕ) → bit_at r k ≡ 0 → bit_at (bit_or a r) k ≡ bit_at a k
bits-without a r k e = bit_at_or a r k ∙ (ap (λ n. max (bit_at a k) n) e ∙ most (bit_at a k))
  where
    most : (b : ℕ) → max b 0 ≡ b
    most b = omega arith

pub value-hidden : (a b from k : ℕ) → from < 64 → from ≤ k → k < 64 → value_at (bit_and a (18446744073709551615 - high from) ∷ bit_or b (high from) ∷ []) k ≡ X
value-hidden a b from k below le lt =
    let fits : high from < 2 ^ 64 = omega arith in
    let one = high-at from k below le lt in
    ap (λ n. of_bits n (bit_at (bit_or b (high from)) k)) (bits-hidden a (high from) k fits lt one)
    ∙ ap (λ n. of_bits 0 n) (bits-with b (high from) k one)

pub value-shown : (a b from k : ℕ) → from < 64 → k < from → value_at (bit_and a (18446744073709551615 - high from) ∷ bit_or b (high from) ∷ []) k ≡ of_bits (bit_at a k) (bit_at b k)
value-shown a b from k below lt =
    let fits : high from < 2 ^ 64 = omega arith in
    let inside : k < 64 = omega arith in
    let none = high-before from k below lt in
    ap (λ n. of_bits n (bit_at (bit_or b (high from)) k)) (bits-shown a (high from) k fits inside none)
    ∙ ap (λ n. of_bits (bit_at a k) n) (bits-without b (high from) k none)

-- ---- the places of ones

ones-cases : (a b : ℕ) → (a ≡ 0) ⊎ (a ≡ 1) → (b ≡ 0) ⊎ (b ≡ 1) → (min a b ≡ 1) ↔ (of_bits a b ≡ One)
ones-cases a b (inl p) (inl q) = rw (p, q) (λ e. absurd (omega arith), λ e. absurd cc)
ones-cases a b (inl p) (inr q) = rw (p, q) (λ e. absurd (omega arith), λ e. absurd cc)
ones-cases a b (inr p) (inl q) = rw (p, q) (λ e. absurd (omega arith), λ e. absurd cc)
ones-cases a b (inr p) (inr q) = rw (p, q) (λ e. refl, λ e. refl)

pub value-ones_in : (a b k : ℕ) → (bit_at (bit_and a b) k ≡ 1) ↔ (of_bits (bit_at a k) (bit_at b k) ≡ One)
value-ones_in a b k =
    let both = ones-cases (bit_at a k) (bit_at b k) (two_bits a k) (two_bits b k) in
    (λ e. both.0 (sym (bit_at_and a b k) ∙ e), λ e. bit_at_and a b k ∙ both.1 e)

pub min-ones : (a b : ℕ) → a < 2 → b < 2 → min a b ≡ 1 → (a ≡ 1) × (b ≡ 1)
min-ones a b h k e = (omega arith, omega arith)

pub bits-both : (a b k : ℕ) → bit_at (bit_and a b) k ≡ 1 → (bit_at a k ≡ 1) × (bit_at b k ≡ 1)
bits-both a b k e = min-ones (bit_at a k) (bit_at b k) (bit_at-lt a k) (bit_at-lt b k) (sym (bit_at_and a b k) ∙ e)

pub bits-join : (a b k : ℕ) → bit_at a k ≡ 1 → bit_at b k ≡ 1 → bit_at (bit_and a b) k ≡ 1
bits-join a b k e f = bit_at_and a b k ∙ (ap (λ n. min n (bit_at b k)) e ∙ ap (λ n. min 1 n) f)

pub bit-set : (word j : ℕ) → (bit_and (word / 2 ^ j) 1 ≡ 0 → ⊥) → bit_at word j ≡ 1
bit-set word j h =
    elim (two_bits word j) [
      | inl e ↦ absurd (h (shr_and_one word j ∙ e))
      | inr e ↦ e
    ]

pub bit-clear : (word j : ℕ) → (bit_and (word / 2 ^ j) 1 ≡ 1 → ⊥) → bit_at word j ≡ 0
bit-clear word j h =
    elim (two_bits word j) [
      | inl e ↦ e
      | inr e ↦ absurd (h (shr_and_one word j ∙ e))
    ]

pub bit-is : (word j b : ℕ) → bit_and (word / 2 ^ j) 1 ≡ b → bit_at word j ≡ b
bit-is word j b e = sym (shr_and_one word j) ∙ e

pub all-ones : (word k : ℕ) → word ≡ 18446744073709551615 → k < 64 → bit_at word k ≡ 1
all-ones word k e below = let one : bit_at 18446744073709551615 k ≡ 1 = bit_at_ones 64 k below in ap (λ n. bit_at n k) e ∙ one

pub trailing-set : (word n k : ℕ) → word < 2 ^ 64 → (word ≡ 18446744073709551615 → ⊥) → n ≡ trailing_ones w64 word → k < n → bit_at word k ≡ 1
trailing-set word n k fits ne e below =
    let small : word + 1 < 2 ^ 64 = omega arith in
    (bit_at-trailing_ones w64 word small).2 k (subst (λ m. k < m) e below)

pub trailing-clear : (word n : ℕ) → word < 2 ^ 64 → (word ≡ 18446744073709551615 → ⊥) → n ≡ trailing_ones w64 word → bit_at word n ≡ 0
trailing-clear word n fits ne e =
    let small : word + 1 < 2 ^ 64 = omega arith in
    ap (λ m. bit_at word m) e ∙ (bit_at-trailing_ones w64 word small).1
