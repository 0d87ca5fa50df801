-- The numbers of the entries that are kept.
use Rattle.std.proofs.Common.{◌≡◌, ℕ, suc, ◌+◌, ◌<◌, ◌≤◌, Bool, true, false, cond, List, [], ◌∷◌, ◌++◌, length, refl, ap, inl, inr, arith}
use Rattle.std.specs.Prelude.{nat_lt}
use Rattle.std.specs.List.{filter}
use Rattle.std.proofs.lemmas.Bool.{lt-ltb, le-ltb, cases_order}
use Rattle.certificate_texts.specs.declared.certificates.Written.{Written}
use Rattle.cert_tools.specs.Trimmed.{Numbered, place_among}
use Rattle.cert_tools.proofs.KeptLaws.{In}

-- one more element of a list that a test may keep
pub one_of : Bool → ℕ
one_of true = 1
one_of false = 0

cond_length : (b : Bool) (e : Numbered) (xs : List Numbered) → length (cond b (e ∷ xs) xs) ≡ one_of b + length xs
unfolding one_of
cond_length true e xs = (let same : suc (length xs) ≡ 1 + length xs = omega arith in same)
cond_length false e xs = (let same : length xs ≡ 0 + length xs = omega arith in same)

pub place_first : (e : Numbered) (ks : List Numbered) (n : ℕ) → place_among (e ∷ ks) n ≡ one_of (nat_lt e.0 n) + place_among ks n
place_first e ks n = cond_length (nat_lt e.0 n) e (filter (λ x. nat_lt x.0 n) ks)

pub one_below : (k n : ℕ) → k < n → one_of (nat_lt k n) ≡ 1
unfolding one_of
one_below k n h = ap one_of (lt-ltb k n h)

pub none_above : (k n : ℕ) → n ≤ k → one_of (nat_lt k n) ≡ 0
unfolding one_of
none_above k n h = ap one_of (le-ltb k n h)

one_grows : (k m n : ℕ) → m ≤ n → one_of (nat_lt k m) ≤ one_of (nat_lt k n)
one_grows k m n h = elim (cases_order k m) [
  | inl same ↦ (let a = none_above k m (omega (arith, same)) in omega (arith, a))
  | inr other ↦ elim other [
    | inl below ↦ (let a = one_below k m below in let b = one_below k n (omega (arith, below, h)) in omega (arith, a, b))
    | inr above ↦ (let a = none_above k m (omega (arith, above)) in omega (arith, a))
  ]
]

place_le : (ks : List Numbered) (m n : ℕ) → m ≤ n → place_among ks m ≤ place_among ks n
place_le [] m n h = omega arith
place_le (e ∷ ks) m n h =
    let a = place_first e ks m in let b = place_first e ks n in let more = place_le ks m n h in let one = one_grows e.0 m n h in
    omega (arith, a, b, more, one)

-- of two entries the one that stands before the other does so among those that are kept
pub place_less : (ks : List Numbered) (m n : ℕ) (w : Written) → m < n → In (m, w) ks → place_among ks m < place_among ks n
place_less [] m n w h at = absurd at
place_less (e ∷ ks) m n w h (inl same) =
    let number : m ≡ e.0 = ap (λ (x : Numbered). x.0) same in
    let a = place_first e ks m in let b = place_first e ks n in let more = place_le ks m n (omega (arith, h)) in
    let here = none_above e.0 m (omega (arith, number)) in let there = one_below e.0 n (omega (arith, number, h)) in
    omega (arith, a, b, more, here, there)
place_less (e ∷ ks) m n w h (inr at) =
    let a = place_first e ks m in let b = place_first e ks n in let more = place_less ks m n w h at in let one = one_grows e.0 m n (omega (arith, h)) in
    omega (arith, a, b, more, one)

-- so they have different numbers there
pub place_same : (ks : List Numbered) (m n : ℕ) (v w : Written) → In (m, v) ks → In (n, w) ks → place_among ks m ≡ place_among ks n → m ≡ n
place_same ks m n v w at there same = elim (cases_order m n) [
  | inl is ↦ is
  | inr other ↦ elim other [
    | inl below ↦ (let less = place_less ks m n v below at in absurd (omega (arith, less, same)))
    | inr above ↦ (let less = place_less ks n m w above there in absurd (omega (arith, less, same)))
  ]
]

-- each number is below, each is not
unfoldable pub AllBelow : ℕ → List Numbered → Type 0
AllBelow n ks = (e : Numbered) → In e ks → e.0 < n

unfoldable pub NoneBelow : ℕ → List Numbered → Type 0
NoneBelow n ks = (e : Numbered) → In e ks → n ≤ e.0

pub none_counted : (n : ℕ) (ks : List Numbered) → NoneBelow n ks → place_among ks n ≡ 0
unfolding NoneBelow
none_counted n [] h = refl
none_counted n (e ∷ ks) h =
    let a = place_first e ks n in let here = none_above e.0 n (h e (inl refl)) in let more = none_counted n ks (λ x at. h x (inr at)) in
    omega (arith, a, here, more)

-- behind those that stand before it and in front of the others an entry has their number
pub place_between : (n : ℕ) (front back : List Numbered) → AllBelow n front → NoneBelow n back → place_among (front ++ back) n ≡ length front
unfolding AllBelow
place_between n [] back below above = none_counted n back above
place_between n (e ∷ front) back below above =
    let a = place_first e (front ++ back) n in let here = one_below e.0 n (below e (inl refl)) in let more = place_between n front back (λ x at. below x (inr at)) above in
    omega (arith, a, here, more)
