-- Lists: numbered ones, and where their elements stand.
use Rattle.std.proofs.Common.{◌≡◌, ℕ, zero, suc, ◌+◌, ◌-◌, ◌<◌, ◌≤◌, ◌==◌, cond, List, [], ◌∷◌, ◌++◌, map, length, take, drop, refl, sym, ap, ◌∙◌, arith, take_at, drop_at}
use Rattle.std.specs.List.{All, Contains, range_with_len}
use Rattle.std.proofs.lemmas.List.{append_assoc, length-map}
use Rattle.std.proofs.lemmas.List.Elements.{All-nil, All-cons, All-head, All-tail}
use Rattle.std.proofs.lemmas.List.FromFn.{length-range_with_len, get_or-range_with_len, map-range_with_len_more}
use Rattle.std.proofs.lemmas.List.Sums.{sum_by-append}
use Rattle.aig_semantics.proofs.Lists.{AllDiffer}
use Rattle.circuit.proofs.Counting.{count}
use Rattle.live_to_safe.specs.Watching.{numbered}

pub all_numbered : {A : Type 0} (P : A → Type 0) (f : ℕ → A) (k n : ℕ) → ((i : ℕ) → i < k + n → P (f i)) → All P (numbered f k n)
all_numbered P f k zero each = All-nil P
all_numbered P f k (suc n) each =
    All-cons P (f k) (numbered f (k + 1) n) (each k (omega arith)) (all_numbered P f (k + 1) n (λ i lt. each i (omega (arith, lt))))

pub numbered-length : {A : Type 0} (f : ℕ → A) (k n : ℕ) → length (numbered f k n) ≡ n
numbered-length f k n = length-map (range_with_len k n) f ∙ length-range_with_len k n

-- one more behind those that were put behind a list
pub numbered_push : {A : Type 0} (f : ℕ → A) (n : ℕ) (start xs ys : List A) (x : A) → ys ≡ xs ++ x ∷ [] → xs ≡ start ++ numbered f 0 n → x ≡ f n
    → ys ≡ start ++ numbered f 0 (n + 1)
numbered_push f n start xs ys x pushed so_far is =
    pushed ∙ ap (λ s. s ++ x ∷ []) so_far ∙ append_assoc start (numbered f 0 n) (x ∷ [])
    ∙ ap (λ y. start ++ (numbered f 0 n ++ y ∷ [])) is
    ∙ ap (λ s. start ++ s) (sym (map-range_with_len_more f 0 n n (omega arith)))

pub cons-same : {A : Type 0} (x y : A) (xs ys : List A) → x ≡ y → xs ≡ ys → x ∷ xs ≡ y ∷ ys
cons-same x y xs ys e f = ap (λ z. z ∷ xs) e ∙ ap (λ zs. y ∷ zs) f

pub numbered-vars : {A : Type 0} (f : ℕ → A) (g : A → ℕ) (first k n : ℕ) → ((i : ℕ) → g (f i) ≡ first + i) → map g (numbered f k n) ≡ range_with_len (first + k) n
numbered-vars f g first k zero each = refl
numbered-vars f g first k (suc n) each =
    let e : first + (k + 1) ≡ first + k + 1 = omega arith in
    cons-same (g (f k)) (first + k) (map g (numbered f (k + 1) n)) (range_with_len (first + k + 1) n) (each k)
    (numbered-vars f g first (k + 1) n each ∙ ap (λ a. range_with_len a n) e)

pub map_numbered : {X Y : Type 0} (f : X → Y) (g : ℕ → X) (k n : ℕ) → map f (numbered g k n) ≡ numbered (λ i. f (g i)) k n
map_numbered f g k zero = refl
map_numbered f g k (suc n) = ap (λ ys. f (g k) ∷ ys) (map_numbered f g (k + 1) n)

pub numbered_agrees : {Y : Type 0} (f g : ℕ → Y) (k n : ℕ) → ((i : ℕ) → f i ≡ g i) → numbered f k n ≡ numbered g k n
numbered_agrees f g k zero each = refl
numbered_agrees f g k (suc n) each = cons-same (f k) (g k) (numbered f (k + 1) n) (numbered g (k + 1) n) (each k) (numbered_agrees f g (k + 1) n each)

pub map_agrees : {X Y : Type 0} (f g : X → Y) (xs : List X) → All (λ x. f x ≡ g x) xs → map f xs ≡ map g xs
map_agrees f g [] all = refl
map_agrees f g (x ∷ xs) all =
    cons-same (f x) (g x) (map f xs) (map g xs) (All-head (λ x. f x ≡ g x) x xs all) (map_agrees f g xs (All-tail (λ x. f x ≡ g x) x xs all))

pub split_same : {A : Type 0} (xs us ys vs : List A) → length xs ≡ length us → xs ++ ys ≡ us ++ vs → (xs ≡ us) × (ys ≡ vs)
split_same xs us ys vs e same = (
  sym (take_at xs ys (length us) e) ∙ ap (take (length us)) same ∙ take_at us vs (length us) refl,
  sym (drop_at xs ys (length us) e) ∙ ap (drop (length us)) same ∙ drop_at us vs (length us) refl,
)

-- ---- numbers in order

pub range-apart : (a n : ℕ) → AllDiffer (range_with_len a n)
range-apart a n = λ i j d lt below e.
    let size : length (range_with_len a n) ≡ n = length-range_with_len a n in
    let at_j : j < n = omega (arith, below, size) in
    let at_i : i < n = omega (arith, at_j, lt) in
    let same : a + i ≡ a + j = sym (get_or-range_with_len a n i d at_i) ∙ e ∙ get_or-range_with_len a n j d at_j in
    omega (arith, lt, same)

pub range-contains : (a n v : ℕ) → a ≤ v → v < a + n → Contains (range_with_len a n) v
range-contains a n v some low =
    let size : length (range_with_len a n) ≡ n = length-range_with_len a n in
    let inside : v - a < n = omega (arith, some, low) in
    let back : a + (v - a) ≡ v = omega (arith, some) in
    (v - a, omega (arith, size, inside), get_or-range_with_len a n (v - a) v inside ∙ back)

pub range-all : (P : ℕ → Type 0) (a n : ℕ) → ((v : ℕ) → a ≤ v → v < a + n → P v) → All P (range_with_len a n)
range-all P a zero each = All-nil P
range-all P a (suc n) each =
    All-cons P a (range_with_len (a + 1) n) (each a (omega arith) (omega arith))
    (range-all P (a + 1) n (λ v low high. each v (omega (arith, low)) (omega (arith, high))))

pub count-append : (u : ℕ) (xs ys : List ℕ) → count u (xs ++ ys) ≡ count u xs + count u ys
count-append u xs ys = sum_by-append (λ w. cond (w == u) 1 0) xs ys
