-- Lists that are made of pieces by number, and what stands behind a list.
use Rattle.std.proofs.Common.{◌≡◌, ℕ, zero, suc, ◌+◌, List, [], ◌∷◌, ◌++◌, length, get_or, sym, ap, ◌∙◌, arith}
use Rattle.std.proofs.lemmas.List.{append_assoc, append-nil}
use Rattle.round_monitor.specs.Watching.{each_of}

each_of-more : {A : Type 0} (f : ℕ → List A) (k n m : ℕ) → m ≡ k + n → each_of f k (suc n) ≡ each_of f k n ++ f m
each_of-more f k zero m e =
    let same : k ≡ m = omega (arith, e) in
    append-nil (f k) ∙ ap f same
each_of-more f k (suc n) m e =
    ap (λ xs. f k ++ xs) (each_of-more f (k + 1) n m (omega (arith, e))) ∙ sym (append_assoc (f k) (each_of f (k + 1) n) (f m))

pub each_of-push : {A : Type 0} (f : ℕ → List A) (n : ℕ) (start xs ys : List A) → ys ≡ xs ++ f n → xs ≡ start ++ each_of f 0 n
    → ys ≡ start ++ each_of f 0 (n + 1)
each_of-push f n start xs ys pushed so_far =
    pushed ∙ ap (λ s. s ++ f n) so_far ∙ append_assoc start (each_of f 0 n) (f n)
    ∙ ap (λ s. start ++ s) (sym (each_of-more f 0 n n (omega arith)))
    ∙ ap (λ m. start ++ each_of f 0 m) next
  where
    next : suc n ≡ n + 1
    next = omega arith

-- an element of the second list
pub get_or-behind : {A : Type 0} (xs ys : List A) (m i : ℕ) (d : A) → m ≡ length xs + i → get_or (xs ++ ys) m d ≡ get_or ys i d
get_or-behind [] ys m i d e =
    let same : m ≡ i = omega (arith, e) in
    ap (λ k. get_or ys k d) same
get_or-behind (x ∷ xs) ys zero i d e = absurd (omega (arith, e))
get_or-behind (x ∷ xs) ys (suc m) i d e = get_or-behind xs ys m i d (omega (arith, e))
