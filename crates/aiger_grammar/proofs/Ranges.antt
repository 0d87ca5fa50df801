-- Variables in their order.
use Rattle.std.proofs.Common.{◌≡◌, ℕ, zero, suc, ◌+◌, ◌∷◌, ◌++◌, ap, ◌∙◌, arith}
use Rattle.std.specs.List.{range_with_len}

pub range_append : (a m k : ℕ) → range_with_len a m ++ range_with_len (a + m) k ≡ range_with_len a (m + k)
range_append a zero k =
    let e : a + 0 ≡ a = omega arith in
    let f : k ≡ 0 + k = omega arith in
    ap (λ b. range_with_len b k) e ∙ ap (range_with_len a) f
range_append a (suc m) k =
    let e : a + suc m ≡ a + 1 + m = omega arith in
    let f : suc (m + k) ≡ suc m + k = omega arith in
    ap (λ xs. a ∷ xs) (ap (λ b. range_with_len (a + 1) m ++ range_with_len b k) e ∙ range_append (a + 1) m k) ∙ ap (range_with_len a) f
