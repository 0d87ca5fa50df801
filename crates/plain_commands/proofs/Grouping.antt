-- Parts of a text that are joined in another order.
use Rattle.std.proofs.Common.{◌≡◌, ℕ, List, [], ◌∷◌, ◌++◌, refl, ap}

-- Lists of which one stands in front.

pub regrouped : (old a b c d e f g h i j k : List ℕ)
    → old ++ a ++ b ++ c ++ d ++ e ++ f ++ g ++ h ++ i ++ j ++ k ≡ old ++ (a ++ b ++ c ++ d ++ e ++ f ++ g ++ h ++ i ++ j ++ k)
regrouped [] a b c d e f g h i j k = refl
regrouped (x ∷ old) a b c d e f g h i j k = ap (λ (rest : List ℕ). x ∷ rest) (regrouped old a b c d e f g h i j k)
