-- The value that stands beside a variable.
use Rattle.std.proofs.Common.{◌≡◌, ℕ, suc, ◌<◌, List, [], ◌∷◌, length, None, refl, arith}
use Rattle.std.specs.List.{Contains}
use Rattle.std.proofs.lemmas.Bool.{ne_eqb}
use Rattle.ternary.specs.declared.values.Value3.{Value3}
use Rattle.ternary.specs.Simulation.{beside3}

-- no value is found beside a variable that is not there
pub beside3-none : (vs : List ℕ) (values : List Value3) (v : ℕ) → (Contains vs v → ⊥) → beside3 vs values v ≡ None
unfolding beside3
beside3-none [] values v h = refl
beside3-none (u ∷ us) [] v h = refl
beside3-none (u ∷ us) (b ∷ values) v h =
    rw (ne_eqb u v (λ e. h (0, omega arith, e)))
    (beside3-none us values v (λ c. h (suc c.0, (let l : c.0 < length us = c.1 in omega arith), c.2)))
