-- The values of inputs, position by position.
use Rattle.std.proofs.Common.{◌≡◌, ℕ, ◌+◌, Bool, [], ◌∷◌, ◌++◌, map, ap, add-one}
use Rattle.aig_semantics.specs.Circuits.{Circuit}
use Rattle.cnf_unroll.specs.Numbers.{number}
use Rattle.lasso_clauses.specs.Moments.{moment_base}
use Rattle.lasso_clauses.specs.Laws.{inputs_in}

pub inputs_more : (c : Circuit) (n : ℕ) (v : ℕ → Bool) (k : ℕ)
    → inputs_in c n v (k + 1) ≡ inputs_in c n v k ++ map (λ input. v (number (moment_base c n k) input)) c.inputs ∷ []
inputs_more c n v k = ap (inputs_in c n v) (add-one k)
