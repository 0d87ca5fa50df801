-- What lasso clauses say.
use Rattle.std.specs.Prelude.{◌≡◌, ◌↔◌, ℕ, zero, suc, ◌<◌, Bool, true, List, [], ◌∷◌, ◌++◌, map, length}
use Rattle.aig_semantics.specs.declared.traces.Position.{Position}
use Rattle.aig_semantics.specs.declared.traces.Stimulus.{Stimulus}
use Rattle.aig_semantics.specs.Circuits.{Circuit, fair_literals}
use Rattle.aig_semantics.specs.Runs.{IsFairLasso}
use Rattle.aig_semantics.specs.Stimuli.{HasLasso}
use Rattle.proof_semantics.specs.Clauses.{clauses_value}
use Rattle.cnf_unroll.specs.Numbers.{number, state_place}
use Rattle.cnf_unroll.specs.Laws.{IsSatisfiable}
use Rattle.lasso_clauses.specs.Moments.{moment_base}
use Rattle.lasso_clauses.specs.Clauses.{lasso_clauses}

-- there is a fair lasso of property j of k positions
pub record HasLassoOf (c : Circuit) (j k : ℕ) : Type 0 where
  pub run : List Position
  pub from : ℕ
  pub count : length run ≡ k
  pub lasso : IsFairLasso c j run from

-- Lasso clauses are satisfiable exactly where there is such a lasso.
abbrev pub LassoClausesTell : Circuit → Type 0
LassoClausesTell c = (j k : ℕ) → j < length c.justice → IsSatisfiable (lasso_clauses c j k) ↔ HasLassoOf c j k

-- the values of the inputs in the first k moments, where n literals are asked for
abbrev pub inputs_in : Circuit → ℕ → (ℕ → Bool) → ℕ → List (List Bool)
inputs_in c n v zero = []
inputs_in c n v (suc k) = inputs_in c n v k ++ map (λ input. v (number (moment_base c n k) input)) c.inputs ∷ []

-- the values of the latches in the first moment, and of the inputs in the first k moments
abbrev pub stimulus_in : Circuit → ℕ → ℕ → (ℕ → Bool) → Stimulus
stimulus_in c j k v =
    let n = length (fair_literals c j) in
    record { latches = map v (state_place c (moment_base c n 0)); inputs = inputs_in c n v k }

-- An assignment that makes the lasso clauses true gives a stimulus whose first k positions, which are all, are a fair lasso.
abbrev pub ModelsAreLassos : Circuit → Type 0
ModelsAreLassos c =
    (j k : ℕ) (v : ℕ → Bool) → j < length c.justice → clauses_value v (lasso_clauses c j k) ≡ true
    → (from : ℕ) × HasLasso c j (stimulus_in c j k v) k from
