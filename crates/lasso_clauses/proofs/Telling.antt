-- Lasso clauses, and the lassos that they stand for.
use Rattle.std.proofs.Common.{◌≡◌, ℕ, zero, suc, ◌<◌, Bool, true, false, ◌&&◌, ◌||◌, List, [], ◌∷◌, ◌++◌, length, refl, sym, ap, ◌∙◌, arith}
use Rattle.aig_semantics.specs.Circuits.{Circuit, IsChecked, fair_literals}
use Rattle.aig_semantics.specs.Stimuli.{HasLasso}
use Rattle.aig_semantics.specs.Valuations.{HasOneValuation}
use Rattle.proof_semantics.specs.Clauses.{clause_value, clauses_value}
use Rattle.cnf_unroll.specs.Laws.{IsSatisfiable}
use Rattle.cnf_unroll.proofs.Truth.{both, together}
use Rattle.lasso_clauses.specs.Moments.{closes, moment_base}
use Rattle.lasso_clauses.specs.Clauses.{positions_clauses, last_clause, lasso_clauses}
use Rattle.lasso_clauses.specs.Laws.{HasLassoOf, stimulus_in}
use Rattle.lasso_clauses.proofs.Holding.{alone, alone_is, one_clause, one_true}
use Rattle.lasso_clauses.proofs.Runs.{upto, length-upto}
use Rattle.lasso_clauses.proofs.Reading.{position_at, begin, lasso_read, stimulus_read}
use Rattle.lasso_clauses.proofs.Writing.{written}

module _ (c : Circuit) (checked : IsChecked c) (law : HasOneValuation c) (j : ℕ) where
  -- the closing literal is true
  last_of : (v : ℕ → Bool) (i : ℕ) → clauses_value v (last_clause c j (suc i) ∷ []) ≡ true → v (closes c (moment_base c (length (fair_literals c j)) i)) ≡ true
  last_of v i h = alone (v (closes c (moment_base c (length (fair_literals c j)) i))) (one_clause v (last_clause c j (suc i)) h)

  pub stimulus_of : (k : ℕ) (v : ℕ → Bool) → j < length c.justice → clauses_value v (lasso_clauses c j k) ≡ true → (from : ℕ) × HasLasso c j (stimulus_in c j k v) k from
  stimulus_of zero v property h = let f : false ≡ true = h in absurd (cc)
  stimulus_of (suc i) v property h =
      let parts = both v (positions_clauses c (fair_literals c j) (suc i)) (last_clause c j (suc i) ∷ []) h in
      stimulus_read c checked law j v (suc i) parts.0 i refl (last_of v i parts.1) property

  pub lasso_of : (k : ℕ) → j < length c.justice → IsSatisfiable (lasso_clauses c j k) → HasLassoOf c j k
  lasso_of zero property (v, h) = let f : false ≡ true = h in absurd (cc)
  lasso_of (suc i) property (v, h) =
      let parts = both v (positions_clauses c (fair_literals c j) (suc i)) (last_clause c j (suc i) ∷ []) h in
      record {
        run = upto (position_at c (length (fair_literals c j)) v) (suc i);
        from = (begin c checked law j v (suc i) parts.0 i refl (last_of v i parts.1)).place;
        count = length-upto (position_at c (length (fair_literals c j)) v) (suc i);
        lasso = lasso_read c checked law j v (suc i) parts.0 i refl (last_of v i parts.1) property;
      }

  pub model_of : (k : ℕ) → HasLassoOf c j k → IsSatisfiable (lasso_clauses c j k)
  model_of zero has = let small = has.lasso.inside in let none = has.count in absurd (omega arith)
  model_of (suc i) has =
      let w = written c checked law j has.run has.from i has.count has.lasso in (
        w.v,
        together w.v (positions_clauses c (fair_literals c j) (suc i)) (last_clause c j (suc i) ∷ []) w.positions
            (one_true w.v (last_clause c j (suc i)) (alone_is (w.v (closes c (moment_base c (length (fair_literals c j)) i))) w.last)),
      )
