use Rattle.lasso_clauses.proofs.Telling.{stimulus_of, lasso_of, model_of}
use Rattle.lasso_clauses.proofs.laws.lasso_clauses_tell.Goals as goal

pub returns-clause-tell : goal.returns-clause-tell
returns-clause-tell c =
    λ j k property. (
      lasso_of c.args.c.now c.max-limits.ensures.checked c.one_valuation.ensures j k property,
      model_of c.args.c.now c.max-limits.ensures.checked c.one_valuation.ensures j k,
    )

pub returns-clause-models : goal.returns-clause-models
returns-clause-models c = λ j k v property h. stimulus_of c.args.c.now c.max-limits.ensures.checked c.one_valuation.ensures j k v property h
