use Rattle.std.proofs.Common.{◌+◌, [], ◌∷◌, subst}
use Rattle.aig_semantics.specs.Circuits.{fair_literals}
use Rattle.cdcl.specs.Asking.{assigned, IsAsked}
use Rattle.cdcl.specs.declared.asking.Asked.{Asked}
use Rattle.lasso_clauses.specs.Clauses.{positions_clauses, closing_literal}
use Rattle.lasso_bmc.proofs.Telling.{lasso_of_model, none_of_core}
use Rattle.lasso_bmc.proofs.deepening.told.Goals as goal

pub lasso_in-requires-clause-some : goal.lasso_in-requires-clause-some
lasso_in-requires-clause-some c =
    let k = c.args.c.now in
    let j = c.args.j in
    let last = c.args.last in
    lasso_of_model k j last (assigned c.args.solver.now.values) c.lasso_clauses_tell.ensures.models c.requires.property
    (subst (λ (answer : Asked). IsAsked (positions_clauses k (fair_literals k j) (last + 1)) (closing_literal k j last ∷ []) c.args.solver.now.values answer) c.in-Sat.is c.requires.answer)

pub returns-in-Unsat : goal.returns-in-Unsat
returns-in-Unsat c =
    let k = c.args.c.now in
    let j = c.args.j in
    let last = c.args.last in
    let core = subst (λ (answer : Asked). IsAsked (positions_clauses k (fair_literals k j) (last + 1)) (closing_literal k j last ∷ []) c.args.solver.now.values answer) c.in-Unsat.is c.requires.answer in
    none_of_core k j last c.lasso_clauses_tell.ensures.tell c.requires.property core.no_model c.requires.none
