use Rattle.std.proofs.Common.{◌+◌, [], ◌∷◌, subst}
use Rattle.aig_semantics.specs.Circuits.{fair_literals}
use Rattle.cdcl.specs.Asking.{IsAsked}
use Rattle.cdcl.specs.declared.asking.Asked.{Asked}
use Rattle.lasso_clauses.specs.Clauses.{positions_clauses, closing_literal}
use Rattle.lasso_bmc.proofs.Parts.{none_of_part}
use Rattle.lasso_bmc.proofs.Telling.{none_of_core}
use Rattle.lasso_bmc.proofs.deepening.told_in_part.Goals as goal

pub returns-in-Unsat : goal.returns-in-Unsat
returns-in-Unsat c =
    let k = c.args.c.now in
    let j = c.args.j in
    let last = c.args.last in
    let solver = c.args.solver.now in
    let core = subst (λ (answer : Asked). IsAsked solver.added (closing_literal k j last ∷ []) solver.values answer) c.in-Unsat.is c.requires.answer in
    none_of_core k j last c.lasso_clauses_tell.ensures.tell c.requires.property
    (none_of_part (positions_clauses k (fair_literals k j) (last + 1)) solver.added (closing_literal k j last ∷ []) c.requires.part core.no_model) c.requires.none
