use Rattle.std.proofs.Common.{◌+◌, ◌&&◌, ◌∙◌, ap}
use Rattle.aig_semantics.specs.Circuits.{fair_literals}
use Rattle.proof_semantics.specs.Clauses.{clauses_value}
use Rattle.lasso_clauses.specs.Clauses.{positions_clauses}
use Rattle.lasso_bmc.proofs.Parts.{grown_more}
use Rattle.lasso_bmc.proofs.deepening.grow.Goals as goal

pub returns-clause-grown : goal.returns-clause-grown
returns-clause-grown c = λ v.
    let k = c.args.c.now in
    let d = c.args.d.now in
    let literals = fair_literals k c.args.j in
    ap (λ n. clauses_value v (positions_clauses k literals (n + 1))) c.add.ensures.positions
    ∙ grown_more k literals d.positions v (clauses_value v d.solver.added && clauses_value v d.rest.items)
    (clauses_value v c.add.new.d.solver.added && clauses_value v c.add.new.d.rest.items) c.into_vec.result.items (c.requires.grown v)
    (c.into_vec.ensures ∙ c.in_ok-clauses.ensures) (c.in_ok-add.ensures.added v)
