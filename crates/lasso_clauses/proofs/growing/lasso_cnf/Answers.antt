use Rattle.std.proofs.Common.{rules, ◌≡◌, ◌↔◌, subst, sym}
use Rattle.cnf_unroll.specs.Laws.{IsSatisfiable}
use Rattle.lasso_clauses.specs.Clauses.{lasso_clauses}
use Rattle.lasso_clauses.specs.Laws.{HasLassoOf}
use Rattle.lasso_clauses.proofs.growing.lasso_cnf.Goals as goal

pub returns-clause-tell : goal.returns-clause-tell
returns-clause-tell c =
    let clauses : c.push_last.new.db.clauses ≡ lasso_clauses c.args.c.now c.args.j c.args.k = search rules in
    subst (λ xs. IsSatisfiable xs ↔ HasLassoOf c.args.c.now c.args.j c.args.k) (sym clauses) (c.lasso_clauses_tell.ensures.tell c.args.j c.args.k c.requires)
