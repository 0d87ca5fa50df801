use Rattle.std.proofs.Common.{◌≡◌, ◌++◌, map, subst, ap, ◌∙◌, OnOk}
use Rattle.cnf_unroll.specs.Blocks.{block_clauses}
use Rattle.lasso_clauses.specs.Moving.{moved}
use Rattle.lasso_clauses.proofs.Moving.{block_moved}
use Rattle.lasso_clauses.proofs.parts.push_block.Goals as goal

pub returns : goal.returns
returns c =
    let same : map (moved c.args.base) c.as_slice.result.now ≡ block_clauses c.args.c.now c.args.base = ap (map (moved c.args.base)) (c.as_slice.ensures ∙ c.in_ok-step.ensures) ∙ block_moved c.args.c.now c.args.base in
    subst (λ xs. OnOk c.push_moved.result (c.push_moved.new.db.clauses ≡ c.args.db.now.clauses ++ xs)) same c.push_moved.ensures
