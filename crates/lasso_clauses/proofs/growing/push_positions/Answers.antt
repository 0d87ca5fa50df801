use Rattle.std.proofs.Common.{◌≡◌, ◌++◌, sym, ap, ◌∙◌, append_assoc, add-one}
use Rattle.lasso_clauses.specs.Clauses.{position_clauses, positions_clauses}
use Rattle.lasso_clauses.proofs.growing.push_positions.Goals as goal

pub loop-i-preserved : goal.loop-i-preserved
loop-i-preserved c =
    let old = c.args.db.now.clauses in
    let i = c.loop-i.i in
    let before = positions_clauses c.args.c.now c.args.literals.now c.loop-i.i in
    let here = position_clauses c.args.c.now c.args.literals.now c.loop-i.i in
    c.in_ok-push_position.ensures ∙ ap (λ xs. xs ++ here) c.loop-i.invariant ∙ append_assoc old before here
    ∙ ap (λ n. old ++ positions_clauses c.args.c.now c.args.literals.now n) (sym (add-one i))
