use Rattle.std.proofs.Common.{sym, ◌∙◌, subst}
use Rattle.lasso_join.specs.Fitting.{IsStemTo, Fit}
use Rattle.lasso_join.proofs.Joined.{some-situation}
use Rattle.fair_round.specs.Walks.{skeleton_of}
use Rattle.fair_round.proofs.Steps.{fit-of}
use Rattle.fair_round.proofs.seeking.joined.Goals as goal

pub lasso_of-requires-clause-fit : goal.lasso_of-requires-clause-fit
lasso_of-requires-clause-fit c =
    let k = c.args.scope.now.circuit.now in
    let situations = c.args.situations.items in
    let stem = c.as_slice.result.now in
    let all = c.as_slice-2.result.now in
    subst (λ xs. Fit k stem (skeleton_of xs) all) (sym c.from_vec.ensures)
    (fit-of k situations stem c.args.last c.args.pieces all
    (some-situation k c.args.scope.now.property (skeleton_of situations) c.requires.allowed.skeleton)
    (subst (IsStemTo k _) (sym c.as_slice.ensures) c.requires.stem) c.requires.walked c.requires.closing
    (c.as_slice-2.ensures ∙ c.in_ok-push.ensures.ok))
