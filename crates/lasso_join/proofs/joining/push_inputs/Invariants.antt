use Rattle.std.proofs.Common.{◌≡◌, ◌++◌, map, drop}
use Rattle.lasso_join.proofs.joining.push_inputs.Given as goal

abbrev pub invariant-loop-position : goal.invariant-loop-position
invariant-loop-position l =
    l.inputs ++ map (λ p. p.inputs) (drop l.position-index l.positions) ≡ l.initial.inputs ++ map (λ p. p.inputs) l.positions
