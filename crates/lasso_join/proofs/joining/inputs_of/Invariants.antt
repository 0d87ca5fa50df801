use Rattle.std.proofs.Common.{◌≡◌, ◌++◌, map, drop}
use Rattle.lasso_join.specs.Fitting.{loop_of}
use Rattle.lasso_join.proofs.joining.inputs_of.Given as goal

abbrev pub invariant-loop-k : goal.invariant-loop-k
invariant-loop-k l =
    l.inputs ++ map (λ p. p.inputs) (loop_of (drop l.k l.situations) (drop l.k l.pieces))
    ≡ map (λ p. p.inputs) l.stem ++ map (λ p. p.inputs) (loop_of l.situations l.pieces)
