use Rattle.std.proofs.Common.{◌≡◌, length}
use Rattle.aig_semantics.specs.Circuits.{fair_literals}
use Rattle.cdcl.specs.Asking.{assigned}
use Rattle.lasso_clauses.specs.Laws.{inputs_in}
use Rattle.lasso_bmc.proofs.reading.input_lists.Given as goal

abbrev pub invariant-loop-place : goal.invariant-loop-place
invariant-loop-place l = l.inputs ≡ inputs_in l.c (length (fair_literals l.c l.j)) (assigned l.solver.values) l.place
