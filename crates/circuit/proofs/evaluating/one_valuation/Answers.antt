use Rattle.std.proofs.Common.{subst}
use Rattle.aig_semantics.specs.Circuits.{IsChecked}
use Rattle.circuit.specs.Orders.{IsEvaluationOrder}
use Rattle.circuit.specs.Ordering.{gates_in}
use Rattle.circuit.proofs.Evaluated.{valuation-law}
use Rattle.circuit.proofs.evaluating.one_valuation.Goals as goal

pub returns : goal.returns
returns c =
    λ latches inputs values latches_fit inputs_fit.
    valuation-law c.args.c.now (gates_in c.c.inside.gates c.c.inside.order) latches inputs
    (subst (λ x. IsChecked x) c.c.view_is c.c.invariant.checked)
    (subst (λ x. IsEvaluationOrder x.gates (gates_in c.c.inside.gates c.c.inside.order)) c.c.view_is c.c.invariant.order)
    latches_fit inputs_fit values
