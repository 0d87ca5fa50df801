use Rattle.std.proofs.Common.{◌<◌, length, subst, sym, arith}
use Rattle.std.specs.List.{All}
use Rattle.ternary.specs.Values.{IsCompletion}
use Rattle.aig_semantics.specs.Valuations.{valuation}
use Rattle.circuit.proofs.Evaluated.{latches_in_range}
use Rattle.ternary.proofs.Simulated.{inputs_in_range, order3-in_range, evaluated-is_simulation}
use Rattle.ternary.proofs.Refined.{simulation-sound}
use Rattle.ternary.proofs.simulating.eval3_into.Goals as goal

pub put_inputs-requires-clause-inside : goal.put_inputs-requires-clause-inside
put_inputs-requires-clause-inside c =
    subst (λ xs. All (λ v. v < length c.clear.new.out) xs) (sym c.inputs.ensures)
    (λ k d below. let range = inputs_in_range c.args.c.now c.evaluation_order-order.ensures.checked k d below in omega arith)

pub put_latches-requires-clause-inside : goal.put_latches-requires-clause-inside
put_latches-requires-clause-inside c =
    subst (λ xs. All (λ latch. latch.var < length c.put_inputs.new.out) xs) (sym c.latches.ensures)
    (λ k d below. let range = latches_in_range c.args.c.now c.evaluation_order-order.ensures.checked k d below in omega arith)

pub put_gates-requires : goal.put_gates-requires
put_gates-requires c =
    λ k d below.
    let range = order3-in_range c.args.c.now c.evaluation_order-order.result.now c.args.latches.now c.args.inputs.now c.evaluation_order-order.ensures.checked c.evaluation_order-order.ensures.order c.requires.latches c.requires.inputs k d below in
    omega arith

pub returns-clause-exact : goal.returns-clause-exact
returns-clause-exact c =
    let law = evaluated-is_simulation c.args.c.now c.evaluation_order-order.result.now c.args.latches.now c.args.inputs.now c.evaluation_order-order.ensures.checked c.evaluation_order-order.ensures.order c.requires.latches c.requires.inputs in
    let latches = c.latches.ensures in
    let inputs = c.inputs.ensures in
    cc

pub returns-clause-sound : goal.returns-clause-sound
returns-clause-sound c =
    λ state input_values h k.
    subst (λ xs. IsCompletion xs (valuation c.args.c.now state input_values)) (sym (returns-clause-exact c))
    (simulation-sound c.args.c.now c.args.latches.now c.args.inputs.now state input_values h k)
