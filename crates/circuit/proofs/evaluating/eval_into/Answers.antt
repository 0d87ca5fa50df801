use Rattle.std.proofs.Common.{◌<◌, length, subst, sym, ap, ◌∙◌, arith}
use Rattle.std.specs.List.{All}
use Rattle.aig_semantics.specs.Circuits.{IsChecked}
use Rattle.circuit.proofs.Evaluated.{latches_in_range, order-in_range, evaluated-is_valuation}
use Rattle.circuit.proofs.evaluating.eval_into.Goals as goal

pub put_latches-requires-clause-inside : goal.put_latches-requires-clause-inside
put_latches-requires-clause-inside c =
    let checked = subst (λ x. IsChecked x) c.c.view_is c.c.invariant.checked in
    let same = c.as_slice-2.ensures ∙ ap (λ x. x.latches) c.c.view_is in
    subst (λ xs. All (λ latch. latch.var < length c.put_inputs.new.out) xs) (sym same)
    (λ k d below. let range = latches_in_range c.args.c.now checked k d below in omega arith)

pub put_gates-requires : goal.put_gates-requires
put_gates-requires c =
    let checked = subst (λ x. IsChecked x) c.c.view_is c.c.invariant.checked in
    let order = c.evaluation_order.ensures.order in
    λ k d below.
    let range = order-in_range c.args.c.now c.evaluation_order.result.now c.args.latches.now c.args.inputs.now checked order c.requires.latches c.requires.inputs k d below in
    omega arith

pub returns : goal.returns
returns c =
    let checked = subst (λ x. IsChecked x) c.c.view_is c.c.invariant.checked in
    let order = c.evaluation_order.ensures.order in
    let law = evaluated-is_valuation c.args.c.now c.evaluation_order.result.now c.args.latches.now c.args.inputs.now checked order c.requires.latches c.requires.inputs in
    let latches = c.as_slice-2.ensures ∙ ap (λ x. x.latches) c.c.view_is in
    let inputs = c.as_slice.ensures ∙ ap (λ x. x.inputs) c.c.view_is in
    cc
