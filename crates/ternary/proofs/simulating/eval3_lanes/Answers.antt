use Rattle.std.proofs.Common.{◌≡◌, ◌<◌, length, subst, sym, ap, ◌∙◌, map, fold, replicate, arith}
use Rattle.std.specs.List.{All}
use Rattle.std.proofs.lemmas.List.{length-map}
use Rattle.circuit.proofs.Evaluated.{latches_in_range}
use Rattle.ternary.specs.declared.values.Value3.TheVariants.{Zero}
use Rattle.ternary.specs.Lanes.{lane_of, in_lane}
use Rattle.ternary.specs.Writing.{with_values3, with_gate3}
use Rattle.ternary.proofs.Simulated.{order3-in_range, evaluated-is_simulation}
use Rattle.ternary.proofs.LanesWritten.{in_lane-given}
use Rattle.ternary.proofs.simulating.eval3_lanes.Goals as goal

pub put_latches-requires-clause-inside : goal.put_latches-requires-clause-inside
put_latches-requires-clause-inside c =
    subst (λ xs. All (λ latch. latch.var < length c.put_inputs.new.out) xs) (sym c.latches.ensures)
    (λ k d below. let range = latches_in_range c.args.c.now c.evaluation_order-order.ensures.checked k d below in omega arith)

pub put_gates_lanes-requires : goal.put_gates_lanes-requires
put_gates_lanes-requires c =
    λ k d below.
    let range = order3-in_range c.args.c.now c.evaluation_order-order.result.now (in_lane 0 c.args.latches.now) (in_lane 0 c.args.inputs.now) c.evaluation_order-order.ensures.checked c.evaluation_order-order.ensures.order
    (length-map c.args.latches.now (λ x. lane_of x 0) ∙ c.requires.latches) (length-map c.args.inputs.now (λ x. lane_of x 0) ∙ c.requires.inputs) k d below in
    omega arith

pub returns : goal.returns
returns c =
    λ k below.
    let law = evaluated-is_simulation c.args.c.now c.evaluation_order-order.result.now (in_lane k c.args.latches.now) (in_lane k c.args.inputs.now) c.evaluation_order-order.ensures.checked c.evaluation_order-order.ensures.order
    (length-map c.args.latches.now (λ x. lane_of x k) ∙ c.requires.latches) (length-map c.args.inputs.now (λ x. lane_of x k) ∙ c.requires.inputs) in
    let written : c.put_latches.new.out ≡ with_values3 (map (λ latch. latch.var) c.args.c.now.latches) c.args.latches.now (with_values3 c.args.c.now.inputs c.args.inputs.now (replicate (length c.args.out.now) c.splat.result)) =
    let latches = c.latches.ensures in let inputs = c.inputs.ensures in cc
    in
    let given = in_lane-given k c.args.c.now.inputs (map (λ latch. latch.var) c.args.c.now.latches) c.args.inputs.now c.args.latches.now (length c.args.out.now) c.splat.result (c.splat.ensures k below) in
    c.put_gates_lanes.ensures k below
    ∙ (ap (λ xs. fold with_gate3 (in_lane k xs) c.evaluation_order-order.result.now) written
    ∙ (ap (λ xs. fold with_gate3 xs c.evaluation_order-order.result.now) given
    ∙ (ap (λ n. fold with_gate3 (with_values3 (map (λ latch. latch.var) c.args.c.now.latches) (in_lane k c.args.latches.now) (with_values3 c.args.c.now.inputs (in_lane k c.args.inputs.now) (replicate n Zero))) c.evaluation_order-order.result.now) c.requires.out
    ∙ law)))
