use Rattle.std.proofs.Common.{◌<◌, ◌^◌, ◌+◌, map, subst, sym, ap, ◌∙◌}
use Rattle.std.specs.List.{All}
use Rattle.cdcl.specs.Asking.{assigned}
use Rattle.cnf_unroll.proofs.Bounds.{latches_bound, inputs_bound}
use Rattle.cnf_unroll.specs.Numbers.{number}
use Rattle.skeleton.proofs.Made.{situation_made}
use Rattle.skeleton.proofs.reading.situation_in.Goals as goal

pub latch_values-requires-clause-vars : goal.latch_values-requires-clause-vars
latch_values-requires-clause-vars c =
    subst (λ latches. All (λ latch. latch.var < 2 ^ 32) latches) (sym c.latches.ensures)
    (latches_bound c.args.c.now c.max.ensures.checked c.max.ensures.limits)

pub input_values-requires-clause-vars : goal.input_values-requires-clause-vars
input_values-requires-clause-vars c =
    subst (λ inputs. All (λ v. v < 2 ^ 32) inputs) (sym c.inputs.ensures)
    (inputs_bound c.args.c.now c.max.ensures.checked c.max.ensures.limits)

pub latch_values-requires-2-clause-vars : goal.latch_values-requires-2-clause-vars
latch_values-requires-2-clause-vars c =
    subst (λ latches. All (λ latch. latch.var < 2 ^ 32) latches) (sym c.latches-3.ensures)
    (latches_bound c.args.c.now c.max.ensures.checked c.max.ensures.limits)

pub returns : goal.returns
returns c =
    let v = assigned c.args.solver.now.values in
    situation_made c.args.c.now v c.args.base c.in_ok-latches.latches c.in_ok-inputs.inputs c.in_ok-successor.successor
    (c.in_ok-latches.ensures ∙ ap (λ latches. map v (map (λ latch. c.args.base + 1 + latch.var) latches)) c.latches.ensures)
    (c.in_ok-inputs.ensures ∙ ap (λ inputs. map (λ i. v (number c.args.base i)) inputs) c.inputs.ensures)
    (c.in_ok-successor.ensures
    ∙ ap (λ latches. map v (map (λ latch. c.args.base + c.max.result + 2 + latch.var) latches)) c.latches-3.ensures
    ∙ ap (λ most. map v (map (λ latch. c.args.base + most + 2 + latch.var) c.args.c.now.latches)) c.max.ensures.value)
