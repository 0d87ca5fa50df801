use Rattle.std.proofs.Common.{◌≡◌, ◌<◌, ◌^◌, ◌++◌, [], ◌∷◌, length, map, sym, ap, subst, ◌∙◌}
use Rattle.std.specs.List.{All}
use Rattle.aig_semantics.specs.Circuits.{fair_literals}
use Rattle.cdcl.specs.Asking.{assigned}
use Rattle.cnf_unroll.specs.Numbers.{number}
use Rattle.cnf_unroll.proofs.Bounds.{inputs_bound}
use Rattle.lasso_clauses.specs.Moments.{moment_base}
use Rattle.lasso_bmc.proofs.Inputs.{inputs_more}
use Rattle.lasso_bmc.proofs.reading.input_lists.Goals as goal

pub input_values-requires-clause-vars : goal.input_values-requires-clause-vars
input_values-requires-clause-vars c =
    subst (λ inputs. All (λ v. v < 2 ^ 32) inputs) (sym c.inputs.ensures)
    (inputs_bound c.args.c.now c.max-limits.ensures.checked c.max-limits.ensures.limits)

pub loop-place-preserved : goal.loop-place-preserved
loop-place-preserved c =
    let n = length (fair_literals c.args.c.now c.args.j) in
    let v = assigned c.args.solver.now.values in
    let place = c.loop-place.place in
    let here = map (λ i. v (number (moment_base c.args.c.now n place) i)) c.args.c.now.inputs in
    let read : c.in_ok-input_values.field-0 ≡ here =
    c.in_ok-input_values.ensures
    ∙ ap (λ inputs. map (λ i. v (number c.moment_base-base.result i)) inputs) c.inputs.ensures
    ∙ ap (λ base. map (λ i. v (number base i)) c.args.c.now.inputs) c.moment_base-base.ensures.base
    in
    c.in_ok-push.ensures.ok
    ∙ ap (λ values. c.loop-place.inputs ++ values ∷ []) read
    ∙ ap (λ inputs. inputs ++ here ∷ []) c.loop-place.invariant
    ∙ sym (inputs_more c.args.c.now n v place)
