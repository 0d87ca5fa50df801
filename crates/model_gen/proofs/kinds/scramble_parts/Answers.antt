use Rattle.std.proofs.Common.{◌+◌, ◌*◌, ◌∙◌, ap}
use Rattle.model_gen.specs.Draws.{state_after}
use Rattle.model_gen.specs.Generated.{behind_latches}
use Rattle.model_gen.proofs.Fitting.{same_parts, latches_from, justice_from, fairness_from}
use Rattle.model_gen.proofs.kinds.scramble_parts.Goals as goal

pub returns : goal.returns
returns c =
    let seed = c.args.seed in
    let n = c.args.n in
    let gates_state = c.in_ok-gates.ensures.state in
    let latches_state = c.in_ok-latches.ensures.state ∙ ap (λ s. state_after s (2 * n)) gates_state in
    let property_state = c.in_ok-draw_literals.ensures.state ∙ ap (λ s. state_after s 2) latches_state in
    same_parts (3 * n + 2) _ _ _ _ _ _ _ _ _ _ _ _ _
    c.in_ok-from_slice.ensures
    (latches_from seed n _ _ c.in_ok-latches.ensures.latches gates_state)
    c.in_ok-gates.ensures.gates
    c.new.ensures
    c.new-2.ensures
    c.new-3.ensures
    (justice_from (behind_latches seed n) n _ _ _ _ c.in_ok-push.ensures.ok c.new-justice.ensures c.in_ok-draw_literals.ensures.literals latches_state)
    (fairness_from (behind_latches seed n) n _ _ c.in_ok-fairness.ensures.literals property_state)
