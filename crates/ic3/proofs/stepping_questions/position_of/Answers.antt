use Rattle.std.proofs.Common.{◌≡◌, ℕ, Bool, map, ap, ◌∙◌}
use Rattle.cdcl.specs.Asking.{assigned}
use Rattle.cnf_unroll.specs.Numbers.{number, state_place}
use Rattle.cnf_unroll.proofs.BlockReading.{map_map}
use Rattle.ic3.proofs.stepping_questions.position_of.Goals as goal

pub returns : goal.returns
returns c =
    let v : ℕ → Bool = assigned c.args.solver.now.values in
    let latches : c.in_ok-latches.latches ≡ map v (state_place c.args.c.now 0) = c.in_ok-latches.ensures ∙ ap (map v) c.requires in
    let inputs : c.in_ok-inputs.inputs ≡ map (λ i. v (number 0 i)) c.args.c.now.inputs =
    c.in_ok-inputs.ensures
    ∙ (ap (map v) (c.as_slice-2.ensures ∙ c.in_ok-input_place.ensures) ∙ map_map v (λ i. number 0 i) c.args.c.now.inputs)
    in
    λ i. record { latches = latches i; inputs = inputs i }
