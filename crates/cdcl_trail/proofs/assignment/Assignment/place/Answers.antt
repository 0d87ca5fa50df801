use Rattle.std.proofs.Common.{◌≡◌, None, take, length, ap, sym, subst, ◌∙◌}
use Rattle.std.specs.Option.{option_map}
use Rattle.cdcl_trail.specs.Trails.{Step, Steps, value_of}
use Rattle.cdcl_trail.proofs.TrailLaws.{none_take, none_to_place, no_place}
use Rattle.cdcl_trail.proofs.assignment.Assignment.place.Goals as goal

pub returns-in-Some : goal.returns-in-Some
returns-in-Some c =
    let t = c.self.inside in
    subst (λ (s : Steps). value_of (take c.in-Some.place s.steps) c.args.number ≡ None) c.self.view_is
    (ap (option_map (λ (s : Step). s.literal.positive))
    (none_to_place t.literals.items t.reasons.items c.args.number c.in-Some.place (sym (c.in-Some.ensures ∙ c.self.invariant.places c.args.number))))

pub returns-in-None : goal.returns-in-None
returns-in-None c =
    let t = c.self.inside in
    subst (λ (s : Steps). value_of (take (length c.as_slice.result.now) s.steps) c.args.number ≡ None) c.self.view_is
    (ap (option_map (λ (s : Step). s.literal.positive))
    (none_take _ (length c.as_slice.result.now) c.args.number
    (no_place t.literals.items t.reasons.items c.args.number (sym (c.in-None.ensures ∙ c.self.invariant.places c.args.number)))))
