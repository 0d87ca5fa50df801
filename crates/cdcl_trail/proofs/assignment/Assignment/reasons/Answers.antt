use Rattle.std.proofs.Common.{◌≡◌, sym, subst, ◌∙◌}
use Rattle.cdcl_trail.specs.Trails.{Steps, reasons_in}
use Rattle.cdcl_trail.proofs.TrailLaws.{reasons_beside}
use Rattle.cdcl_trail.proofs.assignment.Assignment.reasons.Goals as goal

pub returns : goal.returns
returns c =
    let t = c.self.inside in
    subst (λ (s : Steps). c.as_slice.result.now ≡ reasons_in s.steps) c.self.view_is
    (c.as_slice.ensures.value ∙ sym (reasons_beside t.literals.items t.reasons.items c.self.invariant.beside))
