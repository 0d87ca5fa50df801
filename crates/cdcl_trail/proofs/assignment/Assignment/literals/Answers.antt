use Rattle.std.proofs.Common.{◌≡◌, sym, subst, ◌∙◌}
use Rattle.cdcl_trail.specs.Trails.{Steps, literals_of}
use Rattle.cdcl_trail.proofs.TrailLaws.{literals_beside}
use Rattle.cdcl_trail.proofs.assignment.Assignment.literals.Goals as goal

pub returns-clause-value : goal.returns-clause-value
returns-clause-value c =
    let t = c.self.inside in
    subst (λ (s : Steps). c.as_slice.result.now ≡ literals_of s.steps) c.self.view_is
    (c.as_slice.ensures.value ∙ sym (literals_beside t.literals.items t.reasons.items c.self.invariant.beside))
