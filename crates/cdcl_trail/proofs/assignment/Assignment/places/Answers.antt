use Rattle.std.proofs.Common.{◌≡◌, ℕ, ap, sym, subst, ◌∙◌}
use Rattle.packed_literals.specs.DenseOf.{told}
use Rattle.cdcl_trail.specs.AssignmentOf.{place_in}
use Rattle.cdcl_trail.specs.Trails.{Steps, literals_of}
use Rattle.cdcl_trail.proofs.TrailLaws.{literals_beside}
use Rattle.cdcl_trail.proofs.assignment.Assignment.places.Goals as goal

pub returns : goal.returns
returns c =
    let t = c.self.inside in
    subst (λ (s : Steps). (var : ℕ) → told t.places var ≡ place_in (literals_of s.steps) var) c.self.view_is
    (λ var. c.self.invariant.places var
    ∙ ap (λ ls. place_in ls var) (sym (literals_beside t.literals.items t.reasons.items c.self.invariant.beside)))
