use Rattle.std.proofs.Common.{◌≡◌, subst}
use Rattle.cdcl_trail.specs.Trails.{Steps, reason_of}
use Rattle.cdcl_trail.proofs.TrailLaws.{reason_read}
use Rattle.cdcl_trail.proofs.assignment.Assignment.reason.Goals as goal

pub returns : goal.returns
returns c =
    let t = c.self.inside in
    subst (λ (s : Steps). c.reason_at.result ≡ reason_of s.steps c.args.number) c.self.view_is
    (reason_read c.reason_at.result t.literals.items _ t.reasons.items c.args.number _ _ c.reason_at.ensures c.as_slice.ensures.value c.get.ensures
    c.self.invariant.beside (c.self.invariant.places c.args.number))
