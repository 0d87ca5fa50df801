use Rattle.std.proofs.Common.{◌≡◌, sym, subst, ◌∙◌}
use Rattle.cdcl_trail.specs.Trails.{reasons_in}
use Rattle.cdcl_trail.specs.Watched.{TrailState}
use Rattle.cdcl_trail.proofs.RenameLaws.{reasons_named}
use Rattle.cdcl_trail.proofs.trail.Trail.reasons.Goals as goal

pub returns : goal.returns
returns c =
    let t = c.self.inside in
    subst (λ (s : TrailState). c.reasons.result.now ≡ reasons_in s.steps) c.self.view_is (c.reasons.ensures ∙ sym (reasons_named t.names t.tracks.steps))
