use Rattle.std.proofs.Common.{◌≡◌, sym, subst, ◌∙◌}
use Rattle.cdcl_trail.specs.Trails.{level}
use Rattle.cdcl_trail.specs.Watched.{TrailState}
use Rattle.cdcl_trail.proofs.RenameLaws.{level_named}
use Rattle.cdcl_trail.proofs.trail.Trail.level.Goals as goal

pub returns : goal.returns
returns c =
    let t = c.self.inside in
    subst (λ (s : TrailState). c.level.result ≡ level s.steps) c.self.view_is (c.level.ensures ∙ sym (level_named t.names t.tracks.steps))
