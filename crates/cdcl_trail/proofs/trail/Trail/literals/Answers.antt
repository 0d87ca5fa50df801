use Rattle.std.proofs.Common.{◌≡◌, ap, subst, ◌∙◌}
use Rattle.cdcl_trail.specs.Trails.{literals_of, once}
use Rattle.cdcl_trail.specs.Watched.{TrailState}
use Rattle.cdcl_trail.proofs.NamedLaws.{named_once}
use Rattle.cdcl_trail.proofs.trail.Trail.literals.Goals as goal

pub returns-clause-value : goal.returns-clause-value
returns-clause-value c =
    subst (λ (s : TrailState). c.as_slice.result.now ≡ literals_of s.steps) c.self.view_is (c.as_slice.ensures.value ∙ c.self.invariant.shown)

pub returns-clause-once : goal.returns-clause-once
returns-clause-once c =
    let t = c.self.inside in
    ap once (c.as_slice.ensures.value ∙ c.self.invariant.shown) ∙ named_once t.names t.tracks t.shown.items c.self.invariant c.laws.ensures.once
