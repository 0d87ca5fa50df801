use Rattle.std.proofs.Common.{◌≡◌, true, ap, sym, subst, ◌∙◌}
use Rattle.cdcl_trail.specs.Renaming.{ArePaired}
use Rattle.cdcl_trail.specs.Trails.{literals_of, once}
use Rattle.cdcl_trail.specs.Watched.{TrailState}
use Rattle.cdcl_trail.proofs.TakeLaws.{stored_paired}
use Rattle.cdcl_trail.proofs.tracks.Tracks.laws.Goals as goal

pub returns-clause-paired : goal.returns-clause-paired
returns-clause-paired c =
    let t = c.self.inside in
    subst ArePaired c.self.view_is (stored_paired t.watching t.assignment.steps c.self.invariant.stored)

pub returns-clause-once : goal.returns-clause-once
returns-clause-once c =
    subst (λ (s : TrailState). once (literals_of s.steps) ≡ true) c.self.view_is
    (ap once (sym c.literals-literals.ensures.value) ∙ c.literals-literals.ensures.once)
