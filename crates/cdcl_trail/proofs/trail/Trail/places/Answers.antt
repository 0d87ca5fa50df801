use Rattle.std.proofs.Common.{◌≡◌, ℕ, ap, subst, ◌∙◌}
use Rattle.packed_literals.specs.Naming.{place_among}
use Rattle.packed_literals.specs.DenseOf as dense
use Rattle.cdcl_trail.specs.AssignmentOf.{place_in}
use Rattle.cdcl_trail.specs.Places.{told_by, told}
use Rattle.cdcl_trail.specs.Trails.{literals_of}
use Rattle.cdcl_trail.specs.Watched.{TrailState}
use Rattle.cdcl_trail.proofs.NamedLaws.{place_told}
use Rattle.cdcl_trail.proofs.trail.Trail.places.Goals as goal

pub returns : goal.returns
returns c =
    let t = c.self.inside in
    subst (λ (s : TrailState). (var : ℕ) → told c.new.result var ≡ place_in (literals_of s.steps) var) c.self.view_is
    (λ var.
    ap (λ names. told_by (dense.told c.new.result.numbered.now) (place_among names var)) c.new.ensures.names
    ∙ ap (λ numbered. told_by (dense.told numbered) (place_among t.names var)) c.new.ensures.numbered
    ∙ place_told t.names t.tracks t.shown.items (dense.told c.places.result.now) c.self.invariant c.places.ensures var)
