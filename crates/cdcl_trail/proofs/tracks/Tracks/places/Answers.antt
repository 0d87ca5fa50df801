use Rattle.std.proofs.Common.{◌≡◌, ℕ, subst}
use Rattle.packed_literals.specs.DenseOf.{told}
use Rattle.cdcl_trail.specs.AssignmentOf.{place_in}
use Rattle.cdcl_trail.specs.Trails.{literals_of}
use Rattle.cdcl_trail.specs.Watched.{TrailState}
use Rattle.cdcl_trail.proofs.tracks.Tracks.places.Goals as goal

pub returns : goal.returns
returns c =
    subst (λ (s : TrailState). (var : ℕ) → told c.places.result.now var ≡ place_in (literals_of s.steps) var) c.self.view_is c.places.ensures
