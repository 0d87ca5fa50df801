use Rattle.std.proofs.Common.{◌≡◌, length, sym, subst, ◌∙◌}
use Rattle.std.proofs.lemmas.List.{length-map}
use Rattle.cdcl_trail.specs.Renaming.{named_clause}
use Rattle.cdcl_trail.specs.Watched.{TrailState}
use Rattle.cdcl_trail.proofs.trail.Trail.count_taken.Goals as goal

pub returns : goal.returns
returns c =
    let t = c.self.inside in
    subst (λ (s : TrailState). c.count_taken.result ≡ length s.taken) c.self.view_is
    (c.count_taken.ensures ∙ sym (length-map t.tracks.taken (named_clause t.names)))
