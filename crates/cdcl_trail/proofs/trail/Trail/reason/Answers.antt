use Rattle.std.proofs.Common.{◌≡◌, None, sym, subst, ◌∙◌}
use Rattle.cdcl_trail.specs.Trails.{reason_of}
use Rattle.cdcl_trail.specs.Watched.{TrailState}
use Rattle.cdcl_trail.proofs.NamedLaws.{named_reason, strange_reason}
use Rattle.cdcl_trail.proofs.trail.Trail.reason.Goals as goal

pub returns-in-None : goal.returns-in-None
returns-in-None c =
    let t = c.self.inside in
    subst (λ (s : TrailState). None ≡ reason_of s.steps c.args.var) c.self.view_is
    (sym (strange_reason t.names t.tracks t.shown.items c.args.var c.self.invariant (sym c.in-None.ensures.number)))

pub returns-in-Some : goal.returns-in-Some
returns-in-Some c =
    let t = c.self.inside in
    subst (λ (s : TrailState). c.reason.result ≡ reason_of s.steps c.args.var) c.self.view_is
    (c.reason.ensures ∙ named_reason t.names t.tracks t.shown.items c.args.var c.in-Some.number c.self.invariant (sym c.in-Some.ensures.number))
