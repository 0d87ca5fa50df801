use Rattle.std.proofs.Common.{◌≡◌, None, sym, subst, ◌∙◌}
use Rattle.cdcl_trail.specs.Trails.{value_of}
use Rattle.cdcl_trail.specs.Watched.{TrailState}
use Rattle.cdcl_trail.proofs.NamedLaws.{named_value, strange_value}
use Rattle.cdcl_trail.proofs.trail.Trail.value.Goals as goal

pub returns-in-None : goal.returns-in-None
returns-in-None c =
    let t = c.self.inside in
    subst (λ (s : TrailState). None ≡ value_of s.steps c.args.var) c.self.view_is
    (sym (strange_value t.names t.tracks t.shown.items c.args.var c.self.invariant (sym c.in-None.ensures.number)))

pub returns-in-Some : goal.returns-in-Some
returns-in-Some c =
    let t = c.self.inside in
    subst (λ (s : TrailState). c.value.result ≡ value_of s.steps c.args.var) c.self.view_is
    (c.value.ensures ∙ named_value t.names t.tracks t.shown.items c.args.var c.in-Some.number c.self.invariant (sym c.in-Some.ensures.number))
