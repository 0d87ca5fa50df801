use Rattle.std.proofs.Common.{◌≡◌, sym, subst, ◌∙◌}
use Rattle.std.specs.Option.{IsSome}
use Rattle.cdcl_trail.specs.Trails.{value_of, level_of}
use Rattle.cdcl_trail.specs.Watched.{TrailState}
use Rattle.cdcl_trail.proofs.NamedLaws.{named_value, named_level, strange_level}
use Rattle.cdcl_trail.proofs.trail.Trail.level_of.Goals as goal

pub returns-in-None : goal.returns-in-None
returns-in-None c =
    let t = c.self.inside in
    subst (λ (s : TrailState). 0 ≡ level_of s.steps c.args.var) c.self.view_is
    (strange_level t.names t.tracks t.shown.items c.args.var c.self.invariant (sym c.in-None.ensures.number)
    (subst (λ (s : TrailState). IsSome (value_of s.steps c.args.var)) (sym c.self.view_is) c.requires))

pub level_of-requires : goal.level_of-requires
level_of-requires c =
    let t = c.self.inside in
    subst IsSome (sym (named_value t.names t.tracks t.shown.items c.args.var c.in-Some.number c.self.invariant (sym c.in-Some.ensures.number)))
    (subst (λ (s : TrailState). IsSome (value_of s.steps c.args.var)) (sym c.self.view_is) c.requires)

pub returns-in-Some : goal.returns-in-Some
returns-in-Some c =
    let t = c.self.inside in
    subst (λ (s : TrailState). c.level_of.result ≡ level_of s.steps c.args.var) c.self.view_is
    (c.level_of.ensures ∙ named_level t.names t.tracks t.shown.items c.args.var c.in-Some.number c.self.invariant (sym c.in-Some.ensures.number))
