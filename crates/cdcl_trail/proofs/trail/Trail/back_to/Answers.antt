use Rattle.std.proofs.Common.{◌≡◌, ◌≤◌, length, take, ap, sym, subst, ◌∙◌}
use Rattle.cdcl_trail.specs.Trails.{level, up_to_level}
use Rattle.cdcl_trail.specs.Renaming.{named_steps, named_state}
use Rattle.cdcl_trail.specs.Watched.{TrailState, KeepWatch}
use Rattle.cdcl_trail.proofs.RenameLaws.{level_named}
use Rattle.cdcl_trail.proofs.NamedLaws.{named_back, back_steps, keeps_named}
use Rattle.cdcl_trail.proofs.trail.Trail.back_to.Goals as goal

pub back_to-requires : goal.back_to-requires
back_to-requires c =
    let t = c.self.inside in
    subst (λ n. c.args.target ≤ n) (level_named t.names t.tracks.steps)
    (subst (λ (s : TrailState). c.args.target ≤ level s.steps) (sym c.self.view_is) c.requires)

pub invariant_of-self : goal.invariant_of-self
invariant_of-self c =
    let t = c.self.inside in
    named_back t.names t.tracks c.back_to.new.self t.shown.items c.truncate.new.self.items c.args.target c.self.invariant c.back_to.ensures.steps c.back_to.ensures.watch
    (c.truncate.ensures.items ∙ ap (λ ls. take (length ls) t.shown.items) c.literals.ensures.value)

pub returns-clause-steps : goal.returns-clause-steps
returns-clause-steps c =
    let t = c.self.inside in
    subst (λ (s : TrailState). named_steps t.names c.back_to.new.self.steps ≡ up_to_level c.args.target s.steps) c.self.view_is
    (back_steps t.names t.tracks c.back_to.new.self c.args.target c.back_to.ensures.steps)

pub returns-clause-level : goal.returns-clause-level
returns-clause-level c = level_named c.self.inside.names c.back_to.new.self.steps ∙ c.back_to.ensures.level

pub returns-clause-watch : goal.returns-clause-watch
returns-clause-watch c =
    let t = c.self.inside in
    subst (λ (s : TrailState). KeepWatch s (named_state t.names c.back_to.new.self)) c.self.view_is (keeps_named t.names t.tracks c.back_to.new.self c.back_to.ensures.watch)
