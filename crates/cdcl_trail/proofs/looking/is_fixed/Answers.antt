use Rattle.std.proofs.Common.{sym, subst, ap, ◌∙◌}
use Rattle.std.specs.Option.{IsSome}
use Rattle.cdcl_trail.specs.Trails.{value_of, level_of}
use Rattle.cdcl_trail.proofs.FixedLaws.{fixed_read, is_valued}
use Rattle.cdcl_trail.proofs.looking.is_fixed.Goals as goal

pub level_of-requires : goal.level_of-requires
level_of-requires c =
    let s = c.args.assignment.now.steps in
    let a = c.args.literal in
    subst (λ n. IsSome (value_of s n)) (sym c.number.ensures.number) (is_valued (value_of s a.var) a.positive c.requires)

pub returns : goal.returns
returns c =
    let s = c.args.assignment.now.steps in
    fixed_read s c.args.literal c.level_of.result c.requires (c.level_of.ensures ∙ ap (level_of s) c.number.ensures.number)
