use Rattle.std.proofs.Common.{◌≡◌, sym, subst, ◌∙◌}
use Rattle.std.proofs.lemmas.Result.{IfOk-weaker}
use Rattle.ic3_generalise.specs.Cubes.{IsBased, with_literal}
use Rattle.ic3_generalise.proofs.Basing.{based-part, based-with, based-whole}
use Rattle.ic3_generalise.proofs.cubes.based.Goals as goal

pub returns-then-misses_starts : goal.returns-then-misses_starts
returns-then-misses_starts c =
    based-part c.args.starts.now c.args.cube.now c.args.part c.requires.among (sym c.misses_starts.ensures ∙ c.if-misses_starts.true)

pub returns-in-Some : goal.returns-in-Some
returns-in-Some c =
    IfOk-weaker c.with_literal.result (λ longer. longer ≡ with_literal c.args.cube.now c.args.part c.in-Some.literal)
    (IsBased c.args.starts.now c.args.cube.now c.args.part)
    (λ longer is. subst (IsBased c.args.starts.now c.args.cube.now c.args.part) (sym is)
    (based-with c.args.starts.now c.args.cube.now c.args.part c.in-Some.literal c.requires.among c.in-Some.ensures))
    c.with_literal.ensures

pub returns : goal.returns
returns c =
    IfOk-weaker c.clone.result (λ copy. copy ≡ c.args.cube.now) (IsBased c.args.starts.now c.args.cube.now c.args.part)
    (λ copy is. subst (IsBased c.args.starts.now c.args.cube.now c.args.part) (sym is)
    (based-whole c.args.starts.now c.args.cube.now c.args.part c.requires.among c.requires.misses))
    c.clone.ensures
