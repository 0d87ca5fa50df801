use Rattle.std.proofs.Common.{◌≡◌, sym, ◌∙◌, rules}
use Rattle.std.specs.Cmp.{booleans_Decides}
use Rattle.std.specs.Cmp.Lexicographic.{pointwise, pointwise_decides}
use Rattle.std.proofs.Math.Bool.{beq}
use Rattle.ic3_questions.proofs.trials.are_same.Goals as goal

pub returns : goal.returns
returns c = λ h.
    let decides = pointwise_decides booleans_Decides c.args.values.now c.args.others.now in
    let answer : c.eq.result ≡ pointwise beq c.args.values.now c.args.others.now = search rules in
    decides.0 (sym answer ∙ h)
