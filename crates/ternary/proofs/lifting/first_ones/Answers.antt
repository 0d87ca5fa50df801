use Rattle.ternary.proofs.Words.{all-ones, trailing-set, trailing-clear}
use Rattle.ternary.proofs.lifting.first_ones.Goals as goal

pub returns-then-word-eq18446744073709551615-clause-set : goal.returns-then-word-eq18446744073709551615-clause-set
returns-then-word-eq18446744073709551615-clause-set c = λ k below. all-ones c.args.word k c.if-word-eq18446744073709551615.true below

pub returns-else-word-eq18446744073709551615-clause-set : goal.returns-else-word-eq18446744073709551615-clause-set
returns-else-word-eq18446744073709551615-clause-set c =
    λ k below. trailing-set c.args.word c.trailing_ones.result k c.ranges.word.fits c.if-word-eq18446744073709551615.false c.trailing_ones.ensures below

pub returns-else-word-eq18446744073709551615-clause-clear : goal.returns-else-word-eq18446744073709551615-clause-clear
returns-else-word-eq18446744073709551615-clause-clear c =
    λ small. trailing-clear c.args.word c.trailing_ones.result c.ranges.word.fits c.if-word-eq18446744073709551615.false c.trailing_ones.ensures
