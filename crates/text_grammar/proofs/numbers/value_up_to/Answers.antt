use Rattle.std.proofs.Common.{◌+◌, arith}
use Rattle.std.proofs.lemmas.Int.Digits.{digits_value_more}
use Rattle.std.proofs.lemmas.Str.{digit_value_digit}
use Rattle.std.proofs.lemmas.Str.Parse.{digit_at, digits_value-take-le}
use Rattle.text_grammar.proofs.numbers.value_up_to.Goals as goal

pub returns-then-value-limit-clause-none : goal.returns-then-value-limit-clause-none
returns-then-value-limit-clause-none c =
    omega (
      arith,
      c.loop-digit.invariant,
      digits_value_more 10 c.args.digits.now c.loop-digit.digit-index c.loop-digit-test.true,
      digits_value-take-le 10 c.args.digits.now (c.loop-digit.digit-index + 1) (omega arith),
    )

pub overflow_sub-digit : goal.overflow_sub-digit
overflow_sub-digit c = (digit_at c.args.digits.now c.loop-digit.digit-index c.requires.digits c.loop-digit-test.true).0

pub loop-digit-preserved : goal.loop-digit-preserved
loop-digit-preserved c =
    omega (
      arith,
      c.loop-digit.invariant,
      c.from.ensures,
      digit_value_digit _ (digit_at c.args.digits.now c.loop-digit.digit-index c.requires.digits c.loop-digit-test.true),
      digits_value_more 10 c.args.digits.now c.loop-digit.digit-index c.loop-digit-test.true,
    )
