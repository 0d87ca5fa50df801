use Rattle.std.proofs.Common.{arith}
use Rattle.std.proofs.lemmas.Result.{IfOk-weaker}
use Rattle.sheet_commands.proofs.Numbers.{few_numbers}
use Rattle.sheet_commands.proofs.properties.each_property.Goals as goal

pub returns-clause-few : goal.returns-clause-few
returns-clause-few c =
    IfOk-weaker c.numbers_to.result _ _ (λ numbers h. few_numbers numbers.items _ h (omega (arith, c.if-count-gt-MOST_PROPERTIES.false))) c.numbers_to.ensures
