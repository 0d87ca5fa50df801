use Rattle.std.proofs.Common.{◌≡◌, rules, subst}
use Rattle.clap.specs.Walk.{Rule, rule_of}
use Rattle.command_lines.specs.Words.{number_option}
use Rattle.command_lines.specs.Making.{TakesMore}
use Rattle.command_lines.proofs.words.with_number_option.Goals as goal

pub returns : goal.returns
returns c =
    let is : rule_of c.value_parser-argument.result ≡ number_option c.args.name.now c.args.low c.args.high = search rules in
    subst (λ (rule : Rule). TakesMore c.args.made rule c.with_argument.result) is c.with_argument.ensures
