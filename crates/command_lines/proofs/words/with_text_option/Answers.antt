use Rattle.std.proofs.Common.{◌≡◌, rules, subst}
use Rattle.clap.specs.Walk.{Rule, rule_of}
use Rattle.command_lines.specs.Words.{text_option}
use Rattle.command_lines.specs.Making.{TakesMore}
use Rattle.command_lines.proofs.words.with_text_option.Goals as goal

pub returns : goal.returns
returns c =
    let is : rule_of c.long.result ≡ text_option c.args.name.now = search rules in
    subst (λ (rule : Rule). TakesMore c.args.made rule c.with_argument.result) is c.with_argument.ensures
