use Rattle.std.proofs.Common.{◌≡◌, rules, subst}
use Rattle.clap.specs.Walk.{Rule, rule_of}
use Rattle.command_lines.specs.Words.{wanted}
use Rattle.command_lines.specs.Making.{TakesMore}
use Rattle.command_lines.proofs.words.with_wanted.Goals as goal

pub returns : goal.returns
returns c =
    let is : rule_of c.required.result ≡ wanted c.args.name.now = search rules in
    subst (λ (rule : Rule). TakesMore c.args.made rule c.with_argument.result) is c.with_argument.ensures
