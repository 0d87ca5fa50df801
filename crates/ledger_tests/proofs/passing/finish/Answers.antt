use Rattle.std.proofs.Common.{rules, ◌∙◌}
use Rattle.ledger_tests.proofs.PassLaws.{true_of}
use Rattle.ledger_tests.proofs.passing.finish.Goals as goal

pub finish-requires-clause-outcome : goal.finish-requires-clause-outcome
finish-requires-clause-outcome g c =
    true_of c.requires.of.0 c.args.ledger.now c.args.pass.now c.args.property c.deref.result.now _ _ c.requires.of.1
    (c.deref.ensures ∙ c.requires.of.2) c.view.ensures.viewed (search rules)
