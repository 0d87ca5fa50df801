use Rattle.std.proofs.Common.{ap, ◌∙◌}
use Rattle.ledger_tests.proofs.PassLaws.{set_numbers}
use Rattle.ledger_tests.proofs.passes.take_turn_at.Goals as goal

pub returns-clause-numbers : goal.returns-clause-numbers
returns-clause-numbers g c =
    set_numbers c.args.passes.now.items c.args.at c.take_turn.new.pass c.index_mut.result.now
    (c.take_turn.ensures.number ∙ ap (λ p. p.number) c.index_mut.ensures.value)
