use Rattle.std.proofs.Common.{rules}
use Rattle.std.specs.Arc.{arc_value}
use Rattle.ledger_tests.proofs.StuckPasses.{may_post_fresh}
use Rattle.ledger_tests.proofs.reading.post.Goals as goal

pub hand_in-requires-clause-may : goal.hand_in-requires-clause-may
hand_in-requires-clause-may g c =
    may_post_fresh c.args.ledger.now c.args.pass.now (arc_value c.in_ok-found.found) c.number-author.result c.turns.result _ c.requires.of
    c.number-author.ensures c.turns.ensures (c.is_first-first.ensures (search rules)) c.view.ensures.checked
    (c.is_empty-none.ensures (search rules)) c.in_ok-found.ensures
