use Rattle.std.proofs.Common.{refl, rules}
use Rattle.std.specs.Arc.{arc_value}
use Rattle.ledger_tests.proofs.PassLaws.{may_post_found}
use Rattle.ledger_tests.proofs.passing.post.Goals as goal

pub hand_in-told-requires-clause-may : goal.hand_in-told-requires-clause-may
hand_in-told-requires-clause-may g c =
    may_post_found c.requires.of.0 c.args.k c.args.ledger.now c.args.pass.now (arc_value c.in_ok-found.found) (arc_value c.args.shared.now) _ _ _ _
    c.requires.of.1 c.requires.of.2 c.number-number.ensures c.turns-turn.ensures c.in_ok-found.ensures c.view.ensures.checked
    refl (c.in_ok-free.ensures (search rules))
