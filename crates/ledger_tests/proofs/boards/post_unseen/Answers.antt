use Rattle.std.specs.Arc.{arc_value}
use Rattle.ledger_tests.proofs.Posting.{may_post}
use Rattle.ledger_tests.proofs.boards.post_unseen.Goals as goal

pub post-requires-clause-may : goal.post-requires-clause-may
post-requires-clause-may c = may_post c.args.board.now c.args.worker (arc_value c.args.found) c.requires.unseen c.requires.found
