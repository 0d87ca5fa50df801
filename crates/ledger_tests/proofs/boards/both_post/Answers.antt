use Rattle.std.proofs.Common.{arith}
use Rattle.ledger_tests.proofs.boards.both_post.Goals as goal

pub post_unseen-second-requires-clause-unseen : goal.post_unseen-second-requires-clause-unseen
post_unseen-second-requires-clause-unseen c = c.post_unseen-first.ensures.others 1 (λ same. (omega (arith, same))) c.requires.second
