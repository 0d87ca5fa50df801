use Rattle.std.proofs.Common.{arith}
use Rattle.round_answers.proofs.Accepted.{reached_if}
use Rattle.round_answers.proofs.writing.write.Goals as goal

pub returns-in-Reached-clause-good : goal.returns-in-Reached-clause-good
returns-in-Reached-clause-good c =
    reached_if c.reached_text.result (λ text. text.items) c.args.c.now c.args.j c.args.k c.args.rounds.now c.in-Reached.run' c.as_slice-in-Reached.result.now
    c.in-Reached.is c.as_slice-in-Reached.ensures (omega arith) c.requires.some c.requires.able c.reached_text.ensures.text c.reached_text.ensures.within
