use Rattle.std.proofs.Common.{length, ap, arith}
use Rattle.stimulus.proofs.FaultLemmas.{initial_from}
use Rattle.round_answers.proofs.running.first_wrong.Goals as goal

pub returns-clause-none : goal.returns-clause-none
returns-clause-none c = initial_from c.args.c.now c.args.latches.now c.requires (λ n inside. c.loop-i.invariant n (omega (arith, inside, c.loop-i-test.false, ap length c.latches-latch-items.ensures)))
