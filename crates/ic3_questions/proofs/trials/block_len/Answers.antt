use Rattle.std.proofs.Common.{length, ap}
use Rattle.ic3_questions.proofs.TrialLaws.{whole_block}
use Rattle.ic3_questions.proofs.trials.block_len.Goals as goal

pub returns : goal.returns
returns c = whole_block c.args.c.now (length c.latches.result.now) _ (ap length c.latches.ensures) c.before_latch.ensures
