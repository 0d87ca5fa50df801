use Rattle.certificate.proofs.WrittenGood.{written_is_good}
use Rattle.certificate.proofs.laws.written_stimuli_are_good.Goals as goal

pub returns : goal.returns
returns c = written_is_good c.args.c.now
