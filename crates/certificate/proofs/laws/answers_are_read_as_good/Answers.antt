use Rattle.certificate.proofs.GoodRead.{reads_good}
use Rattle.certificate.proofs.laws.answers_are_read_as_good.Goals as goal

pub returns : goal.returns
returns c = reads_good c.args.c.now
