use Rattle.certificate.proofs.Staying.{faults-stay}
use Rattle.certificate.proofs.Playing.{judged-before}
use Rattle.certificate.proofs.laws.first_faults_stay.Goals as goal

pub returns-clause-stay : goal.returns-clause-stay
returns-clause-stay c = faults-stay c.args.c.now

pub returns-clause-before : goal.returns-clause-before
returns-clause-before c = judged-before c.args.c.now
