use Rattle.certificate.proofs.WrittenCertificates.{written_certificates_good}
use Rattle.certificate.proofs.laws.written_certificates_are_good.Goals as goal

pub returns : goal.returns
returns c = written_certificates_good c.args.c.now c.max-limits.ensures.checked c.max-limits.ensures.limits
