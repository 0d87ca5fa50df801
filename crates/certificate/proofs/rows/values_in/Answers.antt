use Rattle.certificate.proofs.Values.{values_told}
use Rattle.certificate.proofs.rows.values_in.Goals as goal

pub returns : goal.returns
returns c = values_told c.args.line.now c.values_of.result c.values_of.ensures.found c.values_of.ensures.none
