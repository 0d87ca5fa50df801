use Rattle.cnf_unroll.specs.Lending.{lent_all}
use Rattle.cert_tools.specs.Exporting.{behind_uses}
use Rattle.cert_tools.proofs.FreeNumbers.{behind_done}
use Rattle.cert_tools.proofs.numbering.behind_uses.Goals as goal

pub returns : goal.returns
returns c =
    behind_done c.args.places c.loop-used.next (behind_uses c.args.places c.args.free (lent_all c.args.uses.now)) c.args.uses.now c.loop-used.used-index c.loop-used-test.false c.loop-used.invariant
