use Rattle.std.proofs.Common.{◌≡◌, drop}
use Rattle.cnf_unroll.specs.Lending.{lent_all}
use Rattle.cert_tools.specs.Exporting.{behind_uses}
use Rattle.cert_tools.proofs.numbering.behind_uses.Given as goal

abbrev pub invariant-loop-used : goal.invariant-loop-used
invariant-loop-used l = behind_uses l.places l.next (lent_all (drop l.used-index l.uses)) ≡ behind_uses l.places l.free (lent_all l.uses)
