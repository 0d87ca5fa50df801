use Rattle.std.proofs.Common.{take}
use Rattle.certificate.specs.Certificates.{AreClausesOf}
use Rattle.given_entries.proofs.taking.clause_set.Given as goal

abbrev pub invariant-loop-literals : goal.invariant-loop-literals
invariant-loop-literals l = AreClausesOf l.c (take l.literals-index l.clauses) l.set
