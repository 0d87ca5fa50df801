use Rattle.std.proofs.Common.{◌++◌}
use Rattle.cdcl_log.specs.UnitClauses.{unit_clauses}
use Rattle.cdcl_log.proofs.PuttingLaws.{ready_all}
use Rattle.cdcl_log.proofs.writing.Writing.complete.Goals as goal

pub returns-clause-ready : goal.returns-clause-ready
returns-clause-ready c =
    ready_all (c.args.log.now.clauses ++ unit_clauses c.args.units.now) c.put_all.new.self c.args.hints.now c.in_ok-put_all.ensures.all c.requires.named
