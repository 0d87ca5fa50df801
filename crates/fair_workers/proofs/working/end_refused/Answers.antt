use Rattle.std.proofs.Common.{refl}
use Rattle.fair_workers.specs.declared.working.Phase.TheVariants.{Refused}
use Rattle.fair_workers.proofs.Turned.{stop-turn}
use Rattle.fair_workers.proofs.working.end_refused.Goals as goal

pub returns-clause-turns : goal.returns-clause-turns
returns-clause-turns g c =
    stop-turn (g.L.SharedList.known c.args.shared.now) c.args.worker.now Refused c.requires.worker c.requires.running refl refl tt
