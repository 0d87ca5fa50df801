use Rattle.std.proofs.Common.{refl}
use Rattle.fair_workers.proofs.WorkerKinds.{one-number}
use Rattle.fair_workers.proofs.working.lasso_worker.Goals as goal

pub returns-clause-begins : goal.returns-clause-begins
returns-clause-begins c = record {
  rounds = refl;
  kind = (c.requires.number, refl);
  begins = (refl, refl, refl, one-number c.args.properties.now _ c.requires.one);
}
