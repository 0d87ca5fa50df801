use Rattle.entry.specs.Listing.{entries_of}
use Rattle.entry.proofs.Verdicts.{good_exactly}
use Rattle.entry.proofs.refutations.refutation_fault.Goals as goal

pub returns-clause-good : goal.returns-clause-good
returns-clause-good c =
    good_exactly c.args.c.now (entries_of c.args.list.now) c.args.j c.args.r.now.uses c.args.r.now.proof c.first_fault.result c.first_fault.ensures
