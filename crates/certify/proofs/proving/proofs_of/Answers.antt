use Rattle.entry.specs.Listing.{entry_of, entries_of}
use Rattle.certify.proofs.Unbroken.{none_broken, proofs_if}
use Rattle.certify.proofs.proving.proofs_of.Goals as goal

pub proofs_by-proofs-requires : goal.proofs_by-proofs-requires
proofs_by-proofs-requires c =
    none_broken c.args.c.now (entries_of c.args.list.now) (entry_of c.args.claim.now) c.in_ok-solver.solver.added c.obligations_tell.ensures c.requires.list c.requires.valid
    c.requires.over c.in_ok-solver.ensures

pub returns-clause-proofs : goal.returns-clause-proofs
returns-clause-proofs c =
    proofs_if c.args.c.now (entries_of c.args.list.now) (entry_of c.args.claim.now) c.in_ok-solver.solver.added c.proofs_by-proofs.result c.in_ok-solver.ensures c.proofs_by-proofs.ensures.proofs
