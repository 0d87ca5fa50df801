use Rattle.entry.specs.Listing.{entries_of}
use Rattle.entry.specs.Proved.{IsProved}
use Rattle.entry.specs.Faults.{first_fault}
use Rattle.entry.specs.Entries.{said}
use Rattle.entry.proofs.Faultless.{faultless_is_proved}
use Rattle.entry.proofs.Verdicts.{ok_exactly}
use Rattle.entry.proofs.entries.check_entry.Goals as goal

pub returns-clause-proved : goal.returns-clause-proved
returns-clause-proved c over =
    let list = entries_of c.args.list.now in
    let e = said c.args.e.now in
    let proofs = c.args.e.now.proofs in
    ok_exactly c.judge_entry.result (first_fault c.args.c.now list e proofs) (IsProved c.args.c.now list e proofs) c.judge_entry.ensures
    (faultless_is_proved c.args.c.now list e proofs over c.requires)
