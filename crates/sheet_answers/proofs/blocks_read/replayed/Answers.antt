use Rattle.std.proofs.Common.{refl}
use Rattle.entry.specs.Listing.{entries_of}
use Rattle.sheet_answers.proofs.LineSteps.{replay_fault}
use Rattle.sheet_answers.proofs.blocks_read.replayed.Goals as goal

pub returns-in-Err-Fault : goal.returns-in-Err-Fault
returns-in-Err-Fault c replays are =
    let facts = rw c.in-Err-Fault.field-0-is at c.in-Err-Fault.ensures in
    rw c.in-Err-Fault.field-0-is (replay_fault c.args.circuit.now c.args.t (entries_of c.args.body.list) c.args.n c.args.stimulus.now c.in-Err-Fault.fault (replays c.args.n c.args.stimulus.now)
    ((facts.fault c.in-Err-Fault.fault).only refl) (λ other. (facts.fault other).whenever) (are c.args.n c.args.stimulus.now))
