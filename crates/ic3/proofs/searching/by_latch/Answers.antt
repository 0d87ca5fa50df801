use Rattle.entry.specs.CheckedEntries.{viewed}
use Rattle.ic3_semantics.specs.Searching.{Question}
use Rattle.ic3.proofs.Singles.{kept-none}
use Rattle.ic3.proofs.searching.by_latch.Goals as goal

pub close_by_latch-found-requires-clause-steps : goal.close_by_latch-found-requires-clause-steps
close_by_latch-found-requires-clause-steps c =
    let q : Question = record { circuit = c.args.c.now; view = viewed c.args.view.now; start = c.args.start.now } in
    kept-none q c.avoided.result.now c.in_ok-steps.steps c.in_ok-steps.ensures
