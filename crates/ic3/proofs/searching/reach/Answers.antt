use Rattle.std.proofs.Common.{length, sym, subst}
use Rattle.entry.specs.CheckedEntries.{viewed}
use Rattle.ic3_semantics.specs.Searching.{Question}
use Rattle.ic3_loops.specs.Resuming.{MayGoOn}
use Rattle.ic3.proofs.GoingOn.{none_open, counts_first}
use Rattle.ic3.proofs.searching.reach.Goals as goal

pub reach_on-requires-clause-open : goal.reach_on-requires-clause-open
reach_on-requires-clause-open c =
    let q : Question = record { circuit = c.args.c.now; view = viewed c.args.view.now; start = c.args.start.now } in
    subst (MayGoOn q c.in_ok-starts.starts) (sym c.new-frames.ensures) (none_open q c.in_ok-starts.starts)

pub returns-clause-counted : goal.returns-clause-counted
returns-clause-counted c =
    counts_first (length c.args.c.now.latches) c.new-frames.result c.args.meter.now c.reach_on.new.meter c.new-frames.ensures c.reach_on.ensures.counted
