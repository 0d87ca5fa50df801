use Rattle.std.proofs.Common.{take, sym, subst, arith}
use Rattle.std.proofs.lemmas.List.{length-map}
use Rattle.entry.specs.CheckedEntries.{entry_in, viewed}
use Rattle.ic3_loops.specs.Lifting.{IsBreaking}
use Rattle.ic3_loops.proofs.Broken.{breaking-first, breaking-more, breaking-all, viewed-at}
use Rattle.ic3_loops.proofs.ending.breaking.Goals as goal

pub loop-entry-init : goal.loop-entry-init
loop-entry-init c =
    subst (IsBreaking (take 0 (viewed c.args.view.now)) c.args.state.now) (sym c.new-cube.ensures)
    (breaking-first (viewed c.args.view.now) c.args.state.now)

pub loop-entry-preserved : goal.loop-entry-preserved
loop-entry-preserved c =
    breaking-more (viewed c.args.view.now) c.args.state.now c.loop-entry.cube c.put_broken_of.new.cube c.loop-entry.entry-index
    (entry_in c.entry-item.result) (omega (arith, length-map c.args.view.now entry_in, c.loop-entry-test.true))
    (viewed-at c.args.view.now c.loop-entry.entry-index c.entry-item.result c.loop-entry-test.true c.entry-item.is)
    c.loop-entry.invariant c.in_ok-put_broken_of.ensures

pub returns : goal.returns
returns c =
    breaking-all (viewed c.args.view.now) c.args.state.now c.loop-entry.cube c.loop-entry.entry-index
    (omega (arith, length-map c.args.view.now entry_in, c.loop-entry-test.false)) c.loop-entry.invariant
