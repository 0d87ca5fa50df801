use Rattle.std.proofs.Common.{sym, ◌∙◌}
use Rattle.circuit_tests.proofs.Seen.{leads-more}
use Rattle.circuit_tests.proofs.fitting.check_way.Goals as goal

pub loop-p-preserved : goal.loop-p-preserved
loop-p-preserved c =
    let same = sym c.as_slice.ensures ∙ c.in_ok-check_same.ensures ∙ c.as_slice-in-loop-p.ensures in
    leads-more c.args.c.now c.args.from.now c.loop-p.state c.in_ok-state-2.state c.args.positions.now c.loop-p.p-index c.p-item.result
    c.loop-p.invariant c.loop-p-test.true c.p-item.is same c.in_ok-state-2.ensures.possible c.in_ok-state-2.ensures.next
