use Rattle.circuit.specs.Sections.{circuit_of}
use Rattle.circuit.proofs.Tables.{visits-more, visits-all}
use Rattle.circuit.proofs.ordering.search_order.Goals as goal

pub loop-gate-preserved : goal.loop-gate-preserved
loop-gate-preserved c = (
  rw c.in_default.is at c.in_ok-v.ensures.search,
  rw c.in_default.is at c.in_ok-v.ensures.path,
  visits-more c.args.parts.now.gates c.as_slice-gate-items.result.now c.as_slice-gate-items.ensures
      c.loop-gate.search.progress.items c.visit.new.self.progress.items c.loop-gate.gate-index _
      c.in_ok-v.ensures.begun c.in_ok-v.ensures.visited c.loop-gate-test.true c.loop-gate.invariant.2,
)

pub returns : goal.returns
returns c =
    visits-all (circuit_of c.args.parts.now) c.as_slice-gate-items.result.now c.as_slice-gate-items.ensures
    c.loop-gate.search.progress.items c.loop-gate.search.order.items c.loop-gate.gate-index c.loop-gate-test.false
    c.loop-gate.invariant.0 c.loop-gate.invariant.2
