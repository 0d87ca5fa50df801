use Rattle.std.proofs.Common.{sym, ◌∙◌}
use Rattle.circuit.specs.Sections.{circuit_of}
use Rattle.circuit.proofs.Searching.{goes-on_begun, goes-on_closed, goes-round, number-below, begun-nearer, closed-nearer}
use Rattle.circuit.proofs.ordering.Search.finish.Goals as goal

pub loop-gate-preserved-in-Continue-1 : goal.loop-gate-preserved-in-Continue-1
loop-gate-preserved-in-Continue-1 c =
    goes-on_begun (circuit_of c.args.parts.now) c.args.self.now.progress.items c.loop-gate.self.progress.items c.loop-gate.self.path.items c.loop-gate.self.order.items
    c.in-Some.gate c.loop-gate.invariant (rw c.deref.ensures.value at (sym c.last.ensures.value ∙ (sym c.copied.ensures ∙ c.in-Some.is)))
    c.in-Begin.k _ c.in-Begin.ensures
    c.begin.new.self.progress.items c.begin.new.self.path.items c.begin.new.self.order.items
    (rw c.as_slice-gates.ensures at c.in_ok-begin-in-Begin.ensures.progress)
    (rw c.as_slice-gates.ensures at c.in_ok-begin-in-Begin.ensures.path)
    c.in_ok-begin-in-Begin.ensures.order

pub loop-gate-preserved : goal.loop-gate-preserved
loop-gate-preserved c =
    goes-on_closed (circuit_of c.args.parts.now) c.args.self.now.progress.items c.loop-gate.self.progress.items c.loop-gate.self.path.items c.loop-gate.self.order.items
    c.in-Some.gate c.loop-gate.invariant (rw c.deref.ensures.value at (sym c.last.ensures.value ∙ (sym c.copied.ensures ∙ c.in-Some.is)))
    c.in-Close.ensures
    c.close.new.self.progress.items c.close.new.self.path.items c.close.new.self.order.items
    c.in_ok-close-in-Close.ensures.progress c.in_ok-close-in-Close.ensures.path c.in_ok-close-in-Close.ensures.order

pub returns-in-Cycle-clause-cycle : goal.returns-in-Cycle-clause-cycle
returns-in-Cycle-clause-cycle c =
    goes-round (circuit_of c.args.parts.now) c.args.self.now.progress.items c.loop-gate.self.progress.items c.loop-gate.self.path.items c.loop-gate.self.order.items
    c.in-Some.gate c.loop-gate.invariant (rw c.deref.ensures.value at (sym c.last.ensures.value ∙ (sym c.copied.ensures ∙ c.in-Some.is)))
    c.in-Cycle.v c.in-Cycle.ensures

pub bounds-gates-k : goal.bounds-gates-k
bounds-gates-k c =
    rw c.as_slice-gates.ensures (number-below (circuit_of c.args.parts.now) c.args.self.now.progress.items c.loop-gate.self.progress.items
    c.loop-gate.self.path.items c.loop-gate.self.order.items c.in-Some.gate c.loop-gate.invariant
    (rw c.deref.ensures.value at (sym c.last.ensures.value ∙ (sym c.copied.ensures ∙ c.in-Some.is))) c.in-Begin.k c.in-Begin.ensures)

pub loop-gate-smaller-in-Continue-1 : goal.loop-gate-smaller-in-Continue-1
loop-gate-smaller-in-Continue-1 c =
    begun-nearer (circuit_of c.args.parts.now) c.args.self.now.progress.items c.loop-gate.self.progress.items
    c.loop-gate.self.path.items c.loop-gate.self.order.items c.in-Some.gate c.loop-gate.invariant
    (rw c.deref.ensures.value at (sym c.last.ensures.value ∙ (sym c.copied.ensures ∙ c.in-Some.is))) c.in-Begin.k _ c.in-Begin.ensures
    c.begin.new.self.progress.items (rw c.as_slice-gates.ensures at c.in_ok-begin-in-Begin.ensures.progress)

pub loop-gate-smaller : goal.loop-gate-smaller
loop-gate-smaller c =
    closed-nearer (circuit_of c.args.parts.now) c.args.self.now.progress.items c.loop-gate.self.progress.items
    c.loop-gate.self.path.items c.loop-gate.self.order.items c.in-Some.gate c.loop-gate.invariant
    (rw c.deref.ensures.value at (sym c.last.ensures.value ∙ (sym c.copied.ensures ∙ c.in-Some.is))) c.in-Close.ensures
    c.close.new.self.progress.items c.in_ok-close-in-Close.ensures.progress
