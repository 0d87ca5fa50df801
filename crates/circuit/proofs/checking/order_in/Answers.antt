use Rattle.std.proofs.Common.{inl, inr, refl}
use Rattle.circuit.proofs.checking.order_in.Goals as goal

pub returns-in-Some : goal.returns-in-Some
returns-in-Some c = inl (rw c.in-Some.is at c.in_ok-fault.ensures)

pub returns-in-Order : goal.returns-in-Order
returns-in-Order c = (rw c.in_default.is at c.in_ok-fault.ensures, rw c.in-Order.is at c.in_ok-order.ensures)

pub returns-in-Cycle : goal.returns-in-Cycle
returns-in-Cycle c = inr (
  c.in-Cycle.v,
  refl,
  record {
    defined = rw c.in_default.is at c.in_ok-fault.ensures;
    cycle = rw c.in-Cycle.is at c.in_ok-order.ensures;
  },
)
