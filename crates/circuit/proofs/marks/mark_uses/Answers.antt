use Rattle.circuit.proofs.Marking.{uses-in_turn}
use Rattle.circuit.proofs.marks.mark_uses.Goals as goal

pub returns : goal.returns
returns c =
    uses-in_turn c.args.parts.now _ _ _ _ _ _ _ _
    (rw c.as_slice.ensures at c.use_latches.ensures)
    (rw c.as_slice-2.ensures at c.use_gates.ensures)
    (rw c.as_slice-3.ensures at c.use_literals.ensures)
    (rw c.as_slice-4.ensures at c.use_properties.ensures)
    (rw c.as_slice-5.ensures at c.use_literals-2.ensures)
    (rw c.as_slice-6.ensures at c.use_literals-3.ensures)
    (rw c.as_slice-7.ensures at c.use_literals-4.ensures)
