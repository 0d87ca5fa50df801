use Rattle.circuit.proofs.Marking.{definitions-in_turn}
use Rattle.circuit.proofs.marks.mark_definitions.Goals as goal

pub returns : goal.returns
returns c =
    definitions-in_turn c.args.parts.now _ _ _ _
    (rw c.as_slice.ensures at c.define_inputs.ensures)
    (rw c.as_slice-2.ensures at c.define_latches.ensures)
    (rw c.as_slice-3.ensures at c.define_gates.ensures)
