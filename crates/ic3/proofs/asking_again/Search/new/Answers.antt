use Rattle.std.proofs.Common.{◌+◌, ◌*◌, ◌^◌, ◌≤◌, length, sym, subst}
use Rattle.std.specs.Arc.{arc_value}
use Rattle.aig_semantics.specs.Circuits.{Circuit}
use Rattle.ic3_frames.specs.Room.{room}
use Rattle.ic3.proofs.GoingOn.{first_left}
use Rattle.ic3.proofs.asking_again.Search.new.Goals as goal

pub returns-clause-left : goal.returns-clause-left
returns-clause-left c =
    let n = length (arc_value c.args.c.now).latches in
    subst (λ (circuit : Circuit). room (length circuit.latches) c.new-2.result ≤ (2 ^ n + 2) * (2 ^ n + 2)) (sym c.in_ok-circuit.ensures)
    (first_left n c.new-2.result c.new-2.ensures)
