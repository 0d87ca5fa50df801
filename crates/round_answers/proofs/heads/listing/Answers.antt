use Rattle.std.proofs.Common.{◌≡◌, ◌≤◌, ◌∙◌, length, sym, subst}
use Rattle.aig_semantics.specs.Circuits.{Circuit}
use Rattle.round_monitor.specs.Monitor.{monitor_circuit}
use Rattle.round_answers.proofs.Variables.{has_latch}
use Rattle.round_answers.proofs.heads.listing.Goals as goal

pub last_latch-requires : goal.last_latch-requires
last_latch-requires c =
    let e : c.circuit-t.result.now ≡ monitor_circuit c.args._circuit.now c.args.asked.property c.args.asked.k = c.circuit-t.ensures.circuit ∙ c.requires.circuit in
    subst (λ (t : Circuit). 1 ≤ length t.latches) (sym e) (has_latch c.args._circuit.now c.args.asked.property c.args.asked.k c.requires.asked.some)
