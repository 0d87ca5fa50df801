use Rattle.ternary.proofs.LanesWritten.{in_lane-gate}
use Rattle.ternary.proofs.simulating.put_gate_lanes.Goals as goal

pub returns : goal.returns
returns c = λ k below. in_lane-gate k c.args.out.now c.args.gate.now c.gate_lanes-lanes.result (c.gate_lanes-lanes.ensures k below)
