use Rattle.circuit.proofs.Following.{all_agree-apart}
use Rattle.circuit.proofs.lassos.all_agree.Goals as goal

pub returns-then-latches-values : goal.returns-then-latches-values
returns-then-latches-values c = all_agree-apart c.args.latches.now c.args.values.now c.if-latches-values.true
