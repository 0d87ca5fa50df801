use Rattle.std.proofs.Common.{◌∙◌}
use Rattle.aiger_binary.proofs.TextLaws.{one_variable_more}
use Rattle.aiger_binary.proofs.reading.variables.Goals as goal

pub loop-k-preserved : goal.loop-k-preserved
loop-k-preserved c = c.in_ok-push.ensures.ok ∙ one_variable_more c.loop-k.variables c.loop-k.k c.loop-k.invariant
