use Rattle.stimulus.proofs.FaultLemmas.{never_a_fault}
use Rattle.lasso_bmc.proofs.replaying.replayed.Goals as goal

pub unreachable-requires : goal.unreachable-requires
unreachable-requires c =
    never_a_fault c.replay.result c.in-Err-Fault.field-0 c.in-Err-Fault.field-0-0 c.in-Err-Fault.is c.in-Err-Fault.field-0-is
    (c.replay.ensures.every c.requires.0 c.requires.1.0 c.requires.1.1)
