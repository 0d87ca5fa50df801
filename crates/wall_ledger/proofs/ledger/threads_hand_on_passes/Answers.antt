use denote.Exit.{yes}
use denote.Param.Send.{param_send, arg_send}
use Rattle.wall_ledger.specs.contracts.ledger.Pass as Pass
use Rattle.wall_ledger.proofs.Crossing.{pass_send}
use Rattle.wall_ledger.proofs.ledger.threads_hand_on_passes.Goals as goal

pub send-requires-send-T : goal.send-requires-send-T
send-requires-send-T c κs = param_send _ _ (arg_send _ yes Pass.the_row pass_send)
