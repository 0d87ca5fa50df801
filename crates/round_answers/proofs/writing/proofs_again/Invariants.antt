use Rattle.std.proofs.Common.{◌≡◌, take}
use Rattle.round_answers.proofs.writing.proofs_again.Given as goal

abbrev pub invariant-loop-proof : goal.invariant-loop-proof
invariant-loop-proof l = l.copy ≡ take l.proof-index l.proof-items
