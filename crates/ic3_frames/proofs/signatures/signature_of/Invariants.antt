use Rattle.std.proofs.Common.{◌≡◌, drop, bit_or}
use Rattle.ic3_frames.specs.Signatures.{signature_of}
use Rattle.ic3_frames.proofs.signatures.signature_of.Given as goal

abbrev pub invariant-loop-literal : goal.invariant-loop-literal
invariant-loop-literal l = bit_or l.signature (signature_of (drop l.literal-index l.literals)) ≡ signature_of l.literals
