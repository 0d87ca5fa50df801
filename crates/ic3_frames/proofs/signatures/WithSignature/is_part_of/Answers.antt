use Rattle.std.proofs.Common.{ap, ◌∙◌}
use Rattle.ic3_frames.specs.Signatures.{signature_of}
use Rattle.ic3_frames.proofs.SignatureLaws.{no_part}
use Rattle.ic3_frames.proofs.signatures.WithSignature.is_part_of.Goals as goal

pub returns-else-self-other : goal.returns-else-self-other
returns-else-self-other c =
    no_part c.args.self.now c.args.other.now c.self.inside.signature c.other.inside.signature (c.self.invariant ∙ ap signature_of c.self.view_is)
    (c.other.invariant ∙ ap signature_of c.other.view_is) c.if-self-other.false
