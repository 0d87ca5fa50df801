use Rattle.std.proofs.Common.{flat_map, take}
use Rattle.certificate_texts.specs.Certificates.{proof_lines}
use Rattle.certificate_texts.specs.Adding.{Adds}
use Rattle.certificate_texts.proofs.adding.add_proofs.Given as goal

abbrev pub invariant-loop-proof : goal.invariant-loop-proof
invariant-loop-proof l = Adds l.initial.text.items l.text.items (flat_map proof_lines (take l.proof-index l.proofs))
