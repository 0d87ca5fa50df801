use Rattle.std.proofs.Common.{◌≡◌, ◌++◌, take, map}
use Rattle.proof_semantics.specs.Lines.{signed_text}
use Rattle.cdcl_log.specs.Writing.{spaced_fields}
use Rattle.cdcl_log.proofs.spelling.push_literals.Given as goal

abbrev pub invariant-loop-literal : goal.invariant-loop-literal
invariant-loop-literal l = l.out.items ≡ l.initial.out.items ++ spaced_fields (map signed_text (take l.literal-index l.literals))
