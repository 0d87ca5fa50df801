use Rattle.std.proofs.Common.{◌≡◌, ◌++◌, take, map}
use Rattle.proof_semantics.specs.Lines.{signed_text}
use Rattle.cdcl_log.specs.IdsOf.{id_in}
use Rattle.cdcl_log.specs.Writing.{spaced_fields, hint_by}
use Rattle.cdcl_log.proofs.spelling.push_hints.Given as goal

abbrev pub invariant-loop-hint : goal.invariant-loop-hint
invariant-loop-hint l = l.out.items ≡ l.initial.out.items ++ spaced_fields (map signed_text (map (hint_by (id_in l.ids)) (take l.hint-index l.hints)))
