use Rattle.std.proofs.Common.{map, take}
use Rattle.certificate_lines.specs.Clauses.{clause_text}
use Rattle.certificate_texts.specs.Adding.{Adds}
use Rattle.certificate_texts.proofs.printing.add_literals.Given as goal

abbrev pub invariant-loop-literals : goal.invariant-loop-literals
invariant-loop-literals l = Adds l.initial.text.items l.text.items (map clause_text (take l.literals-index l.clauses))
