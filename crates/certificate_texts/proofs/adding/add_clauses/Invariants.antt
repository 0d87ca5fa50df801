use Rattle.std.proofs.Common.{map, take}
use Rattle.certificate_lines.specs.Clauses.{clause_text}
use Rattle.certificate_texts.specs.Adding.{Adds}
use Rattle.certificate_texts.specs.Writing.{literal_in_model}
use Rattle.certificate_texts.proofs.adding.add_clauses.Given as goal

abbrev pub invariant-loop-clause : goal.invariant-loop-clause
invariant-loop-clause l =
    Adds l.initial.text.items l.text.items (map clause_text (map (map (literal_in_model l.c)) (take l.clause-index l.clauses)))
