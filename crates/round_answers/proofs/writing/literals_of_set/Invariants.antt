use Rattle.std.proofs.Common.{◌≡◌, map, take}
use Rattle.certificate_texts.specs.Writing.{literal_in_model}
use Rattle.round_answers.proofs.writing.literals_of_set.Given as goal

abbrev pub invariant-loop-clause : goal.invariant-loop-clause
invariant-loop-clause l = l.all ≡ map (map (literal_in_model l.t)) (take l.clause-index l.clause-items)
