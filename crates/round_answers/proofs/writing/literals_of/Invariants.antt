use Rattle.std.proofs.Common.{◌≡◌, map, take}
use Rattle.certificate_texts.specs.Writing.{literal_in_model}
use Rattle.round_answers.proofs.writing.literals_of.Given as goal

abbrev pub invariant-loop-literal : goal.invariant-loop-literal
invariant-loop-literal l = l.literals ≡ map (literal_in_model l.t) (take l.literal-index l.literal-items)
