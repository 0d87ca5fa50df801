use Rattle.std.proofs.Common.{◌≡◌, map, take}
use Rattle.certificate_texts.specs.Writing.{literal_in_model}
use Rattle.certificate_texts.proofs.adding.literals_in_model.Given as goal

abbrev pub invariant-loop-literal : goal.invariant-loop-literal
invariant-loop-literal l = l.literals.items ≡ map (literal_in_model l.c) (take l.literal-index l.clause)
