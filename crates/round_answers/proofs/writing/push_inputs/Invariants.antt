use Rattle.std.proofs.Common.{map, take}
use Rattle.stimulus.specs.Texts.{digit_of}
use Rattle.certificate_texts.specs.Adding.{Adds}
use Rattle.round_answers.proofs.writing.push_inputs.Given as goal

abbrev pub invariant-loop-position : goal.invariant-loop-position
invariant-loop-position l = Adds l.initial.text.items l.text.items (map (λ p. map digit_of p.inputs) (take l.position-index l.run))
