use Rattle.std.proofs.Common.{map, take}
use Rattle.stimulus.specs.Texts.{digit_of}
use Rattle.certificate_texts.specs.Adding.{Adds}
use Rattle.sheet_answers.proofs.writing.push_rows.Given as goal

abbrev pub invariant-loop-values : goal.invariant-loop-values
invariant-loop-values l = Adds l.initial.text.items l.text.items (map (map digit_of) (take l.values-index l.rows))
