use Rattle.std.proofs.Common.{take}
use Rattle.certificate_texts.specs.Adding.{Adds}
use Rattle.sheet_answers.specs.Writing.{lines_of_blocks}
use Rattle.sheet_answers.proofs.writing.push_blocks.Given as goal

abbrev pub invariant-loop-n : goal.invariant-loop-n
invariant-loop-n l = Adds l.initial.text.items l.text.items (lines_of_blocks 0 (take l.n l.blocks))
