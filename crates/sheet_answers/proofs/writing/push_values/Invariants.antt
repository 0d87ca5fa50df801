use Rattle.std.proofs.Common.{◌≡◌, ◌++◌, map, take}
use Rattle.stimulus.specs.Texts.{digit_of}
use Rattle.sheet_answers.proofs.writing.push_values.Given as goal

abbrev pub invariant-loop-value : goal.invariant-loop-value
invariant-loop-value l = l.text.items ≡ l.initial.text.items ++ map digit_of (take l.value-index l.values)
