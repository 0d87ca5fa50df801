use Rattle.std.proofs.Common.{◌≡◌, map, take, Some}
use Rattle.stimulus.specs.Texts.{value_of}
use Rattle.stimulus.proofs.reading.values_of.Given as goal

abbrev pub invariant-loop-character : goal.invariant-loop-character
invariant-loop-character l = map value_of (take l.character-index l.line) ≡ map Some l.values
