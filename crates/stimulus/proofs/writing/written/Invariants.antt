use Rattle.std.proofs.Common.{◌≡◌, ◌++◌, take}
use Rattle.std.specs.List.{flat_map}
use Rattle.stimulus.specs.Texts.{line_of}
use Rattle.stimulus.proofs.writing.written.Given as goal

abbrev pub invariant-loop-values : goal.invariant-loop-values
invariant-loop-values l = l.text.items ≡ l.initial.text.items ++ flat_map line_of (take l.values-index l.values-items)
