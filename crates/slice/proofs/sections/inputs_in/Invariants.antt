use Rattle.std.proofs.Common.{◌≡◌, take}
use Rattle.std.specs.List.{filter}
use Rattle.aig_semantics.specs.Literals.{variable_in}
use Rattle.slice.proofs.sections.inputs_in.Given as goal

abbrev pub invariant-loop-input : goal.invariant-loop-input
invariant-loop-input l = l.kept ≡ filter (variable_in l.cone) (take l.input-index l.inputs)
