use Rattle.std.proofs.Common.{◌≡◌, ◌++◌, take}
use Rattle.std.specs.List.{flat_map}
use Rattle.aiger_grammar.specs.Spelling.{input_line}
use Rattle.aiger_ascii.proofs.writing.push_inputs.Given as goal

abbrev pub invariant-loop-v : goal.invariant-loop-v
invariant-loop-v l = l.out.items ≡ l.fn.out.items ++ flat_map input_line (take l.v-index l.inputs)
