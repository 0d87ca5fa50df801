use Rattle.std.proofs.Common.{◌≡◌, ◌++◌, take}
use Rattle.std.specs.List.{flat_map}
use Rattle.aiger_grammar.specs.Spelling.{number_lines}
use Rattle.aiger_names.proofs.writing.push_property_literals.Given as goal

abbrev pub invariant-loop-j : goal.invariant-loop-j
invariant-loop-j l = l.out.items ≡ l.fn.out.items ++ number_lines (flat_map (λ property. property) (take l.j l.circuit.justice))
