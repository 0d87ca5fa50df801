use Rattle.std.proofs.Common.{◌≡◌, ◌++◌, take, length, map}
use Rattle.aiger_grammar.specs.Spelling.{number_lines}
use Rattle.aiger_names.proofs.writing.push_sizes.Given as goal

abbrev pub invariant-loop-j : goal.invariant-loop-j
invariant-loop-j l = l.out.items ≡ l.fn.out.items ++ number_lines (map length (take l.j l.circuit.justice))
