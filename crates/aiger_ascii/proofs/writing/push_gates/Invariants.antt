use Rattle.std.proofs.Common.{◌≡◌, ◌++◌, take}
use Rattle.std.specs.List.{flat_map}
use Rattle.aiger_grammar.specs.Spelling.{gate_line}
use Rattle.aiger_ascii.proofs.writing.push_gates.Given as goal

abbrev pub invariant-loop-gate : goal.invariant-loop-gate
invariant-loop-gate l = l.out.items ≡ l.fn.out.items ++ flat_map gate_line (take l.gate-index l.gates)
