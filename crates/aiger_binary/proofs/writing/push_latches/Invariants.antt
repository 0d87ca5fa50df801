use Rattle.std.proofs.Common.{◌≡◌, ◌++◌, take}
use Rattle.std.specs.List.{flat_map}
use Rattle.aiger_grammar.specs.Spelling.{next_line}
use Rattle.aiger_binary.proofs.writing.push_latches.Given as goal

abbrev pub invariant-loop-latch : goal.invariant-loop-latch
invariant-loop-latch l = l.out.items ≡ l.fn.out.items ++ flat_map next_line (take l.latch-index l.latches)
