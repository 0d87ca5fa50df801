use Rattle.std.proofs.Common.{◌≡◌, ◌++◌, map, take}
use Rattle.text_grammar.specs.Lines.{ended_lines}
use Rattle.waves.specs.Dumps.{var_line}
use Rattle.waves.proofs.dumps.push_vars.Given as goal

abbrev pub invariant-loop-signal : goal.invariant-loop-signal
invariant-loop-signal l = l.out.items ≡ l.fn.out.items ++ ended_lines (map var_line (take l.signal-index l.signals))
