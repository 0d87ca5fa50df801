use Rattle.std.proofs.Common.{◌≡◌, ◌++◌, map, take}
use Rattle.text_grammar.specs.Lines.{ended_lines}
use Rattle.waves.specs.Dumps.{value_line}
use Rattle.waves.proofs.dumps.push_values.Given as goal

abbrev pub invariant-loop-signal : goal.invariant-loop-signal
invariant-loop-signal l = l.out.items ≡ l.fn.out.items ++ ended_lines (map (value_line l.values l.looping) (take l.signal-index l.signals))
