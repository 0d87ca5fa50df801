use Rattle.std.proofs.Common.{◌≡◌, ◌++◌, take}
use Rattle.waves.specs.Dumps.{digits_of}
use Rattle.waves.proofs.dumps.push_digits.Given as goal

abbrev pub invariant-loop-wire : goal.invariant-loop-wire
invariant-loop-wire l = l.out.items ≡ l.fn.out.items ++ digits_of l.values l.looping (take l.wire-index l.wires)
