use Rattle.std.proofs.Common.{length}
use Rattle.aiger_names.proofs.Loops.{Goes}
use Rattle.aiger_names.proofs.reading.read_symbols.Given as goal

abbrev pub invariant-loop : goal.invariant-loop
invariant-loop l = Goes l.counts l.total l.bytes l.symbols l.rest (length l.bytes) l.counter
