use Rattle.std.proofs.Common.{take}
use Rattle.waves.specs.Kept.{AreNamesOf}
use Rattle.waves.proofs.symbols.symbol_names.Given as goal

abbrev pub invariant-loop-symbol : goal.invariant-loop-symbol
invariant-loop-symbol l = AreNamesOf (take l.symbol-index l.symbols) l.names
