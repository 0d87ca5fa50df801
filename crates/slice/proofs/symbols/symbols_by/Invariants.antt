use Rattle.std.proofs.Common.{◌≡◌, take}
use Rattle.std.specs.List.{filter_map}
use Rattle.slice.specs.Steps.{symbol_by}
use Rattle.slice.proofs.symbols.symbols_by.Given as goal

abbrev pub invariant-loop-symbol : goal.invariant-loop-symbol
invariant-loop-symbol l = l.left ≡ filter_map (symbol_by l.places) (take l.symbol-index l.symbols)
