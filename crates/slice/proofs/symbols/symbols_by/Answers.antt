use Rattle.slice.proofs.Placing.{symbols-more}
use Rattle.slice.proofs.symbols.symbols_by.Goals as goal

pub loop-symbol-preserved : goal.loop-symbol-preserved
loop-symbol-preserved c =
    symbols-more c.args.places.now c.args.symbols.now c.loop-symbol.symbol-index c.loop-symbol.left c.push_left.new.left c.symbol-item.result c.of.result
    c.loop-symbol-test.true c.symbol-item.is c.loop-symbol.invariant c.of.ensures c.in_ok-push_left.ensures
