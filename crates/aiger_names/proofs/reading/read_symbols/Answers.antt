use Rattle.std.proofs.Common.{length, sym, ◌∙◌}
use Rattle.std.proofs.lemmas.Result.{err_from_is_err_and}
use Rattle.aiger_names.proofs.Loops.{ended, spent, goes_on, ends_so}
use Rattle.aiger_names.proofs.reading.read_symbols.Goals as goal

pub returns-then-symbols_end : goal.returns-then-symbols_end
returns-then-symbols_end c =
    ended c.args.counts.now c.args.total c.args.bytes.now c.loop.symbols c.loop.rest.now (length c.args.bytes.now) c.loop.counter
    (sym c.symbols_end.ensures ∙ c.if-symbols_end.true) c.loop.invariant

pub returns-in_err-symbol : goal.returns-in_err-symbol
returns-in_err-symbol c =
    let p = err_from_is_err_and c.from_residual.result c.from_residual.ensures.1 in
    rw (p.1, p.2)
    (ends_so c.in_err-symbol.field-0.0 c.args.counts.now c.args.total c.args.bytes.now c.loop.symbols c.loop.rest.now (length c.args.bytes.now) c.loop.counter
    c.loop-test.true (sym c.symbols_end.ensures ∙ c.if-symbols_end.false) c.in_err-symbol.ensures c.loop.invariant)

pub loop-preserved : goal.loop-preserved
loop-preserved c =
    rw c.in_ok-push.ensures.ok
    (goes_on c.args.counts.now c.args.total c.args.bytes.now c.loop.symbols c.loop.rest.now (length c.args.bytes.now) c.loop.counter
    c.in_ok-symbol.symbol c.in_ok-symbol.behind.now c.loop-test.true (sym c.symbols_end.ensures ∙ c.if-symbols_end.false) c.in_ok-symbol.ensures c.loop.invariant)

pub returns : goal.returns
returns c =
    spent c.args.counts.now c.args.total c.args.bytes.now c.loop.symbols c.loop.rest.now (length c.args.bytes.now) c.loop.counter
    c.loop-test.false c.loop.invariant
