use Rattle.std.proofs.Common.{rules}
use Rattle.fair_round.specs.Scopes.{entries_of}
use Rattle.fair_round.proofs.Steps.{way-part}
use Rattle.fair_round.proofs.seeking.close_loop.Goals as goal

pub joined-requires-clause-closing : goal.joined-requires-clause-closing
joined-requires-clause-closing c =
    way-part c.args.scope.now.circuit.now (entries_of c.args.scope.now) c.args.situations.items c.as_slice.result.now c.in_ok-last.field-0 c.in-Open.last
    c.as_slice.ensures.value c.in-Open.is c.in_ok-last.ensures.way

pub returns-in_err-last : goal.returns-in_err-last
returns-in_err-last c =
    record { sought = search rules; stop = search rules; counted = c.closing.ensures.counted; same = search rules }

pub returns-in_err-lasso-in-Open : goal.returns-in_err-lasso-in-Open
returns-in_err-lasso-in-Open c =
    record { sought = search rules; stop = search rules; counted = c.closing.ensures.counted; same = search rules }

pub returns-in_ok-lasso-in-Open : goal.returns-in_ok-lasso-in-Open
returns-in_ok-lasso-in-Open c =
    record { sought = search rules; stop = search rules; counted = c.closing.ensures.counted; same = search rules }

pub returns-in_err-keep_run-in-Barred : goal.returns-in_err-keep_run-in-Barred
returns-in_err-keep_run-in-Barred c =
    record { sought = search rules; stop = search rules; counted = c.closing.ensures.counted; same = search rules }

pub returns-in_ok-keep_run-in-Barred : goal.returns-in_ok-keep_run-in-Barred
returns-in_ok-keep_run-in-Barred c =
    record { sought = search rules; stop = search rules; counted = c.closing.ensures.counted; same = search rules }
