use Rattle.std.proofs.Common.{◌++◌, sym, ap}
use Rattle.entry.specs.CheckedEntries.{viewed}
use Rattle.entry_tests.proofs.asking.answers_are.Goals as goal

pub query_answers-told-requires-clause-on : goal.query_answers-told-requires-clause-on
query_answers-told-requires-clause-on c =
    (viewed c.args.view.now, ap (λ query. query.seen ++ viewed c.args.view.now) (sym c.in_ok-query.ensures))
