use Rattle.std.proofs.Common.{sym, subst}
use Rattle.cone.specs.Finding.{IsTable}
use Rattle.cone.proofs.Searches.{begins}
use Rattle.cone.proofs.finding.cone_of.Goals as goal

pub run-requires-clause-table : goal.run-requires-clause-table
run-requires-clause-table c =
    subst (λ t. IsTable c.args.c.now c.args.j t) (sym c.deref.ensures.value) (c.in_ok-table.ensures c.args.j)

pub run-requires-clause-search : goal.run-requires-clause-search
run-requires-clause-search c =
    begins c.args.c.now c.args.j c.deref.result.now c.in_ok-search.search.marks.items c.in_ok-search.search.stack.items c.in_ok-search.ensures.marks
    c.in_ok-search.ensures.stack
