use Rattle.std.proofs.Common.{sym, subst, arith}
use Rattle.cone.specs.Finding.{IsTable}
use Rattle.cone.proofs.TableLaws.{written-back}
use Rattle.cone.proofs.tables.table_of.Goals as goal

pub returns : goal.returns
returns c = λ j.
    subst (λ t. IsTable c.args.c.now j t)
    (sym (written-back c.in_ok-table.table.len c.fill.new.table c.in_ok-table.table.items
    (omega (arith, c.in_ok-table.table.ok.0))
    (omega (arith, c.fill.ensures.size, c.in_ok-table.ensures.len, c.max.ensures.value))))
    (c.fill.ensures.table j)
