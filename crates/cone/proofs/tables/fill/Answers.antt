use Rattle.std.proofs.Common.{length, ap, ◌∙◌}
use Rattle.cone.proofs.TableLaws.{latches-within, gates-within, length-with_latches, length-with_gates, is-table-by, length-first}
use Rattle.cone.proofs.tables.fill.Goals as goal

pub put_latches-requires : goal.put_latches-requires
put_latches-requires c =
    latches-within c.args.c.now c.max-limits.ensures.checked c.latches.result.now (length c.args.table.now) c.latches.ensures
    (length-first c.args.c.now c.max-limits.ensures.checked c.args.table.now c.requires)

pub put_gates-requires : goal.put_gates-requires
put_gates-requires c =
    gates-within c.args.c.now c.max-limits.ensures.checked c.gates.result.now (length c.put_latches.new.table) c.gates.ensures
    (ap (λ t. length t) c.put_latches.ensures
    ∙ (length-with_latches c.args.table.now c.latches.result.now ∙ length-first c.args.c.now c.max-limits.ensures.checked c.args.table.now c.requires))

pub returns-clause-table : goal.returns-clause-table
returns-clause-table c =
    is-table-by c.args.c.now c.max-limits.ensures.checked c.args.table.now c.put_latches.new.table c.put_gates.new.table c.latches.result.now c.gates.result.now
    c.requires c.latches.ensures c.gates.ensures c.put_latches.ensures c.put_gates.ensures

pub returns-clause-size : goal.returns-clause-size
returns-clause-size c =
    ap (λ t. length t) c.put_gates.ensures
    ∙ (length-with_gates c.put_latches.new.table c.gates.result.now
    ∙ (ap (λ t. length t) c.put_latches.ensures
    ∙ (length-with_latches c.args.table.now c.latches.result.now ∙ length-first c.args.c.now c.max-limits.ensures.checked c.args.table.now c.requires)))
