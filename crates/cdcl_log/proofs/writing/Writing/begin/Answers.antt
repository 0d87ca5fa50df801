use Rattle.std.proofs.Common.{◌+◌, length, ap, arith, ◌∙◌}
use Rattle.cdcl_log.specs.Ids.{given_id, ids_from}
use Rattle.cdcl_log.specs.IdsOf.{id_in}
use Rattle.cdcl_log.proofs.PuttingLaws.{begun}
use Rattle.cdcl_log.proofs.writing.Writing.begin.Goals as goal

pub returns : goal.returns
returns c =
    begun c.args.log.now c.args.units.now (id_in c.new.result) c.new-2.result.items (c.added-added.result + length c.args.units.now) c.requires.log c.requires.units
    c.if-units-ge-MOST_CLAUSES.false (omega (arith, c.if-added-ge-MOST_GIVEN.false, c.added-added.ensures))
    (λ n. c.new.ensures n ∙ ap (λ xs. given_id xs c.added-added.result (length c.args.units.now) n) c.ids.ensures
    ∙ ap (λ m. given_id (ids_from 0 c.args.log.now.sources) m (length c.args.units.now) n) c.added-added.ensures)
    c.new-2.ensures.items (ap (λ m. m + length c.args.units.now) c.added-added.ensures)
