use Rattle.std.proofs.Common.{get_or, ◌∙◌}
use Rattle.cdcl_log.proofs.PuttingLaws.{code_reached}
use Rattle.cdcl_log.proofs.writing.Writing.put_needed.Goals as goal

pub loop-place-preserved : goal.loop-place-preserved
loop-place-preserved c =
    code_reached c.args.log.now c.args.units.now c.loop-place.self c.visit.new.self (get_or c.as_slice-place-items.result.now c.loop-place.place-index 0) c.as_slice-clauses.result.now
    c.sources-sources.result.now c.index-clauses-place.result c.as_slice-held.result.now c.index-sources-place.result c.requires.log c.requires.units
    (c.as_slice-clauses.ensures ∙ c.clauses.ensures) c.sources-sources.ensures c.if-place-clauses.false c.index-clauses-place.is c.as_slice-held.ensures
    c.index-sources-place.is c.in_ok-visit.ensures c.loop-place.invariant
