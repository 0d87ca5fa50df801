use Rattle.std.proofs.Common.{length, ap, arith, ◌∙◌}
use Rattle.cdcl_log.proofs.PuttingLaws.{code_reached, code_more, units_have}
use Rattle.cdcl_log.proofs.writing.Writing.put_all.Goals as goal

pub loop-place-preserved : goal.loop-place-preserved
loop-place-preserved c = record {
  written = code_reached c.args.log.now c.args.units.now c.loop-place.self c.visit.new.self c.loop-place.place c.as_slice-clauses.result.now
      c.sources-sources.result.now c.index-clauses-place.result c.as_slice.result.now c.index-sources-place.result c.requires.log c.requires.units
      (c.as_slice-clauses.ensures ∙ c.clauses.ensures) c.sources-sources.ensures c.loop-place-test.true c.index-clauses-place.is c.as_slice.ensures
      c.index-sources-place.is c.in_ok-visit.ensures c.loop-place.invariant.written;
  all = code_more c.args.log.now c.args.units.now c.loop-place.self c.visit.new.self c.loop-place.place c.as_slice-clauses.result.now
      c.sources-sources.result.now c.index-clauses-place.result c.as_slice.result.now c.index-sources-place.result c.requires.log
      (c.as_slice-clauses.ensures ∙ c.clauses.ensures) c.sources-sources.ensures c.loop-place-test.true c.index-clauses-place.is c.as_slice.ensures
      c.index-sources-place.is c.in_ok-visit.ensures c.loop-place.invariant.written c.loop-place.invariant.all;
}

pub returns-clause-all : goal.returns-clause-all
returns-clause-all c =
    units_have c.args.log.now c.args.units.now c.loop-place.self c.loop-place.place c.requires.log
    (omega (arith, c.loop-place-test.false, ap length (c.as_slice-clauses.ensures ∙ c.clauses.ensures))) c.loop-place.invariant.written c.loop-place.invariant.all
