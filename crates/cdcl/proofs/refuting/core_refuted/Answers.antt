use Rattle.std.proofs.Common.{map, ap, ◌∙◌}
use Rattle.proof_semantics.specs.Clauses.{negation}
use Rattle.cdcl.proofs.UnitLaws.{core_refutes}
use Rattle.cdcl.proofs.refuting.core_refuted.Goals as goal

pub refutation-requires-clause-hints : goal.refutation-requires-clause-hints
refutation-requires-clause-hints c =
    core_refutes c.args.log.now.clauses c.args.units.now c.as_slice-2.result.now c.as_slice-3.result.now c.args.traced.now c.requires.apart
    c.requires.refuses (c.as_slice-2.ensures.value ∙ c.in_ok-core.ensures ∙ ap (map negation) c.as_slice.ensures) c.as_slice-3.ensures
