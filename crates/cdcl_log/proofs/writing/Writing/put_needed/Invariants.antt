use Rattle.cdcl_log.specs.WithUnits.{with_units}
use Rattle.cdcl_log.specs.WritingOf.{IsPartialProofIn}
use Rattle.cdcl_log.proofs.writing.Writing.put_needed.Given as goal

abbrev pub invariant-loop-place : goal.invariant-loop-place
invariant-loop-place l = IsPartialProofIn (with_units l.log l.units) l.self
