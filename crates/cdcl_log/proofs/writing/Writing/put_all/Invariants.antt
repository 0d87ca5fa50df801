use Rattle.cdcl_log.specs.WithUnits.{with_units}
use Rattle.cdcl_log.specs.WritingOf.{HasAllIds, IsPartialProofIn}
use Rattle.cdcl_log.proofs.writing.Writing.put_all.Given as goal

abbrev pub invariant-loop-place : goal.invariant-loop-place
invariant-loop-place l = record {
  written : IsPartialProofIn (with_units l.log l.units) l.self;
  all : HasAllIds l.place l.self;
}
