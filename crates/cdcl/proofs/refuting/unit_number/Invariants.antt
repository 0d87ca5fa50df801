use Rattle.std.proofs.Common.{◌≡◌, take, false}
use Rattle.proof_semantics.specs.Clauses.{has_literal}
use Rattle.cdcl.proofs.refuting.unit_number.Given as goal

abbrev pub invariant-loop-place : goal.invariant-loop-place
invariant-loop-place l = has_literal (take l.place l.units) l.literal ≡ false
