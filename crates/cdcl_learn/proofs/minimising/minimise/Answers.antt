use Rattle.std.proofs.Common.{arith}
use Rattle.cdcl_learn.proofs.minimising.minimise.Goals as goal

pub minimise_at-requires-clause-place : goal.minimise_at-requires-clause-place
minimise_at-requires-clause-place c = omega (arith, c.in-Some.ensures, c.back.invariant.below, c.requires.start)

pub back-preserved : goal.back-preserved
back-preserved c = record {
  point = c.in_ok-minimise_at.ensures.point c.args.start (omega (arith, c.in-Some.ensures, c.back.invariant.below)) c.back.invariant.point;
  long = c.minimise_at.ensures.long;
  below = omega (arith, c.in-Some.ensures, c.back.invariant.below);
}
