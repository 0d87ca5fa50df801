use Rattle.std.proofs.Common.{◌≡◌, take}
use Rattle.cdcl.specs.Searching.{AssumesSome}
use Rattle.cdcl.proofs.SearchLaws.{AreTrueSoFar}
use Rattle.cdcl.proofs.searching.assume_all.Given as goal

abbrev pub invariant-loop-literal : goal.invariant-loop-literal
invariant-loop-literal l = record {
  some : AssumesSome l.assumptions l.initial.trail.steps l.trail.steps;
  so_far : AreTrueSoFar (take l.literal-index l.assumptions) l.trail.steps;
  taken : l.trail.taken ≡ l.initial.trail.taken;
}
