use Rattle.std.proofs.Common.{◌≡◌, ◌↔◌, List, true, take}
use Rattle.proof_semantics.specs.Clauses.{is_part}
use Rattle.proof_semantics.specs.declared.literals.Lit.{Lit}
use Rattle.edge.specs.Ends.{CountsConflicts}
use Rattle.ic3_generalise.specs.Generalising.{EachIsNeeded}
use Rattle.ic3_generalise.proofs.generalising.generalise.Given as goal

abbrev pub invariant-loop-literal : goal.invariant-loop-literal
invariant-loop-literal g l = record {
  part : is_part l.answer l.fn.cube ≡ true;
  passing : g.A.Asker.passes l.fn.asker l.answer;
  needed : EachIsNeeded (g.A.Asker.passes l.fn.asker) l.fn.cube (take l.literal-index l.order) l.answer;
  kept : (c : List Lit) → g.A.Asker.passes l.asker c ↔ g.A.Asker.passes l.fn.asker c;
  left : g.A.Asker.leaves l.fn.asker l.asker;
  counted : CountsConflicts l.fn.meter l.meter;
}
