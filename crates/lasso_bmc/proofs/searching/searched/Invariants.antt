use Rattle.std.proofs.Common.{◌≡◌}
use Rattle.edge.specs.Ends.{CountsConflicts}
use Rattle.lasso_bmc.specs.Searching.{HasNoneWithin}
use Rattle.lasso_bmc.specs.Growing.{IsGrown}
use Rattle.lasso_bmc.proofs.searching.searched.Given as goal

abbrev pub invariant-loop-last : goal.invariant-loop-last
invariant-loop-last l = record {
  grown : IsGrown l.c l.j l.d;
  positions : l.d.positions ≡ l.last;
  none : HasNoneWithin l.c l.j l.last;
  counted : CountsConflicts l.initial.meter l.meter;
}
