use Rattle.std.proofs.Common.{◌≡◌}
use Rattle.lasso_bmc.specs.Growing.{IsGrown}
use Rattle.lasso_bmc.proofs.searching.grow_to.Given as goal

abbrev pub invariant-loop-length : goal.invariant-loop-length
invariant-loop-length l = record {
  grown : IsGrown l.c l.j l.d;
  positions : l.d.positions ≡ l._length;
}
