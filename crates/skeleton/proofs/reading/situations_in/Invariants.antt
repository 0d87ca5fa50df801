use Rattle.std.proofs.Common.{◌≡◌, ◌++◌, ◌-◌, ◌*◌, ◌^◌, ◌≤◌}
use Rattle.cdcl.specs.Asking.{assigned}
use Rattle.cnf_unroll.specs.Situations.{situations_in}
use Rattle.skeleton.proofs.reading.situations_in.Given as goal

abbrev pub invariant-loop-block : goal.invariant-loop-block
invariant-loop-block l = record {
  situations : l.situations ++ situations_in l.c l.base (l.count - l._block) (assigned l.solver.values) ≡ situations_in l.c 0 l.count (assigned l.solver.values);
  small : l.base ≤ l._block * 2 ^ 26;
}
