use Rattle.std.proofs.Common.{◌≡◌, ◌++◌, drop}
use Rattle.cnf_unroll.specs.Uses.{marks}
use Rattle.cnf_unroll.proofs.uses.extend_by_marks.Given as goal

abbrev pub invariant-loop-clause : goal.invariant-loop-clause
invariant-loop-clause l = l.out ++ marks l.d (drop l._clause-index l.set) ≡ l.initial.out ++ marks l.first l.set
