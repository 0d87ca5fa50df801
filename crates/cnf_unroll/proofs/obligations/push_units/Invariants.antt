use Rattle.std.proofs.Common.{◌≡◌, ◌++◌, take}
use Rattle.cnf_unroll.specs.Obligations.{units}
use Rattle.cnf_unroll.proofs.obligations.push_units.Given as goal

abbrev pub invariant-loop-literal : goal.invariant-loop-literal
invariant-loop-literal l = l.db.clauses ≡ l.initial.db.clauses ++ units (take l.literal-index l.literals)
