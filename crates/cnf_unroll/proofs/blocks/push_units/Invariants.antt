use Rattle.std.proofs.Common.{◌≡◌, ◌++◌, take, map}
use Rattle.cnf_unroll.specs.Blocks.{unit_clause}
use Rattle.cnf_unroll.proofs.blocks.push_units.Given as goal

abbrev pub invariant-loop-literal : goal.invariant-loop-literal
invariant-loop-literal l = l.db.clauses ≡ l.initial.db.clauses ++ map (unit_clause l.base) (take l.literal-index l.literals)
