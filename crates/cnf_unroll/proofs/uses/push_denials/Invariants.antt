use Rattle.std.proofs.Common.{◌≡◌, ◌++◌, take}
use Rattle.cnf_unroll.specs.Numbers.{clause_at_place}
use Rattle.cnf_unroll.specs.Uses.{denials}
use Rattle.cnf_unroll.proofs.uses.push_denials.Given as goal

abbrev pub invariant-loop-literal : goal.invariant-loop-literal
invariant-loop-literal l =
    l.db.clauses ≡ l.initial.db.clauses ++ denials l.d (clause_at_place l.place (take l.literal-index l.literal-items))
