use Rattle.std.proofs.Common.{◌≡◌, [], ◌∷◌, ◌++◌, map, take}
use Rattle.cnf_unroll.specs.Numbers.{minus}
use Rattle.cnf_unroll.proofs.uses.push_names.Given as goal

abbrev pub invariant-loop-name : goal.invariant-loop-name
invariant-loop-name l = l.db.clauses ≡ l.initial.db.clauses ++ map (λ name. minus l.z ∷ name ∷ []) (take l.name-index l.names)
