use Rattle.std.proofs.Common.{◌≡◌, ◌++◌, take}
use Rattle.std.specs.List.{flat_map}
use Rattle.cnf_unroll.specs.Blocks.{gate_clauses}
use Rattle.cnf_unroll.proofs.blocks.push_gates.Given as goal

abbrev pub invariant-loop-gate : goal.invariant-loop-gate
invariant-loop-gate l = l.db.clauses ≡ l.initial.db.clauses ++ flat_map (gate_clauses l.base) (take l.gate-index l.gates)
