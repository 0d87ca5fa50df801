use Rattle.std.proofs.Common.{◌≡◌, map, take}
use Rattle.cnf_unroll.specs.Numbers.{state_place, literal_at_place}
use Rattle.k_live.proofs.states.push_clause.Given as goal

abbrev pub invariant-loop-literal : goal.invariant-loop-literal
invariant-loop-literal l = l.clause ≡ map (literal_at_place (state_place l.c 0)) (take l.literal-index l.literals)
