use Rattle.std.proofs.Common.{◌≡◌, ◌++◌, map, take}
use Rattle.cnf_unroll.specs.Numbers.{literal_at_place}
use Rattle.cnf_unroll.proofs.numbers.extend_at.Given as goal

abbrev pub invariant-loop-literal : goal.invariant-loop-literal
invariant-loop-literal l = l.out ≡ l.initial.out ++ map (literal_at_place l.place) (take l.literal-index l.literal-items)
