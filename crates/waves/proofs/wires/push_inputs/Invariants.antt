use Rattle.std.proofs.Common.{◌≡◌, ◌*◌, ◌++◌, map, drop}
use Rattle.waves.specs.declared.wires.Section.TheVariants.{Inputs}
use Rattle.waves.specs.Wires.{elements}
use Rattle.waves.proofs.wires.push_inputs.Given as goal

abbrev pub invariant-loop-k : goal.invariant-loop-k
invariant-loop-k l =
    l.wires.items ++ elements Inputs l.k (map (λ v. 2 * v) (drop l.k l.variables)) ≡ l.fn.wires.items ++ elements Inputs 0 (map (λ v. 2 * v) l.variables)
