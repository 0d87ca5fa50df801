use Rattle.std.proofs.Common.{◌≡◌, take}
use Rattle.std.specs.List.{filter}
use Rattle.aig_semantics.specs.Literals.{variable_in}
use Rattle.slice.proofs.sections.gates_in.Given as goal

abbrev pub invariant-loop-gate : goal.invariant-loop-gate
invariant-loop-gate l = l.kept ≡ filter (λ gate. variable_in l.cone gate.var) (take l.gate-index l.gates)
