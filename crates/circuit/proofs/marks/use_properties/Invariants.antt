use Rattle.std.proofs.Common.{◌≡◌, fold, take}
use Rattle.circuit.specs.Marks.{with_use}
use Rattle.circuit.proofs.marks.use_properties.Given as goal

abbrev pub invariant-loop-property : goal.invariant-loop-property
invariant-loop-property l = l.marks ≡ fold (λ m property. fold with_use m property) l.initial.marks (take l.property-index l.justice)
