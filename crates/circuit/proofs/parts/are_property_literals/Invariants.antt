use Rattle.std.proofs.Common.{◌≤◌, take}
use Rattle.std.specs.List.{All}
use Rattle.circuit.proofs.parts.are_property_literals.Given as goal

abbrev pub invariant-loop-property : goal.invariant-loop-property
invariant-loop-property l = All (λ property. All (λ literal. literal ≤ l.greatest) property) (take l.property-index l.justice)
