use Rattle.std.proofs.Common.{◌+◌, ◌≤◌, length, take}
use Rattle.std.specs.List.{All}
use Rattle.aig_semantics.specs.declared.limits.TheConstants.{MAX_PROPERTY_LITERALS}
use Rattle.circuit.proofs.parts.are_short_properties.Given as goal

abbrev pub invariant-loop-property : goal.invariant-loop-property
invariant-loop-property l = All (λ property. length property + l.fairness ≤ MAX_PROPERTY_LITERALS) (take l.property-index l.justice)
