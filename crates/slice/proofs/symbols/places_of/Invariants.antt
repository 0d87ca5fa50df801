use Rattle.std.proofs.Common.{◌≡◌, ◌++◌, ◌≤◌, drop}
use Rattle.aig_semantics.specs.Literals.{variable_in}
use Rattle.slice.specs.Steps.{places_left}
use Rattle.slice.proofs.symbols.places_of.Given as goal

abbrev pub invariant-loop-variable : goal.invariant-loop-variable
invariant-loop-variable l = record {
  places : l.places ++ places_left (variable_in l.cone) l.next (drop l.variable-index l.variables) ≡ places_left (variable_in l.cone) 0 l.variables;
  small : l.next ≤ l.variable-index;
}
