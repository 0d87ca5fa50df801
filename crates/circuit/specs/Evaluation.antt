-- How a valuation is written into a list, value by value (scaffolding).
use Rattle.std.specs.Prelude.{ℕ, Bool, List, [], ◌∷◌, slice_set}
use Rattle.aig_semantics.specs.declared.parts.Gate.{Gate}
use Rattle.aig_semantics.specs.Literals.{variable_in}
use Rattle.aig_semantics.specs.Valuations.{conjunction}

-- a list with a value put at the place of each variable
unfoldable pub with_values : List ℕ → List Bool → List Bool → List Bool
with_values [] given out = out
with_values (v ∷ vs) [] out = out
with_values (v ∷ vs) (b ∷ given) out = with_values vs given (slice_set out v b)

-- a list with a gate's value at its place
unfoldable pub with_gate : List Bool → Gate → List Bool
with_gate out gate = slice_set out gate.var (conjunction (variable_in out) gate)
