-- How a simulation is written into a list, value by value (scaffolding).
use Rattle.std.specs.Prelude.{ℕ, List, [], ◌∷◌, slice_set}
use Rattle.aig_semantics.specs.declared.parts.Gate.{Gate}
use Rattle.ternary.specs.declared.values.Value3.{Value3}
use Rattle.ternary.specs.Values.{variable3_in}
use Rattle.ternary.specs.Simulation.{conjunction3}

-- a list with a value put at the place of each variable
unfoldable pub with_values3 : {T : Type 0} → List ℕ → List T → List T → List T
with_values3 [] given out = out
with_values3 (v ∷ vs) [] out = out
with_values3 (v ∷ vs) (b ∷ given) out = with_values3 vs given (slice_set out v b)

-- a list with a gate's value at its place
unfoldable pub with_gate3 : List Value3 → Gate → List Value3
with_gate3 out gate = slice_set out gate.var (conjunction3 (variable3_in out) gate)
