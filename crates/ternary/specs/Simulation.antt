-- Ternary simulation of a circuit: the value of each variable, from ternary values of its latches and inputs
-- (Eichelberger, Hazard detection in combinational and sequential switching circuits, 1965). Gates, variable 0 and
-- undefined variables are as in the valuation by truth values.
use Rattle.std.specs.Prelude.{ℕ, zero, suc, ◌+◌, ◌==◌, List, [], ◌∷◌, ◌++◌, map, length, Option, Some, None, unwrap_or, if◌then◌else◌}
use Rattle.std.specs.List.{find}
use Rattle.aig_semantics.specs.declared.parts.Gate.{Gate}
use Rattle.aig_semantics.specs.Circuits.{Circuit}
use Rattle.ternary.specs.declared.values.Value3.{Value3}
use Rattle.ternary.specs.declared.values.Value3.TheVariants.{Zero}
use Rattle.ternary.specs.Values.{and3, literal3_by}

-- the conjunction of a gate's right sides
abbrev pub conjunction3 : (ℕ → Value3) → Gate → Value3
conjunction3 value gate = and3 (literal3_by value gate.rhs0) (literal3_by value gate.rhs1)

-- the value that stands beside v
unfoldable pub beside3 : List ℕ → List Value3 → ℕ → Option Value3
beside3 [] values v = None
beside3 (u ∷ us) [] v = None
beside3 (u ∷ us) (b ∷ values) v = if u == v then Some b else beside3 us values v

-- the value of a variable that is an input or a latch
unfoldable pub given3 : Circuit → List Value3 → List Value3 → ℕ → Option Value3
given3 c latches inputs v = beside3 (c.inputs ++ map (λ latch. latch.var) c.latches) (inputs ++ latches) v

-- the value of a gate, and 0 where there is none
abbrev pub gate_value3 : (ℕ → Value3) → Option Gate → Value3
gate_value3 value None = Zero
gate_value3 value (Some gate) = conjunction3 value gate

-- the value of a variable, through a chain of at most this many gates
unfoldable pub value3_through : ℕ → List Gate → (ℕ → Option Value3) → ℕ → Value3
value3_through zero gates given v = unwrap_or (given v) Zero
value3_through (suc depth) gates given v =
    unwrap_or (given v) (gate_value3 (value3_through depth gates given) (find (λ gate. gate.var == v) gates))

-- value 0, value 1, .. below n
unfoldable pub values3_below : ℕ → (ℕ → Value3) → List Value3
values3_below zero value = []
values3_below (suc n) value = values3_below n value ++ value n ∷ []

-- the values of the variables 0 to max
unfoldable pub simulation : Circuit → List Value3 → List Value3 → List Value3
simulation c latches inputs =
    values3_below (c.max + 1) (value3_through (length c.gates) c.gates (given3 c latches inputs))
