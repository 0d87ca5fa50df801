-- The variables of which the clauses of a block tell (scaffolding).
use Rattle.std.specs.Prelude.{ℕ, ◌==◌, ◌||◌, Bool}
use Rattle.std.specs.List.{list_any}
use Rattle.aig_semantics.specs.Circuits.{Circuit}

-- the variable is 0, an input, a latch or a gate: a clause of the block may hold its number
abbrev pub is_read : Circuit → ℕ → Bool
is_read c v =
    (v == 0) || list_any (λ u. u == v) c.inputs || list_any (λ latch. latch.var == v) c.latches
    || list_any (λ gate. gate.var == v) c.gates
