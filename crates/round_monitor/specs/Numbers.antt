-- The variables that the monitor adds, by their numbers: they stand behind those of the circuit, in this order.
use Rattle.std.specs.Prelude.{ℕ, ◌+◌, ◌-◌, ◌*◌, length}
use Rattle.aig_semantics.specs.Circuits.{Circuit, fair_literals}
use Rattle.round_monitor.specs.declared.sizes.Sizes.{Sizes}

-- the greatest variable of the circuit, how many literals property j and fairness have, and how many rounds are counted
abbrev pub sizes_of : Circuit → ℕ → ℕ → Sizes
sizes_of c j k = record { variables = c.max; literals = length (fair_literals c j); counters = k }

-- a latch: whether literal m was true since the last round ended
abbrev pub seen : Sizes → ℕ → ℕ
seen z m = z.variables + 1 + m

-- a latch: whether more than i rounds have ended
abbrev pub counter : Sizes → ℕ → ℕ
counter z i = z.variables + 1 + z.literals + i

-- a gate: literal m is not true now, and was not since the last round ended
abbrev pub missing : Sizes → ℕ → ℕ
missing z m = z.variables + 1 + z.literals + z.counters + m

-- the first gate of the chain whose last one says that no literal is missing: a round ends now
abbrev pub ending : Sizes → ℕ
ending z = z.variables + 1 + z.literals + z.counters + z.literals

-- a gate: whether literal m was seen at the next position
abbrev pub seen_gate : Sizes → ℕ → ℕ
seen_gate z m = ending z + (z.literals - 1) + m

-- a gate: the negation of counter i's next value
abbrev pub counter_gate : Sizes → ℕ → ℕ
counter_gate z i = ending z + (z.literals - 1) + z.literals + 2 * i

-- the greatest variable
abbrev pub greatest : Sizes → ℕ
greatest z = counter_gate z (z.counters - 1)
