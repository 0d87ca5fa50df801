-- The variables that the translation adds, by their numbers: they stand behind those of the circuit, in this order.
use Rattle.std.specs.Prelude.{ℕ, ◌+◌, ◌-◌, ◌*◌, length, if◌then◌else◌}
use Rattle.aig_semantics.specs.Literals.{is_negated}
use Rattle.aig_semantics.specs.Circuits.{Circuit, fair_literals}
use Rattle.live_to_safe.specs.declared.sizes.Sizes.{Sizes}

-- the greatest variable of the circuit, how many latches it has, and how many literals property j and fairness have
abbrev pub sizes_of : Circuit → ℕ → Sizes
sizes_of c j = record { variables = c.max; latches = length c.latches; literals = length (fair_literals c j) }

-- the two literals of a variable, and the negation of a literal
abbrev pub positive : ℕ → ℕ
positive v = 2 * v

abbrev pub negative : ℕ → ℕ
negative v = 2 * v + 1

abbrev pub negation : ℕ → ℕ
negation literal = if is_negated literal then literal - 1 else literal + 1

-- an input: whether the state is to be saved now
abbrev pub save : Sizes → ℕ
save z = z.variables + 1

-- a latch: whether a state was saved before
abbrev pub saved : Sizes → ℕ
saved z = z.variables + 2

-- a latch: the value that latch i has in the saved state
abbrev pub copy : Sizes → ℕ → ℕ
copy z i = z.variables + 3 + i

-- a latch: whether literal m was true at a position since the state was saved, its own position among them
abbrev pub seen : Sizes → ℕ → ℕ
seen z m = z.variables + 3 + z.latches + m

-- a gate: the state is saved now; only the first time counts
abbrev pub saving : Sizes → ℕ
saving z = z.variables + 3 + z.latches + z.literals

-- a gate: no state is saved now or was before
abbrev pub idle : Sizes → ℕ
idle z = saving z + 1

-- six gates of latch i, this one and those behind it; the third is the negation of the copy's next value, the last is
-- whether latch and copy are equal
abbrev pub latch_gate : Sizes → ℕ → ℕ
latch_gate z i = saving z + 2 + 6 * i

-- two gates of literal m; the second is whether it was seen at the next position
abbrev pub literal_gate : Sizes → ℕ → ℕ
literal_gate z m = saving z + 2 + 6 * z.latches + 2 * m

-- the first gate of the chain whose last one is the bad state literal
abbrev pub bad_gate : Sizes → ℕ
bad_gate z = saving z + 2 + 6 * z.latches + 2 * z.literals

-- the greatest variable
abbrev pub greatest : Sizes → ℕ
greatest z = z.variables + 4 + 8 * z.latches + 4 * z.literals
