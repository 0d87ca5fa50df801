-- The groups of a delta as the reader sums them (scaffolding).
use Rattle.std.specs.Prelude.{ℕ, ◌+◌, ◌*◌, ◌%◌, not, ◌&&◌, [], ◌∷◌, Ok, Err, nat_le, nat_lt, ◌==◌, if◌then◌else◌}
use Rattle.aig_semantics.specs.declared.limits.TheConstants.{MAX_NUMBER}
use Rattle.circuit.specs.declared.faults.ModelFault.TheVariants.{Number, Truncated}
use Rattle.aiger_grammar.specs.Reading.{Reader}

-- The groups from one on whose lowest bit counts unit, behind groups that make so_far. The delta begins at the place first.
unfoldable pub summed_at : ℕ → ℕ → ℕ → ℕ → Reader ℕ
summed_at first total unit so_far [] = Err (Truncated total)
summed_at first total unit so_far (byte ∷ rest) =
    if nat_lt MAX_NUMBER (so_far + unit * (byte % 128)) then Err (Number first)
    else if nat_le 128 byte then summed_at first total (128 * unit) (so_far + unit * (byte % 128)) rest
    else if byte == 0 && not (unit == 1) then Err (Number first)
    else Ok (so_far + unit * (byte % 128), rest)

-- what the lowest bit of the next group counts; what is above the greatest number stays
abbrev pub next_unit : ℕ → ℕ
next_unit unit = if nat_lt MAX_NUMBER unit then unit else 128 * unit
