-- Deltas, the differences of literals in which the binary form has its gates (AIGER 1.9; Biere, Heljanko, Wieringa, 2011):
-- a number in groups of seven bits, the low group first, one byte for each group, with the top bit set where more follows.
-- That the last of several groups is not 0, so that each number has one spelling, is this program's.
use Rattle.std.specs.Prelude.{◌≡◌, ℕ, zero, suc, ◌+◌, ◌-◌, ◌*◌, ◌/◌, ◌%◌, ◌≤◌, ◌<◌, ◌⊎◌, ◌↔◌, ◌==◌, ◌&&◌, Bool, true, false, nat_le, nat_lt, List, [], ◌∷◌, ◌++◌, Ok, Err, if◌then◌else◌}
use Rattle.std.specs.List.{All}
use Rattle.aig_semantics.specs.declared.limits.TheConstants.{MAX_NUMBER}
use Rattle.circuit.specs.declared.faults.ModelFault.{ModelFault}
use Rattle.circuit.specs.declared.faults.ModelFault.TheVariants.{Number, Range, Truncated}
use Rattle.aiger_grammar.specs.Reading.{Reader, ◌>>=◌, place}

-- The number n stands at the front of bytes, and rest follows: a byte below 128 is the last group; one from 128 on has the
-- low seven bits, and the bytes behind it stand for the rest of the number, which is not 0.
abbrev pub IsDelta : ℕ → List ℕ → List ℕ → Type 0
IsDelta n [] rest = ⊥
IsDelta n (b ∷ bytes) rest =
    ((b < 128) × (n ≡ b) × (bytes ≡ rest))
    ⊎ ((128 ≤ b) × (high : ℕ) × (1 ≤ high) × (n ≡ b % 128 + 128 * high) × IsDelta high bytes rest)

-- The groups of a number of at most limit, read from the left. Where later is true other groups stand in front, so the
-- last group may not be 0. The fault is that of the whole delta, as soon as the groups up to one make a number that is
-- too great, or the last group is 0; so a delta that is cut off before either is cut off, whatever could have followed.
unfoldable pub groups_at : ℕ → Bool → ModelFault → ℕ → Reader ℕ
groups_at limit later fault total [] = Err (Truncated total)
groups_at limit later fault total (b ∷ bytes) =
    if nat_lt limit (b % 128) then Err fault
    else if nat_lt b 128 then (if later && b == 0 then Err fault else Ok (b, bytes))
    else (groups_at ((limit - b % 128) / 128) true fault total bytes >>= λ high rest. Ok (b % 128 + 128 * high, rest))

-- A delta: cut off where the text ends in it; no number, at its first byte, where it is too great or its last group is 0.
unfoldable pub delta_at : ℕ → Reader ℕ
delta_at total bytes = groups_at MAX_NUMBER false (Number (place total bytes)) total bytes

-- a delta from least to greatest
unfoldable pub difference_at : ℕ → ℕ → ℕ → Reader ℕ
difference_at least greatest total bytes =
    delta_at total bytes >>= λ n rest.
    if nat_le least n && nat_le n greatest then Ok (n, rest) else Err (Range (place total bytes))

-- ---- as it is written

-- a number in at most one group more than these
unfoldable pub groups_text : ℕ → ℕ → List ℕ
groups_text zero n = n ∷ []
groups_text (suc most) n = if nat_lt n 128 then n ∷ [] else (n % 128 + 128) ∷ groups_text most (n / 128)

-- a number below 2 ^ 35, in at most five groups
abbrev pub delta_text : ℕ → List ℕ
delta_text n = groups_text 4 n

-- ---- laws

-- what is read is the number that stands there
abbrev pub ReadsDeltas : Type 0
ReadsDeltas =
    (total n : ℕ) (bytes rest : List ℕ) → (delta_at total bytes ≡ Ok (n, rest)) ↔ ((n ≤ MAX_NUMBER) × IsDelta n bytes rest)

-- one number at most stands at the front of bytes, and what follows it is told
abbrev pub HasOneDelta : Type 0
HasOneDelta =
    (m n : ℕ) (bytes rest more : List ℕ) → IsDelta m bytes rest → IsDelta n bytes more → (m ≡ n) × (rest ≡ more)

-- each number has one spelling
abbrev pub HasOneSpelling : Type 0
HasOneSpelling =
    (n : ℕ) (bytes rest : List ℕ) → n ≤ MAX_NUMBER → All (λ b. b < 256) bytes
    → IsDelta n bytes rest ↔ (bytes ≡ delta_text n ++ rest)
