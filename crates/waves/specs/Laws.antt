-- The laws of dumps: names and identifiers are apart, and what is written is read back.
use Rattle.std.specs.Prelude.{◌≡◌, ◌≢◌, ℕ, ◌+◌, ◌*◌, ◌<◌, ◌^◌, ◌==◌, nat_le, Bool, true, false, List, [], ◌∷◌, ◌++◌, drop, length, map, Option, Some, None, option_map, slice_get, if◌then◌else◌, decimal}
use Rattle.std.specs.List.{AllPairs, All, Contains}
use Rattle.std.specs.Str.{bytes_eq}
use Rattle.text_grammar.specs.Lines.{lines_of}
use Rattle.aig_semantics.specs.declared.traces.Position.{Position}
use Rattle.aig_semantics.specs.declared.traces.Lasso.{Lasso}
use Rattle.aig_semantics.specs.Circuits.{Circuit}
use Rattle.aig_semantics.specs.Runs.{valuation_at}
use Rattle.aig_semantics.specs.Stimuli.{simulated, IsFairLassoOf}
use Rattle.aiger_grammar.specs.Models.{Model}
use Rattle.waves.specs.declared.wires.Wire.{Wire}
use Rattle.waves.specs.declared.named.Named.{Named}
use Rattle.waves.specs.declared.buses.Variable.{Variable}
use Rattle.waves.specs.declared.signals.Signal.{Signal}
use Rattle.waves.specs.Wires.{value_in}
use Rattle.waves.specs.Names.{named_wires}
use Rattle.waves.specs.Buses.{variables_of}
use Rattle.waves.specs.Signals.{signals_of}
use Rattle.waves.specs.Dumps.{time_line, unrolled, waves_text}

-- A dump in which each time has all values, read again.

-- the lines behind the first that is this one
abbrev pub lines_behind : List ℕ → List (List ℕ) → List (List ℕ)
lines_behind line [] = []
lines_behind line (first ∷ lines) = if bytes_eq first line then lines else lines_behind line lines

-- the line is a time
abbrev pub is_time : List ℕ → Bool
is_time [] = false
is_time (byte ∷ line) = byte == 35

-- the digit in front of the values, where it is one
abbrev pub with_digit : ℕ → Option (List Bool) → Option (List Bool)
with_digit byte values =
    if byte == 49 then option_map (λ vs. true ∷ vs) values else if byte == 48 then option_map (λ vs. false ∷ vs) values else None

-- the values of digits, which a space and the identifier end
abbrev pub word_read : List ℕ → List ℕ → Option (List Bool)
word_read code [] = None
word_read code (byte ∷ line) =
    if byte == 32 then (if bytes_eq line code then Some [] else None) else with_digit byte (word_read code line)

-- the values that a line gives to the variable with this identifier: one digit in front of it, or the letter b and digits
abbrev pub change_in : List ℕ → List ℕ → Option (List Bool)
change_in code [] = None
change_in code (byte ∷ line) =
    if byte == 98 then word_read code line else if bytes_eq line code then with_digit byte (Some []) else None

-- a change, or what is read behind it
abbrev pub or_later : Option (List Bool) → Option (List Bool) → Option (List Bool)
or_later None later = later
or_later (Some values) later = Some values

-- the first change of the variable with this identifier, in front of the next time
abbrev pub first_change : List ℕ → List (List ℕ) → Option (List Bool)
first_change code [] = None
first_change code (line ∷ lines) = or_later (change_in code line) (if is_time line then None else first_change code lines)

-- the values that the text gives to the variable with this identifier at the time of position t
abbrev pub value_read : List ℕ → ℕ → List ℕ → Option (List Bool)
value_read text t code = first_change code (lines_behind (time_line t) (lines_of text))

-- The laws.

-- no two variables have one name
abbrev pub NamesAreApart : Type 0
NamesAreApart = (m : Model) (j : ℕ) → AllPairs (λ (a b : Signal). a.name ≢ b.name) (signals_of m j)

-- no two variables have one identifier
abbrev pub IdentifiersAreApart : Type 0
IdentifiersAreApart = (m : Model) (j : ℕ) → AllPairs (λ (a b : Signal). a.code ≢ b.code) (signals_of m j)

-- no name and no identifier has a space, or a byte below it
abbrev pub AreSpelled : Type 0
AreSpelled = (m : Model) (j : ℕ) → All (λ (s : Signal). All (λ byte. 32 < byte) s.name × All (λ byte. 32 < byte) s.code) (signals_of m j)

-- the base with an index in brackets
abbrev pub bit_name : List ℕ → ℕ → List ℕ
bit_name base index = base ++ 91 ∷ (decimal index ++ 93 ∷ [])

-- the wire is one of these, with this base and index as its name
abbrev pub IsBit : List Named → List ℕ → ℕ → Wire → Type 0
IsBit wires base index w = Contains wires (record { wire = w; name = bit_name base index })

-- the wires have the indices that go down to the lowest
abbrev pub AreBits : List Named → List ℕ → ℕ → List Wire → Type 0
AreBits wires base low [] = Unit {0}
AreBits wires base low (w ∷ row) = IsBit wires base (low + length row) w × AreBits wires base low row

-- where the variable has more than one wire, these are the bits of its name
abbrev pub IsBusOf : List Named → Variable → Type 0
IsBusOf wires v = 1 < length v.wires → AreBits wires v.name v.low v.wires

-- each wire of a bus has its name and an index, the highest first
abbrev pub BusesAreNamed : Type 0
BusesAreNamed = (m : Model) (j : ℕ) → All (IsBusOf (named_wires m j)) (variables_of m j)

-- the values of a variable's wires at the time of position t are those of the position, where each time has at most 64 bits
abbrev pub ValuesAreRead : Type 0
ValuesAreRead =
    (m : Model) (j : ℕ) (lasso : Lasso) (k t : ℕ) (s : Signal) (p : Position) → 10 * length (unrolled m.circuit lasso) < 2 ^ 64
    → slice_get (signals_of m j) k ≡ Some s → slice_get (unrolled m.circuit lasso) t ≡ Some p
    → value_read (waves_text m j lasso) t s.code ≡ Some (map (value_in (valuation_at m.circuit p) (nat_le lasso.from t)) s.wires)

-- the positions are those of a fair lasso, and those of its loop once more
abbrev pub LoopsAreUnrolled : Type 0
LoopsAreUnrolled =
    (c : Circuit) (j : ℕ) (lasso : Lasso) → IsFairLassoOf c j lasso
    → unrolled c lasso ≡ simulated c lasso.start lasso.inputs ++ drop lasso.from (simulated c lasso.start lasso.inputs)
