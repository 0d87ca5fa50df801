-- The names of wires, how they are set apart, and identifiers (IEEE 1364-2005, clause 18). That names are set apart, and
-- how, is this program's; so is it which wires are left out.
use Rattle.std.specs.Prelude.{ℕ, zero, suc, ◌+◌, ◌/◌, ◌%◌, ◌==◌, ◌&&◌, nat_lt, Bool, false, not, List, [], ◌∷◌, ◌++◌, length, fold, decimal, codes, if◌then◌else◌, Option, Some, None}
use Rattle.std.specs.List.{flat_map, list_any}
use Rattle.std.specs.Str.{bytes_eq}
use Rattle.aiger_grammar.specs.declared.names.TheConstants.{JUSTICE}
use Rattle.aiger_grammar.specs.declared.names.Symbol.{Symbol}
use Rattle.aiger_grammar.specs.Models.{Model}
use Rattle.waves.specs.declared.wires.Wire.{Wire}
use Rattle.waves.specs.declared.wires.Wire.TheVariants.{Element, PropertyLiteral, Loop}
use Rattle.waves.specs.declared.named.Named.{Named}
use Rattle.waves.specs.declared.signals.Signal.{Signal}
use Rattle.waves.specs.Wires.{letter_of, sources_of, later_wires_of, literal_of}

-- Names.

-- the letter and the index of a wire, as l0, or j0.1 for literal 1 of property 0
abbrev pub label : Wire → List ℕ
label (Element section index literal) = letter_of section ∷ decimal index
label (PropertyLiteral property place literal) = JUSTICE ∷ decimal property ++ 46 ∷ decimal place
label Loop = codes "loop"

-- the symbol is one of the wire; that of a property is one of each of its literals
abbrev pub is_symbol_of : Wire → Symbol → Bool
is_symbol_of (Element section index literal) s = s.letter == letter_of section && s.index == index
is_symbol_of (PropertyLiteral property place literal) s = s.letter == JUSTICE && s.index == property
is_symbol_of Loop s = false

-- a byte from 33 to 126, but for the percent sign
abbrev pub is_plain : ℕ → Bool
is_plain byte = nat_lt 32 byte && (nat_lt byte 127 && not (byte == 37))

abbrev pub hex_digit : ℕ → ℕ
hex_digit n = if nat_lt n 10 then 48 + n else 55 + n

-- a plain byte, or the percent sign and two hexadecimal digits
abbrev pub escaped_byte : ℕ → List ℕ
escaped_byte byte = if is_plain byte then byte ∷ [] else 37 ∷ hex_digit (byte / 16) ∷ hex_digit (byte % 16) ∷ []

abbrev pub escaped : List ℕ → List ℕ
escaped name = flat_map escaped_byte name

-- the symbol's name, where it is one of the wire, or the name so far
abbrev pub named_by : Wire → List ℕ → Symbol → List ℕ
named_by w name s = if is_symbol_of w s then escaped s.name else name

-- the name of the last symbol of the wire, or its label where it has none
abbrev pub plain_name : List Symbol → Wire → List ℕ
plain_name symbols w = fold (named_by w) (label w) symbols

-- Wires with their names.

abbrev pub named : List Symbol → Wire → Named
named symbols w = record { wire = w; name = plain_name symbols w }

-- the wire shows the literal
abbrev pub shows : Option ℕ → ℕ → Bool
shows None literal = false
shows (Some own) literal = own == literal

-- one of these wires shows the literal under the name
abbrev pub is_among : List Named → ℕ → List ℕ → Bool
is_among wires literal name = list_any (λ n. shows (literal_of n.wire) literal && bytes_eq n.name name) wires

-- one of the wires of inputs and latches has this wire's literal and its name
abbrev pub is_doubled : List Named → Option ℕ → List ℕ → Bool
is_doubled sources None name = false
is_doubled sources (Some literal) name = is_among sources literal name

-- the wire with its name behind the others, where it is no second one of a source
abbrev pub with_wire : List Symbol → List Named → List Named → Wire → List Named
with_wire symbols sources wires w =
    if is_doubled sources (literal_of w) (plain_name symbols w) then wires else wires ++ named symbols w ∷ []

-- the inputs and latches, each with its name, and then the other wires, without those that are a second one of these
abbrev pub named_sources : Model → List Named
named_sources m = fold (with_wire m.names.symbols []) [] (sources_of m)

abbrev pub named_wires : Model → ℕ → List Named
named_wires m j = fold (with_wire m.names.symbols (named_sources m)) (named_sources m) (later_wires_of m j)

-- Names that are set apart.

abbrev pub has_name : List Signal → List ℕ → Bool
has_name signals name = list_any (λ s. bytes_eq s.name name) signals

-- the name, with a dot and the label behind it again and again while a signal has it, at most so many times
unfoldable pub set_apart : ℕ → List Signal → List ℕ → List ℕ → List ℕ
set_apart zero signals label name = name
set_apart (suc most) signals label name =
    if has_name signals name then set_apart most signals label (name ++ 46 ∷ label) else name

-- a number of times behind which the name is longer than those of all signals together
abbrev pub enough : List Signal → ℕ
enough signals = suc (length (flat_map (λ s. s.name) signals))

-- Identifiers.

-- the next one, its first character counted up fastest, from ! (33) to ~ (126)
abbrev pub next_identifier : List ℕ → List ℕ
next_identifier [] = 33 ∷ []
next_identifier (character ∷ code) = if nat_lt character 126 then (character + 1) ∷ code else 33 ∷ next_identifier code

unfoldable pub identifier : ℕ → List ℕ
identifier zero = 33 ∷ []
identifier (suc n) = next_identifier (identifier n)
