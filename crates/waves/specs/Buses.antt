-- Buses: wires of one section whose names are one base and an index in brackets, as w[3], where the indices are those from
-- a lowest to a highest, each once, and at least two. An index with a leading zero is none, and a base has a byte.
use Rattle.std.specs.Prelude.{ℕ, zero, suc, ◌+◌, ◌==◌, ◌&&◌, min, nat_lt, Bool, List, [], ◌∷◌, ◌++◌, map, take, length, fold, Option, Some, None, if◌then◌else◌}
use Rattle.std.specs.List.{flat_map}
use Rattle.std.specs.Str.{bytes_eq}
use Rattle.text_grammar.specs.Numerals.{number_at}
use Rattle.aiger_grammar.specs.Models.{Model}
use Rattle.waves.specs.declared.wires.Wire.{Wire}
use Rattle.waves.specs.declared.wires.Wire.TheVariants.{Element, PropertyLiteral, Loop}
use Rattle.waves.specs.declared.named.Named.{Named}
use Rattle.waves.specs.declared.groups.Member.{Member}
use Rattle.waves.specs.declared.groups.Group.{Group}
use Rattle.waves.specs.declared.buses.Variable.{Variable}
use Rattle.waves.specs.Wires.{letter_of}
use Rattle.waves.specs.Names.{named_wires}

-- The bits.

-- a number, behind which the closing bracket ends the text
abbrev pub closed : Option (ℕ × List ℕ) → Option ℕ
closed None = None
closed (Some read) = if bytes_eq read.1 (93 ∷ []) then Some read.0 else None

-- the index that stands behind an opening bracket
abbrev pub index_in : List ℕ → Option ℕ
index_in bytes = closed (number_at 4294967295 bytes)

-- where there is an index, the place with it, and else the other
abbrev pub at_place : ℕ → Option ℕ → Option (ℕ × ℕ) → Option (ℕ × ℕ)
at_place k None later = later
at_place k (Some index) later = Some (k, index)

-- the place of the first bracket behind which an index ends the text, and the index; the first byte has the place k
unfoldable pub bracket_from : ℕ → List ℕ → Option (ℕ × ℕ)
bracket_from k [] = None
bracket_from k (byte ∷ bytes) = at_place k (if byte == 91 then index_in bytes else None) (bracket_from (k + 1) bytes)

-- the same behind the first byte
abbrev pub bracket_in : List ℕ → Option (ℕ × ℕ)
bracket_in [] = None
bracket_in (byte ∷ bytes) = bracket_from 1 bytes

-- the letter of the section whose bit a wire may be
abbrev pub bit_letter : Wire → Option ℕ
bit_letter (Element section index literal) = Some (letter_of section)
bit_letter (PropertyLiteral property place literal) = None
bit_letter Loop = None

-- The groups: bits of one section and base, or one wire that is no bit, without a base.

abbrev pub member : Named → ℕ → Member
member n index = record { wire = n.wire; name = n.name; index = index }

abbrev pub first_of : ℕ → List ℕ → Member → Group
first_of letter base m = record { letter = letter; base = base; members = m ∷ [] }

abbrev pub alone : Named → Group
alone n = first_of 0 [] (member n 0)

abbrev pub is_of : ℕ → List ℕ → Group → Bool
is_of letter base g = g.letter == letter && bytes_eq g.base base

abbrev pub grown : Group → Member → Group
grown g m = record { letter = g.letter; base = g.base; members = g.members ++ m ∷ [] }

-- the member in the first group of this letter and base, or in a new one behind the others
unfoldable pub joined : ℕ → List ℕ → Member → List Group → List Group
joined letter base m [] = first_of letter base m ∷ []
joined letter base m (g ∷ groups) = if is_of letter base g then grown g m ∷ groups else g ∷ joined letter base m groups

abbrev pub with_bit : List Group → Named → ℕ → Option (ℕ × ℕ) → List Group
with_bit groups n letter None = groups ++ alone n ∷ []
with_bit groups n letter (Some bracket) = joined letter (take bracket.0 n.name) (member n bracket.1) groups

abbrev pub with_element : List Group → Named → Option ℕ → List Group
with_element groups n None = groups ++ alone n ∷ []
with_element groups n (Some letter) = with_bit groups n letter (bracket_in n.name)

abbrev pub with_named : List Group → Named → List Group
with_named groups n = with_element groups n (bit_letter n.wire)

-- The variables: a group whose indices are in a row is one, and of another each wire is one.

abbrev pub lowest : List Member → ℕ
lowest members = fold (λ low m. min low m.index) 4294967295 members

-- the member's wire, where it has this index, or what was found so far
abbrev pub found_at : ℕ → Option Wire → Member → Option Wire
found_at index found m = if m.index == index then Some m.wire else found

abbrev pub wire_at : List Member → ℕ → Option Wire
wire_at members index = fold (found_at index) None members

abbrev pub behind : Option Wire → Option (List Wire) → Option (List Wire)
behind None row = None
behind (Some w) None = None
behind (Some w) (Some row) = Some (w ∷ row)

-- the wires of so many indices, of which this is the lowest, the highest first; none where an index has no wire
unfoldable pub row_of : List Member → ℕ → ℕ → Option (List Wire)
row_of members low zero = Some []
row_of members low (suc n) = behind (wire_at members (low + n)) (row_of members low n)

-- the row of at least two members: as many indices as members, so each stands once
abbrev pub bus_of : List Member → Option (List Wire)
bus_of members = if nat_lt 1 (length members) then row_of members (lowest members) (length members) else None

abbrev pub single : Member → Variable
single m = record { wires = m.wire ∷ []; low = 0; name = m.name }

abbrev pub by_bus : Group → Option (List Wire) → List Variable
by_bus g None = map single g.members
by_bus g (Some wires) = record { wires = wires; low = lowest g.members; name = g.base } ∷ []

abbrev pub of_group : Group → List Variable
of_group g = by_bus g (bus_of g.members)

abbrev pub groups_of : Model → ℕ → List Group
groups_of m j = fold with_named [] (named_wires m j)

abbrev pub variables_of : Model → ℕ → List Variable
variables_of m j = flat_map of_group (groups_of m j)
