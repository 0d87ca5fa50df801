-- What is kept in order, so that each is found without going over all (scaffolding): the names of symbols and of signals,
-- literals with names, the places of groups, and wires by their indices.
use Rattle.std.specs.Prelude.{◌≡◌, ℕ, suc, ◌<◌, ◌||◌, ◌&&◌, Bool, List, [], ◌∷◌, fold, length, slice_index_or, Option, None, Some, option_map, if◌then◌else◌}
use Rattle.std.specs.List.{slice_set}
use Rattle.std.specs.Str.{bytes_eq}
use Rattle.std.specs.declared.cmp.Ordering.{Ordering}
use Rattle.std.specs.Ordering.{nat_cmp, ordering_then}
use Rattle.std.specs.Cmp.Lexicographic.{slice_cmp}
use Rattle.std.specs.BTreeMap.{BTreeMap, get}
use Rattle.std.specs.BTreeSet.{BTreeSet, contains, contains_by}
use Rattle.std.specs.declared.vec.Vec.{Vec}
use Rattle.std.specs.declared.alloc.Global.{Global}
use Rattle.aiger_grammar.specs.declared.names.TheConstants.{JUSTICE}
use Rattle.aiger_grammar.specs.declared.names.Symbol.{Symbol}
use Rattle.waves.specs.declared.wires.Wire.{Wire}
use Rattle.waves.specs.declared.wires.Wire.TheVariants.{Element, PropertyLiteral, Loop}
use Rattle.waves.specs.declared.named.Named.{Named}
use Rattle.waves.specs.declared.groups.Member.{Member}
use Rattle.waves.specs.declared.groups.Group.{Group}
use Rattle.waves.specs.declared.signals.Signal.{Signal}
use Rattle.waves.specs.Wires.{letter_of, literal_of}
use Rattle.waves.specs.Names.{is_symbol_of, escaped, shows, is_among, is_doubled, with_wire, has_name}
use Rattle.waves.specs.Buses.{is_of, grown, found_at, wire_at, row_of}

-- The names of symbols.

-- the letter and the index of the symbols of a wire
abbrev pub element_of : Wire → Option (ℕ × ℕ)
element_of (Element section index literal) = Some (letter_of section, index)
element_of (PropertyLiteral property place literal) = Some (JUSTICE, property)
element_of Loop = None

-- by the letter, and then by the index
abbrev pub element_cmp : ℕ × ℕ → ℕ × ℕ → Ordering
element_cmp a b = ordering_then (nat_cmp a.0 b.0) (nat_cmp a.1 b.1)

abbrev pub kept_at : BTreeMap (ℕ × ℕ) (Vec ℕ Global) → Option (ℕ × ℕ) → Option (List ℕ)
kept_at names None = None
kept_at names (Some element) = option_map (λ (name : Vec ℕ Global). name.items) (get element_cmp names element)

-- the name that is kept for a wire
abbrev pub kept_name : BTreeMap (ℕ × ℕ) (Vec ℕ Global) → Wire → Option (List ℕ)
kept_name names w = kept_at names (element_of w)

-- the symbol's name, where it is one of the wire, or what was found so far
abbrev pub found_by : Wire → Option (List ℕ) → Symbol → Option (List ℕ)
found_by w found s = if is_symbol_of w s then Some (escaped s.name) else found

-- the wires of the symbol have its name, and the others what they had
abbrev pub GetsName : BTreeMap (ℕ × ℕ) (Vec ℕ Global) → Symbol → BTreeMap (ℕ × ℕ) (Vec ℕ Global) → Type 0
GetsName old s new = (w : Wire) → kept_name new w ≡ found_by w (kept_name old w) s

-- each wire has the name of its last symbol
abbrev pub AreNamesOf : List Symbol → BTreeMap (ℕ × ℕ) (Vec ℕ Global) → Type 0
AreNamesOf symbols names = (w : Wire) → kept_name names w ≡ fold (found_by w) None symbols

-- Literals and places, by a number and a text.

abbrev pub Key : Type 0
Key = ℕ × Vec ℕ Global

-- by the number, and then by the text
abbrev pub key_cmp : Key → Key → Ordering
key_cmp a b = ordering_then (nat_cmp a.0 b.0) (slice_cmp nat_cmp a.1.items b.1.items)

-- the keys are the literals of these wires with their names
abbrev pub AreSources : BTreeSet Key → List Named → Type 0
AreSources keys wires = (literal : ℕ) (name : Vec ℕ Global) → contains key_cmp keys (literal, name) ≡ is_among wires literal name.items

-- the wire is one more of them
abbrev pub GetsSource : BTreeSet Key → Named → BTreeSet Key → Type 0
GetsSource old n new =
    (literal : ℕ) (name : Vec ℕ Global)
    → contains key_cmp new (literal, name) ≡ (contains key_cmp old (literal, name) || (shows (literal_of n.wire) literal && bytes_eq n.name name.items))

-- one of the wires with these keys has the literal and the name
abbrev pub IsDoubledIn : BTreeSet Key → Option ℕ → List ℕ → Bool → Type 0
IsDoubledIn keys literal name is = (wires : List Named) → AreSources keys wires → is ≡ is_doubled wires literal name

-- the wire is behind the others, or left out, whichever symbols have these names and whichever wires these keys
abbrev pub GetsWire : BTreeMap (ℕ × ℕ) (Vec ℕ Global) → BTreeSet Key → List Named → Wire → List Named → Type 0
GetsWire names keys old w new =
    (symbols : List Symbol) (sources : List Named) → AreNamesOf symbols names → AreSources keys sources → new ≡ with_wire symbols sources old w

-- the same of wires one by one
abbrev pub GetsWires : BTreeMap (ℕ × ℕ) (Vec ℕ Global) → BTreeSet Key → List Named → List Wire → List Named → Type 0
GetsWires names keys old wires new =
    (symbols : List Symbol) (sources : List Named) → AreNamesOf symbols names → AreSources keys sources → new ≡ fold (with_wire symbols sources) old wires

-- the sources, and then the later wires
abbrev pub AreNamed : BTreeMap (ℕ × ℕ) (Vec ℕ Global) → List Wire → List Wire → List Named → Type 0
AreNamed names sources later new =
    (symbols : List Symbol) → AreNamesOf symbols names
    → new ≡ fold (with_wire symbols (fold (with_wire symbols []) [] sources)) (fold (with_wire symbols []) [] sources) later

-- the place of the first group of this letter and base
abbrev pub place_of : ℕ → List ℕ → List Group → Option ℕ
place_of letter base [] = None
place_of letter base (g ∷ groups) = if is_of letter base g then Some 0 else option_map (λ k. suc k) (place_of letter base groups)

-- each group's first place is kept, by a base that has a byte
abbrev pub ArePlaces : List Group → BTreeMap Key ℕ → Type 0
ArePlaces groups places =
    (letter : ℕ) (base : Vec ℕ Global) → 0 < length base.items → get key_cmp places (letter, base) ≡ place_of letter base.items groups

-- the group at the place has one member more
abbrev pub GrowsAt : ℕ → Member → List Group → List Group → Type 0
GrowsAt place m old new = (d : Group) → new ≡ slice_set old place (grown (slice_index_or old place d) m)

-- Wires by their indices.

abbrev pub GetsMember : BTreeMap ℕ Wire → Member → BTreeMap ℕ Wire → Type 0
GetsMember old m new = (index : ℕ) → get nat_cmp new index ≡ found_at index (get nat_cmp old index) m

abbrev pub AreIndexed : List Member → BTreeMap ℕ Wire → Type 0
AreIndexed members indexed = (index : ℕ) → get nat_cmp indexed index ≡ wire_at members index

-- the row of the members that have these indices
abbrev pub IsRowOf : BTreeMap ℕ Wire → ℕ → ℕ → Option (List Wire) → Type 0
IsRowOf indexed low count row = (members : List Member) → AreIndexed members indexed → row ≡ row_of members low count

-- The names of signals.

abbrev pub has_key : BTreeSet (Vec ℕ Global) → List ℕ → Bool
has_key keys name = contains_by (λ (key : Vec ℕ Global). slice_cmp nat_cmp name key.items) keys

-- the keys are the names of the signals
abbrev pub AreKeysOf : List Signal → BTreeSet (Vec ℕ Global) → Type 0
AreKeysOf signals keys = (name : List ℕ) → has_key keys name ≡ has_name signals name
