-- Names and identifiers have no space, and lines no line feed.
use Rattle.std.proofs.Common.{◌≡◌, ◌≢◌, ℕ, zero, suc, ◌+◌, ◌-◌, ◌*◌, ◌/◌, ◌%◌, ◌<◌, ◌==◌, ◌&&◌, Bool, true, false, not, List, [], ◌∷◌, ◌++◌, length, map, take, fold, refl, sym, ap, ◌∙◌, arith, if◌then◌else◌, Option, Some, None}
use Rattle.std.specs.Prelude.{nat_lt, codes, decimal}
use Rattle.std.specs.Fmt.{digits, digits_onto, digit_glyph}
use Rattle.std.specs.List.{All, AllByRecursion, list_all, flat_map}
use Rattle.std.proofs.lemmas.Bool.{false≢true, lt-ltb, ltb-true, and_from, and_parts, ne_eqb}
use Rattle.std.proofs.lemmas.List.Elements.{All-from_recursion, All-append, All-cons, All-nil}
use Rattle.std.proofs.lemmas.List.Folds.{list_all-append}
use Rattle.text_grammar.specs.Pieces.{Lacks}
use Rattle.aig_semantics.specs.Circuits.{Circuit}
use Rattle.aig_semantics.specs.declared.traces.Position.{Position}
use Rattle.aig_semantics.specs.declared.traces.Lasso.{Lasso}
use Rattle.aiger_grammar.specs.declared.names.Symbol.{Symbol}
use Rattle.aiger_grammar.specs.Models.{Model}
use Rattle.waves.specs.declared.wires.Section.{Section}
use Rattle.waves.specs.declared.wires.Section.TheVariants.{Inputs, Latches, Outputs, Bad, Constraints, Fairness}
use Rattle.waves.specs.declared.wires.Wire.{Wire}
use Rattle.waves.specs.declared.wires.Wire.TheVariants.{Element, PropertyLiteral, Loop}
use Rattle.waves.specs.declared.named.Named.{Named}
use Rattle.waves.specs.declared.groups.Member.{Member}
use Rattle.waves.specs.declared.groups.Group.{Group}
use Rattle.waves.specs.declared.buses.Variable.{Variable}
use Rattle.waves.specs.declared.signals.Signal.{Signal}
use Rattle.waves.specs.Wires.{letter_of, sources_of, later_wires_of, literal_of, value_in}
use Rattle.waves.specs.Names.{label, is_symbol_of, is_plain, hex_digit, escaped_byte, escaped, named_by, plain_name, named, is_doubled, with_wire, named_sources, named_wires, has_name, set_apart, enough, identifier}
use Rattle.waves.specs.Buses.{bracket_in, bit_letter, member, alone, is_of, grown, joined, with_bit, with_element, with_named, single, by_bus, bus_of, of_group, groups_of, variables_of}
use Rattle.waves.specs.Signals.{label_of, next_signal, with_signal, signals_of}
use Rattle.waves.specs.Dumps.{range_text, width_text, digits_of, word_of, var_line, comment_line, header_lines, time_line, digit_of, value_line, position_lines, run_lines, all_lines, dump_lines, unrolled}
use Rattle.waves.specs.Laws.{AreSpelled}
use Rattle.waves.proofs.Apart.{InRange, in_range}

-- each byte is behind the space
abbrev pub is_spelled : List ℕ → Bool
is_spelled bytes = list_all (λ b. nat_lt 32 b) bytes

both : (xs ys : List ℕ) → is_spelled xs ≡ true → is_spelled ys ≡ true → is_spelled (xs ++ ys) ≡ true
both xs ys h k = list_all-append (λ b. nat_lt 32 b) xs ys ∙ and_from (is_spelled xs) (is_spelled ys) h k

-- ---- numerals

glyph_spelled : (d : ℕ) → nat_lt 32 (digit_glyph false d) ≡ true
glyph_spelled d = by (nat_lt d 10)
  where
    by : (t : Bool) → nat_lt 32 (if t then 48 + d else 87 + d) ≡ true
    by true = lt-ltb 32 (48 + d) (omega arith)
    by false = lt-ltb 32 (87 + d) (omega arith)

onto_spelled : (k n : ℕ) (acc : List ℕ) → is_spelled acc ≡ true → is_spelled (digits_onto k 10 false n acc) ≡ true
onto_spelled zero n acc h = h
onto_spelled (suc k) n acc h =
    let more : is_spelled (digit_glyph false (n % 10) ∷ acc) ≡ true = and_from (nat_lt 32 (digit_glyph false (n % 10))) (is_spelled acc) (glyph_spelled (n % 10)) h in
    by (n / 10 == 0) more (onto_spelled k (n / 10) (digit_glyph false (n % 10) ∷ acc) more)
  where
    by : (t : Bool) → is_spelled (digit_glyph false (n % 10) ∷ acc) ≡ true → is_spelled (digits_onto k 10 false (n / 10) (digit_glyph false (n % 10) ∷ acc)) ≡ true
        → is_spelled (if t then digit_glyph false (n % 10) ∷ acc else digits_onto k 10 false (n / 10) (digit_glyph false (n % 10) ∷ acc)) ≡ true
    by true more later = more
    by false more later = later

pub decimal_spelled : (n : ℕ) → is_spelled (decimal n) ≡ true
unfolding digits
decimal_spelled n = onto_spelled 64 n [] refl

-- ---- names

letter_spelled : (section : Section) → nat_lt 32 (letter_of section) ≡ true
letter_spelled Inputs = refl
letter_spelled Latches = refl
letter_spelled Outputs = refl
letter_spelled Bad = refl
letter_spelled Constraints = refl
letter_spelled Fairness = refl

label_spelled : (w : Wire) → is_spelled (label w) ≡ true
label_spelled (Element section index literal) =
    and_from (nat_lt 32 (letter_of section)) (is_spelled (decimal index)) (letter_spelled section) (decimal_spelled index)
label_spelled (PropertyLiteral property place literal) = both (decimal property) (46 ∷ decimal place) (decimal_spelled property) (decimal_spelled place)
label_spelled Loop = refl

first_label_spelled : (wires : List Wire) → is_spelled (label_of wires) ≡ true
first_label_spelled [] = refl
first_label_spelled (w ∷ wires) = label_spelled w

hex_spelled : (n : ℕ) → nat_lt 32 (hex_digit n) ≡ true
hex_spelled n = by (nat_lt n 10)
  where
    by : (t : Bool) → nat_lt 32 (if t then 48 + n else 55 + n) ≡ true
    by true = lt-ltb 32 (48 + n) (omega arith)
    by false = lt-ltb 32 (55 + n) (omega arith)

byte_spelled : (b : ℕ) → is_spelled (escaped_byte b) ≡ true
byte_spelled b = by (is_plain b) refl
  where
    by : (t : Bool) → is_plain b ≡ t → is_spelled (if t then b ∷ [] else 37 ∷ hex_digit (b / 16) ∷ hex_digit (b % 16) ∷ []) ≡ true
    by true e = and_from (nat_lt 32 b) true (and_parts (nat_lt 32 b) (nat_lt b 127 && not (b == 37)) e).0 refl
    by false e = and_from (nat_lt 32 (hex_digit (b / 16))) (nat_lt 32 (hex_digit (b % 16)) && true) (hex_spelled (b / 16))
        (and_from (nat_lt 32 (hex_digit (b % 16))) true (hex_spelled (b % 16)) refl)

escaped_spelled : (name : List ℕ) → is_spelled (escaped name) ≡ true
escaped_spelled [] = refl
escaped_spelled (b ∷ name) = both (escaped_byte b) (escaped name) (byte_spelled b) (escaped_spelled name)

plain_spelled : (w : Wire) (symbols : List Symbol) (name : List ℕ) → is_spelled name ≡ true → is_spelled (fold (named_by w) name symbols) ≡ true
plain_spelled w [] name h = h
plain_spelled w (s ∷ symbols) name h = plain_spelled w symbols (named_by w name s) (by (is_symbol_of w s))
  where
    by : (t : Bool) → is_spelled (if t then escaped s.name else name) ≡ true
    by true = escaped_spelled s.name
    by false = h

apart_spelled : (most : ℕ) (signals : List Signal) (l name : List ℕ) → is_spelled l ≡ true → is_spelled name ≡ true → is_spelled (set_apart most signals l name) ≡ true
unfolding set_apart
apart_spelled zero signals l name h k = k
apart_spelled (suc most) signals l name h k = by (has_name signals name) (apart_spelled most signals l (name ++ 46 ∷ l) h (both name (46 ∷ l) k h))
  where
    by : (t : Bool) → is_spelled (set_apart most signals l (name ++ 46 ∷ l)) ≡ true → is_spelled (if t then set_apart most signals l (name ++ 46 ∷ l) else name) ≡ true
    by true later = later
    by false later = k

range_spelled : (code : List ℕ) → InRange code → is_spelled code ≡ true
unfolding InRange
range_spelled [] h = refl
range_spelled (b ∷ code) h = and_from (nat_lt 32 b) (is_spelled code) (lt-ltb 32 b (omega (arith, h.0))) (range_spelled code h.2)

front_spelled : (n : ℕ) (name : List ℕ) → is_spelled name ≡ true → is_spelled (take n name) ≡ true
front_spelled zero name h = refl
front_spelled (suc n) [] h = refl
front_spelled (suc n) (b ∷ name) h =
    let p = and_parts (nat_lt 32 b) (is_spelled name) h in and_from (nat_lt 32 b) (is_spelled (take n name)) p.0 (front_spelled n name p.1)

-- ---- wires

NamedSpelled : List Named → Type 0
NamedSpelled [] = Unit {0}
NamedSpelled (n ∷ wires) = (is_spelled n.name ≡ true) × NamedSpelled wires

named_push : (wires : List Named) (n : Named) → NamedSpelled wires → is_spelled n.name ≡ true → NamedSpelled (wires ++ n ∷ [])
unfolding NamedSpelled
named_push [] n h k = (k, tt)
named_push (x ∷ wires) n h k = (h.0, named_push wires n h.1 k)

wire_on : (symbols : List Symbol) (sources wires : List Named) (w : Wire) → NamedSpelled wires → NamedSpelled (with_wire symbols sources wires w)
wire_on symbols sources wires w h = by (is_doubled sources (literal_of w) (plain_name symbols w))
  where
    by : (t : Bool) → NamedSpelled (if t then wires else wires ++ named symbols w ∷ [])
    by true = h
    by false = named_push wires (named symbols w) h (plain_spelled w symbols (label w) (label_spelled w))

wires_on : (symbols : List Symbol) (sources : List Named) (ws : List Wire) (wires : List Named) → NamedSpelled wires
    → NamedSpelled (fold (with_wire symbols sources) wires ws)
wires_on symbols sources [] wires h = h
wires_on symbols sources (w ∷ ws) wires h = wires_on symbols sources ws (with_wire symbols sources wires w) (wire_on symbols sources wires w h)

no_named : NamedSpelled []
unfolding NamedSpelled
no_named = tt

wires_spelled : (m : Model) (j : ℕ) → NamedSpelled (named_wires m j)
wires_spelled m j =
    wires_on m.names.symbols (named_sources m) (later_wires_of m j) (named_sources m)
    (wires_on m.names.symbols [] (sources_of m) [] no_named)

-- ---- groups

MembersSpelled : List Member → Type 0
MembersSpelled [] = Unit {0}
MembersSpelled (m ∷ members) = (is_spelled m.name ≡ true) × MembersSpelled members

members_push : (members : List Member) (m : Member) → MembersSpelled members → is_spelled m.name ≡ true → MembersSpelled (members ++ m ∷ [])
unfolding MembersSpelled
members_push [] m h k = (k, tt)
members_push (x ∷ members) m h k = (h.0, members_push members m h.1 k)

one_member : (m : Member) → is_spelled m.name ≡ true → MembersSpelled (m ∷ [])
unfolding MembersSpelled
one_member m h = (h, tt)

abbrev GroupSpelled : Group → Type 0
GroupSpelled g = (is_spelled g.base ≡ true) × MembersSpelled g.members

GroupsSpelled : List Group → Type 0
GroupsSpelled [] = Unit {0}
GroupsSpelled (g ∷ groups) = GroupSpelled g × GroupsSpelled groups

groups_push : (groups : List Group) (g : Group) → GroupsSpelled groups → GroupSpelled g → GroupsSpelled (groups ++ g ∷ [])
unfolding GroupsSpelled
groups_push [] g h k = (k, tt)
groups_push (x ∷ groups) g h k = (h.0, groups_push groups g h.1 k)

joined_spelled : (letter : ℕ) (base : List ℕ) (m : Member) (groups : List Group) → is_spelled base ≡ true → is_spelled m.name ≡ true → GroupsSpelled groups
    → GroupsSpelled (joined letter base m groups)
unfolding GroupsSpelled joined
joined_spelled letter base m [] h k all = ((h, one_member m k), tt)
joined_spelled letter base m (g ∷ groups) h k all = by (is_of letter base g) (joined_spelled letter base m groups h k all.1)
  where
    by : (t : Bool) → GroupsSpelled (joined letter base m groups) → GroupsSpelled (if t then grown g m ∷ groups else g ∷ joined letter base m groups)
    by true later = ((all.0.0, members_push g.members m all.0.1 k), all.1)
    by false later = (all.0, later)

alone_spelled : (groups : List Group) (n : Named) → is_spelled n.name ≡ true → GroupsSpelled groups → GroupsSpelled (groups ++ alone n ∷ [])
alone_spelled groups n h all = groups_push groups (alone n) all (refl, one_member (member n 0) h)

bit_spelled : (groups : List Group) (n : Named) (letter : ℕ) (bracket : Option (ℕ × ℕ)) → is_spelled n.name ≡ true → GroupsSpelled groups
    → GroupsSpelled (with_bit groups n letter bracket)
bit_spelled groups n letter None h all = alone_spelled groups n h all
bit_spelled groups n letter (Some bracket) h all =
    joined_spelled letter (take bracket.0 n.name) (member n bracket.1) groups (front_spelled bracket.0 n.name h) h all

element_spelled : (groups : List Group) (n : Named) (letter : Option ℕ) → is_spelled n.name ≡ true → GroupsSpelled groups → GroupsSpelled (with_element groups n letter)
element_spelled groups n None h all = alone_spelled groups n h all
element_spelled groups n (Some letter) h all = bit_spelled groups n letter (bracket_in n.name) h all

groups_on : (wires : List Named) (groups : List Group) → NamedSpelled wires → GroupsSpelled groups → GroupsSpelled (fold with_named groups wires)
unfolding NamedSpelled
groups_on [] groups h all = all
groups_on (n ∷ wires) groups h all = groups_on wires (with_named groups n) h.1 (element_spelled groups n (bit_letter n.wire) h.0 all)

no_groups : GroupsSpelled []
unfolding GroupsSpelled
no_groups = tt

-- ---- variables

VariablesSpelled : List Variable → Type 0
VariablesSpelled [] = Unit {0}
VariablesSpelled (v ∷ variables) = (is_spelled v.name ≡ true) × VariablesSpelled variables

variables_both : (a b : List Variable) → VariablesSpelled a → VariablesSpelled b → VariablesSpelled (a ++ b)
unfolding VariablesSpelled
variables_both [] b h k = k
variables_both (v ∷ a) b h k = (h.0, variables_both a b h.1 k)

singles_spelled : (members : List Member) → MembersSpelled members → VariablesSpelled (map single members)
unfolding MembersSpelled VariablesSpelled
singles_spelled [] h = tt
singles_spelled (m ∷ members) h = (h.0, singles_spelled members h.1)

bus_spelled : (g : Group) (row : Option (List Wire)) → GroupSpelled g → VariablesSpelled (by_bus g row)
unfolding VariablesSpelled
bus_spelled g None h = singles_spelled g.members h.1
bus_spelled g (Some wires) h = (h.0, tt)

each_group : (groups : List Group) → GroupsSpelled groups → VariablesSpelled (flat_map of_group groups)
unfolding GroupsSpelled VariablesSpelled
each_group [] h = tt
each_group (g ∷ groups) h = variables_both (of_group g) (flat_map of_group groups) (bus_spelled g (bus_of g.members) h.0) (each_group groups h.1)

variables_spelled : (m : Model) (j : ℕ) → VariablesSpelled (variables_of m j)
variables_spelled m j = each_group (groups_of m j) (groups_on (named_wires m j) [] (wires_spelled m j) no_groups)

-- ---- signals

pub SignalsSpelled : List Signal → Type 0
SignalsSpelled [] = Unit {0}
SignalsSpelled (s ∷ signals) = ((is_spelled s.name ≡ true) × (is_spelled s.code ≡ true)) × SignalsSpelled signals

signals_push : (signals : List Signal) (s : Signal) → SignalsSpelled signals → is_spelled s.name ≡ true → is_spelled s.code ≡ true → SignalsSpelled (signals ++ s ∷ [])
unfolding SignalsSpelled
signals_push [] s h n k = ((n, k), tt)
signals_push (x ∷ signals) s h n k = (h.0, signals_push signals s h.1 n k)

signals_all : (variables : List Variable) (signals : List Signal) → VariablesSpelled variables → SignalsSpelled signals
    → SignalsSpelled (fold with_signal signals variables)
unfolding VariablesSpelled
signals_all [] signals names h = h
signals_all (v ∷ variables) signals names h =
    signals_all variables (with_signal signals v) names.1
    (signals_push signals (next_signal signals v) h
    (apart_spelled (enough signals) signals (label_of v.wires) v.name (first_label_spelled v.wires) names.0)
    (range_spelled (identifier (length signals)) (in_range (length signals))))

none_spelled : SignalsSpelled []
unfolding SignalsSpelled
none_spelled = tt

pub signals_spelled : (m : Model) (j : ℕ) → SignalsSpelled (signals_of m j)
signals_spelled m j = signals_all (variables_of m j) [] (variables_spelled m j) none_spelled

behind_space : (bytes : List ℕ) → is_spelled bytes ≡ true → AllByRecursion (λ b. 32 < b) bytes
behind_space [] h = tt
behind_space (b ∷ bytes) h = let p = and_parts (nat_lt 32 b) (is_spelled bytes) h in (ltb-true 32 b p.0, behind_space bytes p.1)

each_spelled : (signals : List Signal) → SignalsSpelled signals
    → AllByRecursion (λ (s : Signal). All (λ byte. 32 < byte) s.name × All (λ byte. 32 < byte) s.code) signals
unfolding SignalsSpelled
each_spelled [] h = tt
each_spelled (s ∷ signals) h = (
  (
    All-from_recursion (λ byte. 32 < byte) s.name (behind_space s.name h.0.0),
    All-from_recursion (λ byte. 32 < byte) s.code (behind_space s.code h.0.1),
  ),
  each_spelled signals h.1,
)

pub are_spelled : AreSpelled
are_spelled m j =
    All-from_recursion (λ (s : Signal). All (λ byte. 32 < byte) s.name × All (λ byte. 32 < byte) s.code) (signals_of m j) (each_spelled (signals_of m j) (signals_spelled m j))

-- ---- lines

-- no byte is a line feed
abbrev is_line : List ℕ → Bool
is_line bytes = list_all (λ b. not (b == 10)) bytes

line_both : (xs ys : List ℕ) → is_line xs ≡ true → is_line ys ≡ true → is_line (xs ++ ys) ≡ true
line_both xs ys h k = list_all-append (λ b. not (b == 10)) xs ys ∙ and_from (is_line xs) (is_line ys) h k

spelled_line : (xs : List ℕ) → is_spelled xs ≡ true → is_line xs ≡ true
spelled_line [] h = refl
spelled_line (b ∷ xs) h =
    let p = and_parts (nat_lt 32 b) (is_spelled xs) h in
    let less : 32 < b = ltb-true 32 b p.0 in
    and_from (not (b == 10)) (is_line xs) (ap not (ne_eqb b 10 (λ e. omega (arith, less, e)))) (spelled_line xs p.1)

lacks_by : (xs : List ℕ) → is_line xs ≡ true → AllByRecursion (λ b. b ≢ 10) xs
lacks_by [] h = tt
lacks_by (b ∷ xs) h =
    let p = and_parts (not (b == 10)) (is_line xs) h in
    (λ e. false≢true (sym (ap (λ n. not (n == 10)) e) ∙ p.0), lacks_by xs p.1)

lacks : (xs : List ℕ) → is_line xs ≡ true → Lacks xs 10
lacks xs h = All-from_recursion (λ b. b ≢ 10) xs (lacks_by xs h)

abbrev AreLines : List (List ℕ) → Type 0
AreLines lines = All (λ line. Lacks line 10) lines

lines_cons : (line : List ℕ) (lines : List (List ℕ)) → is_line line ≡ true → AreLines lines → AreLines (line ∷ lines)
lines_cons line lines h k = All-cons (λ l. Lacks l 10) line lines (lacks line h) k

lines_nil : AreLines []
lines_nil = All-nil (λ l. Lacks l 10)

lines_both : (a b : List (List ℕ)) → AreLines a → AreLines b → AreLines (a ++ b)
lines_both a b h k = All-append (λ l. Lacks l 10) a b h k

range_line : (s : Signal) → is_line (range_text s) ≡ true
range_line s = by (nat_lt (length s.wires) 2)
  where
    high : ℕ
    high = s.low + (length s.wires - 1)

    by : (t : Bool) → is_line (if t then [] else codes " [" ++ decimal high ++ 58 ∷ (decimal s.low ++ 93 ∷ [])) ≡ true
    by true = refl
    by false =
        line_both (decimal high) (58 ∷ (decimal s.low ++ 93 ∷ [])) (spelled_line (decimal high) (decimal_spelled high))
        (line_both (decimal s.low) (93 ∷ []) (spelled_line (decimal s.low) (decimal_spelled s.low)) refl)

width_line : (s : Signal) → is_line (width_text s) ≡ true
width_line s = line_both (decimal (length s.wires)) (32 ∷ []) (spelled_line (decimal (length s.wires)) (decimal_spelled (length s.wires))) refl

vars_lines : (signals : List Signal) → SignalsSpelled signals → AreLines (map var_line signals)
unfolding SignalsSpelled
vars_lines [] h = lines_nil
vars_lines (s ∷ signals) h =
    let named : List ℕ = s.name ++ range_text s in
    lines_cons (var_line s) (map var_line signals)
    (line_both (width_text s ++ s.code) (32 ∷ (named ++ codes " $end")) (line_both (width_text s) s.code (width_line s) (spelled_line s.code h.0.1))
    (line_both named (codes " $end") (line_both s.name (range_text s) (spelled_line s.name h.0.0) (range_line s)) refl))
    (vars_lines signals h.1)

digits_line : (values : List Bool) (looping : Bool) (wires : List Wire) → is_line (digits_of values looping wires) ≡ true
digits_line values looping [] = refl
digits_line values looping (w ∷ wires) = by (value_in values looping w) (digits_line values looping wires)
  where
    by : (b : Bool) → is_line (digits_of values looping wires) ≡ true → is_line (digit_of b ∷ digits_of values looping wires) ≡ true
    by true h = h
    by false h = h

word_line : (values : List Bool) (looping : Bool) (wires : List Wire) → is_line (word_of values looping wires) ≡ true
word_line values looping wires = by (nat_lt (length wires) 2) (digits_line values looping wires)
  where
    by : (t : Bool) → is_line (digits_of values looping wires) ≡ true
        → is_line (if t then digits_of values looping wires else 98 ∷ (digits_of values looping wires ++ 32 ∷ [])) ≡ true
    by true h = h
    by false h = line_both (digits_of values looping wires) (32 ∷ []) h refl

values_lines : (values : List Bool) (looping : Bool) (signals : List Signal) → SignalsSpelled signals → AreLines (map (value_line values looping) signals)
unfolding SignalsSpelled
values_lines values looping [] h = lines_nil
values_lines values looping (s ∷ signals) h =
    lines_cons (value_line values looping s) (map (value_line values looping) signals)
    (line_both (word_of values looping s.wires) s.code (word_line values looping s.wires) (spelled_line s.code h.0.1))
    (values_lines values looping signals h.1)

time_is_line : (t : ℕ) → is_line (time_line t) ≡ true
time_is_line t = spelled_line (decimal (10 * t)) (decimal_spelled (10 * t))

run_are_lines : (c : Circuit) (from : ℕ) (signals : List Signal) (t : ℕ) (run : List Position) → SignalsSpelled signals → AreLines (run_lines c from signals t run)
run_are_lines c from signals t [] h = lines_nil
run_are_lines c from signals t (p ∷ run) h =
    lines_both (position_lines c from signals t p) (run_lines c from signals (t + 1) run)
    (lines_cons (time_line t) _ (time_is_line t) (values_lines _ _ signals h)) (run_are_lines c from signals (t + 1) run h)

header_are_lines : (j : ℕ) (signals : List Signal) → SignalsSpelled signals → AreLines (header_lines j signals)
header_are_lines j signals h =
    let ends : List (List ℕ) = codes "$upscope $end" ∷ codes "$enddefinitions $end" ∷ [] in
    let scope : List (List ℕ) = codes "$scope module fairlive $end" ∷ (map var_line signals ++ ends) in
    lines_cons (codes "$timescale 1ns $end") (comment_line j ∷ scope) refl
    (lines_cons (comment_line j) scope (line_both (decimal j) (codes " $end") (spelled_line (decimal j) (decimal_spelled j)) refl)
    (lines_cons (codes "$scope module fairlive $end") (map var_line signals ++ ends) refl
    (lines_both (map var_line signals) ends (vars_lines signals h)
    (lines_cons (codes "$upscope $end") (codes "$enddefinitions $end" ∷ []) refl (lines_cons (codes "$enddefinitions $end") [] refl lines_nil)))))

pub dump_are_lines : (c : Circuit) (j : ℕ) (signals : List Signal) (lasso : Lasso) → SignalsSpelled signals → All (λ line. Lacks line 10) (dump_lines c j signals lasso)
dump_are_lines c j signals lasso h =
    lines_both (header_lines j signals) (all_lines c lasso.from signals (unrolled c lasso)) (header_are_lines j signals h)
    (lines_both (run_lines c lasso.from signals 0 (unrolled c lasso)) (time_line (length (unrolled c lasso)) ∷ []) (run_are_lines c lasso.from signals 0 (unrolled c lasso) h)
    (lines_cons (time_line (length (unrolled c lasso))) [] (time_is_line (length (unrolled c lasso))) lines_nil))
