-- The law of the whole text: what is read is what stands there.
use Rattle.std.proofs.Common.{◌≡◌, ℕ, zero, suc, ◌+◌, ◌-◌, ◌*◌, ◌≤◌, ◌<◌, true, cond, eqb, leb, ltb, List, [], ◌∷◌, ◌++◌, length, map, Result, Ok, Err, refl, sym, ap, subst, ◌∙◌, arith}
use Rattle.std.specs.Prelude.{codes}
use Rattle.std.specs.List.{AllByRecursion}
use Rattle.std.proofs.lemmas.Bool.{eqb-true, eq-eqb, leb-true, le-leb, ltb-false, le-ltb}
use Rattle.std.proofs.lemmas.List.{length-map}
use Rattle.std.proofs.lemmas.List.FromFn.{length-range_with_len}
use Rattle.std.proofs.lemmas.List.Elements.{recursion_from_All}
use Rattle.aig_semantics.specs.declared.limits.TheConstants.{MAX_NUMBER, MAX_VARIABLE, MAX_MODEL_BYTES}
use Rattle.aig_semantics.specs.declared.parts.Latch.{Latch}
use Rattle.aig_semantics.specs.declared.parts.Gate.{Gate}
use Rattle.aig_semantics.specs.Circuits.{IsChecked, AreDefined}
use Rattle.circuit.specs.declared.parts.Parts.{Parts}
use Rattle.circuit.specs.declared.faults.ModelFault.{ModelFault}
use Rattle.circuit.specs.declared.faults.ModelFault.TheVariants.{Limit}
use Rattle.circuit.specs.Sections.{circuit_of, AreInRange}
use Rattle.aiger_grammar.specs.declared.names.Names.{Names}
use Rattle.aiger_grammar.specs.declared.sections.Heading.{Heading}
use Rattle.aiger_grammar.specs.Models.{Model, NamesElement}
use Rattle.aiger_grammar.specs.Lines.{NumberedLines}
use Rattle.aiger_grammar.specs.Names.{counts_of, names_at, AreNames}
use Rattle.aiger_grammar.specs.Reading.{◌>>=◌, many}
use Rattle.aiger_grammar.specs.Headers.{heading_at, defined_count}
use Rattle.aiger_grammar.specs.Sections.{next_at, parts_of}
use Rattle.aiger_grammar.specs.Deltas.{IsDelta, difference_at}
use Rattle.aiger_grammar.specs.BothForms.{model_of, with_names}
use Rattle.aiger_grammar.specs.BinaryTexts.{NumberedLatch, NumberedGate, IsBinaryTextOf, binary_heading_at, numbered_gate_at, latch_literal, gate_variable, binary_sections_at, binary_at}
use Rattle.std.specs.List.{range_with_len}
use Rattle.aiger_grammar.proofs.NamesLaws.{reads_names}
use Rattle.aiger_sections.proofs.ReaderLaws.{Reads, Then, bind_ok, then_reads, map_reads, said}
use Rattle.aiger_sections.proofs.FieldLaws.{IsVariable}
use Rattle.aiger_sections.proofs.LineLaws.{LatchFits, GateFits, NextOf, next_reads}
use Rattle.aiger_sections.proofs.SectionLaws.{many_reads, PropertyLines, properties_reads}
use Rattle.aiger_sections.proofs.HeadingLaws.{HeadingLine, heading_reads}
use Rattle.aiger_sections.proofs.RangeLaws.{fitting_from, range_from}
use Rattle.aiger_sections.proofs.WholeLaws.{properties_of, heading_of, same_heading, limited, limited_ok, past, named, counted_from, fitting_of, names_split, names_join, fits, is_model, parts_in, model_range}
use Rattle.aiger_sections.proofs.FormLaws.{ReadsForm}
use Rattle.aiger_binary.proofs.DifferenceLaws.{Difference, difference_reads}

-- ---- the header

abbrev pub BinaryHeading : Heading → List ℕ → List ℕ → Type 0
BinaryHeading h bytes rest = HeadingLine 105 h bytes rest × (defined_count h ≡ h.max) × (h.max ≤ MAX_VARIABLE)

limit_heading : Heading → List ℕ → Result (Heading × List ℕ) ModelFault
limit_heading h body = limited (eqb (defined_count h) h.max) (leb h.max MAX_VARIABLE) h body

heading_takes : (total : ℕ) (h : Heading) (bytes rest : List ℕ) → binary_heading_at total bytes ≡ Ok (h, rest) → BinaryHeading h bytes rest
unfolding binary_heading_at limit_heading
heading_takes total h bytes rest e =
    let b = bind_ok (heading_at (codes "aig") total bytes) limit_heading (h, rest) e in
    let p = limited_ok (eqb (defined_count b.0) b.0.max) (leb b.0.max MAX_VARIABLE) b.0 b.1 (h, rest) b.3 in
    let line = (heading_reads 105 total).takes b.0 bytes b.1 b.2 in
    let all : BinaryHeading b.0 bytes b.1 = (line, eqb-true _ _ p.0, leb-true _ _ p.1) in
    subst (λ x. BinaryHeading x.0 bytes x.1) p.2 all

heading_again : (total : ℕ) (h : Heading) (bytes rest : List ℕ) → BinaryHeading h bytes rest → binary_heading_at total bytes ≡ Ok (h, rest)
unfolding binary_heading_at limit_heading
heading_again total h bytes rest s =
    ap (λ r. r >>= limit_heading) ((heading_reads 105 total).again h bytes rest s.0)
    ∙ ap (λ t. limited t (leb h.max MAX_VARIABLE) h rest) (eq-eqb _ _ s.1)
    ∙ ap (λ t. limited true t h rest) (le-leb _ _ s.2)

-- ---- gates

abbrev made_gate : ℕ → ℕ → ℕ → Gate
made_gate v first second = record { var = v; rhs0 = 2 * v - first; rhs1 = 2 * v - first - second }

abbrev GateRead : ℕ → Gate → List ℕ → List ℕ → Type 0
GateRead v = Then (Difference 1 (2 * v)) (λ first gate bytes rest. (second : ℕ) × Difference 0 (2 * v - first) second bytes rest × (made_gate v first second ≡ gate))

gate_read : (v total : ℕ) → Reads (numbered_gate_at v total) (GateRead v)
unfolding numbered_gate_at
gate_read v total =
    then_reads _ _ (difference_reads 1 (2 * v) total) (λ first. map_reads (difference_at 0 (2 * v - first) total) (made_gate v first) (difference_reads 0 (2 * v - first) total))

apart : (n m : ℕ) → m ≤ n → n - (n - m) ≡ m
apart n m low = omega arith

-- both differences are numbers that a delta may be
abbrev pub IsSmall : ℕ → Gate → Type 0
IsSmall v gate = (2 * v - gate.rhs0 ≤ MAX_NUMBER) × (gate.rhs0 - gate.rhs1 ≤ MAX_NUMBER)

abbrev pub SmallGate : ℕ → Gate → List ℕ → List ℕ → Type 0
SmallGate v gate bytes rest = NumberedGate v gate bytes rest × IsSmall v gate

gate_there : (v : ℕ) (gate : Gate) (bytes rest : List ℕ) → GateRead v gate bytes rest → SmallGate v gate bytes rest
gate_there v gate bytes rest s =
    let first = s.0 in
    let t = s.3 in
    let low : 1 ≤ first = s.2.1 in
    let high : first ≤ 2 * v = s.2.2 in
    let high' : t.0 ≤ 2 * v - first = t.1.2 in
    let first_is = apart (2 * v) first high in
    let second_is = apart (2 * v - first) t.0 high' in
    subst (λ g. SmallGate v g bytes rest) t.2 (
      record {
        at_second = s.1;
        variable = refl;
        below = omega arith;
        ordered = omega arith;
        first = subst (λ d. IsDelta d bytes s.1) (sym first_is) s.2.0.1;
        second = subst (λ d. IsDelta d s.1 rest) (sym second_is) t.1.0.1;
      },
      (subst (λ d. d ≤ MAX_NUMBER) (sym first_is) s.2.0.0, subst (λ d. d ≤ MAX_NUMBER) (sym second_is) t.1.0.0),
    )

gate_back : (v : ℕ) (gate : Gate) (bytes rest : List ℕ) → SmallGate v gate bytes rest → GateRead v gate bytes rest
gate_back v gate bytes rest (s, small) =
    let below : gate.rhs0 < 2 * v = s.below in
    let ordered : gate.rhs1 ≤ gate.rhs0 = s.ordered in
    let side : 2 * v - (2 * v - gate.rhs0) ≡ gate.rhs0 = omega arith in
    let other : gate.rhs0 - (gate.rhs0 - gate.rhs1) ≡ gate.rhs1 = omega arith in
    let gate_by : ℕ → ℕ → ℕ → Gate = λ w first second. record { var = w; rhs0 = first; rhs1 = second } in
    let same : made_gate v (2 * v - gate.rhs0) (gate.rhs0 - gate.rhs1) ≡ gate =
    ap (λ r. gate_by v r (r - (gate.rhs0 - gate.rhs1))) side ∙ ap (λ r. gate_by v gate.rhs0 r) other ∙ ap (λ w. gate_by w gate.rhs0 gate.rhs1) (sym s.variable)
    in
    (2 * v - gate.rhs0, s.at_second, ((small.0, s.first), omega arith, omega arith), (gate.rhs0 - gate.rhs1, ((small.1, s.second), omega arith, omega arith), same))

pub gate_reads : (v total : ℕ) → Reads (numbered_gate_at v total) (SmallGate v)
gate_reads v total = said (gate_read v total) (gate_there v) (gate_back v)

-- ---- numbered lines, and the ranges of their numbers

pub variables_more : (v n : ℕ) → range_with_len v n ++ (v + n) ∷ [] ≡ range_with_len v (suc n)
variables_more v zero = ap (λ u. u ∷ []) (let e : v + 0 ≡ v = omega arith in e)
variables_more v (suc n) = ap (λ us. v ∷ us) (ap (λ u. range_with_len (v + 1) n ++ u ∷ []) (let e : v + suc n ≡ v + 1 + n = omega arith in e) ∙ variables_more (v + 1) n)

pub one_variable_more : (vs : List ℕ) (k : ℕ) → vs ≡ range_with_len 1 k → vs ++ (k + 1) ∷ [] ≡ range_with_len 1 (k + 1)
one_variable_more vs k e =
    let a : k + 1 ≡ 1 + k = omega arith in
    let b : suc k ≡ k + 1 = omega arith in
    ap (λ us. us ++ (k + 1) ∷ []) e ∙ ap (λ u. range_with_len 1 k ++ u ∷ []) a ∙ variables_more 1 k ∙ ap (range_with_len 1) b

variables_fit : (max v n : ℕ) → 1 ≤ v → v + n ≤ max + 1 → AllByRecursion (IsVariable max) (range_with_len v n)
variables_fit max v zero low high = tt
variables_fit max v (suc n) low high = ((low, omega arith), variables_fit max (v + 1) n (omega arith) (omega arith))

abbrev LatchLines : ℕ → ℕ → ℕ → List Latch → List ℕ → List ℕ → Type 0
LatchLines i max k xs bytes rest = NumberedLines (λ n. NextOf (i + 1 + n) max) k xs bytes rest

latches_split : (i max k : ℕ) (xs : List Latch) (bytes rest : List ℕ) → i + k + length xs ≤ max → LatchLines i max k xs bytes rest
    → NumberedLines (λ n. NumberedLatch (i + 1 + n)) k xs bytes rest × AllByRecursion (LatchFits max) xs
latches_split i max k [] bytes rest low s = (s, tt)
latches_split i max k (x ∷ xs) bytes rest low s =
    let v : x.var ≡ i + 1 + k = s.1.0 in
    let p = latches_split i max (k + 1) xs s.0 rest (omega arith) s.2 in
    ((s.0, (s.1.0, s.1.1), p.0), (record { variable = (omega arith, omega arith); next = s.1.2 }, p.1))

latches_join : (i max k : ℕ) (xs : List Latch) (bytes rest : List ℕ) → NumberedLines (λ n. NumberedLatch (i + 1 + n)) k xs bytes rest → AllByRecursion (LatchFits max) xs → LatchLines i max k xs bytes rest
latches_join i max k [] bytes rest s all = s
latches_join i max k (x ∷ xs) bytes rest s all = (s.0, (s.1.0, s.1.1, all.0.next), latches_join i max (k + 1) xs s.0 rest s.2 all.1)

abbrev GateLines : ℕ → ℕ → List Gate → List ℕ → List ℕ → Type 0
GateLines j k xs bytes rest = NumberedLines (λ n. SmallGate (j + 1 + n)) k xs bytes rest

gates_fit : (j max k : ℕ) (xs : List Gate) (bytes rest : List ℕ) → j + k + length xs ≤ max → GateLines j k xs bytes rest → NumberedLines (λ n. NumberedGate (j + 1 + n)) k xs bytes rest × AllByRecursion (GateFits max) xs
gates_fit j max k [] bytes rest low s = (s, tt)
gates_fit j max k (x ∷ xs) bytes rest low s =
    let v : x.var ≡ j + 1 + k = s.1.0.variable in
    let below : x.rhs0 < 2 * (j + 1 + k) = s.1.0.below in
    let ordered : x.rhs1 ≤ x.rhs0 = s.1.0.ordered in
    let p = gates_fit j max (k + 1) xs s.0 rest (omega arith) s.2 in
    ((s.0, s.1.0, p.0), (record { variable = (omega arith, omega arith); first = omega arith; second = omega arith }, p.1))

gates_join : (j max k : ℕ) (xs : List Gate) (bytes rest : List ℕ) → max ≤ MAX_VARIABLE → j + k + length xs ≤ max → NumberedLines (λ n. NumberedGate (j + 1 + n)) k xs bytes rest → GateLines j k xs bytes rest
gates_join j max k [] bytes rest few low s = s
gates_join j max k (x ∷ xs) bytes rest few low s =
    let below : x.rhs0 < 2 * (j + 1 + k) = s.1.below in
    let most : max ≤ MAX_VARIABLE = few in
    (s.0, (s.1, (omega arith, omega arith)), gates_join j max (k + 1) xs s.0 rest few (omega arith) s.2)

-- ---- the sections

abbrev Latches : Heading → List Latch → List ℕ → List ℕ → Type 0
Latches h xs bytes rest = (length xs ≡ h.latches) × LatchLines h.inputs h.max 0 xs bytes rest

abbrev Gates : Heading → List Gate → List ℕ → List ℕ → Type 0
Gates h xs bytes rest = (length xs ≡ h.gates) × GateLines (h.inputs + h.latches) 0 xs bytes rest

abbrev SectionsRead : Heading → Parts → List ℕ → List ℕ → Type 0
SectionsRead h =
    Then (Latches h) (λ latches. Then (PropertyLines h) (λ properties parts bytes rest.
    (gates : List Gate) × Gates h gates bytes rest × (parts_of h.max (range_with_len 1 h.inputs) latches properties gates ≡ parts)))

sections_read : (h : Heading) (total : ℕ) → Reads (binary_sections_at h total) (SectionsRead h)
unfolding binary_sections_at
sections_read h total =
    then_reads _ _ (many_reads (λ k. next_at (latch_literal h k) h.max total) 0 h.latches (λ k. next_reads (h.inputs + 1 + k) h.max total (omega arith))) (λ latches.
    then_reads _ _ (properties_reads h total) (λ properties.
    map_reads (many (λ k. numbered_gate_at (gate_variable h k) total) 0 h.gates) (parts_of h.max (range_with_len 1 h.inputs) latches properties)
    (many_reads (λ k. numbered_gate_at (gate_variable h k) total) 0 h.gates (λ k. gate_reads (gate_variable h k) total))))

-- all lines of the sections
pub record BinarySections (parts : Parts) (bytes rest : List ℕ) : Type 0 where
  pub at_outputs : List ℕ
  pub at_gates : List ℕ
  pub inputs : parts.inputs ≡ range_with_len 1 (length parts.inputs)
  pub latches : LatchLines (length parts.inputs) parts.max 0 parts.latches bytes at_outputs
  pub properties : PropertyLines (heading_of parts) (properties_of parts) at_outputs at_gates
  pub gates : GateLines (length parts.inputs + length parts.latches) 0 parts.gates at_gates rest

sections_there : (h : Heading) (parts : Parts) (bytes rest : List ℕ) → SectionsRead h parts bytes rest → (h ≡ heading_of parts) × BinarySections parts bytes rest
sections_there h parts bytes rest s =
    let p = s.3 in
    let g = p.3 in
    let q = p.2 in
    let made = parts_of h.max (range_with_len 1 h.inputs) s.0 p.0 g.0 in
    let sizes : length (map length p.0.justice) ≡ length p.0.justice = length-map p.0.justice length in
    let same : h ≡ heading_of made =
    same_heading h (length (range_with_len 1 h.inputs)) (length s.0) (length p.0.outputs) (length g.0) (length p.0.bad) (length p.0.constraints) (length p.0.justice) (length p.0.fairness)
    (length-range_with_len 1 h.inputs) s.2.0 q.outputs.0 g.1.0 q.bad.0 q.constraints.0 (sym sizes ∙ q.sizes.0) q.fairness.0
    in
    subst (λ x. (h ≡ heading_of x) × BinarySections x bytes rest) g.2 (
      same,
      record {
        at_outputs = s.1;
        at_gates = p.1;
        inputs = ap (range_with_len 1) (sym (length-range_with_len 1 h.inputs));
        latches = subst (λ x. LatchLines x.inputs x.max 0 s.0 bytes s.1) same s.2.1;
        properties = subst (λ x. PropertyLines x p.0 s.1 p.1) same q;
        gates = subst (λ x. GateLines (x.inputs + x.latches) 0 g.0 p.1 rest) same g.1.1;
      },
    )

sections_back : (parts : Parts) (bytes rest : List ℕ) → BinarySections parts bytes rest → SectionsRead (heading_of parts) parts bytes rest
sections_back parts bytes rest s = (
  parts.latches,
  s.at_outputs,
  (refl, s.latches),
  (
    properties_of parts,
    s.at_gates,
    s.properties,
    (
      parts.gates,
      (refl, s.gates),
      ap (λ inputs. parts_of parts.max inputs parts.latches (properties_of parts) parts.gates) (sym s.inputs),
    ),
  ),
)

-- ---- the text

pub record TextRead (parts : Parts) (names : Names) (bytes : List ℕ) : Type 0 where
  pub body : List ℕ
  pub at_names : List ℕ
  pub short : length bytes ≤ MAX_MODEL_BYTES
  pub heading : BinaryHeading (heading_of parts) bytes body
  pub sections : BinarySections parts body at_names
  pub names_stand : AreNames (counts_of (heading_of parts)) names at_names

abbrev behind_sections : Heading → List ℕ → Parts → List ℕ → Result (Parts × Names) ModelFault
behind_sections h bytes parts rest = with_names parts (names_at (counts_of h) (length bytes) rest)

abbrev behind_heading : List ℕ → Heading → List ℕ → Result (Parts × Names) ModelFault
behind_heading bytes h body = binary_sections_at h (length bytes) body >>= behind_sections h bytes

pub text_takes : (bytes : List ℕ) (parts : Parts) (names : Names) → binary_at bytes ≡ Ok (parts, names) → TextRead parts names bytes
unfolding binary_at
text_takes bytes parts names e =
    let total = length bytes in
    let a = past (ltb MAX_MODEL_BYTES total) (Limit MAX_MODEL_BYTES) (binary_heading_at total bytes >>= behind_heading bytes) (parts, names) e in
    let b = bind_ok (binary_heading_at total bytes) (behind_heading bytes) (parts, names) a.1 in
    let c = bind_ok (binary_sections_at b.0 total b.1) (behind_sections b.0 bytes) (parts, names) b.3 in
    let d = named c.0 (names_at (counts_of b.0) total c.1) (parts, names) c.3 in
    let stands = (sections_read b.0 total).takes c.0 b.1 c.1 c.2 in
    let sections = sections_there b.0 parts b.1 c.1 (subst (λ p. SectionsRead b.0 p b.1 c.1) d.1 stands) in
    record {
      body = b.1;
      at_names = c.1;
      short = ltb-false _ _ a.0;
      heading = subst (λ h. BinaryHeading h bytes b.1) sections.0 (heading_takes total b.0 bytes b.1 b.2);
      sections = sections.1;
      names_stand = subst (λ h. AreNames (counts_of h) names c.1) sections.0 ((reads_names (counts_of b.0) total names c.1).0 d.0);
    }

pub text_again : (bytes : List ℕ) (parts : Parts) (names : Names) → TextRead parts names bytes → binary_at bytes ≡ Ok (parts, names)
unfolding binary_at
text_again bytes parts names s =
    let total = length bytes in
    let h = heading_of parts in
    ap (λ t. cond t (Err (Limit MAX_MODEL_BYTES)) (binary_heading_at total bytes >>= behind_heading bytes)) (le-ltb _ _ s.short)
    ∙ ap (λ r. r >>= behind_heading bytes) (heading_again total h bytes s.body s.heading)
    ∙ ap (λ r. r >>= behind_sections h bytes) ((sections_read h total).again parts s.body s.at_names (sections_back parts s.body s.at_names s.sections))
    ∙ ap (with_names parts) ((reads_names (counts_of h) total names s.at_names).1 s.names_stand)

-- ---- what was read stands there

counts_fill : (parts : Parts) → defined_count (heading_of parts) ≡ parts.max → length parts.inputs + 0 + length parts.latches ≤ parts.max
counts_fill parts whole = let w : length parts.inputs + length parts.latches + length parts.gates ≡ parts.max = whole in omega arith

pub latches_of : (parts : Parts) (names : Names) (bytes : List ℕ) → (s : TextRead parts names bytes)
    → NumberedLines (λ n. NumberedLatch (length parts.inputs + 1 + n)) 0 parts.latches s.body s.sections.at_outputs × AllByRecursion (LatchFits parts.max) parts.latches
latches_of parts names bytes s = latches_split (length parts.inputs) parts.max 0 parts.latches s.body s.sections.at_outputs (counts_fill parts s.heading.1) s.sections.latches

pub gates_of : (parts : Parts) (names : Names) (bytes : List ℕ) → (s : TextRead parts names bytes)
    → NumberedLines (λ n. NumberedGate (length parts.inputs + length parts.latches + 1 + n)) 0 parts.gates s.sections.at_gates s.at_names × AllByRecursion (GateFits parts.max) parts.gates
gates_of parts names bytes s =
    let w : length parts.inputs + length parts.latches + length parts.gates ≡ parts.max = s.heading.1 in
    gates_fit (length parts.inputs + length parts.latches) parts.max 0 parts.gates s.sections.at_gates s.at_names (omega arith) s.sections.gates

pub text_range : (parts : Parts) (names : Names) (bytes : List ℕ) → TextRead parts names bytes → AreInRange parts
text_range parts names bytes s =
    let w : length parts.inputs + length parts.latches + length parts.gates ≡ parts.max = s.heading.1 in
    let variables = variables_fit parts.max 1 (length parts.inputs) (omega arith) (omega arith) in
    range_from parts
    (fitting_of parts s.sections.at_outputs s.sections.at_gates (subst (AllByRecursion (IsVariable parts.max)) (sym s.sections.inputs) variables) (latches_of parts names bytes s).1
    (gates_of parts names bytes s).1 s.sections.properties)
    (counted_from 105 parts bytes s.body s.heading.0 (omega arith) s.heading.2)

pub text_stands : (parts : Parts) (names : Names) (bytes : List ℕ) → TextRead parts names bytes → IsChecked (circuit_of parts) → AreDefined (circuit_of parts) (parts.outputs ++ parts.bad) → IsBinaryTextOf (model_of parts names) bytes
text_stands parts names bytes s checked all =
    let p = s.sections.properties in
    let symbols = names_split (counts_of (heading_of parts)) names.symbols s.at_names s.names_stand.at_comment s.names_stand.symbols in
    record {
      short = s.short;
      shown = s.heading.0.0;
      text = record {
        at_latches = s.body;
        at_outputs = s.sections.at_outputs;
        at_bad = p.at_bad;
        at_constraints = p.at_constraints;
        at_sizes = p.at_sizes;
        at_justice = p.at_justice;
        at_fairness = p.at_fairness;
        at_gates = s.sections.at_gates;
        at_symbols = s.at_names;
        at_comment = s.names_stand.at_comment;
        model = is_model parts names s.at_names (text_range parts names bytes s) s.names_stand checked all;
        numbered = record { inputs = s.sections.inputs; all = s.heading.1 };
        header = s.heading.0.1;
        latches = (latches_of parts names bytes s).0;
        outputs = p.outputs.1;
        bad = p.bad.1;
        constraints = p.constraints.1;
        sizes = p.sizes.1;
        justice = p.justice.1;
        fairness = p.fairness.1;
        gates = (gates_of parts names bytes s).0;
        symbols = symbols.0;
        comment = s.names_stand.comment;
      };
    }

-- ---- what stands there is read

pub stands_read : (m : Model) (bytes : List ℕ) → IsBinaryTextOf m bytes → TextRead (parts_in m) m.names bytes
stands_read m bytes s =
    let t = s.text in
    let parts = parts_in m in
    let f = fitting_from parts (model_range m t.model) in
    record {
      body = t.at_latches;
      at_names = t.at_symbols;
      short = s.short;
      heading = ((s.shown, t.header), t.numbered.all, t.model.limits.max);
      sections = record {
        at_outputs = t.at_outputs;
        at_gates = t.at_gates;
        inputs = t.numbered.inputs;
        latches = latches_join (length m.circuit.inputs) m.circuit.max 0 m.circuit.latches t.at_latches t.at_outputs t.latches f.latches;
        properties = record {
          at_bad = t.at_bad;
          at_constraints = t.at_constraints;
          at_sizes = t.at_sizes;
          at_justice = t.at_justice;
          at_fairness = t.at_fairness;
          outputs = (refl, t.outputs, f.outputs);
          bad = (refl, t.bad, f.bad);
          constraints = (refl, t.constraints, f.constraints);
          sizes = (length-map m.circuit.justice length, t.sizes, f.sizes);
          justice = (refl, t.justice, f.justice);
          fairness = (refl, t.fairness, f.fairness);
        };
        gates = gates_join (length m.circuit.inputs + length m.circuit.latches) m.circuit.max 0 m.circuit.gates t.at_gates t.at_symbols t.model.limits.max
            (let w : length m.circuit.inputs + length m.circuit.latches + length m.circuit.gates ≡ m.circuit.max = t.numbered.all in omega arith) t.gates;
      };
      names_stand = record {
        at_comment = t.at_comment;
        symbols = names_join (counts_of (heading_of parts)) m.names.symbols t.at_symbols t.at_comment t.symbols (fits parts m.names m.names.symbols (recursion_from_All (NamesElement m) m.names.symbols t.model.symbols));
        comment = t.comment;
        no_digit = t.model.comment;
      };
    }

pub binary_reads : ReadsForm IsBinaryTextOf binary_at
binary_reads = record {
  range = λ bytes parts names e. text_range parts names bytes (text_takes bytes parts names e);
  stands = λ bytes parts names e checked all. text_stands parts names bytes (text_takes bytes parts names e) checked all;
  model = λ m bytes s. s.text.model;
  again = λ m bytes s. text_again bytes (parts_in m) m.names (stands_read m bytes s);
}
