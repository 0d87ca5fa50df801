-- The law of the whole text: what is read is what stands there.
use Rattle.std.proofs.Common.{◌≡◌, ℕ, ◌≤◌, true, cond, leb, ltb, List, ◌++◌, length, map, Result, Ok, Err, refl, sym, ap, subst, ◌∙◌}
use Rattle.std.specs.Prelude.{codes}
use Rattle.std.specs.List.{AllByRecursion}
use Rattle.std.proofs.lemmas.Bool.{leb-true, le-leb, ltb-false, le-ltb}
use Rattle.std.proofs.lemmas.List.{length-map}
use Rattle.std.proofs.lemmas.List.Elements.{recursion_from_All}
use Rattle.aig_semantics.specs.declared.limits.TheConstants.{MAX_VARIABLE, MAX_MODEL_BYTES}
use Rattle.aig_semantics.specs.declared.parts.Latch.{Latch}
use Rattle.aig_semantics.specs.declared.parts.Gate.{Gate}
use Rattle.aig_semantics.specs.Circuits.{IsChecked, AreDefined}
use Rattle.circuit.specs.declared.parts.Parts.{Parts}
use Rattle.circuit.specs.declared.faults.ModelFault.{ModelFault}
use Rattle.circuit.specs.declared.faults.ModelFault.TheVariants.{Limit}
use Rattle.circuit.specs.Sections.{circuit_of, AreInRange}
use Rattle.aiger_grammar.specs.declared.names.Names.{Names}
use Rattle.aiger_grammar.specs.declared.sections.Heading.{Heading}
use Rattle.aiger_grammar.specs.Models.{Model, NamesElement}
use Rattle.aiger_grammar.specs.Lines.{LinesOf, InputLine, LatchLine, GateLine}
use Rattle.aiger_grammar.specs.Names.{counts_of, names_at, AreNames}
use Rattle.aiger_grammar.specs.Reading.{◌>>=◌, lines_at}
use Rattle.aiger_grammar.specs.Headers.{heading_at, defined_count, ascii_heading_at}
use Rattle.aiger_grammar.specs.Sections.{input_at, latch_at, gate_at, parts_of, ascii_sections_at}
use Rattle.aiger_grammar.specs.BothForms.{model_of, with_names}
use Rattle.aiger_grammar.specs.AsciiTexts.{IsAsciiTextOf, ascii_at}
use Rattle.aiger_grammar.proofs.NamesLaws.{reads_names}
use Rattle.aiger_sections.proofs.ReaderLaws.{Reads, Then, bind_ok, then_reads, map_reads}
use Rattle.aiger_sections.proofs.FieldLaws.{IsVariable}
use Rattle.aiger_sections.proofs.LineLaws.{LatchFits, GateFits, input_reads, latch_reads, gate_reads}
use Rattle.aiger_sections.proofs.SectionLaws.{Section, section_reads, PropertyLines, properties_reads}
use Rattle.aiger_sections.proofs.HeadingLaws.{HeadingLine, heading_reads}
use Rattle.aiger_sections.proofs.RangeLaws.{fitting_from, range_from}
use Rattle.aiger_sections.proofs.WholeLaws.{properties_of, heading_of, same_heading, limited, limited_ok, past, named, counted_from, fitting_of, names_split, names_join, fits, is_model, parts_in, model_range}
use Rattle.aiger_sections.proofs.FormLaws.{ReadsForm}

-- ---- the header

abbrev pub AsciiHeading : Heading → List ℕ → List ℕ → Type 0
AsciiHeading h bytes rest = HeadingLine 97 h bytes rest × (defined_count h ≤ h.max) × (h.max ≤ MAX_VARIABLE)

limit_heading : Heading → List ℕ → Result (Heading × List ℕ) ModelFault
limit_heading h body = limited (leb (defined_count h) h.max) (leb h.max MAX_VARIABLE) h body

ascii_heading_takes : (total : ℕ) (h : Heading) (bytes rest : List ℕ) → ascii_heading_at total bytes ≡ Ok (h, rest) → AsciiHeading h bytes rest
unfolding ascii_heading_at limit_heading
ascii_heading_takes total h bytes rest e =
    let b = bind_ok (heading_at (codes "aag") total bytes) limit_heading (h, rest) e in
    let p = limited_ok (leb (defined_count b.0) b.0.max) (leb b.0.max MAX_VARIABLE) b.0 b.1 (h, rest) b.3 in
    let line = (heading_reads 97 total).takes b.0 bytes b.1 b.2 in
    let all : AsciiHeading b.0 bytes b.1 = (line, leb-true _ _ p.0, leb-true _ _ p.1) in
    subst (λ x. AsciiHeading x.0 bytes x.1) p.2 all

ascii_heading_again : (total : ℕ) (h : Heading) (bytes rest : List ℕ) → AsciiHeading h bytes rest → ascii_heading_at total bytes ≡ Ok (h, rest)
unfolding ascii_heading_at limit_heading
ascii_heading_again total h bytes rest s =
    ap (λ r. r >>= limit_heading) ((heading_reads 97 total).again h bytes rest s.0)
    ∙ ap (λ t. limited t (leb h.max MAX_VARIABLE) h rest) (le-leb _ _ s.1)
    ∙ ap (λ t. limited true t h rest) (le-leb _ _ s.2)

-- ---- the sections

abbrev Inputs : Heading → List ℕ → List ℕ → List ℕ → Type 0
Inputs h = Section InputLine (IsVariable h.max) h.inputs

abbrev Latches : Heading → List Latch → List ℕ → List ℕ → Type 0
Latches h = Section LatchLine (LatchFits h.max) h.latches

abbrev Gates : Heading → List Gate → List ℕ → List ℕ → Type 0
Gates h = Section GateLine (GateFits h.max) h.gates

abbrev SectionsRead : Heading → Parts → List ℕ → List ℕ → Type 0
SectionsRead h =
    Then (Inputs h) (λ inputs. Then (Latches h) (λ latches. Then (PropertyLines h) (λ properties parts bytes rest.
    (gates : List Gate) × Gates h gates bytes rest × (parts_of h.max inputs latches properties gates ≡ parts))))

sections_read : (h : Heading) (total : ℕ) → Reads (ascii_sections_at h total) (SectionsRead h)
unfolding ascii_sections_at
sections_read h total =
    then_reads _ _ (section_reads (input_at h.max total) h.inputs (input_reads h.max total)) (λ inputs.
    then_reads _ _ (section_reads (latch_at h.max total) h.latches (latch_reads h.max total)) (λ latches.
    then_reads _ _ (properties_reads h total) (λ properties.
    map_reads (lines_at (gate_at h.max total) h.gates) (parts_of h.max inputs latches properties) (section_reads (gate_at h.max total) h.gates (gate_reads h.max total)))))

-- all lines of the sections, each section with the range of its numbers
pub record AsciiSections (parts : Parts) (bytes rest : List ℕ) : Type 0 where
  pub at_latches : List ℕ
  pub at_outputs : List ℕ
  pub at_gates : List ℕ
  pub inputs : LinesOf InputLine parts.inputs bytes at_latches
  pub variables : AllByRecursion (IsVariable parts.max) parts.inputs
  pub latches : LinesOf LatchLine parts.latches at_latches at_outputs
  pub latches_fit : AllByRecursion (LatchFits parts.max) parts.latches
  pub properties : PropertyLines (heading_of parts) (properties_of parts) at_outputs at_gates
  pub gates : LinesOf GateLine parts.gates at_gates rest
  pub gates_fit : AllByRecursion (GateFits parts.max) parts.gates

sections_there : (h : Heading) (parts : Parts) (bytes rest : List ℕ) → SectionsRead h parts bytes rest → (h ≡ heading_of parts) × AsciiSections parts bytes rest
sections_there h parts bytes rest s =
    let l = s.3 in
    let p = l.3 in
    let g = p.3 in
    let q = p.2 in
    let made = parts_of h.max s.0 l.0 p.0 g.0 in
    let sizes : length (map length p.0.justice) ≡ length p.0.justice = length-map p.0.justice length in
    let same : h ≡ heading_of made =
    same_heading h (length s.0) (length l.0) (length p.0.outputs) (length g.0) (length p.0.bad) (length p.0.constraints) (length p.0.justice) (length p.0.fairness)
    s.2.0 l.2.0 q.outputs.0 g.1.0 q.bad.0 q.constraints.0 (sym sizes ∙ q.sizes.0) q.fairness.0
    in
    subst (λ x. (h ≡ heading_of x) × AsciiSections x bytes rest) g.2 (
      same,
      record {
        at_latches = s.1;
        at_outputs = l.1;
        at_gates = p.1;
        inputs = s.2.1;
        variables = s.2.2;
        latches = l.2.1;
        latches_fit = l.2.2;
        properties = subst (λ x. PropertyLines x p.0 l.1 p.1) same q;
        gates = g.1.1;
        gates_fit = g.1.2;
      },
    )

sections_back : (parts : Parts) (bytes rest : List ℕ) → AsciiSections parts bytes rest → SectionsRead (heading_of parts) parts bytes rest
sections_back parts bytes rest s =
    (parts.inputs, s.at_latches, (refl, s.inputs, s.variables), (parts.latches, s.at_outputs, (refl, s.latches, s.latches_fit), (properties_of parts, s.at_gates, s.properties, (parts.gates, (refl, s.gates, s.gates_fit), refl))))

-- ---- the text

pub record TextRead (parts : Parts) (names : Names) (bytes : List ℕ) : Type 0 where
  pub body : List ℕ
  pub at_names : List ℕ
  pub short : length bytes ≤ MAX_MODEL_BYTES
  pub heading : AsciiHeading (heading_of parts) bytes body
  pub sections : AsciiSections parts body at_names
  pub names_stand : AreNames (counts_of (heading_of parts)) names at_names

abbrev behind_sections : Heading → List ℕ → Parts → List ℕ → Result (Parts × Names) ModelFault
behind_sections h bytes parts rest = with_names parts (names_at (counts_of h) (length bytes) rest)

abbrev behind_heading : List ℕ → Heading → List ℕ → Result (Parts × Names) ModelFault
behind_heading bytes h body = ascii_sections_at h (length bytes) body >>= behind_sections h bytes

pub text_takes : (bytes : List ℕ) (parts : Parts) (names : Names) → ascii_at bytes ≡ Ok (parts, names) → TextRead parts names bytes
unfolding ascii_at
text_takes bytes parts names e =
    let total = length bytes in
    let a = past (ltb MAX_MODEL_BYTES total) (Limit MAX_MODEL_BYTES) (ascii_heading_at total bytes >>= behind_heading bytes) (parts, names) e in
    let b = bind_ok (ascii_heading_at total bytes) (behind_heading bytes) (parts, names) a.1 in
    let c = bind_ok (ascii_sections_at b.0 total b.1) (behind_sections b.0 bytes) (parts, names) b.3 in
    let d = named c.0 (names_at (counts_of b.0) total c.1) (parts, names) c.3 in
    let stands = (sections_read b.0 total).takes c.0 b.1 c.1 c.2 in
    let sections = sections_there b.0 parts b.1 c.1 (subst (λ p. SectionsRead b.0 p b.1 c.1) d.1 stands) in
    record {
      body = b.1;
      at_names = c.1;
      short = ltb-false _ _ a.0;
      heading = subst (λ h. AsciiHeading h bytes b.1) sections.0 (ascii_heading_takes total b.0 bytes b.1 b.2);
      sections = sections.1;
      names_stand = subst (λ h. AreNames (counts_of h) names c.1) sections.0 ((reads_names (counts_of b.0) total names c.1).0 d.0);
    }

pub text_again : (bytes : List ℕ) (parts : Parts) (names : Names) → TextRead parts names bytes → ascii_at bytes ≡ Ok (parts, names)
unfolding ascii_at
text_again bytes parts names s =
    let total = length bytes in
    let h = heading_of parts in
    ap (λ t. cond t (Err (Limit MAX_MODEL_BYTES)) (ascii_heading_at total bytes >>= behind_heading bytes)) (le-ltb _ _ s.short)
    ∙ ap (λ r. r >>= behind_heading bytes) (ascii_heading_again total h bytes s.body s.heading)
    ∙ ap (λ r. r >>= behind_sections h bytes) ((sections_read h total).again parts s.body s.at_names (sections_back parts s.body s.at_names s.sections))
    ∙ ap (with_names parts) ((reads_names (counts_of h) total names s.at_names).1 s.names_stand)

-- ---- what was read stands there

pub text_range : (parts : Parts) (names : Names) (bytes : List ℕ) → TextRead parts names bytes → AreInRange parts
text_range parts names bytes s =
    range_from parts
    (fitting_of parts s.sections.at_outputs s.sections.at_gates s.sections.variables s.sections.latches_fit s.sections.gates_fit s.sections.properties)
    (counted_from 97 parts bytes s.body s.heading.0 s.heading.1 s.heading.2)

pub text_stands : (parts : Parts) (names : Names) (bytes : List ℕ) → TextRead parts names bytes → IsChecked (circuit_of parts) → AreDefined (circuit_of parts) (parts.outputs ++ parts.bad) → IsAsciiTextOf (model_of parts names) bytes
text_stands parts names bytes s checked all =
    let p = s.sections.properties in
    let symbols = names_split (counts_of (heading_of parts)) names.symbols s.at_names s.names_stand.at_comment s.names_stand.symbols in
    record {
      short = s.short;
      shown = s.heading.0.0;
      text = record {
        at_inputs = s.body;
        at_latches = s.sections.at_latches;
        at_outputs = s.sections.at_outputs;
        at_bad = p.at_bad;
        at_constraints = p.at_constraints;
        at_sizes = p.at_sizes;
        at_justice = p.at_justice;
        at_fairness = p.at_fairness;
        at_gates = s.sections.at_gates;
        at_symbols = s.at_names;
        at_comment = s.names_stand.at_comment;
        model = is_model parts names s.at_names (text_range parts names bytes s) s.names_stand checked all;
        room = s.heading.1;
        header = s.heading.0.1;
        inputs = s.sections.inputs;
        latches = s.sections.latches;
        outputs = p.outputs.1;
        bad = p.bad.1;
        constraints = p.constraints.1;
        sizes = p.sizes.1;
        justice = p.justice.1;
        fairness = p.fairness.1;
        gates = s.sections.gates;
        symbols = symbols.0;
        comment = s.names_stand.comment;
      };
    }

-- ---- what stands there is read

pub stands_read : (m : Model) (bytes : List ℕ) → IsAsciiTextOf m bytes → TextRead (parts_in m) m.names bytes
stands_read m bytes s =
    let t = s.text in
    let parts = parts_in m in
    let f = fitting_from parts (model_range m t.model) in
    record {
      body = t.at_inputs;
      at_names = t.at_symbols;
      short = s.short;
      heading = ((s.shown, t.header), t.room, t.model.limits.max);
      sections = record {
        at_latches = t.at_latches;
        at_outputs = t.at_outputs;
        at_gates = t.at_gates;
        inputs = t.inputs;
        variables = f.inputs;
        latches = t.latches;
        latches_fit = f.latches;
        properties = record {
          at_bad = t.at_bad;
          at_constraints = t.at_constraints;
          at_sizes = t.at_sizes;
          at_justice = t.at_justice;
          at_fairness = t.at_fairness;
          outputs = (refl, t.outputs, f.outputs);
          bad = (refl, t.bad, f.bad);
          constraints = (refl, t.constraints, f.constraints);
          sizes = (length-map m.circuit.justice length, t.sizes, f.sizes);
          justice = (refl, t.justice, f.justice);
          fairness = (refl, t.fairness, f.fairness);
        };
        gates = t.gates;
        gates_fit = f.gates;
      };
      names_stand = record {
        at_comment = t.at_comment;
        symbols = names_join (counts_of (heading_of parts)) m.names.symbols t.at_symbols t.at_comment t.symbols (fits parts m.names m.names.symbols (recursion_from_All (NamesElement m) m.names.symbols t.model.symbols));
        comment = t.comment;
        no_digit = t.model.comment;
      };
    }

pub ascii_reads : ReadsForm IsAsciiTextOf ascii_at
ascii_reads = record {
  range = λ bytes parts names e. text_range parts names bytes (text_takes bytes parts names e);
  stands = λ bytes parts names e checked all. text_stands parts names bytes (text_takes bytes parts names e) checked all;
  model = λ m bytes s. s.text.model;
  again = λ m bytes s. text_again bytes (parts_in m) m.names (stands_read m bytes s);
}
