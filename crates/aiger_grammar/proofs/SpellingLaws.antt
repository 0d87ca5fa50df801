-- What is written of a model stands for it.
use Rattle.std.proofs.Common.{◌≡◌, ℕ, suc, ◌+◌, ◌*◌, ◌≤◌, Bool, true, false, cond, eqb, List, [], ◌∷◌, ◌++◌, length, map, drop, Option, Some, None, refl, sym, subst, ◌∙◌, append_assoc, arith}
use Rattle.std.specs.Prelude.{codes}
use Rattle.std.specs.List.{All, AllByRecursion, flat_map}
use Rattle.std.proofs.lemmas.List.Elements.{All-from_recursion, All-map}
use Rattle.aig_semantics.specs.declared.limits.TheConstants.{MAX_NUMBER, MAX_VARIABLE}
use Rattle.aig_semantics.specs.declared.parts.Latch.{Latch}
use Rattle.aig_semantics.specs.declared.parts.Gate.{Gate}
use Rattle.circuit.specs.declared.parts.Parts.{Parts}
use Rattle.circuit.specs.Fitting.{IsFitting}
use Rattle.circuit.proofs.Counting.{All-joined}
use Rattle.circuit.proofs.Ranges.{IsFitting-from}
use Rattle.aiger_grammar.specs.declared.names.TheConstants.{INPUT, LATCH, OUTPUT, BAD, CONSTRAINT, JUSTICE, FAIRNESS}
use Rattle.aiger_grammar.specs.Models.{Model, IsModel, NamesElement, heading_of}
use Rattle.aiger_grammar.specs.Lines.{LinesOf, InputLine, LatchLine, GateLine, SymbolLine, CommentAtEnd, Numbers, HeaderLine}
use Rattle.aiger_grammar.specs.Texts.{header_numbers}
use Rattle.text_grammar.specs.Pieces.{Lacks}
use Rattle.aiger_grammar.specs.declared.names.Symbol.{Symbol}
use Rattle.aiger_grammar.specs.declared.names.Names.{Names}
use Rattle.aiger_grammar.specs.declared.names.Counts.{Counts}
use Rattle.aiger_grammar.specs.Names.{Fits, FittingLine, AreNames, count_of, counts_of}
use Rattle.aiger_grammar.specs.Spelling.{without_zeros, before, spaced, shown_numbers, header_text, number_lines, input_line, latch_line, gate_line, symbol_line, comment_text, names_text, AreWritable, ascii_text, WritesNames, WritesAscii}
use Rattle.aiger_grammar.proofs.LineSpelling.{all_stand, numbers_stand, input_stands, LatchIsLow, latch_stands, GateIsLow, gate_stands, SymbolIsWritable, symbol_stands, symbol_line_stands, spaced_stand, IsZero, zeros_split}
use Rattle.aiger_grammar.proofs.Room.{has_room}

comment_stands : (comment : Option (List ℕ)) → CommentAtEnd comment (comment_text comment)
comment_stands None = refl
comment_stands (Some text) = refl

pub names_stand : (counts : Counts) (names : Names) → AreWritable counts names → AreNames counts names (names_text names)
names_stand counts names w = record {
  at_comment = comment_text names.comment;
  symbols =
      all_stand (FittingLine counts) symbol_line (SymbolIsWritable counts) names.symbols (comment_text names.comment) (symbol_stands counts)
      (λ k d below. record { fits = w.fitting k d below; index = w.numbers k d below; one_line = w.one_line k d below });
  comment = comment_stands names.comment;
  no_digit = w.no_digit;
}

-- symbols that stand anywhere can be written
symbols_writable : (counts : Counts) (symbols : List Symbol) (bytes rest : List ℕ) → LinesOf (FittingLine counts) symbols bytes rest
    → AllByRecursion (Fits counts) symbols × AllByRecursion (λ symbol. symbol.index ≤ MAX_NUMBER) symbols × AllByRecursion (λ symbol. Lacks symbol.name 10) symbols
symbols_writable counts [] bytes rest s = (tt, tt, tt)
symbols_writable counts (x ∷ symbols) bytes rest s =
    let line = s.1.1 in
    let others = symbols_writable counts symbols s.0 rest s.2 in
    ((s.1.0, others.0), (line.3.small, others.1), (line.4.first, others.2))

names_writable : (counts : Counts) (names : Names) (bytes : List ℕ) → AreNames counts names bytes → AreWritable counts names
names_writable counts names bytes s =
    let all = symbols_writable counts names.symbols bytes s.at_comment s.symbols in
    record {
      fitting = All-from_recursion (Fits counts) names.symbols all.0;
      numbers = All-from_recursion (λ symbol. symbol.index ≤ MAX_NUMBER) names.symbols all.1;
      one_line = All-from_recursion (λ symbol. Lacks symbol.name 10) names.symbols all.2;
      no_digit = s.no_digit;
    }

pub writes_names : WritesNames
writes_names counts names = (λ s. names_writable counts names (names_text names) s, λ w. names_stand counts names w)

-- ---- the header

shown_low : (n : ℕ) (ns : List ℕ) (t : Bool) → n ≤ MAX_NUMBER → AllByRecursion (λ k. k ≤ MAX_NUMBER) (cond t [] (n ∷ []))
shown_low n ns true low = tt
shown_low n ns false low = (low, tt)

before_low : (n : ℕ) (ns : List ℕ) → n ≤ MAX_NUMBER → AllByRecursion (λ k. k ≤ MAX_NUMBER) ns → AllByRecursion (λ k. k ≤ MAX_NUMBER) (before n ns)
before_low n [] low all = shown_low n [] (eqb n 0) low
before_low n (m ∷ ms) low all = (low, all)

zeros_low : (ns : List ℕ) → AllByRecursion (λ k. k ≤ MAX_NUMBER) ns → AllByRecursion (λ k. k ≤ MAX_NUMBER) (without_zeros ns)
zeros_low [] all = tt
zeros_low (n ∷ ns) all = before_low n (without_zeros ns) all.0 (zeros_low ns all.1)

-- the last four numbers
abbrev optional : Model → List ℕ
optional m = length m.bad ∷ length m.circuit.constraints ∷ length m.circuit.justice ∷ length m.circuit.fairness ∷ []

-- how many numbers the header shows
abbrev pub shown_of : Model → ℕ
shown_of m = suc (suc (suc (suc (suc (length (without_zeros (optional m)))))))

pub record CountsAreLow (m : Model) : Type 0 where
  pub max : m.circuit.max ≤ MAX_NUMBER
  pub inputs : length m.circuit.inputs ≤ MAX_NUMBER
  pub latches : length m.circuit.latches ≤ MAX_NUMBER
  pub outputs : length m.outputs ≤ MAX_NUMBER
  pub gates : length m.circuit.gates ≤ MAX_NUMBER
  pub bad : length m.bad ≤ MAX_NUMBER
  pub constraints : length m.circuit.constraints ≤ MAX_NUMBER
  pub justice : length m.circuit.justice ≤ MAX_NUMBER
  pub fairness : length m.circuit.fairness ≤ MAX_NUMBER

counts_low : (m : Model) → IsModel m → CountsAreLow m
counts_low m is = let l = is.limits in record {
  max = omega (arith, l.max);
  inputs = l.inputs;
  latches = l.latches;
  outputs = is.outputs;
  gates = l.gates;
  bad = is.bad;
  constraints = l.constraints;
  justice = l.justice;
  fairness = l.fairness;
}

pub header_stands : (word : List ℕ) (m : Model) (rest : List ℕ) → IsModel m
    → HeaderLine word (header_numbers m) (shown_of m) (header_text word (heading_of m) ++ rest) rest
header_stands word m rest is =
    let l = counts_low m is in
    let four = optional m in
    let z = without_zeros four in
    let split = zeros_split four in
    let short : length z ≤ 4 = split.0 in
    let low = zeros_low four (l.bad, (l.constraints, (l.justice, (l.fairness, tt)))) in
    let numbers = shown_numbers (heading_of m) in
    record {
      numbers_at = spaced numbers ++ 10 ∷ rest;
      at_least = omega arith;
      at_most = omega (arith, short);
      left_out = All-from_recursion IsZero (drop (length z) four) split.2;
      word_first = append_assoc (word ++ spaced numbers) (10 ∷ []) rest ∙ append_assoc word (spaced numbers) (10 ∷ rest);
      numbers_next =
          subst (λ ns. Numbers (m.circuit.max ∷ length m.circuit.inputs ∷ length m.circuit.latches ∷ length m.outputs ∷ length m.circuit.gates ∷ ns) (spaced numbers ++ 10 ∷ rest) rest) (sym split.1)
          (spaced_stand numbers rest (l.max, (l.inputs, (l.latches, (l.outputs, (l.gates, low))))));
    }

-- ---- the sections

-- the sections of a model
abbrev pub sections_of : Model → Parts
sections_of m = record {
  max = m.circuit.max;
  inputs = m.circuit.inputs;
  latches = m.circuit.latches;
  gates = m.circuit.gates;
  outputs = m.outputs;
  bad = m.bad;
  constraints = m.circuit.constraints;
  justice = m.circuit.justice;
  fairness = m.circuit.fairness;
}

pub fitting : (m : Model) → IsModel m → IsFitting (sections_of m)
fitting m is = IsFitting-from (sections_of m) (record {
  variables = is.checked.in_range;
  limits = is.limits;
  literals = is.literals;
  outputs = is.outputs;
  bad = is.bad;
})

-- literals, whose greatest is within the limit on numbers
abbrev Literals : ℕ → List ℕ → Type 0
Literals max literals = All (λ n. n ≤ 2 * max + 1) literals

low_literals : (max : ℕ) (literals : List ℕ) → max ≤ MAX_VARIABLE → Literals max literals → All (λ n. n ≤ MAX_NUMBER) literals
low_literals max literals m all = λ k d below. let h : _ ≤ 2 * max + 1 = all k d below in omega arith

pub low_latches : (max : ℕ) (latches : List Latch) → max ≤ MAX_VARIABLE → All (λ latch. (1 ≤ latch.var) × (latch.var ≤ max)) latches → All (λ latch. latch.next ≤ 2 * max + 1) latches → All LatchIsLow latches
low_latches max latches m vars nexts = λ k d below.
    let v = (vars k d below).1 in
    let n = nexts k d below in
    record { var = omega (arith, m, v); next = omega (arith, m, n) }

low_gates : (max : ℕ) (gates : List Gate) → max ≤ MAX_VARIABLE → All (λ gate. (1 ≤ gate.var) × (gate.var ≤ max)) gates
    → All (λ gate. (gate.rhs0 ≤ 2 * max + 1) × (gate.rhs1 ≤ 2 * max + 1)) gates → All GateIsLow gates
low_gates max gates m vars sides = λ k d below.
    let v = (vars k d below).1 in
    let s = sides k d below in
    record { var = omega (arith, m, v); rhs0 = omega (arith, m, s.0); rhs1 = omega (arith, m, s.1) }

low_inputs : (max : ℕ) (inputs : List ℕ) → max ≤ MAX_VARIABLE → All (λ v. (1 ≤ v) × (v ≤ max)) inputs → All (λ v. 2 * v ≤ MAX_NUMBER) inputs
low_inputs max inputs m vars = λ k d below. let v = (vars k d below).1 in omega (arith, m, v)

low_sizes : (justice : List (List ℕ)) (fairness : ℕ) → All (λ property. length property + fairness ≤ 256) justice → All (λ n. n ≤ MAX_NUMBER) (map length justice)
low_sizes justice fairness all = All-map (λ n. n ≤ MAX_NUMBER) length justice (λ k d below. let h = all k d below in omega (arith, h))

cond_low : (t : Bool) (a b : ℕ) → a ≤ MAX_NUMBER → b ≤ MAX_NUMBER → cond t a b ≤ MAX_NUMBER
cond_low true a b h k = h
cond_low false a b h k = k

count_low : (m : Model) (letter : ℕ) → IsModel m → count_of (counts_of (heading_of m)) letter ≤ MAX_NUMBER
count_low m letter is =
    let l = counts_low m is in
    cond_low (eqb letter INPUT) _ _ l.inputs
    (cond_low (eqb letter LATCH) _ _ l.latches
    (cond_low (eqb letter OUTPUT) _ _ l.outputs
    (cond_low (eqb letter BAD) _ _ l.bad
    (cond_low (eqb letter CONSTRAINT) _ _ l.constraints
    (cond_low (eqb letter JUSTICE) _ _ l.justice
    (cond_low (eqb letter FAIRNESS) _ _ l.fairness (omega arith)))))))

pub symbols_stand : (m : Model) (rest : List ℕ) → IsModel m → LinesOf SymbolLine m.names.symbols (flat_map symbol_line m.names.symbols ++ rest) rest
symbols_stand m rest is =
    all_stand SymbolLine symbol_line (NamesElement m) m.names.symbols rest
    (λ symbol more names. symbol_line_stands symbol more (let i = names.fits.index in let c = count_low m symbol.letter is in omega (arith, i, c)) names.one_line)
    is.symbols

regroup : (h i l o b c s j f g y t : List ℕ)
    → h ++ i ++ l ++ (o ++ b ++ c ++ (s ++ j) ++ f) ++ g ++ (y ++ t) ≡ h ++ (i ++ (l ++ (o ++ (b ++ (c ++ (s ++ (j ++ (f ++ (g ++ (y ++ t))))))))))
regroup h i l o b c s j f g y t = simp append_assoc

pub writes_ascii : WritesAscii
writes_ascii m is =
    let c = m.circuit in
    let fit = fitting m is in
    let max : c.max ≤ MAX_VARIABLE = is.limits.max in
    let at_comment = comment_text m.names.comment in
    let at_symbols = flat_map symbol_line m.names.symbols ++ at_comment in
    let at_gates = flat_map gate_line c.gates ++ at_symbols in
    let at_fairness = number_lines c.fairness ++ at_gates in
    let at_justice = number_lines (flat_map (λ property. property) c.justice) ++ at_fairness in
    let at_sizes = number_lines (map length c.justice) ++ at_justice in
    let at_constraints = number_lines c.constraints ++ at_sizes in
    let at_bad = number_lines m.bad ++ at_constraints in
    let at_outputs = number_lines m.outputs ++ at_bad in
    let at_latches = flat_map latch_line c.latches ++ at_outputs in
    let at_inputs = flat_map input_line c.inputs ++ at_latches in
    let whole : ascii_text m ≡ header_text (codes "aag") (heading_of m) ++ at_inputs =
    regroup (header_text (codes "aag") (heading_of m)) (flat_map input_line c.inputs) (flat_map latch_line c.latches) (number_lines m.outputs) (number_lines m.bad)
    (number_lines c.constraints) (number_lines (map length c.justice)) (number_lines (flat_map (λ property. property) c.justice)) (number_lines c.fairness)
    (flat_map gate_line c.gates) (flat_map symbol_line m.names.symbols) at_comment
    in (
      shown_of m,
      record {
        at_inputs = at_inputs;
        at_latches = at_latches;
        at_outputs = at_outputs;
        at_bad = at_bad;
        at_constraints = at_constraints;
        at_sizes = at_sizes;
        at_justice = at_justice;
        at_fairness = at_fairness;
        at_gates = at_gates;
        at_symbols = at_symbols;
        at_comment = at_comment;
        model = is;
        room = has_room m is.checked;
        header = subst (λ b. HeaderLine (codes "aag") (header_numbers m) (shown_of m) b at_inputs) (sym whole) (header_stands (codes "aag") m at_inputs is);
        inputs = all_stand InputLine input_line (λ v. 2 * v ≤ MAX_NUMBER) c.inputs at_latches input_stands (low_inputs c.max c.inputs max fit.variables.inputs);
        latches = all_stand LatchLine latch_line LatchIsLow c.latches at_outputs latch_stands (low_latches c.max c.latches max fit.variables.latches fit.literals.latches);
        outputs = numbers_stand m.outputs at_bad (low_literals c.max m.outputs max fit.literals.outputs);
        bad = numbers_stand m.bad at_constraints (low_literals c.max m.bad max fit.literals.bad);
        constraints = numbers_stand c.constraints at_sizes (low_literals c.max c.constraints max fit.literals.constraints);
        sizes = numbers_stand (map length c.justice) at_justice (low_sizes c.justice (length c.fairness) is.limits.properties);
        justice = numbers_stand (flat_map (λ property. property) c.justice) at_fairness
            (low_literals c.max (flat_map (λ property. property) c.justice) max (All-joined (λ n. n ≤ 2 * c.max + 1) (λ property. property) c.justice fit.literals.justice));
        fairness = numbers_stand c.fairness at_gates (low_literals c.max c.fairness max fit.literals.fairness);
        gates = all_stand GateLine gate_line GateIsLow c.gates at_symbols gate_stands (low_gates c.max c.gates max fit.variables.gates fit.literals.gates);
        symbols = symbols_stand m at_comment is;
        comment = comment_stands m.names.comment;
      },
    )

-- the variables of a model are within the limit, section by section
pub record VariablesAreLow (m : Model) : Type 0 where
  pub inputs : All (λ v. v ≤ MAX_VARIABLE) m.circuit.inputs
  pub latches : All (λ latch. latch.var ≤ MAX_VARIABLE) m.circuit.latches
  pub gates : All (λ gate. gate.var ≤ MAX_VARIABLE) m.circuit.gates

pub variables_low : (m : Model) → IsModel m → VariablesAreLow m
variables_low m is =
    let max : m.circuit.max ≤ MAX_VARIABLE = is.limits.max in
    let v = (fitting m is).variables in
    record {
      inputs = λ k d below. let h = (v.inputs k d below).1 in omega (arith, max, h);
      latches = λ k d below. let h = (v.latches k d below).1 in omega (arith, max, h);
      gates = λ k d below. let h = (v.gates k d below).1 in omega (arith, max, h);
    }
