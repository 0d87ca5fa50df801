-- The binary text of an ordered model stands for it.
use Rattle.std.proofs.Common.{◌≡◌, ℕ, suc, ◌+◌, ◌-◌, ◌*◌, ◌<◌, ◌≤◌, List, [], ◌∷◌, ◌++◌, map, length, get_or, map-id, Option, Some, None, refl, sym, subst, ◌∙◌, append_assoc, arith}
use Rattle.std.specs.Prelude.{codes}
use Rattle.std.specs.List.{All, AllByRecursion, flat_map, range_with_len}
use Rattle.std.proofs.lemmas.List.Elements.{recursion_from_All, All-map}
use Rattle.aig_semantics.specs.declared.limits.TheConstants.{MAX_NUMBER, MAX_VARIABLE}
use Rattle.aig_semantics.specs.declared.parts.Gate.{Gate}
use Rattle.circuit.proofs.Counting.{All-joined}
use Rattle.aiger_grammar.specs.Models.{heading_of}
use Rattle.aiger_grammar.specs.Lines.{NumberedLines, CommentAtEnd, HeaderLine}
use Rattle.aiger_grammar.specs.Texts.{header_numbers}
use Rattle.aiger_grammar.specs.Deltas.{IsDelta, delta_text}
use Rattle.aiger_grammar.specs.BinaryTexts.{NumberedLatch, NumberedGate}
use Rattle.aiger_grammar.specs.Ordered.{IsDescending, WritesBinary}
use Rattle.aiger_grammar.specs.Spelling.{header_text, number_lines, next_line, gate_deltas, symbol_line, comment_text, binary_text}
use Rattle.aiger_grammar.proofs.DeltaLaws.{delta_stands}
use Rattle.aiger_grammar.proofs.LineSpelling.{numbers_stand, LatchIsLow, next_stands}
use Rattle.aiger_grammar.proofs.SpellingLaws.{shown_of, header_stands, fitting, low_latches, symbols_stand}
use Rattle.aiger_binary.specs.Numbered.{AreNumbered}
use Rattle.aiger_binary.proofs.Order.{numbered_range, from_ordered}

-- lines of which each stands where it is written, with the variable that its number wants
numbered_stand : {A : Type 0} (Line : ℕ → A → List ℕ → List ℕ → Type 0) (text : A → List ℕ) (P : A → Type 0) (var : A → ℕ) (base k : ℕ) (xs : List A) (rest : List ℕ)
    → ((i : ℕ) (x : A) (more : List ℕ) → P x → var x ≡ base + i → Line i x (text x ++ more) more)
    → AllByRecursion P xs → ((i : ℕ) (d : A) → i < length xs → var (get_or xs i d) ≡ base + (k + i)) → NumberedLines Line k xs (flat_map text xs ++ rest) rest
numbered_stand Line text P var base k [] rest each all num = refl
numbered_stand Line text P var base k (x ∷ xs) rest each all num =
    let here : base + (k + 0) ≡ base + k = omega arith in (
      flat_map text xs ++ rest,
      subst (λ b. Line k x b (flat_map text xs ++ rest)) (sym (append_assoc (text x) (flat_map text xs) rest)) (each k x (flat_map text xs ++ rest) all.0 (num 0 x (omega arith) ∙ here)),
      numbered_stand Line text P var base (k + 1) xs rest each all.1
          (λ i d below. num (suc i) d (omega (arith, below)) ∙ (let e : base + (k + suc i) ≡ base + (k + 1 + i) = omega arith in e)),
    )

inputs_from : (inputs : List ℕ) → AreNumbered (λ v. v) 1 inputs → inputs ≡ range_with_len 1 (length inputs)
inputs_from inputs n = sym (map-id inputs) ∙ numbered_range (λ v. v) 1 inputs n

-- a gate within the limits that descends
record GateIsWritable (gate : Gate) : Type 0 where
  pub low : 2 * gate.var ≤ MAX_NUMBER
  pub descends : IsDescending gate

gate_written : (gate : Gate) (rest : List ℕ) → GateIsWritable gate → NumberedGate gate.var gate (gate_deltas gate ++ rest) rest
gate_written gate rest w =
    let low = w.low in
    let first = w.descends.first in
    let second = w.descends.second in
    let at_second = delta_text (gate.rhs0 - gate.rhs1) ++ rest in
    record {
      at_second = at_second;
      variable = refl;
      below = first;
      ordered = second;
      first =
          subst (λ b. IsDelta (2 * gate.var - gate.rhs0) b at_second) (sym (append_assoc (delta_text (2 * gate.var - gate.rhs0)) (delta_text (gate.rhs0 - gate.rhs1)) rest))
          (delta_stands (2 * gate.var - gate.rhs0) at_second (omega (arith, low)));
      second = delta_stands (gate.rhs0 - gate.rhs1) rest (omega (arith, low, first));
    }

comment_written : (comment : Option (List ℕ)) → CommentAtEnd comment (comment_text comment)
comment_written None = refl
comment_written (Some text) = refl

low_literals : (max : ℕ) (literals : List ℕ) → max ≤ MAX_VARIABLE → All (λ n. n ≤ 2 * max + 1) literals → All (λ n. n ≤ MAX_NUMBER) literals
low_literals max literals m all = λ k d below. let h : _ ≤ 2 * max + 1 = all k d below in omega arith

low_gates : (max : ℕ) (gates : List Gate) → max ≤ MAX_VARIABLE → All (λ gate. (1 ≤ gate.var) × (gate.var ≤ max)) gates → All IsDescending gates → All GateIsWritable gates
low_gates max gates m vars descending = λ k d below.
    let v = (vars k d below).1 in
    record { low = omega (arith, m, v); descends = descending k d below }

low_sizes : (justice : List (List ℕ)) (fairness : ℕ) → All (λ property. length property + fairness ≤ 256) justice → All (λ n. n ≤ MAX_NUMBER) (map length justice)
low_sizes justice fairness all = All-map (λ n. n ≤ MAX_NUMBER) length justice (λ k d below. let h = all k d below in omega (arith, h))

regroup : (h l o b c s j f g y t : List ℕ) → h ++ l ++ (o ++ b ++ c ++ (s ++ j) ++ f) ++ g ++ (y ++ t) ≡ h ++ (l ++ (o ++ (b ++ (c ++ (s ++ (j ++ (f ++ (g ++ (y ++ t)))))))))
regroup h l o b c s j f g y t = simp append_assoc

pub writes_binary : WritesBinary
writes_binary m is ordered =
    let c = m.circuit in
    let fit = fitting m is in
    let order = from_ordered m ordered in
    let max : c.max ≤ MAX_VARIABLE = is.limits.max in
    let at_comment = comment_text m.names.comment in
    let at_symbols = flat_map symbol_line m.names.symbols ++ at_comment in
    let at_gates = flat_map gate_deltas c.gates ++ at_symbols in
    let at_fairness = number_lines c.fairness ++ at_gates in
    let at_justice = number_lines (flat_map (λ property. property) c.justice) ++ at_fairness in
    let at_sizes = number_lines (map length c.justice) ++ at_justice in
    let at_constraints = number_lines c.constraints ++ at_sizes in
    let at_bad = number_lines m.bad ++ at_constraints in
    let at_outputs = number_lines m.outputs ++ at_bad in
    let at_latches = flat_map next_line c.latches ++ at_outputs in
    let whole : binary_text m ≡ header_text (codes "aig") (heading_of m) ++ at_latches =
    regroup (header_text (codes "aig") (heading_of m)) (flat_map next_line c.latches) (number_lines m.outputs) (number_lines m.bad)
    (number_lines c.constraints) (number_lines (map length c.justice)) (number_lines (flat_map (λ property. property) c.justice)) (number_lines c.fairness)
    (flat_map gate_deltas c.gates) (flat_map symbol_line m.names.symbols) at_comment
    in (
      shown_of m,
      record {
        at_latches = at_latches;
        at_outputs = at_outputs;
        at_bad = at_bad;
        at_constraints = at_constraints;
        at_sizes = at_sizes;
        at_justice = at_justice;
        at_fairness = at_fairness;
        at_gates = at_gates;
        at_symbols = at_symbols;
        at_comment = at_comment;
        model = is;
        numbered = record { inputs = inputs_from c.inputs order.inputs; all = sym order.count };
        header = subst (λ b. HeaderLine (codes "aig") (header_numbers m) (shown_of m) b at_latches) (sym whole) (header_stands (codes "aig") m at_latches is);
        latches =
            numbered_stand (λ k. NumberedLatch (length c.inputs + 1 + k)) next_line LatchIsLow (λ latch. latch.var) (length c.inputs + 1) 0 c.latches at_outputs
            (λ i latch more low var. (var, next_stands latch more low))
            (recursion_from_All LatchIsLow c.latches (low_latches c.max c.latches max fit.variables.latches fit.literals.latches))
            (λ i d below. order.latches i d below ∙ (let e : 1 + length c.inputs + i ≡ length c.inputs + 1 + (0 + i) = omega arith in e));
        outputs = numbers_stand m.outputs at_bad (low_literals c.max m.outputs max fit.literals.outputs);
        bad = numbers_stand m.bad at_constraints (low_literals c.max m.bad max fit.literals.bad);
        constraints = numbers_stand c.constraints at_sizes (low_literals c.max c.constraints max fit.literals.constraints);
        sizes = numbers_stand (map length c.justice) at_justice (low_sizes c.justice (length c.fairness) is.limits.properties);
        justice =
            numbers_stand (flat_map (λ property. property) c.justice) at_fairness
            (low_literals c.max (flat_map (λ property. property) c.justice) max (All-joined (λ n. n ≤ 2 * c.max + 1) (λ property. property) c.justice fit.literals.justice));
        fairness = numbers_stand c.fairness at_gates (low_literals c.max c.fairness max fit.literals.fairness);
        gates =
            numbered_stand (λ k. NumberedGate (length c.inputs + length c.latches + 1 + k)) gate_deltas GateIsWritable (λ gate. gate.var) (length c.inputs + length c.latches + 1) 0 c.gates at_symbols
            (λ i gate more w var. subst (λ v. NumberedGate v gate (gate_deltas gate ++ more) more) var (gate_written gate more w))
            (recursion_from_All GateIsWritable c.gates (low_gates c.max c.gates max fit.variables.gates order.descending))
            (λ i d below. order.gates i d below ∙ (let e : 1 + length c.inputs + length c.latches + i ≡ length c.inputs + length c.latches + 1 + (0 + i) = omega arith in e));
        symbols = symbols_stand m at_comment is;
        comment = comment_written m.names.comment;
      },
    )
