-- A model that has a binary text is ordered.
use Rattle.std.proofs.Common.{◌≡◌, ℕ, ◌+◌, ◌*◌, ◌<◌, List, [], ◌∷◌, map, length, Result, Ok, Err, refl, sym, ap, subst, ◌∙◌, arith}
use Rattle.std.specs.Prelude.{IfOk}
use Rattle.std.specs.List.{AllByRecursion, range_with_len}
use Rattle.std.proofs.lemmas.List.Elements.{All-from_recursion}
use Rattle.aig_semantics.specs.declared.parts.Gate.{Gate}
use Rattle.circuit.specs.declared.faults.ModelEnd.{ModelEnd}
use Rattle.aiger_grammar.specs.Models.{Model}
use Rattle.aiger_grammar.specs.Lines.{NumberedLines}
use Rattle.aiger_grammar.specs.Spelling.{binary_text}
use Rattle.aiger_grammar.specs.BinaryTexts.{NumberedLatch, NumberedGate, IsBinaryText, IsBinaryTextOf, HasBinaryForm, HasBinaryFault}
use Rattle.aiger_grammar.specs.Ordered.{IsDescending, IsOrdered, HasBinaryTextWhereOrdered}
use Rattle.aiger_sections.specs.Answers.{IsAnswer}
use Rattle.aiger_binary.proofs.Order.{ordered_by}
use Rattle.aiger_binary.proofs.Written.{writes_binary}

-- the variables of numbered lines are a range
lines_range : {X : Type 0} (Line : ℕ → X → List ℕ → List ℕ → Type 0) (var : X → ℕ) (base k : ℕ) (xs : List X) (bytes rest : List ℕ)
    → ((n : ℕ) (x : X) (b r : List ℕ) → Line n x b r → var x ≡ base + n) → NumberedLines Line k xs bytes rest → map var xs ≡ range_with_len (base + k) (length xs)
lines_range Line var base k [] bytes rest each s = refl
lines_range Line var base k (x ∷ xs) bytes rest each s =
    let e : base + (k + 1) ≡ base + k + 1 = omega arith in
    ap (λ v. v ∷ map var xs) (each k x bytes s.0 s.1)
    ∙ ap (λ vs. (base + k) ∷ vs) (lines_range Line var base (k + 1) xs s.0 rest each s.2 ∙ ap (λ a. range_with_len a (length xs)) e)

gates_descend : (base k : ℕ) (xs : List Gate) (bytes rest : List ℕ) → NumberedLines (λ n. NumberedGate (base + n)) k xs bytes rest → AllByRecursion IsDescending xs
gates_descend base k [] bytes rest s = tt
gates_descend base k (x ∷ xs) bytes rest s =
    let gate = s.1 in
    let first : x.rhs0 < 2 * x.var = subst (λ v. x.rhs0 < 2 * v) (sym gate.variable) gate.below in
    (record { first = first; second = gate.ordered }, gates_descend base (k + 1) xs s.0 rest s.2)

text_ordered : (shown : ℕ) (m : Model) (bytes : List ℕ) → IsBinaryText shown m bytes → IsOrdered m
text_ordered shown m bytes t =
    let c = m.circuit in
    let i = length c.inputs in
    let l = length c.latches in
    let e : i + 1 + 0 ≡ 1 + i = omega arith in
    let f : i + l + 1 + 0 ≡ 1 + i + l = omega arith in
    ordered_by m (sym t.numbered.all) t.numbered.inputs
    (lines_range (λ n. NumberedLatch (i + 1 + n)) (λ latch. latch.var) (i + 1) 0 c.latches t.at_latches t.at_outputs (λ n x b r s. s.0) t.latches
    ∙ ap (λ a. range_with_len a l) e)
    (lines_range (λ n. NumberedGate (i + l + 1 + n)) (λ gate. gate.var) (i + l + 1) 0 c.gates t.at_gates t.at_symbols (λ n x b r s. s.variable) t.gates
    ∙ ap (λ a. range_with_len a (length c.gates)) f)
    (All-from_recursion IsDescending c.gates (gates_descend (i + l + 1) 0 c.gates t.at_gates t.at_symbols t.gates))

pub form_ordered : (m : Model) (bytes : List ℕ) → HasBinaryForm m bytes → IsOrdered m
form_ordered m bytes form = text_ordered form.0 m bytes form.1

pub read_ordered : (m : Model) (bytes : List ℕ) → IsBinaryTextOf m bytes → IsOrdered m
read_ordered m bytes s = text_ordered s.shown m bytes s.text

pub has_text_where_ordered : HasBinaryTextWhereOrdered
has_text_where_ordered m is = (λ text. form_ordered m text.0 text.1, λ ordered. (binary_text m, writes_binary m is ordered))

pub ordered_answer : (bytes : List ℕ) (result : Result Model ModelEnd) → IsAnswer IsBinaryTextOf HasBinaryFault bytes result → IfOk result (λ m. IsOrdered m)
ordered_answer bytes (Ok m) text = read_ordered m bytes text
ordered_answer bytes (Err end) said = tt
