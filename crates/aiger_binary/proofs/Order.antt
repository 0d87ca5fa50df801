-- A model is ordered where it is so section by section.
use Rattle.std.proofs.Common.{◌≡◌, ℕ, suc, ◌+◌, ◌<◌, List, [], ◌∷◌, ◌++◌, map, length, get_or, refl, sym, ap, ◌∙◌, arith, length-append, map-id}
use Rattle.std.specs.List.{All, range_with_len}
use Rattle.std.proofs.lemmas.List.{length-map, get_or-map, get_or_append_left, get_or-append-add}
use Rattle.std.proofs.lemmas.List.FromFn.{length-range_with_len, get_or-range_with_len}
use Rattle.aig_semantics.specs.Circuits.{defined}
use Rattle.aiger_grammar.proofs.Ranges.{range_append}
use Rattle.aiger_grammar.specs.Models.{Model}
use Rattle.aiger_grammar.specs.Ordered.{IsDescending, IsOrdered}
use Rattle.aiger_binary.specs.Numbered.{AreNumbered, IsInOrder}

-- numbered elements have the variables of a range
pub numbered_range : {X : Type 0} (var : X → ℕ) (first : ℕ) (xs : List X) → AreNumbered var first xs → map var xs ≡ range_with_len first (length xs)
numbered_range var first [] n = refl
numbered_range var first (x ∷ xs) n =
    let head : var x ≡ first + 0 = n 0 x (omega arith) in
    let same : first + 0 ≡ first = omega arith in
    let tail : AreNumbered var (first + 1) xs = λ k d below. n (suc k) d (omega (arith, below)) ∙ (let e : first + suc k ≡ first + 1 + k = omega arith in e) in
    ap (λ v. v ∷ map var xs) (head ∙ same) ∙ ap (λ vs. first ∷ vs) (numbered_range var (first + 1) xs tail)

pub ordered_by : (m : Model) → m.circuit.max ≡ length m.circuit.inputs + length m.circuit.latches + length m.circuit.gates
    → m.circuit.inputs ≡ range_with_len 1 (length m.circuit.inputs)
    → map (λ latch. latch.var) m.circuit.latches ≡ range_with_len (1 + length m.circuit.inputs) (length m.circuit.latches)
    → map (λ gate. gate.var) m.circuit.gates ≡ range_with_len (1 + length m.circuit.inputs + length m.circuit.latches) (length m.circuit.gates)
    → All IsDescending m.circuit.gates → IsOrdered m
ordered_by m count first second third descending =
    let c = m.circuit in
    let latches = map (λ latch. latch.var) c.latches in
    let gates = map (λ gate. gate.var) c.gates in
    let i = length c.inputs in
    let l = length c.latches in
    let a = length c.gates in
    let e : 1 + i + l ≡ 1 + (i + l) = omega arith in
    record {
      numbered =
          ap (λ vs. vs ++ latches ++ gates) first
          ∙ ap (λ vs. range_with_len 1 i ++ vs ++ gates) second
          ∙ ap (λ vs. vs ++ gates) (range_append 1 i l)
          ∙ ap (λ vs. range_with_len 1 (i + l) ++ vs) (third ∙ ap (λ b. range_with_len b a) e)
          ∙ range_append 1 (i + l) a
          ∙ ap (range_with_len 1) (sym count);
      descending = descending;
    }

pub to_ordered : (m : Model) → IsInOrder m → IsOrdered m
to_ordered m o =
    let c = m.circuit in
    let i = length c.inputs in
    ordered_by m o.count (sym (map-id c.inputs) ∙ numbered_range (λ v. v) 1 c.inputs o.inputs)
    (numbered_range (λ latch. latch.var) (1 + i) c.latches o.latches)
    (numbered_range (λ gate. gate.var) (1 + i + length c.latches) c.gates o.gates) o.descending

pub from_ordered : (m : Model) → IsOrdered m → IsInOrder m
from_ordered m o =
    let c = m.circuit in
    let latches = map (λ latch. latch.var) c.latches in
    let gates = map (λ gate. gate.var) c.gates in
    let two = c.inputs ++ latches in
    let sl : length latches ≡ length c.latches = length-map c.latches (λ latch. latch.var) in
    let sg : length gates ≡ length c.gates = length-map c.gates (λ gate. gate.var) in
    let st : length two ≡ length c.inputs + length latches = length-append c.inputs latches in
    let sd : length (defined c) ≡ length two + length gates = length-append two gates in
    let sr : length (defined c) ≡ c.max = ap length o.numbered ∙ length-range_with_len 1 c.max in
    let at : (k d : ℕ) → k < c.max → get_or (defined c) k d ≡ 1 + k = λ k d lt. ap (λ vs. get_or vs k d) o.numbered ∙ get_or-range_with_len 1 c.max k d lt in
    record {
      count = omega (arith, sl, sg, st, sd, sr);
      inputs = λ k d below.
          let in_two : k < length two = omega (arith, st, below) in
          let in_all : k < c.max = omega (arith, sd, sr, in_two) in
          sym (get_or_append_left c.inputs latches d k below) ∙ sym (get_or_append_left two gates d k in_two) ∙ at k d in_all;
      latches = λ k d below.
          let in_two : length c.inputs + k < length two = omega (arith, st, sl, below) in
          let in_all : length c.inputs + k < c.max = omega (arith, sd, sr, in_two) in
          let e : 1 + (length c.inputs + k) ≡ 1 + length c.inputs + k = omega arith in
          sym (get_or-map (λ latch. latch.var) c.latches k d 0 below)
          ∙ sym (get_or-append-add c.inputs latches k 0)
          ∙ sym (get_or_append_left two gates 0 (length c.inputs + k) in_two)
          ∙ at (length c.inputs + k) 0 in_all ∙ e;
      gates = λ k d below.
          let in_all : length two + k < c.max = omega (arith, sd, sr, sg, below) in
          let e : 1 + (length two + k) ≡ 1 + length c.inputs + length c.latches + k = omega (arith, st, sl) in
          sym (get_or-map (λ gate. gate.var) c.gates k d 0 below)
          ∙ sym (get_or-append-add two gates k 0)
          ∙ at (length two + k) 0 in_all ∙ e;
      descending = o.descending;
    }
