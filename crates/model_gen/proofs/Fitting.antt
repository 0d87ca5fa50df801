-- The sections of both kinds of model are in range, and define their variables in order.
use Rattle.std.proofs.Common.{◌≡◌, ℕ, zero, suc, ◌+◌, ◌*◌, ◌%◌, ◌<◌, ◌≤◌, Bool, true, false, cond, eqb, ltb, List, [], ◌∷◌, ◌++◌, map, length, refl, ap, ◌∙◌, arith}
use Rattle.std.specs.List.{All, range_with_len}
use Rattle.std.proofs.lemmas.List.{append-nil}
use Rattle.std.proofs.lemmas.List.Elements.{All-nil, All-cons}
use Rattle.std.proofs.lemmas.Nat.{mod_below}
use Rattle.aig_semantics.specs.declared.parts.Latch.{Latch}
use Rattle.aig_semantics.specs.declared.parts.Gate.{Gate}
use Rattle.aig_semantics.specs.Circuits.{defined}
use Rattle.circuit.specs.declared.parts.Parts.{Parts}
use Rattle.circuit.specs.Sections.{circuit_of, AreInRange}
use Rattle.circuit.proofs.Ranges.{AreInRange-from}
use Rattle.aiger_grammar.proofs.Ranges.{range_append}
use Rattle.aiger_grammar.specs.Ordered.{IsDescending, IsOrdered}
use Rattle.std.proofs.lemmas.Bool.{ltb-true, ltb-false}
use Rattle.model_gen.specs.Draws.{draw, state_after}
use Rattle.model_gen.specs.Generated.{made, plain_parts, ring_latch, ring_circuit, ring_model, greatest, gate_drawn, scrambled_gate, literal_drawn, scrambled_latch, behind_gates, behind_latches, scramble_circuit, scramble_model}
use Rattle.model_gen.proofs.Making.{all_made, made_length, draw_later}
use Rattle.model_gen.proofs.Checked.{ReadsLower}

cond_at_most : (t : Bool) (a b m : ℕ) → a ≤ m → b ≤ m → cond t a b ≤ m
cond_at_most true a b m h k = h
cond_at_most false a b m h k = k

cond_below : (t : Bool) (a b m : ℕ) → a < m → b < m → cond t a b < m
cond_below true a b m h k = h
cond_below false a b m h k = k

-- ---- variables in order

map_range : {X : Type 0} (f : ℕ → X) (g : X → ℕ) (a c n : ℕ) → ((i : ℕ) → g (f i) ≡ i + c) → map g (map f (range_with_len a n)) ≡ range_with_len (a + c) n
map_range f g a c zero each = refl
map_range f g a c (suc n) each =
    let e : a + 1 + c ≡ a + c + 1 = omega arith in
    ap (λ x. x ∷ map g (map f (range_with_len (a + 1) n))) (each a)
    ∙ ap (λ xs. (a + c) ∷ xs) (map_range f g (a + 1) c n each ∙ ap (λ k. range_with_len k n) e)

-- ---- a ring

pub ring_ordered : (seed n : ℕ) → defined (circuit_of (plain_parts (ring_circuit seed n))) ≡ range_with_len 1 n
ring_ordered seed n =
    append-nil (map (λ latch. latch.var) (made (ring_latch seed n) n)) ∙ map_range (ring_latch seed n) (λ latch. latch.var) 0 1 n (λ i. refl)

ring_next : (seed n i : ℕ) → i < n → (ring_latch seed n i).next ≤ 2 * n + 1
ring_next seed n i lt = let h = cond_at_most (eqb i 0) n i n (omega arith) (omega arith) in omega (arith, h)

pub ring_in_range : (seed n : ℕ) → n ≤ 256 → AreInRange (plain_parts (ring_circuit seed n))
ring_in_range seed n few =
    let literals = made (λ i. 2 * (i + 1)) n in
    AreInRange-from (plain_parts (ring_circuit seed n)) (record {
      max = omega (arith, few);
      variables = record {
        inputs = All-nil _;
        latches = all_made (λ latch. (1 ≤ latch.var) × (latch.var ≤ n)) (ring_latch seed n) n (λ i lt. (omega arith, omega arith));
        gates = All-nil _;
      };
      literals = record {
        latches = all_made (λ latch. latch.next ≤ 2 * n + 1) (ring_latch seed n) n (ring_next seed n);
        gates = All-nil _;
        constraints = All-nil _;
        justice = All-cons (λ property. All (λ literal. literal ≤ 2 * n + 1) property) literals [] (all_made (λ literal. literal ≤ 2 * n + 1) (λ i. 2 * (i + 1)) n (λ i lt. omega arith)) (All-nil _);
        fairness = All-nil _;
        outputs = All-nil _;
        bad = All-nil _;
      };
      lengths = record {
        properties = All-cons (λ property. length property + 0 ≤ 256) literals [] (let e = made_length (λ i. 2 * (i + 1)) n in omega (arith, e, few)) (All-nil _);
        inputs = omega arith;
        latches = let e = made_length (ring_latch seed n) n in omega (arith, e, few);
        gates = omega arith;
        constraints = omega arith;
        justice = omega arith;
        fairness = omega arith;
        outputs = omega arith;
        bad = omega arith;
      };
    })

-- ---- drawn circuits

scrambled_gates_ordered : (seed n : ℕ) → map (λ gate. gate.var) (made (scrambled_gate seed n) (2 * n)) ≡ range_with_len (3 + n) (2 * n)
scrambled_gates_ordered seed n =
    let e : 0 + (n + 3) ≡ 3 + n = omega arith in
    map_range (scrambled_gate seed n) (λ gate. gate.var) 0 (n + 3) (2 * n) (λ i. omega arith) ∙ ap (λ a. range_with_len a (2 * n)) e

pub scramble_ordered : (seed n : ℕ) → defined (circuit_of (plain_parts (scramble_circuit seed n))) ≡ range_with_len 1 (greatest n)
scramble_ordered seed n =
    let latches = made (scrambled_latch (behind_gates seed n) n) n in
    let gates = map (λ gate. gate.var) (made (scrambled_gate seed n) (2 * n)) in
    let e : suc (suc (n + 2 * n)) ≡ greatest n = omega arith in
    ap (λ vs. (1 ∷ 2 ∷ vs) ++ gates) (map_range (scrambled_latch (behind_gates seed n) n) (λ latch. latch.var) 0 3 n (λ i. refl))
    ∙ ap (λ vs. 1 ∷ 2 ∷ (range_with_len 3 n ++ vs)) (scrambled_gates_ordered seed n)
    ∙ ap (λ vs. 1 ∷ 2 ∷ vs) (range_append 3 n (2 * n))
    ∙ ap (range_with_len 1) e

drawn_low : (n drawn : ℕ) → literal_drawn n drawn ≤ 2 * greatest n + 1
drawn_low n drawn = let h = mod_below drawn (2 * greatest n + 2) (omega arith) in omega (arith, h)

-- both right sides of a drawn gate are below twice its variable
pub record SidesAreLow (gate : Gate) : Type 0 where
  pub first : gate.rhs0 < 2 * gate.var
  pub second : gate.rhs1 < 2 * gate.var

sides_low : (v first second : ℕ) → 1 ≤ v → SidesAreLow (gate_drawn v first second)
sides_low v first second some =
    let a = mod_below first (2 * v) (omega arith) in
    let b = mod_below second (2 * v) (omega arith) in
    let t = ltb (first % (2 * v)) (second % (2 * v)) in
    record {
      first = cond_below t (second % (2 * v)) (first % (2 * v)) (2 * v) b a;
      second = cond_below t (first % (2 * v)) (second % (2 * v)) (2 * v) a b;
    }

gate_low : (seed n k : ℕ) → SidesAreLow (scrambled_gate seed n k)
gate_low seed n k = sides_low (n + 3 + k) (draw seed (2 * k)) (draw seed (2 * k + 1)) (omega arith)

pub scramble_lower : (seed n : ℕ) → All ReadsLower (scramble_circuit seed n).gates
scramble_lower seed n =
    all_made ReadsLower (scrambled_gate seed n) (2 * n)
    (λ k lt. let h = gate_low seed n k in record { first = let a = h.first in omega (arith, a); second = let a = h.second in omega (arith, a) })

gate_literals : (seed n k : ℕ) → k < 2 * n → ((scrambled_gate seed n k).rhs0 ≤ 2 * greatest n + 1) × ((scrambled_gate seed n k).rhs1 ≤ 2 * greatest n + 1)
gate_literals seed n k lt =
    let h = gate_low seed n k in
    let a = h.first in
    let b = h.second in
    (omega (arith, a, lt), omega (arith, b, lt))

pub scramble_in_range : (seed n : ℕ) → n ≤ 256 → AreInRange (plain_parts (scramble_circuit seed n))
scramble_in_range seed n few =
    let max = greatest n in
    let state = behind_latches seed n in
    let Low : ℕ → Type 0 = λ literal. literal ≤ 2 * greatest n + 1 in
    let first = literal_drawn n (draw state 0) in
    let second = literal_drawn n (draw state 1) in
    let fair = literal_drawn n (draw state 2) in
    AreInRange-from (plain_parts (scramble_circuit seed n)) (record {
      max = omega (arith, few);
      variables = record {
        inputs = All-cons (λ v. (1 ≤ v) × (v ≤ greatest n)) 1 (2 ∷ []) (omega arith, omega arith) (All-cons (λ v. (1 ≤ v) × (v ≤ greatest n)) 2 [] (omega arith, omega arith) (All-nil _));
        latches = all_made (λ latch. (1 ≤ latch.var) × (latch.var ≤ greatest n)) (scrambled_latch (behind_gates seed n) n) n (λ i lt. (omega arith, omega arith));
        gates = all_made (λ gate. (1 ≤ gate.var) × (gate.var ≤ greatest n)) (scrambled_gate seed n) (2 * n) (λ k lt. (omega arith, omega arith));
      };
      literals = record {
        latches = all_made (λ latch. latch.next ≤ 2 * greatest n + 1) (scrambled_latch (behind_gates seed n) n) n (λ i lt. drawn_low n _);
        gates = all_made (λ gate. (gate.rhs0 ≤ 2 * greatest n + 1) × (gate.rhs1 ≤ 2 * greatest n + 1)) (scrambled_gate seed n) (2 * n) (gate_literals seed n);
        constraints = All-nil _;
        justice = All-cons (λ property. All Low property) (first ∷ second ∷ []) [] (All-cons Low first (second ∷ []) (drawn_low n _) (All-cons Low second [] (drawn_low n _) (All-nil _))) (All-nil _);
        fairness = All-cons Low fair [] (drawn_low n _) (All-nil _);
        outputs = All-nil _;
        bad = All-nil _;
      };
      lengths = record {
        properties = All-cons (λ property. length property + 1 ≤ 256) (first ∷ second ∷ []) [] (omega arith) (All-nil _);
        inputs = omega arith;
        latches = let e = made_length (scrambled_latch (behind_gates seed n) n) n in omega (arith, e, few);
        gates = let e = made_length (scrambled_gate seed n) (2 * n) in omega (arith, e, few);
        constraints = omega arith;
        justice = omega arith;
        fairness = omega arith;
        outputs = omega arith;
        bad = omega arith;
      };
    })

-- ---- both have a binary text

pub ring_has_order : (seed n : ℕ) → IsOrdered (ring_model seed n)
ring_has_order seed n = record { numbered = ring_ordered seed n; descending = All-nil _ }

sides_descend : (a b : ℕ) (t : Bool) → ltb a b ≡ t → cond t a b ≤ cond t b a
sides_descend a b true is = let h = ltb-true a b is in omega (arith, h)
sides_descend a b false is = ltb-false a b is

drawn_descends : (v first second : ℕ) → 1 ≤ v → IsDescending (gate_drawn v first second)
drawn_descends v first second some = record {
  first = (sides_low v first second some).first;
  second = sides_descend (first % (2 * v)) (second % (2 * v)) (ltb (first % (2 * v)) (second % (2 * v))) refl;
}

pub scramble_has_order : (seed n : ℕ) → IsOrdered (scramble_model seed n)
scramble_has_order seed n = record {
  numbered = scramble_ordered seed n;
  descending = all_made IsDescending (scrambled_gate seed n) (2 * n) (λ k lt. drawn_descends (n + 3 + k) (draw seed (2 * k)) (draw seed (2 * k + 1)) (omega arith));
}

-- ---- the sections that are put together

abbrev parts_with : ℕ → List ℕ → List Latch → List Gate → List ℕ → List ℕ → List ℕ → List (List ℕ) → List ℕ → Parts
parts_with max inputs latches gates outputs bad constraints justice fairness = record {
  max = max;
  inputs = inputs;
  latches = latches;
  gates = gates;
  outputs = outputs;
  bad = bad;
  constraints = constraints;
  justice = justice;
  fairness = fairness;
}

pub same_parts : (max : ℕ) (i i2 : List ℕ) (l l2 : List Latch) (g g2 : List Gate) (o b c : List ℕ) (j j2 : List (List ℕ)) (f f2 : List ℕ)
    → i ≡ i2 → l ≡ l2 → g ≡ g2 → o ≡ [] → b ≡ [] → c ≡ [] → j ≡ j2 → f ≡ f2 → parts_with max i l g o b c j f ≡ parts_with max i2 l2 g2 [] [] [] j2 f2
same_parts max i i2 l l2 g g2 o b c j j2 f f2 ei el eg eo eb ec ej ef =
    ap (λ x. parts_with max x l g o b c j f) ei
    ∙ ap (λ x. parts_with max i2 x g o b c j f) el
    ∙ ap (λ x. parts_with max i2 l2 x o b c j f) eg
    ∙ ap (λ x. parts_with max i2 l2 g2 x b c j f) eo
    ∙ ap (λ x. parts_with max i2 l2 g2 [] x c j f) eb
    ∙ ap (λ x. parts_with max i2 l2 g2 [] [] x j f) ec
    ∙ ap (λ x. parts_with max i2 l2 g2 [] [] [] x f) ej
    ∙ ap (λ x. parts_with max i2 l2 g2 [] [] [] j2 x) ef

-- what was drawn from states that follow each other
pub latches_from : (seed n at : ℕ) (latches : List Latch) → latches ≡ made (scrambled_latch at n) n → at ≡ behind_gates seed n → latches ≡ made (scrambled_latch (behind_gates seed n) n) n
latches_from seed n at latches is e = is ∙ ap (λ s. made (scrambled_latch s n) n) e

abbrev property_from : ℕ → ℕ → List ℕ
property_from state n = literal_drawn n (draw state 0) ∷ literal_drawn n (draw state 1) ∷ []

pub justice_from : (state n at : ℕ) (pushed first : List (List ℕ)) (drawn : List ℕ) → pushed ≡ first ++ drawn ∷ [] → first ≡ [] → drawn ≡ made (λ k. literal_drawn n (draw at k)) 2 → at ≡ state
    → pushed ≡ property_from state n ∷ []
justice_from state n at pushed first drawn is none made_so e =
    is ∙ ap (λ xs. xs ++ drawn ∷ []) none ∙ ap (λ d. d ∷ []) made_so ∙ ap (λ s. property_from s n ∷ []) e

pub fairness_from : (state n at : ℕ) (drawn : List ℕ) → drawn ≡ made (λ k. literal_drawn n (draw at k)) 1 → at ≡ state_after state 2 → drawn ≡ literal_drawn n (draw state 2) ∷ []
fairness_from state n at drawn made_so e =
    made_so ∙ ap (λ s. literal_drawn n (draw s 0) ∷ []) e ∙ ap (λ d. literal_drawn n d ∷ []) (draw_later state 2 0 2 refl)
