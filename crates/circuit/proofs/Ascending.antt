-- Gates whose variables ascend, and each of which reads lower ones alone, stand in an order of evaluation.
use Rattle.std.proofs.Common.{◌≡◌, ℕ, zero, suc, ◌<◌, Bool, true, false, ◌&&◌, List, [], ◌∷◌, length, get_or, drop, refl, subst, inl, inr, arith}
use Rattle.std.specs.Prelude.{nat_lt}
use Rattle.std.specs.List.{Contains}
use Rattle.std.proofs.lemmas.Bool.{false≢true, ltb-true}
use Rattle.std.proofs.lemmas.List.{length-map, get_or-map}
use Rattle.std.proofs.lemmas.List.Elements.{Contains-get_or}
use Rattle.aig_semantics.specs.declared.parts.Gate.{Gate}
use Rattle.aig_semantics.specs.Literals.{variable_of}
use Rattle.circuit.specs.Orders.{HasRightSide, variables_of, IsEvaluationOrder}
use Rattle.circuit.specs.Ordering.{reads_below, ascend_from}

both : (a b : Bool) → (a && b) ≡ true → (a ≡ true) × (b ≡ true)
both true b e = (refl, e)
both false b e = absurd (false≢true e)

-- what a list of gates that ascend says of its first
record Begins (last : ℕ) (gate : Gate) (gates : List Gate) : Type 0 where
  above : last < gate.var
  first : variable_of gate.rhs0 < gate.var
  second : variable_of gate.rhs1 < gate.var
  rest : ascend_from gate.var gates ≡ true

begins : (last : ℕ) (gate : Gate) (gates : List Gate) → ascend_from last (gate ∷ gates) ≡ true → Begins last gate gates
begins last gate gates e =
    let one = both (nat_lt last gate.var && reads_below gate) (ascend_from gate.var gates) e in
    let two = both (nat_lt last gate.var) (reads_below gate) one.0 in
    let reads = both (nat_lt (variable_of gate.rhs0) gate.var) (nat_lt (variable_of gate.rhs1) gate.var) two.1 in
    record {
      above = ltb-true last gate.var two.0;
      first = ltb-true (variable_of gate.rhs0) gate.var reads.0;
      second = ltb-true (variable_of gate.rhs1) gate.var reads.1;
      rest = one.1;
    }

-- the variables of such gates are above the last one's
above-all : (last : ℕ) (gates : List Gate) → ascend_from last gates ≡ true → (k d : ℕ) → k < length gates → last < get_or (variables_of gates) k d
above-all last [] e k d below = omega arith
above-all last (g ∷ gs) e zero d below = (begins last g gs e).above
above-all last (g ∷ gs) e (suc k) d below =
    let h = begins last g gs e in
    let more = above-all g.var gs h.rest k d (omega arith) in
    let first = h.above in
    omega arith

lower : (gate : Gate) (w : ℕ) → variable_of gate.rhs0 < gate.var → variable_of gate.rhs1 < gate.var → HasRightSide gate w → w < gate.var
lower gate w a b (inl e) = subst (λ u. u < gate.var) e a
lower gate w a b (inr e) = subst (λ u. u < gate.var) e b

after-none : (last : ℕ) (gates : List Gate) → ascend_from last gates ≡ true → (k : ℕ) (d : Gate) → k < length gates → (w : ℕ)
    → HasRightSide (get_or gates k d) w → Contains (variables_of (drop k gates)) w → ⊥
after-none last [] e k d below w right there = omega arith
after-none last (g ∷ gs) e zero d below w right (zero, inside, at) =
    let h = begins last g gs e in
    let less = lower g w h.first h.second right in
    let same : g.var ≡ w = at in
    omega arith
after-none last (g ∷ gs) e zero d below w right (suc k, inside, at) =
    let h = begins last g gs e in
    let less = lower g w h.first h.second right in
    let more = above-all g.var gs h.rest k w (omega (arith, length-map gs (λ gate. gate.var))) in
    let same : get_or (variables_of gs) k w ≡ w = at in
    omega arith
after-none last (g ∷ gs) e (suc k) d below w right there =
    after-none g.var gs (begins last g gs e).rest k d (omega arith) w right there

pub ascending-order : (gates : List Gate) → ascend_from 0 gates ≡ true → IsEvaluationOrder gates gates
ascending-order gates e = record {
  members = λ k d below. Contains-get_or gates k d below;
  complete = λ k d below. (
    k,
    omega (arith, length-map gates (λ gate. gate.var)),
    get_or-map (λ gate. gate.var) gates k d (get_or gates k d).var below,
  );
  after = after-none 0 gates e;
  count = omega arith;
}
