-- What the gates put in order make of a list of inputs and latches: the valuation.
use Rattle.std.proofs.Common.{◌≡◌, ◌≢◌, ℕ, zero, suc, ◌+◌, ◌<◌, ◌≤◌, Bool, false, List, [], ◌∷◌, map, length, get_or, drop, fold, refl, sym, ap, ◌∙◌, subst, ◌↔◌, inl, inr, arith}
use Rattle.std.specs.List.{All, Contains}
use Rattle.std.proofs.lemmas.Bool.{cases_eq}
use Rattle.std.proofs.lemmas.List.{length-map, get_or-map, length-set, ext_get_or, get_or-set_same, get_or-set_other}
use Rattle.std.proofs.lemmas.List.Elements.{All-head, All-tail}
use Rattle.aig_semantics.specs.declared.parts.Gate.{Gate}
use Rattle.aig_semantics.specs.Literals.{variable_of, variable_in}
use Rattle.aig_semantics.specs.Circuits.{Circuit, IsChecked}
use Rattle.aig_semantics.specs.Valuations.{conjunction, valuation, IsValuation}
use Rattle.aig_semantics.proofs.Lists.{AllDiffer-right, All-left, All-right}
use Rattle.aig_semantics.proofs.Values.{IsRanking, given_variables, gate_variables, conjunction-same, length-valuation, valuation-only, valuation-meets, value-no_gate}
use Rattle.circuit.specs.Evaluation.{with_gate}
use Rattle.circuit.specs.Orders.{HasRightSide, variables_of, IsEvaluationOrder}
use Rattle.circuit.proofs.Writing.{given_list, length-given_list, get_or-given_list}
use Rattle.circuit.proofs.Ranking.{rank_in, order-ranking}

pub latches_in_range : (c : Circuit) → IsChecked c → All (λ latch. (1 ≤ latch.var) × (latch.var ≤ c.max)) c.latches
latches_in_range c checked k d below =
    let Range : ℕ → Type 0 = λ u. (1 ≤ u) × (u ≤ c.max) in
    let given = All-left Range (given_variables c) (gate_variables c) checked.in_range in
    let vars = All-right Range c.inputs (map (λ latch. latch.var) c.latches) given in
    rw (get_or-map (λ latch. latch.var) c.latches k d 0 below) at (vars k 0 (omega (arith, length-map c.latches (λ latch. latch.var))))

pub gates_in_range : (c : Circuit) → IsChecked c → All (λ gate. (1 ≤ gate.var) × (gate.var ≤ c.max)) c.gates
gates_in_range c checked k d below =
    let gates = All-right (λ u. (1 ≤ u) × (u ≤ c.max)) (given_variables c) (gate_variables c) checked.in_range in
    rw (get_or-map (λ gate. gate.var) c.gates k d 0 below) at (gates k 0 (omega (arith, length-map c.gates (λ gate. gate.var))))

-- ---- gate by gate

pub length-with_gates : (gates : List Gate) (out : List Bool) → length (fold with_gate out gates) ≡ length out
unfolding with_gate
length-with_gates [] out = refl
length-with_gates (g ∷ gs) out = length-with_gates gs (with_gate out g) ∙ length-set out g.var (conjunction (variable_in out) g)

pub not_there : (g : Gate) (gs : List Gate) (u : ℕ) → u ≢ g.var → (Contains (variables_of gs) u → ⊥) → Contains (variables_of (g ∷ gs)) u → ⊥
not_there g gs u ne none (zero, below, at) = ne (sym at)
not_there g gs u ne none (suc k, below, at) = none (k, omega arith, at)

pub in-order_variable : (gates order : List Gate) → IsEvaluationOrder gates order → (v : ℕ) → Contains (variables_of gates) v → Contains (variables_of order) v
in-order_variable gates order o v (k, below, at) =
    let inside : k < length gates = omega (arith, length-map gates (λ gate. gate.var)) in
    let d : Gate = record { var = 0; rhs0 = 0; rhs1 = 0 } in
    let is : (get_or gates k d).var ≡ v = sym (get_or-map (λ gate. gate.var) gates k d v inside) ∙ at in
    subst (λ u. Contains (variables_of order) u) is (o.complete k d inside)

-- Values that meet each gate's equation: where the list has them but for the gates that are left, the gates put the rest.
pub with_gates-is : (value : ℕ → Bool) (gates : List Gate) (out : List Bool) → All (λ gate. value gate.var ≡ conjunction value gate) gates → ((k : ℕ) (d : Gate) → k < length gates → (w : ℕ) → HasRightSide (get_or gates k d) w → Contains (variables_of (drop k gates)) w → ⊥) → All (λ gate. gate.var < length out) gates → ((v : ℕ) → (Contains (variables_of gates) v → ⊥) → get_or out v false ≡ value v) → (v : ℕ) → get_or (fold with_gate out gates) v false ≡ value v
unfolding with_gate
with_gates-is value [] out equations after inside h v = h v (λ there. let none : there.0 < 0 = there.1 in omega arith)
with_gates-is value (g ∷ gs) out equations after inside h v =
    with_gates-is value gs (with_gate out g)
    (All-tail (λ gate. value gate.var ≡ conjunction value gate) g gs equations)
    (λ k d below. after (suc k) d (omega arith))
    (λ k d below. rw length-set (All-tail (λ gate. gate.var < length out) g gs inside k d below))
    (λ u none. elim (cases_eq u g.var) [
      | inl e ↦
          ap (λ x. get_or (with_gate out g) x false) e
          ∙ (get_or-set_same out g.var (conjunction (variable_in out) g) false (All-head (λ gate. gate.var < length out) g gs inside)
          ∙ (conjunction-same (variable_in out) value g
          (h (variable_of g.rhs0) (after 0 g (omega arith) (variable_of g.rhs0) (inl refl)))
          (h (variable_of g.rhs1) (after 0 g (omega arith) (variable_of g.rhs1) (inr refl)))
          ∙ (sym (All-head (λ gate. value gate.var ≡ conjunction value gate) g gs equations) ∙ ap value (sym e))))
      | inr ne ↦
          get_or-set_other out g.var u (conjunction (variable_in out) g) false ne
          ∙ h u (λ there. not_there g gs u ne none there)
    ])
    v

module _ (c : Circuit) (order : List Gate) (latches inputs : List Bool) (checked : IsChecked c) (o : IsEvaluationOrder c.gates order) (latches_fit : length latches ≡ length c.latches) (inputs_fit : length inputs ≡ length c.inputs) where
  ranking : IsRanking c.gates (rank_in order)
  ranking = order-ranking c.gates order o (AllDiffer-right (given_variables c) (gate_variables c) checked.once)

  meets : IsValuation c latches inputs (valuation c latches inputs)
  meets = valuation-meets c latches inputs (rank_in order) ranking checked.in_range checked.once latches_fit inputs_fit

  pub order-in_range : All (λ gate. gate.var < c.max + 1) order
  order-in_range k d below =
      let member = o.members k d below in
      let range = gates_in_range c checked member.0 (get_or order k d) member.1 in
      let is = ap (λ gate. gate.var) member.2 in
      omega arith

  order-equations : All (λ gate. variable_in (valuation c latches inputs) gate.var ≡ conjunction (variable_in (valuation c latches inputs)) gate) order
  order-equations k d below =
      let member = o.members k d below in
      subst (λ gate. variable_in (valuation c latches inputs) gate.var ≡ conjunction (variable_in (valuation c latches inputs)) gate) member.2
      (meets.equations.conjunctions member.0 (get_or order k d) member.1)

  base-is : (v : ℕ) → (Contains (variables_of order) v → ⊥) → get_or (given_list c latches inputs) v false ≡ variable_in (valuation c latches inputs) v
  base-is v none =
      get_or-given_list c latches inputs checked.in_range checked.once latches_fit inputs_fit v
      ∙ sym (value-no_gate c latches inputs (rank_in order) ranking checked.in_range checked.once latches_fit inputs_fit v
      (λ there. none (in-order_variable c.gates order o v there)))

  pub evaluated-is_valuation : fold with_gate (given_list c latches inputs) order ≡ valuation c latches inputs
  evaluated-is_valuation =
      let size = length-given_list c latches inputs checked.in_range checked.once latches_fit inputs_fit in
      let long = length-with_gates order (given_list c latches inputs) in
      ext_get_or false (fold with_gate (given_list c latches inputs) order) (valuation c latches inputs)
      (long ∙ (size ∙ sym (length-valuation c latches inputs)))
      (λ v below.
      with_gates-is (variable_in (valuation c latches inputs)) order (given_list c latches inputs) order-equations o.after
      (λ k d at. let range = order-in_range k d at in omega (arith, size)) base-is v)

  pub valuation-law : (values : List Bool) → IsValuation c latches inputs values ↔ (values ≡ valuation c latches inputs)
  valuation-law values = (
    valuation-only c latches inputs values (rank_in order) ranking,
    λ e. subst (λ xs. IsValuation c latches inputs xs) (sym e) meets,
  )
