-- What the gates put in order make of a list of inputs and latches: the simulation.
use Rattle.std.proofs.Common.{◌≡◌, ℕ, zero, suc, ◌+◌, ◌<◌, ◌≤◌, ◌==◌, List, [], ◌∷◌, ◌++◌, map, length, get_or, drop, fold, Option, Some, None, unwrap_or, refl, sym, ap, ◌∙◌, subst, inl, inr, arith}
use Rattle.std.specs.List.{All, Contains, find}
use Rattle.std.proofs.lemmas.Bool.{cases_eq, cases_lt}
use Rattle.std.proofs.lemmas.List.{length-map, get_or-map, length-set, ext_get_or, get_or-set_same, get_or-set_other, get_or_append_left, get_or_push, length_push}
use Rattle.std.proofs.lemmas.List.Elements.{All-head, All-tail}
use Rattle.aig_semantics.specs.declared.parts.Gate.{Gate}
use Rattle.aig_semantics.specs.Literals.{variable_of}
use Rattle.aig_semantics.specs.Circuits.{Circuit, IsChecked}
use Rattle.aig_semantics.proofs.Lists.{All-left, AllDiffer-right, AllDiffer-across, find-at}
use Rattle.aig_semantics.proofs.Values.{IsRanking, given_variables, gate_variables, gate_of, cases_option, gate_of-absent, rank-of}
use Rattle.circuit.specs.Orders.{HasRightSide, variables_of, IsEvaluationOrder}
use Rattle.circuit.proofs.Evaluated.{gates_in_range, not_there, in-order_variable}
use Rattle.circuit.proofs.Ranking.{rank_in, order-ranking}
use Rattle.ternary.specs.declared.values.Value3.{Value3}
use Rattle.ternary.specs.declared.values.Value3.TheVariants.{Zero}
use Rattle.ternary.specs.Values.{variable3_in}
use Rattle.ternary.specs.Simulation.{conjunction3, given3, value3_through, values3_below, simulation}
use Rattle.ternary.specs.Writing.{with_gate3}
use Rattle.ternary.proofs.Besides.{beside3-none}
use Rattle.ternary.proofs.Writing.{given3_list, length-given3_list, get_or-given3_list}

-- ---- the values below n

pub length-values3_below : (n : ℕ) (value : ℕ → Value3) → length (values3_below n value) ≡ n
unfolding values3_below
length-values3_below zero value = refl
length-values3_below (suc n) value = length_push (values3_below n value) (value n) ∙ omega (arith, length-values3_below n value)

pub get_or-values3_below : (n : ℕ) (value : ℕ → Value3) (v : ℕ) (d : Value3) → v < n → get_or (values3_below n value) v d ≡ value v
unfolding values3_below
get_or-values3_below zero value v d below = absurd (omega arith)
get_or-values3_below (suc n) value v d below =
    elim (cases_lt v n) [
      | inl lt ↦
          get_or_append_left (values3_below n value) (value n ∷ []) d v (omega (arith, length-values3_below n value))
          ∙ get_or-values3_below n value v d lt
      | inr ge ↦
          let e : v ≡ n = omega arith in
          get_or_push (values3_below n value) (value n) d v (omega (arith, length-values3_below n value)) ∙ ap value (sym e)
    ]

pub inputs_in_range : (c : Circuit) → IsChecked c → All (λ v. (1 ≤ v) × (v ≤ c.max)) c.inputs
inputs_in_range c checked =
    let Range : ℕ → Type 0 = λ u. (1 ≤ u) × (u ≤ c.max) in
    All-left Range c.inputs (map (λ latch. latch.var) c.latches)
    (All-left Range (given_variables c) (gate_variables c) checked.in_range)

-- ---- one step of `value3_through`

pub through-given : (depth : ℕ) (gates : List Gate) (given : ℕ → Option Value3) (v : ℕ) (b : Value3) → given v ≡ Some b → value3_through depth gates given v ≡ b
unfolding value3_through
through-given zero gates given v b e = rw (value3_through, e)
through-given (suc depth) gates given v b e = rw (value3_through, e)

pub through-gate : (depth : ℕ) (gates : List Gate) (given : ℕ → Option Value3) (v : ℕ) (gate : Gate) → given v ≡ None → find (λ gate. gate.var == v) gates ≡ Some gate → value3_through (suc depth) gates given v ≡ conjunction3 (value3_through depth gates given) gate
unfolding value3_through
through-gate depth gates given v gate e f = rw (value3_through, e, f)

pub through-nowhere : (depth : ℕ) (gates : List Gate) (given : ℕ → Option Value3) (v : ℕ) → given v ≡ None → find (λ gate. gate.var == v) gates ≡ None → value3_through depth gates given v ≡ Zero
unfolding value3_through
through-nowhere zero gates given v e f = rw (value3_through, e)
through-nowhere (suc depth) gates given v e f = rw (value3_through, e, f)

pub conjunction3-same : (f g : ℕ → Value3) (gate : Gate) → f (variable_of gate.rhs0) ≡ g (variable_of gate.rhs0) → f (variable_of gate.rhs1) ≡ g (variable_of gate.rhs1) → conjunction3 f gate ≡ conjunction3 g gate
conjunction3-same f g gate a b = rw (a, b)

-- ---- gate by gate

pub length-with_gates3 : (gates : List Gate) (out : List Value3) → length (fold with_gate3 out gates) ≡ length out
unfolding with_gate3
length-with_gates3 [] out = refl
length-with_gates3 (g ∷ gs) out = length-with_gates3 gs (with_gate3 out g) ∙ length-set out g.var (conjunction3 (variable3_in out) g)

-- Values that meet each gate's equation: where the list has them but for the gates that are left, the gates put the rest.
pub with_gates3-is : (value : ℕ → Value3) (gates : List Gate) (out : List Value3) → All (λ gate. value gate.var ≡ conjunction3 value gate) gates → ((k : ℕ) (d : Gate) → k < length gates → (w : ℕ) → HasRightSide (get_or gates k d) w → Contains (variables_of (drop k gates)) w → ⊥) → All (λ gate. gate.var < length out) gates → ((v : ℕ) → (Contains (variables_of gates) v → ⊥) → get_or out v Zero ≡ value v) → (v : ℕ) → get_or (fold with_gate3 out gates) v Zero ≡ value v
unfolding with_gate3
with_gates3-is value [] out equations after inside h v = h v (λ there. let none : there.0 < 0 = there.1 in omega arith)
with_gates3-is value (g ∷ gs) out equations after inside h v =
    with_gates3-is value gs (with_gate3 out g)
    (All-tail (λ gate. value gate.var ≡ conjunction3 value gate) g gs equations)
    (λ k d below. after (suc k) d (omega arith))
    (λ k d below. rw length-set (All-tail (λ gate. gate.var < length out) g gs inside k d below))
    (λ u none. elim (cases_eq u g.var) [
      | inl e ↦
          ap (λ x. get_or (with_gate3 out g) x Zero) e
          ∙ (get_or-set_same out g.var (conjunction3 (variable3_in out) g) Zero (All-head (λ gate. gate.var < length out) g gs inside)
          ∙ (conjunction3-same (variable3_in out) value g
          (h (variable_of g.rhs0) (after 0 g (omega arith) (variable_of g.rhs0) (inl refl)))
          (h (variable_of g.rhs1) (after 0 g (omega arith) (variable_of g.rhs1) (inr refl)))
          ∙ (sym (All-head (λ gate. value gate.var ≡ conjunction3 value gate) g gs equations) ∙ ap value (sym e))))
      | inr ne ↦
          get_or-set_other out g.var u (conjunction3 (variable3_in out) g) Zero ne
          ∙ h u (λ there. not_there g gs u ne none there)
    ])
    v

module _ (c : Circuit) (order : List Gate) (latches inputs : List Value3) (checked : IsChecked c) (o : IsEvaluationOrder c.gates order) (latches_fit : length latches ≡ length c.latches) (inputs_fit : length inputs ≡ length c.inputs) where
  ranks : IsRanking c.gates (rank_in order)
  ranks = order-ranking c.gates order o (AllDiffer-right (given_variables c) (gate_variables c) checked.once)

  abbrev rank : ℕ → ℕ
  rank v = rank_in order v

  abbrev given_of : ℕ → Option Value3
  given_of v = given3 c latches inputs v

  abbrev through : ℕ → ℕ → Value3
  through depth v = value3_through depth c.gates given_of v

  -- a step more changes nothing at a variable whose rank was reached
  through-stays : (depth v : ℕ) → rank v ≤ depth → through depth v ≡ through (suc depth) v
  through-stays zero v low =
      elim (cases_option (given_of v)) [
        | inl (b, e) ↦ through-given zero c.gates given_of v b e ∙ sym (through-given 1 c.gates given_of v b e)
        | inr e ↦ elim (cases_option (gate_of c v)) [
          | inl (gate, f) ↦ let g : (rank (variable_of gate.rhs0) < rank v) × (rank (variable_of gate.rhs1) < rank v) = rank-of c rank ranks v gate f in absurd (omega arith)
          | inr f ↦ through-nowhere zero c.gates given_of v e f ∙ sym (through-nowhere 1 c.gates given_of v e f)
        ]
      ]
  through-stays (suc depth) v low =
      elim (cases_option (given_of v)) [
        | inl (b, e) ↦ through-given (suc depth) c.gates given_of v b e ∙ sym (through-given (suc (suc depth)) c.gates given_of v b e)
        | inr e ↦ elim (cases_option (gate_of c v)) [
          | inl (gate, f) ↦
              let g : (rank (variable_of gate.rhs0) < rank v) × (rank (variable_of gate.rhs1) < rank v) = rank-of c rank ranks v gate f in
              through-gate depth c.gates given_of v gate e f
              ∙ (conjunction3-same (through depth) (through (suc depth)) gate
              (through-stays depth (variable_of gate.rhs0) (omega arith))
              (through-stays depth (variable_of gate.rhs1) (omega arith))
              ∙ sym (through-gate (suc depth) c.gates given_of v gate e f))
          | inr f ↦ through-nowhere (suc depth) c.gates given_of v e f ∙ sym (through-nowhere (suc (suc depth)) c.gates given_of v e f)
        ]
      ]

  abbrev value : ℕ → Value3
  value v = through (length c.gates) v

  -- the k-th gate
  value-gate : (k : ℕ) (d : Gate) → k < length c.gates → value (get_or c.gates k d).var ≡ conjunction3 value (get_or c.gates k d)
  unfolding given3
  value-gate k d below =
      let gate : Gate = get_or c.gates k d in
      let there : Contains (gate_variables c) gate.var = (k, (omega (arith, length-map c.gates (λ g. g.var))), get_or-map (λ g. g.var) c.gates k d gate.var below) in
      let no_given : given_of gate.var ≡ None =
      beside3-none (given_variables c) (inputs ++ latches) gate.var
      (λ also. AllDiffer-across (given_variables c) (gate_variables c) checked.once gate.var also there)
      in
      through-stays (length c.gates) gate.var (ranks.bound gate.var)
      ∙ through-gate (length c.gates) c.gates given_of gate.var gate no_given
      (find-at (λ g. g.var) c.gates k d (AllDiffer-right (given_variables c) (gate_variables c) checked.once) below)

  -- a variable that is no gate's has the value that is given, or is 0
  value-no_gate : (v : ℕ) → (Contains (gate_variables c) v → ⊥) → value v ≡ unwrap_or (given_of v) Zero
  value-no_gate v none =
      elim (cases_option (given_of v)) [
        | inl (b, e) ↦ through-given (length c.gates) c.gates given_of v b e ∙ sym (ap (λ o. unwrap_or o Zero) e)
        | inr e ↦ through-nowhere (length c.gates) c.gates given_of v e (gate_of-absent c v none) ∙ sym (ap (λ o. unwrap_or o Zero) e)
      ]

  pub order3-in_range : All (λ gate. gate.var < c.max + 1) order
  order3-in_range k d below =
      let member = o.members k d below in
      let range = gates_in_range c checked member.0 (get_or order k d) member.1 in
      let is = ap (λ gate. gate.var) member.2 in
      omega arith

  order-equations : All (λ gate. value gate.var ≡ conjunction3 value gate) order
  order-equations k d below =
      let member = o.members k d below in
      subst (λ gate. value gate.var ≡ conjunction3 value gate) member.2
      (value-gate member.0 (get_or order k d) member.1)

  base-is : (v : ℕ) → (Contains (variables_of order) v → ⊥) → get_or (given3_list c latches inputs) v Zero ≡ value v
  base-is v none =
      get_or-given3_list c latches inputs checked.in_range checked.once latches_fit inputs_fit v
      ∙ sym (value-no_gate v (λ there. none (in-order_variable c.gates order o v there)))

  pub evaluated-is_simulation : fold with_gate3 (given3_list c latches inputs) order ≡ simulation c latches inputs
  unfolding simulation
  evaluated-is_simulation =
      let size = length-given3_list c latches inputs checked.in_range checked.once latches_fit inputs_fit in
      let long = length-with_gates3 order (given3_list c latches inputs) in
      ext_get_or Zero (fold with_gate3 (given3_list c latches inputs) order) (values3_below (c.max + 1) value)
      (long ∙ (size ∙ sym (length-values3_below (c.max + 1) value)))
      (λ v below.
      with_gates3-is value order (given3_list c latches inputs) order-equations o.after
      (λ k d at. let range = order3-in_range k d at in omega (arith, size)) base-is v
      ∙ sym (get_or-values3_below (c.max + 1) value v Zero (omega (arith, long, size))))
