-- In an order of evaluation each gate has a rank above those of what it reads; so no gate is on a cycle.
use Rattle.std.proofs.Common.{◌≡◌, ℕ, zero, suc, ◌<◌, ◌≤◌, ◌==◌, Bool, true, false, List, [], ◌∷◌, length, get_or, drop, refl, sym, ap, ◌∙◌, subst, inl, inr, arith}
use Rattle.std.specs.List.{Contains}
use Rattle.std.proofs.lemmas.Bool.{cases_order, eq-eqb, ne_eqb}
use Rattle.std.proofs.lemmas.List.{length-map, get_or-map, get_or_default}
use Rattle.aig_semantics.specs.declared.parts.Gate.{Gate}
use Rattle.aig_semantics.specs.Literals.{variable_of}
use Rattle.aig_semantics.specs.Circuits.{Circuit, Reads, ReadsThrough, IsOnCycle}
use Rattle.aig_semantics.proofs.Lists.{AllDiffer}
use Rattle.aig_semantics.proofs.Values.{IsRanking}
use Rattle.circuit.specs.Orders.{HasRightSide, variables_of, IsEvaluationOrder}

-- the rank of a variable from its rank in the rest of the order
abbrev rank_before : ℕ → Bool → ℕ
rank_before zero true = 1
rank_before zero false = 0
rank_before (suc n) b = suc (suc n)

-- the number of gates up to the last one of this variable
abbrev pub rank_in : List Gate → ℕ → ℕ
rank_in [] v = 0
rank_in (g ∷ gs) v = rank_before (rank_in gs v) (g.var == v)

rank_before-most : (n : ℕ) (b : Bool) → rank_before n b ≤ suc n
rank_before-most zero true = omega arith
rank_before-most zero false = omega arith
rank_before-most (suc n) b = omega arith

rank_before-least : (n : ℕ) (b : Bool) → 1 ≤ n → rank_before n b ≡ suc n
rank_before-least zero b h = absurd (omega arith)
rank_before-least (suc n) b h = refl

rank-bound : (order : List Gate) (v : ℕ) → rank_in order v ≤ length order
rank-bound [] v = omega arith
rank-bound (g ∷ gs) v = omega (arith, rank_before-most (rank_in gs v) (g.var == v), rank-bound gs v)

rank-absent : (order : List Gate) (v : ℕ) → (Contains (variables_of order) v → ⊥) → rank_in order v ≡ 0
rank-absent [] v h = refl
rank-absent (g ∷ gs) v h =
    ap (λ n. rank_before n (g.var == v)) (rank-absent gs v (λ c. h (suc c.0, (let l : c.0 < length (variables_of gs) = c.1 in omega arith), c.2)))
    ∙ ap (λ b. rank_before 0 b) (ne_eqb g.var v (λ e. h (0, omega arith, e)))

rank-present : (order : List Gate) (v : ℕ) → Contains (variables_of order) v → 1 ≤ rank_in order v
rank-present [] v (k, below, at) = absurd (omega arith)
rank-present (g ∷ gs) v (zero, below, at) = first (rank_in gs v) (g.var == v) (eq-eqb g.var v at)
  where
    first : (n : ℕ) (b : Bool) → b ≡ true → 1 ≤ rank_before n b
    first zero b e = let one : rank_before 0 b ≡ 1 = ap (λ x. rank_before 0 x) e in omega arith
    first (suc n) b e = omega arith
rank-present (g ∷ gs) v (suc k, below, at) =
    let rest = rank-present gs v (k, omega arith, at) in
    omega (arith, rank_before-least (rank_in gs v) (g.var == v) rest)

-- the order goes on so that no gate reads a variable of a later one
abbrev Follows : List Gate → Type 0
Follows order = (k : ℕ) (d : Gate) → k < length order → (w : ℕ) → HasRightSide (get_or order k d) w → Contains (variables_of (drop k order)) w → ⊥

rank-above : (order : List Gate) (h : Follows order) (k : ℕ) (d : Gate) → k < length order → (w : ℕ) → HasRightSide (get_or order k d) w → rank_in order w < rank_in order (get_or order k d).var
rank-above [] h k d below w side = absurd (omega arith)
rank-above (g ∷ gs) h zero d below w side =
    let none = rank-absent (g ∷ gs) w (h 0 d below w side) in
    let some = rank-present (g ∷ gs) g.var (0, omega arith, refl) in
    omega (arith, none, some)
rank-above (g ∷ gs) h (suc k) d below w side =
    let inside : k < length gs = omega arith in
    let u : ℕ = (get_or gs k d).var in
    let rest = rank-above gs (λ i e l. h (suc i) e (omega arith)) k d inside w side in
    omega (arith, rest, rank_before-most (rank_in gs w) (g.var == w), rank_before-least (rank_in gs u) (g.var == u) (omega arith))

-- ---- the gates of a circuit

-- gates whose variables differ are one gate where they have one variable
same-place : (gates : List Gate) (i k : ℕ) (d e : Gate) → AllDiffer (variables_of gates) → i < length gates → k < length gates → (get_or gates i d).var ≡ (get_or gates k e).var → i ≡ k
same-place gates i k d e apart first second same =
    let at-i = get_or-map (λ gate. gate.var) gates i d 0 first in
    let at-k = get_or-map (λ gate. gate.var) gates k e 0 second in
    elim (cases_order i k) [
      | inl x ↦ x
      | inr (inl lt) ↦ absurd (apart i k 0 lt (omega (arith, length-map gates (λ gate. gate.var))) (at-i ∙ (same ∙ sym at-k)))
      | inr (inr gt) ↦ absurd (apart k i 0 gt (omega (arith, length-map gates (λ gate. gate.var))) (at-k ∙ (sym same ∙ sym at-i)))
    ]

module _ (gates order : List Gate) (o : IsEvaluationOrder gates order) (apart : AllDiffer (variables_of gates)) where
  -- each gate stands in the order
  pub in-order : (k : ℕ) (d : Gate) → k < length gates → (j : ℕ) × (j < length order) × (get_or order j d ≡ get_or gates k d)
  in-order k d below =
      let gate : Gate = get_or gates k d in
      let there = o.complete k d below in
      let inside : there.0 < length order = let l : there.0 < length (variables_of order) = there.1 in omega (arith, length-map order (λ g. g.var)) in
      let var-is : (get_or order there.0 d).var ≡ gate.var = sym (get_or-map (λ g. g.var) order there.0 d gate.var inside) ∙ there.2 in
      let member = o.members there.0 d inside in
      let is-member : get_or gates member.0 d ≡ get_or order there.0 d = get_or_default gates member.0 d (get_or order there.0 d) member.1 ∙ member.2 in
      let same = same-place gates member.0 k d d apart member.1 below (ap (λ g. g.var) is-member ∙ var-is) in
      (there.0, inside, sym is-member ∙ ap (λ i. get_or gates i d) same)

  above-at : (k : ℕ) (d : Gate) → k < length gates → (w : ℕ) → HasRightSide (get_or gates k d) w → rank_in order w < rank_in order (get_or gates k d).var
  above-at k d below w side =
      let at = in-order k d below in
      subst (λ g. rank_in order w < rank_in order g.var) at.2
      (rank-above order o.after at.0 d at.1 w (subst (λ g. HasRightSide g w) (sym at.2) side))

  pub order-ranking : IsRanking gates (rank_in order)
  order-ranking = record {
    above = λ k d below. (above-at k d below (variable_of (get_or gates k d).rhs0) (inl refl), above-at k d below (variable_of (get_or gates k d).rhs1) (inr refl));
    bound = λ v. let most = o.count in omega (arith, rank-bound order v);
  }

-- ---- no cycle

reads-lower : (c : Circuit) (rank : ℕ → ℕ) → IsRanking c.gates rank → (v w : ℕ) → Reads c v w → rank w < rank v
reads-lower c rank r v w any =
    let gate : Gate = any.1 in
    let above = r.above any.0 gate any.2 in
    let low0 : rank (variable_of gate.rhs0) < rank gate.var = subst (λ g. rank (variable_of g.rhs0) < rank g.var) any.3 above.0 in
    let low1 : rank (variable_of gate.rhs1) < rank gate.var = subst (λ g. rank (variable_of g.rhs1) < rank g.var) any.3 above.1 in
    subst (λ u. rank w < rank u) any.4.0
    (elim any.4.1 [
      | inl e ↦ subst (λ u. rank u < rank gate.var) e low0
      | inr e ↦ subst (λ u. rank u < rank gate.var) e low1
    ])

reads-through-lower : (c : Circuit) (rank : ℕ → ℕ) → IsRanking c.gates rank → (v : ℕ) (between : List ℕ) (w : ℕ) → ReadsThrough c v between w → rank w < rank v
reads-through-lower c rank r v [] w h = reads-lower c rank r v w h
reads-through-lower c rank r v (u ∷ between) w h = omega (arith, reads-lower c rank r v u h.0, reads-through-lower c rank r u between w h.1)

pub no-cycle : (c : Circuit) (order : List Gate) → IsEvaluationOrder c.gates order → AllDiffer (variables_of c.gates) → (v : ℕ) → IsOnCycle c v → ⊥
no-cycle c order o apart v cycle =
    let low = reads-through-lower c (rank_in order) (order-ranking c.gates order o apart) v cycle.0 v cycle.1 in
    omega arith
