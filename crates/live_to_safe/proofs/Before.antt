-- Literals of variables below a new one, and gates that read such.
use Rattle.std.proofs.Common.{◌≡◌, ℕ, suc, ◌+◌, ◌-◌, ◌*◌, ◌%◌, ◌<◌, ◌≤◌, ◌⊎◌, List, [], ◌∷◌, length, sym, subst, inl, inr, arith}
use Rattle.std.specs.List.{All, Contains}
use Rattle.std.proofs.lemmas.Bool.{cond_both, eqb-true, cases_lt, eq-eqb, both_ways}
use Rattle.std.proofs.lemmas.Nat.{mod_below}
use Rattle.std.proofs.lemmas.List.Elements.{All-nil, All-cons, All-head, All-tail, All-weaker}
use Rattle.aig_semantics.specs.declared.parts.Gate.{Gate}
use Rattle.aig_semantics.specs.Literals.{variable_of, is_negated}
use Rattle.aig_semantics.specs.Circuits.{Circuit, defined}
use Rattle.live_to_safe.specs.Numbers.{negation}
use Rattle.live_to_safe.specs.Watching.{chain, chain_end}

-- the variable is 0, or the circuit defines it
abbrev pub IsRead : Circuit → ℕ → Type 0
IsRead c v = (v ≡ 0) ⊎ Contains (defined c) v

-- a literal of a variable below v, which is above max or which the circuit may read
pub record IsBefore (max : ℕ) (c : Circuit) (v literal : ℕ) : Type 0 where
  pub low : variable_of literal < v
  pub known : (max < variable_of literal) ⊎ IsRead c (variable_of literal)

pub record ReadsBefore (max : ℕ) (c : Circuit) (gate : Gate) : Type 0 where
  pub first : IsBefore max c gate.var gate.rhs0
  pub second : IsBefore max c gate.var gate.rhs1

pub negation-variable : (literal : ℕ) → variable_of (negation literal) ≡ variable_of literal
negation-variable literal =
    cond_both (is_negated literal) (literal - 1) (literal + 1) (λ l. variable_of l ≡ variable_of literal)
    (λ e. let r : literal % 2 ≡ 1 = eqb-true (literal % 2) 1 e in omega (arith, r))
    (λ e. elim (cases_lt (literal % 2) 1) [
      | inl lt ↦ omega (arith, lt)
      | inr ge ↦
          let m : literal % 2 < 2 = mod_below literal 2 (omega arith) in
          let r : literal % 2 ≡ 1 = omega (arith, ge, m) in
          absurd (both_ways (is_negated literal) e (eq-eqb (literal % 2) 1 r))
    ])

module _ (max : ℕ) (c : Circuit) where
  pub before-positive : (v u : ℕ) → u < v → max < u → IsBefore max c v (2 * u)
  before-positive v u low new =
      let e : variable_of (2 * u) ≡ u = omega arith in
      record { low = omega (arith, e, low); known = inl (omega (arith, e, new)) }

  pub before-negative : (v u : ℕ) → u < v → max < u → IsBefore max c v (2 * u + 1)
  before-negative v u low new =
      let e : variable_of (2 * u + 1) ≡ u = omega arith in
      record { low = omega (arith, e, low); known = inl (omega (arith, e, new)) }

  pub before-later : (v w literal : ℕ) → v ≤ w → IsBefore max c v literal → IsBefore max c w literal
  before-later v w literal le h = record { low = (let a = h.low in omega (arith, a, le)); known = h.known }

  -- a literal of the circuit
  pub before-source : (v literal : ℕ) → max < v → variable_of literal ≤ max → IsRead c (variable_of literal) → IsBefore max c v literal
  before-source v literal new low read = record { low = omega (arith, new, low); known = inr read }

  pub before-negation : (v literal : ℕ) → IsBefore max c v literal → IsBefore max c v (negation literal)
  before-negation v literal h =
      let e = negation-variable literal in
      record {
        low = (let a = h.low in omega (arith, e, a));
        known = subst (λ u. (max < u) ⊎ IsRead c u) (sym e) h.known;
      }

  -- ---- the chain

  pub chain_read : (v so_far : ℕ) (literals : List ℕ) → max < v → IsBefore max c v so_far → All (IsBefore max c v) literals → All (ReadsBefore max c) (chain v so_far literals)
  chain_read v so_far [] new first all = All-nil (ReadsBefore max c)
  chain_read v so_far (literal ∷ literals) new first all =
      All-cons (ReadsBefore max c) _ (chain (v + 1) (2 * v) literals)
      (record { first = first; second = All-head (IsBefore max c v) literal literals all })
      (chain_read (v + 1) (2 * v) literals (omega (arith, new)) (before-positive (v + 1) v (omega arith) new)
      (All-weaker (IsBefore max c v) (IsBefore max c (v + 1)) (λ l h. before-later v (v + 1) l (omega arith) h) literals (All-tail (IsBefore max c v) literal literals all)))

  pub chain_end_before : (v so_far : ℕ) (literals : List ℕ) → max < v → IsBefore max c v so_far → IsBefore max c (v + length literals) (chain_end v so_far literals)
  chain_end_before v so_far [] new first = before-later v (v + 0) so_far (omega arith) first
  chain_end_before v so_far (literal ∷ literals) new first =
      before-later (v + 1 + length literals) (v + suc (length literals)) (chain_end (v + 1) (2 * v) literals) (omega arith)
      (chain_end_before (v + 1) (2 * v) literals (omega (arith, new)) (before-positive (v + 1) v (omega arith) new))
