-- A circuit whose variables are defined in order, and whose gates read lower variables, is checked.
use Rattle.std.proofs.Common.{◌≡◌, ◌≢◌, ℕ, ◌+◌, ◌*◌, ◌-◌, ◌<◌, ◌≤◌, ◌⊎◌, List, [], ◌∷◌, length, sym, ◌∙◌, subst, inl, inr, arith, lt_irrefl, eq-zero-or-pos}
use Rattle.std.specs.List.{All, AllPairs, Contains, range_with_len}
use Rattle.std.proofs.lemmas.List.FromFn.{length-range_with_len, get_or-range_with_len}
use Rattle.aig_semantics.specs.declared.parts.Gate.{Gate}
use Rattle.aig_semantics.specs.Literals.{variable_of}
use Rattle.aig_semantics.specs.Circuits.{Circuit, IsChecked, AreDefined, Reads, ReadsThrough, defined}
use Rattle.circuit.specs.declared.parts.Parts.{Parts}
use Rattle.circuit.specs.Sections.{circuit_of, used_by, AreInRange}
use Rattle.circuit.proofs.Ranges.{used-in_range}

-- the gate reads variables below its own
pub record ReadsLower (gate : Gate) : Type 0 where
  pub first : variable_of gate.rhs0 < gate.var
  pub second : variable_of gate.rhs1 < gate.var

range_apart : (n : ℕ) → AllPairs (λ v w. v ≢ w) (range_with_len 1 n)
range_apart n = λ i j d lt below e.
    let size : length (range_with_len 1 n) ≡ n = length-range_with_len 1 n in
    let at_j : j < n = omega (arith, below, size) in
    let at_i : i < n = omega (arith, at_j, lt) in
    let same : 1 + i ≡ 1 + j = sym (get_or-range_with_len 1 n i d at_i) ∙ e ∙ get_or-range_with_len 1 n j d at_j in
    lt_irrefl i (omega (arith, lt, same))

range_contains : (n v : ℕ) → 1 ≤ v → v ≤ n → Contains (range_with_len 1 n) v
range_contains n v some low =
    let size : length (range_with_len 1 n) ≡ n = length-range_with_len 1 n in
    let inside : v - 1 < n = omega arith in
    let back : 1 + (v - 1) ≡ v = omega arith in
    (v - 1, omega (arith, size, inside), get_or-range_with_len 1 n (v - 1) v inside ∙ back)

lower_side : (gate : Gate) (v w : ℕ) → ReadsLower gate → gate.var ≡ v → (variable_of gate.rhs0 ≡ w) ⊎ (variable_of gate.rhs1 ≡ w) → w < v
lower_side gate v w lower is (inl e) = let a = lower.first in omega (arith, a, is, e)
lower_side gate v w lower is (inr e) = let a = lower.second in omega (arith, a, is, e)

reads_lower : (c : Circuit) → All ReadsLower c.gates → (v w : ℕ) → Reads c v w → w < v
reads_lower c lower v w (k, gate, below, at, facts) = lower_side gate v w (subst ReadsLower at (lower k gate below)) facts.0 facts.1

through_lower : (c : Circuit) → All ReadsLower c.gates → (v : ℕ) (between : List ℕ) (w : ℕ) → ReadsThrough c v between w → w < v
through_lower c lower v [] w reads = reads_lower c lower v w reads
through_lower c lower v (u ∷ between) w reads =
    let a = reads_lower c lower v u reads.0 in
    let b = through_lower c lower u between w reads.1 in
    omega (arith, a, b)

-- the variable of such a literal is 0 or defined
literal_defined : (c : Circuit) (literal : ℕ) → defined c ≡ range_with_len 1 c.max → literal ≤ 2 * c.max + 1 → (variable_of literal ≡ 0) ⊎ Contains (defined c) (variable_of literal)
literal_defined c literal ordered low =
    let inside : variable_of literal ≤ c.max = omega (arith, low) in
    elim (eq-zero-or-pos (variable_of literal)) [
      | inl none ↦ inl none
      | inr more ↦ inr (subst (λ vs. Contains vs (variable_of literal)) (sym ordered) (range_contains c.max (variable_of literal) (omega (arith, more)) inside))
    ]

literals_defined : (c : Circuit) (literals : List ℕ) → defined c ≡ range_with_len 1 c.max → All (λ literal. literal ≤ 2 * c.max + 1) literals → AreDefined c literals
literals_defined c literals ordered low = λ k d below. literal_defined c _ ordered (low k d below)

pub defined_from : (parts : Parts) → AreInRange parts → defined (circuit_of parts) ≡ range_with_len 1 parts.max → AreDefined (circuit_of parts) (used_by parts)
defined_from parts in_range ordered = literals_defined (circuit_of parts) (used_by parts) ordered (used-in_range parts in_range)

pub checked_from : (parts : Parts) → AreInRange parts → defined (circuit_of parts) ≡ range_with_len 1 parts.max → All ReadsLower parts.gates → IsChecked (circuit_of parts)
checked_from parts in_range ordered lower = record {
  in_range = in_range.variables;
  once = subst (λ vs. AllPairs (λ v w. v ≢ w) vs) (sym ordered) (range_apart parts.max);
  used_defined = literals_defined (circuit_of parts) _ ordered in_range.limits.literals;
  acyclic = λ v cycle. lt_irrefl v (through_lower (circuit_of parts) lower v cycle.0 v cycle.1);
}
