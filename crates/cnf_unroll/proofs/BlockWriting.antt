-- An assignment for the clauses of blocks, from positions and their successors.
use Rattle.std.proofs.Common.{◌≡◌, ℕ, ◌+◌, ◌-◌, ◌<◌, ◌≤◌, ◌⊎◌, Bool, true, false, not, ◌&&◌, ◌||◌, List, [], ◌∷◌, ◌++◌, map, length, unwrap_or, refl, sym, ap, ◌∙◌, inl, inr, arith}
use Rattle.std.specs.List.{AllByRecursion, Contains, flat_map}
use Rattle.std.proofs.lemmas.Bool.{and_from, cases_lt}
use Rattle.std.proofs.lemmas.List.{length-map, get_or-map, ext_get_or}
use Rattle.std.proofs.lemmas.List.Elements.{recursion_from_All}
use Rattle.aig_semantics.specs.declared.parts.Latch.{Latch}
use Rattle.aig_semantics.specs.declared.parts.Gate.{Gate}
use Rattle.aig_semantics.specs.Literals.{variable_of, variable_in}
use Rattle.aig_semantics.specs.Circuits.{Circuit, IsChecked, defined}
use Rattle.aig_semantics.specs.Valuations.{conjunction, IsValuation, value_beside, HasOneValuation}
use Rattle.aig_semantics.specs.Runs.{literal_at, valuation_at, successor}
use Rattle.aig_semantics.proofs.Lists.{AllDiffer-left, AllDiffer-right, value_beside-at}
use Rattle.aig_semantics.proofs.Values.{given_variables, gate_variables}
use Rattle.proof_semantics.specs.declared.literals.Lit.{Lit}
use Rattle.proof_semantics.specs.Clauses.{literal_value, clauses_value, negation}
use Rattle.proof_semantics.proofs.LiteralLaws.{literal_value-negation}
use Rattle.fair_semantics.specs.declared.skeletons.Situation.{Situation}
use Rattle.fair_semantics.specs.Skeletons.{IsSituation}
use Rattle.cnf_unroll.specs.Numbers.{block_size, number, next_number, minus, literal_in_block, state_place, successor_place}
use Rattle.cnf_unroll.specs.Blocks.{gate_clauses, unit_clause, latch_clauses, block_clauses}
use Rattle.cnf_unroll.specs.Situations.{situation_in}
use Rattle.cnf_unroll.proofs.Truth.{together, flat_true}
use Rattle.cnf_unroll.proofs.BlockReading.{passed, each, each_two, map_same, map_map, IsRead, nexts_read, sides_read, constraints_read, latches_defined, inputs_defined, gates_defined, read_in_range, literal_there, literal_same}

-- the numbers of the block with this base have the values of the position, and of its successor
pub record Shows (c : Circuit) (base : ℕ) (s : Situation) (v : ℕ → Bool) : Type 0 where
  pub values : (u : ℕ) → u ≤ c.max → v (number base u) ≡ variable_in (valuation_at c s.position) u
  pub next : map v (successor_place c base) ≡ s.successor

-- ---- truth values alone

gate_true : (g a b : Bool) → g ≡ (a && b) → ((not g || (a || false)) && ((not g || (b || false)) && ((g || (not a || (not b || false))) && true))) ≡ true
gate_true true true true e = refl
gate_true true true false e = let x : true ≡ false = e in absurd (cc)
gate_true true false b e = let x : true ≡ false = e in absurd (cc)
gate_true false true true e = let x : false ≡ true = e in absurd (cc)
gate_true false true false e = refl
gate_true false false b e = refl

latch_true : (s n : Bool) → s ≡ n → ((not s || (n || false)) && ((s || (not n || false)) && true)) ≡ true
latch_true true true e = refl
latch_true true false e = absurd (cc)
latch_true false true e = absurd (cc)
latch_true false false e = refl

false_denied : (a : Bool) → a ≡ false → ((not a || false) && true) ≡ true
false_denied true e = absurd (cc)
false_denied false e = refl

true_unit : (a : Bool) → a ≡ true → (a || false) ≡ true
true_unit true e = refl
true_unit false e = e

-- ---- lists

first_same : {X Z : Type 0} (f g : X → Z) (x : X) (xs : List X) → map f (x ∷ xs) ≡ map g (x ∷ xs) → f x ≡ g x
first_same f g x xs e = cc

rest_same : {X Z : Type 0} (f g : X → Z) (x : X) (xs : List X) → map f (x ∷ xs) ≡ map g (x ∷ xs) → map f xs ≡ map g xs
rest_same f g x xs e = cc

each_same : {X Z : Type 0} (f g : X → Z) (xs : List X) → map f xs ≡ map g xs → AllByRecursion (λ x. f x ≡ g x) xs
each_same f g [] e = tt
each_same f g (x ∷ xs) e = (first_same f g x xs e, each_same f g xs (rest_same f g x xs e))

-- ---- clauses

units_true : (v : ℕ → Bool) (base : ℕ) (ls : List ℕ) → AllByRecursion (λ l. literal_value v (literal_in_block base l) ≡ true) ls → clauses_value v (map (unit_clause base) ls) ≡ true
units_true v base [] h = refl
units_true v base (l ∷ ls) h = and_from _ _ (true_unit (literal_value v (literal_in_block base l)) h.0) (units_true v base ls h.1)

gate_holds : (v : ℕ → Bool) (base : ℕ) (gate : Gate) → v (number base gate.var) ≡ (literal_value v (literal_in_block base gate.rhs0) && literal_value v (literal_in_block base gate.rhs1)) → clauses_value v (gate_clauses base gate) ≡ true
gate_holds v base gate e =
    let a = literal_value v (literal_in_block base gate.rhs0) in
    let b = literal_value v (literal_in_block base gate.rhs1) in
    let g = v (number base gate.var) in
    ap (λ y. (not g || (a || false)) && ((not g || (b || false)) && ((g || (literal_value v (negation (literal_in_block base gate.rhs0)) || (y || false))) && true))) (literal_value-negation v (literal_in_block base gate.rhs1))
    ∙ ap (λ x. (not g || (a || false)) && ((not g || (b || false)) && ((g || (x || (not b || false))) && true))) (literal_value-negation v (literal_in_block base gate.rhs0))
    ∙ gate_true g a b e

latch_holds : (c : Circuit) (v : ℕ → Bool) (base : ℕ) (latch : Latch) → v (next_number c base latch.var) ≡ literal_value v (literal_in_block base latch.next) → clauses_value v (latch_clauses c base latch) ≡ true
latch_holds c v base latch e =
    let s = v (next_number c base latch.var) in
    let n = literal_value v (literal_in_block base latch.next) in
    ap (λ x. (not s || (n || false)) && ((s || (x || false)) && true)) (literal_value-negation v (literal_in_block base latch.next))
    ∙ latch_true s n e

module _ (c : Circuit) (checked : IsChecked c) (law : HasOneValuation c) (base : ℕ) (s : Situation) (is : IsSituation c s) (v : ℕ → Bool) (shows : Shows c base s v) where
  abbrev val : List Bool
  val = valuation_at c s.position

  meets : IsValuation c s.position.latches s.position.inputs (valuation_at c s.position)
  meets = (law s.position.latches s.position.inputs val is.possible.position.latches is.possible.position.inputs).1 refl

  pub literal_shown : (l : ℕ) → IsRead c (variable_of l) → literal_value v (literal_in_block base l) ≡ literal_at c s.position l
  literal_shown l read =
      literal_there v base l
      ∙ literal_same (λ u. v (number base u)) (variable_in val) l (shows.values (variable_of l) (read_in_range c checked (variable_of l) read))

  defined_shown : (u : ℕ) → Contains (defined c) u → v (number base u) ≡ variable_in (valuation_at c s.position) u
  defined_shown u there = shows.values u (read_in_range c checked u (inr there))

  gates_hold : AllByRecursion (λ gate. clauses_value v (gate_clauses base gate) ≡ true) c.gates
  gates_hold =
      each_two (λ gate. Contains (defined c) gate.var × (variable_in val gate.var ≡ conjunction (variable_in val) gate))
      (λ gate. IsRead c (variable_of gate.rhs0) × IsRead c (variable_of gate.rhs1))
      (λ gate. clauses_value v (gate_clauses base gate) ≡ true)
      (λ gate a b.
      gate_holds v base gate
      (defined_shown gate.var a.0
      ∙ (a.1
      ∙ sym (ap (λ x. x && literal_value v (literal_in_block base gate.rhs1)) (literal_shown gate.rhs0 b.0)
      ∙ ap (λ y. literal_at c s.position gate.rhs0 && y) (literal_shown gate.rhs1 b.1)))))
      c.gates
      (each_two (λ gate. Contains (defined c) gate.var) (λ gate. variable_in val gate.var ≡ conjunction (variable_in val) gate)
      (λ gate. Contains (defined c) gate.var × (variable_in val gate.var ≡ conjunction (variable_in val) gate)) (λ gate a b. (a, b)) c.gates
      (gates_defined c) (recursion_from_All (λ gate. variable_in val gate.var ≡ conjunction (variable_in val) gate) c.gates meets.equations.conjunctions))
      (sides_read c checked)

  nexts_hold : AllByRecursion (λ latch. clauses_value v (latch_clauses c base latch) ≡ true) c.latches
  nexts_hold =
      each_two (λ latch. v (next_number c base latch.var) ≡ literal_at c s.position latch.next) (λ latch. IsRead c (variable_of latch.next))
      (λ latch. clauses_value v (latch_clauses c base latch) ≡ true)
      (λ latch a read. latch_holds c v base latch (a ∙ sym (literal_shown latch.next read)))
      c.latches
      (each_same (λ latch. v (next_number c base latch.var)) (λ latch. literal_at c s.position latch.next) c.latches
      (sym (map_map v (λ latch. next_number c base latch.var) c.latches) ∙ (shows.next ∙ is.next)))
      (nexts_read c checked)

  constraints_hold : AllByRecursion (λ l. literal_value v (literal_in_block base l) ≡ true) c.constraints
  constraints_hold =
      each_two (λ l. literal_at c s.position l ≡ true) (λ l. IsRead c (variable_of l)) (λ l. literal_value v (literal_in_block base l) ≡ true)
      (λ l a read. literal_shown l read ∙ a) c.constraints
      (recursion_from_All (λ l. literal_at c s.position l ≡ true) c.constraints is.possible.constraints) (constraints_read c checked)

  pub block_true : clauses_value v (block_clauses c base) ≡ true
  block_true =
      let head : List (List Lit) = (minus (number base 0) ∷ []) ∷ [] in
      let gates : List (List Lit) = flat_map (gate_clauses base) c.gates in
      let units : List (List Lit) = map (unit_clause base) c.constraints in
      together v (head ++ gates ++ units) (flat_map (latch_clauses c base) c.latches)
      (together v (head ++ gates) units
      (together v head gates
      (false_denied (v (number base 0)) (shows.values 0 (omega arith) ∙ meets.equations.constant))
      (flat_true v (gate_clauses base) c.gates ∙ passed (λ gate. clauses_value v (gate_clauses base gate)) c.gates gates_hold))
      (units_true v base c.constraints constraints_hold))
      (flat_true v (latch_clauses c base) c.latches ∙ passed (λ latch. clauses_value v (latch_clauses c base latch)) c.latches nexts_hold)

  pub shown_latches : map v (state_place c base) ≡ s.position.latches
  shown_latches =
      map_map v (λ latch. number base latch.var) c.latches
      ∙ (map_same (λ latch. v (number base latch.var)) (λ latch. variable_in val latch.var) c.latches
      (each (λ latch. Contains (defined c) latch.var) (λ latch. v (number base latch.var) ≡ variable_in val latch.var) (λ latch there. defined_shown latch.var there) c.latches (latches_defined c))
      ∙ meets.equations.given_latches)

  shown_inputs : map (λ i. v (number base i)) c.inputs ≡ s.position.inputs
  shown_inputs =
      map_same (λ i. v (number base i)) (variable_in val) c.inputs
      (each (λ i. Contains (defined c) i) (λ i. v (number base i) ≡ variable_in val i) (λ i there. defined_shown i there) c.inputs (inputs_defined c))
      ∙ meets.equations.given_inputs

  pub shown_situation : situation_in c base v ≡ s
  shown_situation = λ i. record {
    position = record { latches = shown_latches i; inputs = shown_inputs i };
    successor = shows.next i;
  }

-- ---- an assignment

in_block : (c : Circuit) (base : ℕ) (s : Situation) (n : ℕ) → (n < base + c.max + 2) ⊎ (base + c.max + 2 ≤ n) → Bool
in_block c base s n (inl below) = variable_in (valuation_at c s.position) (n - (base + 1))
in_block c base s n (inr above) = unwrap_or (value_beside (map (λ latch. latch.var) c.latches) s.successor (n - (base + c.max + 2))) false

pub block_value : Circuit → ℕ → Situation → ℕ → Bool
block_value c base s n = in_block c base s n (cases_lt n (base + c.max + 2))

in_block-value : (c : Circuit) (base : ℕ) (s : Situation) (u : ℕ) (x : (number base u < base + c.max + 2) ⊎ (base + c.max + 2 ≤ number base u)) → u ≤ c.max → in_block c base s (number base u) x ≡ variable_in (valuation_at c s.position) u
unfolding in_block
in_block-value c base s u (inl below) h = let e : base + 1 + u - (base + 1) ≡ u = omega arith in ap (λ k. variable_in (valuation_at c s.position) k) e
in_block-value c base s u (inr above) h = absurd (omega arith)

in_block-next : (c : Circuit) (base : ℕ) (s : Situation) (u : ℕ) (x : (next_number c base u < base + c.max + 2) ⊎ (base + c.max + 2 ≤ next_number c base u)) → in_block c base s (next_number c base u) x ≡ unwrap_or (value_beside (map (λ latch. latch.var) c.latches) s.successor u) false
unfolding in_block
in_block-next c base s u (inl below) = absurd (omega arith)
in_block-next c base s u (inr above) = let e : base + c.max + 2 + u - (base + c.max + 2) ≡ u = omega arith in ap (λ k. unwrap_or (value_beside (map (λ latch. latch.var) c.latches) s.successor k) false) e

next_values : (c : Circuit) → IsChecked c → (successor : List Bool) → length successor ≡ length c.latches → map (λ latch. unwrap_or (value_beside (map (λ latch. latch.var) c.latches) successor latch.var) false) c.latches ≡ successor
next_values c checked successor fits =
    let vars = map (λ (latch : Latch). latch.var) c.latches in
    let beside : ℕ → Bool = λ u. unwrap_or (value_beside (map (λ latch. latch.var) c.latches) successor u) false in
    sym (map_map beside (λ latch. latch.var) c.latches)
    ∙ ext_get_or false (map beside (map (λ latch. latch.var) c.latches)) successor
    (length-map (map (λ latch. latch.var) c.latches) beside ∙ length-map c.latches (λ latch. latch.var) ∙ sym fits)
    (λ k below.
    let inside : k < length (map (λ latch. latch.var) c.latches) = omega (arith, length-map (map (λ latch. latch.var) c.latches) beside) in
    get_or-map beside (map (λ latch. latch.var) c.latches) k 0 false inside
    ∙ ap (λ o. unwrap_or o false)
    (value_beside-at (map (λ latch. latch.var) c.latches) successor k
    (AllDiffer-right c.inputs (map (λ latch. latch.var) c.latches) (AllDiffer-left (given_variables c) (gate_variables c) checked.once))
    (length-map c.latches (λ latch. latch.var) ∙ sym fits) inside))

-- an assignment that is this one in the block shows the situation
pub block_shown : (c : Circuit) → IsChecked c → (base : ℕ) (s : Situation) → IsSituation c s → (v : ℕ → Bool) → ((n : ℕ) → base + 1 ≤ n → n < base + block_size c + 1 → v n ≡ block_value c base s n) → Shows c base s v
unfolding block_value
block_shown c checked base s is v same = record {
  values = λ u below. same (number base u) (omega arith) (omega arith) ∙ in_block-value c base s u (cases_lt (number base u) (base + c.max + 2)) below;
  next =
      map_map v (λ latch. next_number c base latch.var) c.latches
      ∙ (map_same (λ latch. v (next_number c base latch.var)) (λ latch. unwrap_or (value_beside (map (λ latch. latch.var) c.latches) s.successor latch.var) false) c.latches
      (each (λ latch. Contains (defined c) latch.var) (λ latch. v (next_number c base latch.var) ≡ unwrap_or (value_beside (map (λ latch. latch.var) c.latches) s.successor latch.var) false)
      (λ latch there.
      let below = read_in_range c checked latch.var (inr there) in
      same (next_number c base latch.var) (omega arith) (omega arith) ∙ in_block-next c base s latch.var (cases_lt (next_number c base latch.var) (base + c.max + 2)))
      c.latches (latches_defined c))
      ∙ next_values c checked s.successor (ap length is.next ∙ length-map c.latches (λ latch. literal_at c s.position latch.next)));
}
