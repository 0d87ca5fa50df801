-- An assignment that makes the clauses of a block true gives it a position and its successor.
use Rattle.std.proofs.Common.{◌≡◌, ℕ, zero, suc, ◌+◌, ◌<◌, ◌≤◌, ◌==◌, ◌⊎◌, Bool, true, false, not, cond, ◌&&◌, ◌||◌, List, [], ◌∷◌, ◌++◌, map, length, get_or, refl, sym, ap, subst, ◌∙◌, inl, inr, arith}
use Rattle.std.specs.List.{All, AllByRecursion, Contains, list_all, list_any, flat_map}
use Rattle.std.proofs.lemmas.Bool.{and_parts, and_from, cases_Bool, cases_lt, eqb-true, eq-eqb}
use Rattle.std.proofs.lemmas.List.{length-map, get_or-map, get_or_past}
use Rattle.std.proofs.lemmas.List.Elements.{All-head, All-tail, All-contains, recursion_from_All, All-from_recursion, Contains-append_left, Contains-append_right}
use Rattle.aig_semantics.specs.declared.parts.Latch.{Latch}
use Rattle.aig_semantics.specs.declared.parts.Gate.{Gate}
use Rattle.aig_semantics.specs.Literals.{variable_of, is_negated, literal_by, variable_in, literal_in}
use Rattle.aig_semantics.specs.Circuits.{Circuit, IsChecked, defined}
use Rattle.aig_semantics.specs.Valuations.{conjunction, MeetsEquations, IsValuation, valuation, values_below, HasOneValuation}
use Rattle.aig_semantics.specs.Runs.{literal_at}
use Rattle.aig_semantics.proofs.Lists.{All-left, All-right}
use Rattle.aig_semantics.proofs.Values.{length-values_below, get_or-values_below, given_variables, gate_variables}
use Rattle.proof_semantics.specs.declared.literals.Lit.{Lit}
use Rattle.proof_semantics.specs.Clauses.{literal_value, clauses_value, negation, bool_eq}
use Rattle.proof_semantics.proofs.LiteralLaws.{literal_value-negation}
use Rattle.fair_semantics.specs.Skeletons.{IsSituation}
use Rattle.cnf_unroll.specs.Numbers.{number, next_number, minus, literal_in_block, state_place}
use Rattle.cnf_unroll.specs.Blocks.{gate_clauses, unit_clause, latch_clauses, block_clauses}
use Rattle.cnf_unroll.specs.Situations.{situation_in}
use Rattle.cnf_unroll.proofs.Truth.{both, flat_true}

-- ---- lists

pub passes : {X : Type 0} (p : X → Bool) (xs : List X) → list_all p xs ≡ true → AllByRecursion (λ x. p x ≡ true) xs
passes p [] h = tt
passes p (x ∷ xs) h = let parts = and_parts (p x) (list_all p xs) h in (parts.0, passes p xs parts.1)

pub passed : {X : Type 0} (p : X → Bool) (xs : List X) → AllByRecursion (λ x. p x ≡ true) xs → list_all p xs ≡ true
passed p [] h = refl
passed p (x ∷ xs) h = and_from _ _ h.0 (passed p xs h.1)

pub each : {X : Type 0} (P Q : X → Type 0) → ((x : X) → P x → Q x) → (xs : List X) → AllByRecursion P xs → AllByRecursion Q xs
each P Q f [] h = tt
each P Q f (x ∷ xs) h = (f x h.0, each P Q f xs h.1)

pub each_two : {X : Type 0} (P Q R : X → Type 0) → ((x : X) → P x → Q x → R x) → (xs : List X) → AllByRecursion P xs → AllByRecursion Q xs → AllByRecursion R xs
each_two P Q R f [] h g = tt
each_two P Q R f (x ∷ xs) h g = (f x h.0 g.0, each_two P Q R f xs h.1 g.1)

-- two ways to make a list of another that agree on each element
pub map_agrees : {X Y Z : Type 0} (f : X → Z) (g : Y → Z) (h : X → Y) (xs : List X) → AllByRecursion (λ x. f x ≡ g (h x)) xs → map g (map h xs) ≡ map f xs
map_agrees f g h [] e = refl
map_agrees f g h (x ∷ xs) e = ap (λ z. z ∷ map g (map h xs)) (sym e.0) ∙ ap (λ zs. f x ∷ zs) (map_agrees f g h xs e.1)

pub map_same : {X Z : Type 0} (f g : X → Z) (xs : List X) → AllByRecursion (λ x. f x ≡ g x) xs → map f xs ≡ map g xs
map_same f g [] e = refl
map_same f g (x ∷ xs) e = ap (λ z. z ∷ map f xs) e.0 ∙ ap (λ zs. g x ∷ zs) (map_same f g xs e.1)

pub map_map : {X Y Z : Type 0} (g : Y → Z) (h : X → Y) (xs : List X) → map g (map h xs) ≡ map (λ x. g (h x)) xs
map_map g h [] = refl
map_map g h (x ∷ xs) = ap (λ zs. g (h x) ∷ zs) (map_map g h xs)

pairs_apart : {X Y : Type 0} (P : Y → Type 0) (f g : X → Y) (xs : List X) → All P (flat_map (λ x. f x ∷ g x ∷ []) xs) → AllByRecursion (λ x. P (f x) × P (g x)) xs
pairs_apart P f g [] h = tt
pairs_apart P f g (x ∷ xs) h =
    let tail = All-tail P (f x) (g x ∷ flat_map (λ y. f y ∷ g y ∷ []) xs) h in (
      (All-head P (f x) (g x ∷ flat_map (λ y. f y ∷ g y ∷ []) xs) h, All-head P (g x) (flat_map (λ y. f y ∷ g y ∷ []) xs) tail),
      pairs_apart P f g xs (All-tail P (g x) (flat_map (λ y. f y ∷ g y ∷ []) xs) tail),
    )

-- ---- which variables are read, and which are defined

-- the variable is 0 or defined
abbrev pub IsRead : Circuit → ℕ → Type 0
IsRead c v = (v ≡ 0) ⊎ Contains (defined c) v

abbrev pub nexts : Circuit → List ℕ
nexts c = map (λ latch. latch.next) c.latches

abbrev pub sides_of : Circuit → List ℕ
sides_of c = flat_map (λ gate. gate.rhs0 ∷ gate.rhs1 ∷ []) c.gates

abbrev pub of_justice : Circuit → List ℕ
of_justice c = flat_map (λ property. property) c.justice

pub nexts_read : (c : Circuit) → IsChecked c → AllByRecursion (λ latch. IsRead c (variable_of latch.next)) c.latches
nexts_read c checked =
    let P = λ (l : ℕ). IsRead c (variable_of l) in
    let all = All-left P (nexts c) (sides_of c) (All-left P (nexts c ++ sides_of c) c.constraints (All-left P (nexts c ++ sides_of c ++ c.constraints) (of_justice c) (All-left P (nexts c ++ sides_of c ++ c.constraints ++ of_justice c) c.fairness checked.used_defined))) in
    recursion_from_All (λ latch. IsRead c (variable_of latch.next)) c.latches
    (λ k d below. subst (λ x. IsRead c (variable_of x)) (get_or-map (λ latch. latch.next) c.latches k d d.next below) (all k d.next (omega (arith, length-map c.latches (λ latch. latch.next)))))

pub sides_read : (c : Circuit) → IsChecked c → AllByRecursion (λ gate. IsRead c (variable_of gate.rhs0) × IsRead c (variable_of gate.rhs1)) c.gates
sides_read c checked =
    let P = λ (l : ℕ). IsRead c (variable_of l) in
    pairs_apart P (λ gate. gate.rhs0) (λ gate. gate.rhs1) c.gates
    (All-right P (nexts c) (sides_of c) (All-left P (nexts c ++ sides_of c) c.constraints (All-left P (nexts c ++ sides_of c ++ c.constraints) (of_justice c) (All-left P (nexts c ++ sides_of c ++ c.constraints ++ of_justice c) c.fairness checked.used_defined))))

pub constraints_read : (c : Circuit) → IsChecked c → AllByRecursion (λ l. IsRead c (variable_of l)) c.constraints
constraints_read c checked =
    let P = λ (l : ℕ). IsRead c (variable_of l) in
    recursion_from_All P c.constraints
    (All-right P (nexts c ++ sides_of c) c.constraints (All-left P (nexts c ++ sides_of c ++ c.constraints) (of_justice c) (All-left P (nexts c ++ sides_of c ++ c.constraints ++ of_justice c) c.fairness checked.used_defined)))

pub latches_defined : (c : Circuit) → AllByRecursion (λ latch. Contains (defined c) latch.var) c.latches
latches_defined c =
    recursion_from_All (λ latch. Contains (defined c) latch.var) c.latches
    (λ k d below.
    let there : Contains (map (λ latch. latch.var) c.latches) (get_or c.latches k d).var = (k, (omega (arith, length-map c.latches (λ latch. latch.var))), get_or-map (λ latch. latch.var) c.latches k d (get_or c.latches k d).var below) in
    Contains-append_left (given_variables c) (gate_variables c) (get_or c.latches k d).var
    (Contains-append_right c.inputs (map (λ latch. latch.var) c.latches) (get_or c.latches k d).var there))

all_defaults : (xs : List ℕ) (k d : ℕ) → k < length xs → get_or xs k (get_or xs k d) ≡ get_or xs k d
all_defaults [] k d below = absurd (omega arith)
all_defaults (x ∷ xs) zero d below = refl
all_defaults (x ∷ xs) (suc k) d below = all_defaults xs k d (omega arith)

pub inputs_defined : (c : Circuit) → AllByRecursion (λ v. Contains (defined c) v) c.inputs
inputs_defined c =
    recursion_from_All (λ v. Contains (defined c) v) c.inputs
    (λ k d below.
    let there : Contains c.inputs (get_or c.inputs k d) = (k, below, all_defaults c.inputs k d below) in
    Contains-append_left (given_variables c) (gate_variables c) (get_or c.inputs k d)
    (Contains-append_left c.inputs (map (λ latch. latch.var) c.latches) (get_or c.inputs k d) there))

pub gates_defined : (c : Circuit) → AllByRecursion (λ gate. Contains (defined c) gate.var) c.gates
gates_defined c =
    recursion_from_All (λ gate. Contains (defined c) gate.var) c.gates
    (λ k d below.
    let there : Contains (gate_variables c) (get_or c.gates k d).var = (k, (omega (arith, length-map c.gates (λ gate. gate.var))), get_or-map (λ gate. gate.var) c.gates k d (get_or c.gates k d).var below) in
    Contains-append_right (given_variables c) (gate_variables c) (get_or c.gates k d).var there)

pub read_in_range : (c : Circuit) → IsChecked c → (v : ℕ) → IsRead c v → v ≤ c.max
read_in_range c checked v (inl e) = omega arith
read_in_range c checked v (inr there) = (All-contains (λ u. (1 ≤ u) × (u ≤ c.max)) (defined c) v checked.in_range there).1

-- ---- whether a variable is defined, as a test

or_true : (a : Bool) → (a || true) ≡ true
or_true true = refl
or_true false = refl

defined-there : (vs : List ℕ) (v : ℕ) → Contains vs v → list_any (λ u. u == v) vs ≡ true
defined-there [] v (k, below, at) = absurd (omega arith)
defined-there (u ∷ vs) v (zero, below, at) = ap (λ x. x || list_any (λ u. u == v) vs) (eq-eqb u v at)
defined-there (u ∷ vs) v (suc k, below, at) = ap (λ x. (u == v) || x) (defined-there vs v (k, omega arith, at)) ∙ or_true (u == v)

defined-only : (vs : List ℕ) (v : ℕ) → list_any (λ u. u == v) vs ≡ true → Contains vs v
defined-only [] v h = let x : false ≡ true = h in absurd (cc)
defined-only (u ∷ vs) v h = elim (cases_Bool (u == v)) [
  | inl t ↦ (0, omega arith, eqb-true u v t)
  | inr t ↦
      let rest = defined-only vs v (sym (ap (λ x. x || list_any (λ u. u == v) vs) t) ∙ h) in
      (suc rest.0, (let l : rest.0 < length vs = rest.1 in omega arith), rest.2)
]

defined-not : (vs : List ℕ) (v : ℕ) → (Contains vs v → ⊥) → list_any (λ u. u == v) vs ≡ false
defined-not vs v none = elim (cases_Bool (list_any (λ u. u == v) vs)) [
  | inl t ↦ absurd (none (defined-only vs v t))
  | inr t ↦ t
]

-- ---- truth values alone

sign : (negated x : Bool) → bool_eq (not negated) x ≡ cond negated (not x) x
sign true x = refl
sign false x = refl

gate_is : (g a b : Bool) → ((not g || (a || false)) && ((not g || (b || false)) && ((g || (not a || (not b || false))) && true))) ≡ true → g ≡ (a && b)
gate_is true true true h = refl
gate_is true true false h = let x : false ≡ true = h in absurd (cc)
gate_is true false b h = let x : false ≡ true = h in absurd (cc)
gate_is false true true h = let x : false ≡ true = h in absurd (cc)
gate_is false true false h = refl
gate_is false false b h = refl

latch_is : (s n : Bool) → ((not s || (n || false)) && ((s || (not n || false)) && true)) ≡ true → s ≡ n
latch_is true true h = refl
latch_is true false h = let x : false ≡ true = h in absurd (cc)
latch_is false true h = let x : false ≡ true = h in absurd (cc)
latch_is false false h = refl

not_true : (a : Bool) → (not a || false) ≡ true → a ≡ false
not_true true h = sym h
not_true false h = refl

or_false : (a : Bool) → (a || false) ≡ true → a ≡ true
or_false true h = refl
or_false false h = h

and_of_false : (a b : Bool) → b ≡ false → (a && b) ≡ false
and_of_false true b e = e
and_of_false false b e = refl

-- ---- literals

pub literal_there : (v : ℕ → Bool) (base l : ℕ) → literal_value v (literal_in_block base l) ≡ literal_by (λ u. v (number base u)) l
literal_there v base l = sign (is_negated l) (v (number base (variable_of l)))

pub literal_same : (f g : ℕ → Bool) (l : ℕ) → f (variable_of l) ≡ g (variable_of l) → literal_by f l ≡ literal_by g l
literal_same f g l e = ap (λ x. cond (is_negated l) (not x) x) e

gate_there : (v : ℕ → Bool) (base : ℕ) (gate : Gate) → clauses_value v (gate_clauses base gate) ≡ true → v (number base gate.var) ≡ conjunction (λ u. v (number base u)) gate
gate_there v base gate h =
    let a = literal_value v (literal_in_block base gate.rhs0) in
    let b = literal_value v (literal_in_block base gate.rhs1) in
    let g = v (number base gate.var) in
    let clauses : ((not g || (a || false)) && ((not g || (b || false)) && ((g || (not a || (not b || false))) && true))) ≡ true =
    sym (ap (λ x. (not g || (a || false)) && ((not g || (b || false)) && ((g || (x || (not b || false))) && true))) (literal_value-negation v (literal_in_block base gate.rhs0)))
    ∙ sym (ap (λ y. (not g || (a || false)) && ((not g || (b || false)) && ((g || (literal_value v (negation (literal_in_block base gate.rhs0)) || (y || false))) && true))) (literal_value-negation v (literal_in_block base gate.rhs1)))
    ∙ h
    in
    gate_is g a b clauses
    ∙ ap (λ x. x && b) (literal_there v base gate.rhs0)
    ∙ ap (λ y. literal_by (λ u. v (number base u)) gate.rhs0 && y) (literal_there v base gate.rhs1)

latch_there : (c : Circuit) (v : ℕ → Bool) (base : ℕ) (latch : Latch) → clauses_value v (latch_clauses c base latch) ≡ true → v (next_number c base latch.var) ≡ literal_value v (literal_in_block base latch.next)
latch_there c v base latch h =
    let s = v (next_number c base latch.var) in
    let n = literal_value v (literal_in_block base latch.next) in
    latch_is s n
    (sym (ap (λ x. (not s || (n || false)) && ((s || (x || false)) && true)) (literal_value-negation v (literal_in_block base latch.next))) ∙ h)

units_there : (v : ℕ → Bool) (base : ℕ) (ls : List ℕ) → clauses_value v (map (unit_clause base) ls) ≡ true → AllByRecursion (λ l. literal_value v (literal_in_block base l) ≡ true) ls
units_there v base [] h = tt
units_there v base (l ∷ ls) h =
    let parts = and_parts (literal_value v (literal_in_block base l) || false) (clauses_value v (map (unit_clause base) ls)) h in
    (or_false (literal_value v (literal_in_block base l)) parts.0, units_there v base ls parts.1)

-- ---- the block

module _ (c : Circuit) (checked : IsChecked c) (law : HasOneValuation c) (base : ℕ) (v : ℕ → Bool) (h : clauses_value v (block_clauses c base) ≡ true) where
  abbrev value : ℕ → Bool
  value u = v (number base u)

  abbrev latches : List Bool
  latches = map v (state_place c base)

  abbrev inputs : List Bool
  inputs = map (λ i. v (number base i)) c.inputs

  abbrev head : List (List Lit)
  head = (minus (number base 0) ∷ []) ∷ []

  abbrev gates : List (List Lit)
  gates = flat_map (gate_clauses base) c.gates

  abbrev constraints : List (List Lit)
  constraints = map (unit_clause base) c.constraints

  split-latches : (clauses_value v (head ++ gates ++ constraints) ≡ true) × (clauses_value v (flat_map (latch_clauses c base) c.latches) ≡ true)
  split-latches = both v (head ++ gates ++ constraints) (flat_map (latch_clauses c base) c.latches) h

  split-constraints : (clauses_value v (head ++ gates) ≡ true) × (clauses_value v constraints ≡ true)
  split-constraints = both v (head ++ gates) constraints split-latches.0

  split-gates : (clauses_value v head ≡ true) × (clauses_value v gates ≡ true)
  split-gates = both v head gates split-constraints.0

  zero_false : value 0 ≡ false
  zero_false = not_true (value 0) (and_parts (not (value 0) || false) true split-gates.0).0

  gates_are : AllByRecursion (λ gate. value gate.var ≡ conjunction value gate) c.gates
  gates_are =
      each (λ gate. clauses_value v (gate_clauses base gate) ≡ true) (λ gate. value gate.var ≡ conjunction value gate) (gate_there v base) c.gates
      (passes (λ gate. clauses_value v (gate_clauses base gate)) c.gates (sym (flat_true v (gate_clauses base) c.gates) ∙ split-gates.1))

  nexts_are : AllByRecursion (λ latch. v (next_number c base latch.var) ≡ literal_value v (literal_in_block base latch.next)) c.latches
  nexts_are =
      each (λ latch. clauses_value v (latch_clauses c base latch) ≡ true) (λ latch. v (next_number c base latch.var) ≡ literal_value v (literal_in_block base latch.next)) (latch_there c v base) c.latches
      (passes (λ latch. clauses_value v (latch_clauses c base latch)) c.latches (sym (flat_true v (latch_clauses c base) c.latches) ∙ split-latches.1))

  -- the values, and false where nothing is defined
  abbrev patched : ℕ → Bool
  patched u = list_any (λ w. w == u) (defined c) && value u

  patched-read : (u : ℕ) → IsRead c u → patched u ≡ value u
  patched-read u (inl e) =
      let none : value u ≡ false = ap value e ∙ zero_false in
      and_of_false (list_any (λ w. w == u) (defined c)) (value u) none ∙ sym none
  patched-read u (inr there) = ap (λ x. x && value u) (defined-there (defined c) u there)

  patched-nowhere : (u : ℕ) → (Contains (defined c) u → ⊥) → patched u ≡ false
  patched-nowhere u none = ap (λ x. x && value u) (defined-not (defined c) u none)

  equations : MeetsEquations c latches inputs patched
  equations = record {
    constant = patched-read 0 (inl refl) ∙ zero_false;
    given_latches =
        map_same (λ latch. patched latch.var) (λ latch. value latch.var) c.latches
        (each (λ latch. Contains (defined c) latch.var) (λ latch. patched latch.var ≡ value latch.var) (λ latch there. patched-read latch.var (inr there)) c.latches (latches_defined c))
        ∙ sym (map_map v (λ latch. number base latch.var) c.latches);
    given_inputs =
        map_same patched value c.inputs
        (each (λ i. Contains (defined c) i) (λ i. patched i ≡ value i) (λ i there. patched-read i (inr there)) c.inputs (inputs_defined c));
    conjunctions =
        All-from_recursion (λ gate. patched gate.var ≡ conjunction patched gate) c.gates
        (each_two (λ gate. (value gate.var ≡ conjunction value gate) × Contains (defined c) gate.var)
        (λ gate. IsRead c (variable_of gate.rhs0) × IsRead c (variable_of gate.rhs1))
        (λ gate. patched gate.var ≡ conjunction patched gate)
        (λ gate a b.
        patched-read gate.var (inr a.1)
        ∙ (a.0
        ∙ sym (ap (λ x. x && literal_by patched gate.rhs1) (literal_same patched value gate.rhs0 (patched-read (variable_of gate.rhs0) b.0))
        ∙ ap (λ y. literal_by value gate.rhs0 && y) (literal_same patched value gate.rhs1 (patched-read (variable_of gate.rhs1) b.1)))))
        c.gates
        (each_two (λ gate. value gate.var ≡ conjunction value gate) (λ gate. Contains (defined c) gate.var) (λ gate. (value gate.var ≡ conjunction value gate) × Contains (defined c) gate.var) (λ gate a b. (a, b)) c.gates gates_are (gates_defined c))
        (sides_read c checked));
  }

  abbrev values : List Bool
  values = values_below (c.max + 1) patched

  in_values : (u : ℕ) → variable_in values u ≡ patched u
  in_values u = elim (cases_lt u (c.max + 1)) [
    | inl lt ↦ get_or-values_below (c.max + 1) patched u false lt
    | inr ge ↦
        get_or_past values u false (omega (arith, length-values_below (c.max + 1) patched))
        ∙ sym (patched-nowhere u (λ there. let range = All-contains (λ x. (1 ≤ x) × (x ≤ c.max)) (defined c) u checked.in_range there in omega arith))
  ]

  is_valuation : IsValuation c latches inputs values
  is_valuation = record {
    size = length-values_below (c.max + 1) patched;
    equations = let same : patched ≡ variable_in values = λ i. λ u. sym (in_values u) i in subst (λ f. MeetsEquations c latches inputs f) same equations;
    nowhere = λ u none. in_values u ∙ patched-nowhere u none;
  }

  pub latches_fit : length latches ≡ length c.latches
  latches_fit = length-map (state_place c base) v ∙ length-map c.latches (λ latch. number base latch.var)

  pub inputs_fit : length inputs ≡ length c.inputs
  inputs_fit = length-map c.inputs (λ i. v (number base i))

  -- a literal that is read has the same value there
  pub literal_is : (l : ℕ) → IsRead c (variable_of l) → literal_at c (record { latches = latches; inputs = inputs }) l ≡ literal_value v (literal_in_block base l)
  literal_is l read =
      let is : values ≡ valuation c latches inputs = (law latches inputs values latches_fit inputs_fit).0 is_valuation in
      ap (λ xs. literal_in xs l) (sym is)
      ∙ literal_same (variable_in values) value l (in_values (variable_of l) ∙ patched-read (variable_of l) read)
      ∙ sym (literal_there v base l)

  pub block_read : IsSituation c (situation_in c base v)
  block_read = record {
    possible = record {
      position = record { latches = latches_fit; inputs = inputs_fit };
      constraints =
          All-from_recursion (λ l. literal_at c (record { latches = latches; inputs = inputs }) l ≡ true) c.constraints
          (each_two (λ l. literal_value v (literal_in_block base l) ≡ true) (λ l. IsRead c (variable_of l)) (λ l. literal_at c (record { latches = latches; inputs = inputs }) l ≡ true)
          (λ l a read. literal_is l read ∙ a) c.constraints (units_there v base c.constraints split-constraints.1) (constraints_read c checked));
    };
    next =
        map_agrees (λ latch. literal_at c (record { latches = latches; inputs = inputs }) latch.next) v (λ latch. next_number c base latch.var) c.latches
        (each_two (λ latch. v (next_number c base latch.var) ≡ literal_value v (literal_in_block base latch.next)) (λ latch. IsRead c (variable_of latch.next))
        (λ latch. literal_at c (record { latches = latches; inputs = inputs }) latch.next ≡ v (next_number c base latch.var))
        (λ latch a read. literal_is latch.next read ∙ sym a) c.latches nexts_are (nexts_read c checked));
  }
