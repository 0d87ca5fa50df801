-- A circuit whose gates have ranks has one valuation for each list of latches and of inputs.
use Rattle.std.proofs.Common.{◌≡◌, ℕ, zero, suc, ◌+◌, ◌<◌, ◌≤◌, ◌==◌, ◌⊎◌, Bool, false, List, [], ◌∷◌, ◌++◌, map, length, get_or, take, drop, Option, Some, None, unwrap_or, refl, sym, ap, ◌∙◌, inl, inr, arith, length-append}
use Rattle.std.specs.List.{All, Contains, find}
use Rattle.std.proofs.lemmas.Bool.{eqb-true, eqb-false, cases_lt}
use Rattle.std.proofs.lemmas.List.{map-append, length-map, get_or-map, ext_get_or, get_or_push, get_or_append_left, length_push, get_or_past, take_at, drop_at}
use Rattle.std.proofs.lemmas.List.Elements.{Contains-append_cases, Contains-append_left, Contains-append_right, All-contains}
use Rattle.aig_semantics.specs.declared.parts.Gate.{Gate}
use Rattle.aig_semantics.specs.Literals.{variable_of, variable_in}
use Rattle.aig_semantics.specs.Circuits.{Circuit, defined}
use Rattle.aig_semantics.specs.Valuations.{IsValuation, MeetsEquations, given_value, conjunction, value_through, values_below, valuation}
use Rattle.aig_semantics.proofs.Lists.{AllDiffer, AllDiffer-left, AllDiffer-right, AllDiffer-across, value_beside-some, value_beside-none, value_beside-there, value_beside-at, find-some, find-none, find-at}

-- each gate's rank is above those of the variables that it reads, and none is above the number of gates
pub record IsRanking (gates : List Gate) (rank : ℕ → ℕ) : Type 0 where
  pub above : All (λ gate. (rank (variable_of gate.rhs0) < rank gate.var) × (rank (variable_of gate.rhs1) < rank gate.var)) gates
  pub bound : (v : ℕ) → rank v ≤ length gates

-- ---- the values below n

pub length-values_below : (n : ℕ) (value : ℕ → Bool) → length (values_below n value) ≡ n
unfolding values_below
length-values_below zero value = refl
length-values_below (suc n) value = length_push (values_below n value) (value n) ∙ omega (arith, length-values_below n value)

pub get_or-values_below : (n : ℕ) (value : ℕ → Bool) (v : ℕ) (d : Bool) → v < n → get_or (values_below n value) v d ≡ value v
unfolding values_below
get_or-values_below zero value v d below = absurd (omega arith)
get_or-values_below (suc n) value v d below =
    elim (cases_lt v n) [
      | inl lt ↦
          get_or_append_left (values_below n value) (value n ∷ []) d v (omega (arith, length-values_below n value))
          ∙ get_or-values_below n value v d lt
      | inr ge ↦
          let e : v ≡ n = omega arith in
          get_or_push (values_below n value) (value n) d v (omega (arith, length-values_below n value)) ∙ ap value (sym e)
    ]

-- ---- one step of `value_through`

pub value_through-given : (depth : ℕ) (gates : List Gate) (given : ℕ → Option Bool) (v : ℕ) (b : Bool) → given v ≡ Some b → value_through depth gates given v ≡ b
unfolding value_through
value_through-given zero gates given v b e = rw (value_through, e)
value_through-given (suc depth) gates given v b e = rw (value_through, e)

pub value_through-gate : (depth : ℕ) (gates : List Gate) (given : ℕ → Option Bool) (v : ℕ) (gate : Gate) → given v ≡ None → find (λ gate. gate.var == v) gates ≡ Some gate → value_through (suc depth) gates given v ≡ conjunction (value_through depth gates given) gate
unfolding value_through
value_through-gate depth gates given v gate e f = rw (value_through, e, f)

pub value_through-nowhere : (depth : ℕ) (gates : List Gate) (given : ℕ → Option Bool) (v : ℕ) → given v ≡ None → find (λ gate. gate.var == v) gates ≡ None → value_through depth gates given v ≡ false
unfolding value_through
value_through-nowhere zero gates given v e f = rw (value_through, e)
value_through-nowhere (suc depth) gates given v e f = rw (value_through, e, f)

pub conjunction-same : (f g : ℕ → Bool) (gate : Gate) → f (variable_of gate.rhs0) ≡ g (variable_of gate.rhs0) → f (variable_of gate.rhs1) ≡ g (variable_of gate.rhs1) → conjunction f gate ≡ conjunction g gate
conjunction-same f g gate a b = rw (a, b)

pub cases_option : {X : Type 0} (o : Option X) → ((x : X) × (o ≡ Some x)) ⊎ (o ≡ None)
cases_option None = inr refl
cases_option (Some x) = inl (x, refl)

map-map : {X Y Z : Type 0} (f : Y → Z) (g : X → Y) (xs : List X) → map f (map g xs) ≡ map (λ x. f (g x)) xs
map-map f g [] = refl
map-map f g (x ∷ xs) = ap (λ ys. f (g x) ∷ ys) (map-map f g xs)

map-same : {X Y : Type 0} (f g : X → Y) → ((x : X) → f x ≡ g x) → (xs : List X) → map f xs ≡ map g xs
map-same f g same [] = refl
map-same f g same (x ∷ xs) = rw (same x, map-same f g same xs)

-- ---- which variables have a given value, and which a gate

abbrev pub given_variables : Circuit → List ℕ
given_variables c = c.inputs ++ map (λ latch. latch.var) c.latches

abbrev pub gate_variables : Circuit → List ℕ
gate_variables c = map (λ gate. gate.var) c.gates

-- the gate that defines a variable
abbrev pub gate_of : Circuit → ℕ → Option Gate
gate_of c v = find (λ gate. gate.var == v) c.gates

gate_of-none : (c : Circuit) (v : ℕ) → gate_of c v ≡ None → Contains (gate_variables c) v → ⊥
gate_of-none c v e (k, below, at) =
    let inside : k < length c.gates = omega (arith, length-map c.gates (λ gate. gate.var)) in
    let d : Gate = record { var = 0; rhs0 = 0; rhs1 = 0 } in
    eqb-false _ _ (find-none (λ gate. gate.var == v) c.gates e k d inside)
    (sym (get_or-map (λ gate. gate.var) c.gates k d v inside) ∙ at)

pub gate_of-absent : (c : Circuit) (v : ℕ) → (Contains (gate_variables c) v → ⊥) → gate_of c v ≡ None
gate_of-absent c v none =
    elim (cases_option (gate_of c v)) [
      | inl (gate, f) ↦
          let There : Gate → Type 0 = λ g. Contains (gate_variables c) g.var in
          let found =
          find-some There (λ g. g.var == v) c.gates gate
          (λ k d below. (k, (omega (arith, length-map c.gates (λ g. g.var))), get_or-map (λ g. g.var) c.gates k d (get_or c.gates k d).var below))
          f
          in
          absurd (none (rw (eqb-true gate.var v found.1) at found.0))
      | inr f ↦ f
    ]

-- ---- what meets the equations is the valuation

module _ (c : Circuit) (latches inputs : List Bool) (value : ℕ → Bool) (rank : ℕ → ℕ) (h : MeetsEquations c latches inputs value) (outside : (v : ℕ) → (Contains (defined c) v → ⊥) → value v ≡ false) (ranks : IsRanking c.gates rank) where
  given : map value (given_variables c) ≡ inputs ++ latches
  given =
      map-append value c.inputs (map (λ latch. latch.var) c.latches)
      ∙ (ap (λ xs. xs ++ map value (map (λ latch. latch.var) c.latches)) h.given_inputs
      ∙ ap (λ xs. inputs ++ xs) (map-map value (λ latch. latch.var) c.latches ∙ h.given_latches))

  given-some : (v : ℕ) (b : Bool) → given_value c latches inputs v ≡ Some b → value v ≡ b
  unfolding given_value
  given-some v b e = value_beside-some value (given_variables c) v b (rw given e)

  given-none : (v : ℕ) → given_value c latches inputs v ≡ None → Contains (given_variables c) v → ⊥
  unfolding given_value
  given-none v e =
      value_beside-there (given_variables c) (inputs ++ latches) v
      (sym (length-map (given_variables c) value) ∙ ap length given)
      e

  nowhere : (v : ℕ) → given_value c latches inputs v ≡ None → gate_of c v ≡ None → value v ≡ false
  nowhere v e f =
      outside v
      (λ there.
      elim (Contains-append_cases (given_variables c) (gate_variables c) v there) [
        | inl a ↦ given-none v e a
        | inr b ↦ gate_of-none c v f b
      ])

  -- what is known of the gate that defines a variable
  gate-of : (v : ℕ) (gate : Gate) → gate_of c v ≡ Some gate → (rank (variable_of gate.rhs0) < rank v) × (rank (variable_of gate.rhs1) < rank v) × (value v ≡ conjunction value gate)
  gate-of v gate f =
      let P : Gate → Type 0 = λ g. (rank (variable_of g.rhs0) < rank g.var) × (rank (variable_of g.rhs1) < rank g.var) × (value g.var ≡ conjunction value g) in
      let found = find-some P (λ g. g.var == v) c.gates gate (λ k d below. ((ranks.above k d below).0, (ranks.above k d below).1, h.conjunctions k d below)) f in
      rw (eqb-true gate.var v found.1) at found.0

  pub value-is_through : (depth v : ℕ) → rank v ≤ depth → value v ≡ value_through depth c.gates (given_value c latches inputs) v
  value-is_through zero v low =
      elim (cases_option (given_value c latches inputs v)) [
        | inl (b, e) ↦ given-some v b e ∙ sym (value_through-given zero c.gates (given_value c latches inputs) v b e)
        | inr e ↦ elim (cases_option (gate_of c v)) [
          | inl (gate, f) ↦ let g = gate-of v gate f in absurd (omega arith)
          | inr f ↦ nowhere v e f ∙ sym (value_through-nowhere zero c.gates (given_value c latches inputs) v e f)
        ]
      ]
  value-is_through (suc depth) v low =
      elim (cases_option (given_value c latches inputs v)) [
        | inl (b, e) ↦ given-some v b e ∙ sym (value_through-given (suc depth) c.gates (given_value c latches inputs) v b e)
        | inr e ↦ elim (cases_option (gate_of c v)) [
          | inl (gate, f) ↦
              let g = gate-of v gate f in
              g.2
              ∙ (conjunction-same value (value_through depth c.gates (given_value c latches inputs)) gate
              (value-is_through depth (variable_of gate.rhs0) (omega arith))
              (value-is_through depth (variable_of gate.rhs1) (omega arith))
              ∙ sym (value_through-gate depth c.gates (given_value c latches inputs) v gate e f))
          | inr f ↦ nowhere v e f ∙ sym (value_through-nowhere (suc depth) c.gates (given_value c latches inputs) v e f)
        ]
      ]

pub length-valuation : (c : Circuit) (latches inputs : List Bool) → length (valuation c latches inputs) ≡ c.max + 1
unfolding valuation
length-valuation c latches inputs = length-values_below (c.max + 1) (value_through (length c.gates) c.gates (given_value c latches inputs))

-- what is a valuation is the computed one
pub valuation-only : (c : Circuit) (latches inputs values : List Bool) (rank : ℕ → ℕ) → IsRanking c.gates rank → IsValuation c latches inputs values → values ≡ valuation c latches inputs
unfolding valuation
valuation-only c latches inputs values rank ranks h =
    let through : ℕ → Bool = value_through (length c.gates) c.gates (given_value c latches inputs) in
    ext_get_or false values (values_below (c.max + 1) through) (h.size ∙ sym (length-values_below (c.max + 1) through))
    (λ v below.
    let inside : v < c.max + 1 = omega (arith, h.size) in
    value-is_through c latches inputs (variable_in values) rank h.equations h.nowhere ranks (length c.gates) v (ranks.bound v)
    ∙ sym (get_or-values_below (c.max + 1) through v false inside))

-- ---- the valuation meets the equations

-- a gate's variable has a higher rank than what the gate reads
pub rank-of : (c : Circuit) (rank : ℕ → ℕ) → IsRanking c.gates rank → (v : ℕ) (gate : Gate) → gate_of c v ≡ Some gate
    → (rank (variable_of gate.rhs0) < rank v) × (rank (variable_of gate.rhs1) < rank v)
rank-of c rank ranks v gate f =
    let P : Gate → Type 0 = λ g. (rank (variable_of g.rhs0) < rank g.var) × (rank (variable_of g.rhs1) < rank g.var) in
    let found = find-some P (λ g. g.var == v) c.gates gate ranks.above f in
    rw (eqb-true gate.var v found.1) at found.0

module _ (c : Circuit) (latches inputs : List Bool) (rank : ℕ → ℕ) (ranks : IsRanking c.gates rank) (in_range : All (λ v. (1 ≤ v) × (v ≤ c.max)) (defined c)) (once : AllDiffer (defined c)) (latches_fit : length latches ≡ length c.latches) (inputs_fit : length inputs ≡ length c.inputs) where
  abbrev given_of : ℕ → Option Bool
  given_of v = given_value c latches inputs v

  abbrev through : ℕ → ℕ → Bool
  through depth v = value_through depth c.gates given_of v

  length-given : length (given_variables c) ≡ length (inputs ++ latches)
  length-given = omega (arith, length-append c.inputs (map (λ latch. latch.var) c.latches), length-map c.latches (λ latch. latch.var), length-append inputs latches)

  -- a step more changes nothing at a variable whose rank was reached
  through-stays : (depth v : ℕ) → rank v ≤ depth → through depth v ≡ through (suc depth) v
  through-stays zero v low =
      elim (cases_option (given_of v)) [
        | inl (b, e) ↦ value_through-given zero c.gates given_of v b e ∙ sym (value_through-given 1 c.gates given_of v b e)
        | inr e ↦ elim (cases_option (gate_of c v)) [
          | inl (gate, f) ↦ let g = rank-of c rank ranks v gate f in absurd (omega arith)
          | inr f ↦ value_through-nowhere zero c.gates given_of v e f ∙ sym (value_through-nowhere 1 c.gates given_of v e f)
        ]
      ]
  through-stays (suc depth) v low =
      elim (cases_option (given_of v)) [
        | inl (b, e) ↦ value_through-given (suc depth) c.gates given_of v b e ∙ sym (value_through-given (suc (suc depth)) c.gates given_of v b e)
        | inr e ↦ elim (cases_option (gate_of c v)) [
          | inl (gate, f) ↦
              let g = rank-of c rank ranks v gate f in
              value_through-gate depth c.gates given_of v gate e f
              ∙ (conjunction-same (through depth) (through (suc depth)) gate
              (through-stays depth (variable_of gate.rhs0) (omega arith))
              (through-stays depth (variable_of gate.rhs1) (omega arith))
              ∙ sym (value_through-gate (suc depth) c.gates given_of v gate e f))
          | inr f ↦ value_through-nowhere (suc depth) c.gates given_of v e f ∙ sym (value_through-nowhere (suc (suc depth)) c.gates given_of v e f)
        ]
      ]

  abbrev value : ℕ → Bool
  value v = through (length c.gates) v

  -- the k-th input or latch
  value-given : (k : ℕ) → k < length (given_variables c) → value (get_or (given_variables c) k 0) ≡ get_or (inputs ++ latches) k false
  unfolding given_value
  value-given k below =
      value_through-given (length c.gates) c.gates given_of (get_or (given_variables c) k 0) (get_or (inputs ++ latches) k false)
      (value_beside-at (given_variables c) (inputs ++ latches) k (AllDiffer-left (given_variables c) (gate_variables c) once) length-given below)

  pub values-given : map value (given_variables c) ≡ inputs ++ latches
  values-given =
      ext_get_or false (map value (given_variables c)) (inputs ++ latches) (length-map (given_variables c) value ∙ length-given)
      (λ k below.
      let inside : k < length (given_variables c) = omega (arith, length-map (given_variables c) value) in
      get_or-map value (given_variables c) k 0 false inside ∙ value-given k inside)

  -- the k-th gate
  value-gate : (k : ℕ) (d : Gate) → k < length c.gates → value (get_or c.gates k d).var ≡ conjunction value (get_or c.gates k d)
  unfolding given_value
  value-gate k d below =
      let gate : Gate = get_or c.gates k d in
      let there : Contains (gate_variables c) gate.var = (k, (omega (arith, length-map c.gates (λ g. g.var))), get_or-map (λ g. g.var) c.gates k d gate.var below) in
      let no_given : given_of gate.var ≡ None =
      value_beside-none (given_variables c) (inputs ++ latches) gate.var
      (λ also. AllDiffer-across (given_variables c) (gate_variables c) once gate.var also there)
      in
      through-stays (length c.gates) gate.var (ranks.bound gate.var)
      ∙ value_through-gate (length c.gates) c.gates given_of gate.var gate no_given
      (find-at (λ g. g.var) c.gates k d (AllDiffer-right (given_variables c) (gate_variables c) once) below)

  value-nowhere : (v : ℕ) → (Contains (defined c) v → ⊥) → value v ≡ false
  unfolding given_value
  value-nowhere v none =
      value_through-nowhere (length c.gates) c.gates given_of v
      (value_beside-none (given_variables c) (inputs ++ latches) v (λ a. none (Contains-append_left (given_variables c) (gate_variables c) v a)))
      (gate_of-absent c v (λ b. none (Contains-append_right (given_variables c) (gate_variables c) v b)))

  -- the list of the values has them also past its end
  values-same : (v : ℕ) → variable_in (valuation c latches inputs) v ≡ value v
  unfolding valuation
  values-same v =
      elim (cases_lt v (c.max + 1)) [
        | inl lt ↦ get_or-values_below (c.max + 1) value v false lt
        | inr ge ↦
            get_or_past (values_below (c.max + 1) value) v false (omega (arith, length-values_below (c.max + 1) value))
            ∙ sym (value-nowhere v (λ there. let range = All-contains (λ u. (1 ≤ u) × (u ≤ c.max)) (defined c) v in_range there in omega arith))
      ]

  -- a variable that is no gate's has the value that is given, or is false
  pub value-no_gate : (v : ℕ) → (Contains (gate_variables c) v → ⊥) → variable_in (valuation c latches inputs) v ≡ unwrap_or (given_of v) false
  value-no_gate v none =
      values-same v
      ∙ elim (cases_option (given_of v)) [
        | inl (b, e) ↦ value_through-given (length c.gates) c.gates given_of v b e ∙ sym (ap (λ o. unwrap_or o false) e)
        | inr e ↦ value_through-nowhere (length c.gates) c.gates given_of v e (gate_of-absent c v none) ∙ sym (ap (λ o. unwrap_or o false) e)
      ]

  parts-given : map value c.inputs ++ map value (map (λ latch. latch.var) c.latches) ≡ inputs ++ latches
  parts-given = sym (map-append value c.inputs (map (λ latch. latch.var) c.latches)) ∙ values-given

  inputs-given : map value c.inputs ≡ inputs
  inputs-given =
      sym (take_at (map value c.inputs) (map value (map (λ latch. latch.var) c.latches)) (length inputs) (length-map c.inputs value ∙ sym inputs_fit))
      ∙ (ap (λ xs. take (length inputs) xs) parts-given ∙ take_at inputs latches (length inputs) refl)

  latches-given : map value (map (λ latch. latch.var) c.latches) ≡ latches
  latches-given =
      sym (drop_at (map value c.inputs) (map value (map (λ latch. latch.var) c.latches)) (length inputs) (length-map c.inputs value ∙ sym inputs_fit))
      ∙ (ap (λ xs. drop (length inputs) xs) parts-given ∙ drop_at inputs latches (length inputs) refl)

  pub valuation-meets : IsValuation c latches inputs (valuation c latches inputs)
  valuation-meets = record {
    size = length-valuation c latches inputs;
    equations = record {
      constant = values-same 0 ∙ value-nowhere 0 (λ there. let range = All-contains (λ u. (1 ≤ u) × (u ≤ c.max)) (defined c) 0 in_range there in omega arith);
      given_latches =
          map-same (λ latch. variable_in (valuation c latches inputs) latch.var) (λ latch. value latch.var) (λ latch. values-same latch.var) c.latches
          ∙ (sym (map-map value (λ latch. latch.var) c.latches) ∙ latches-given);
      given_inputs = map-same (variable_in (valuation c latches inputs)) value values-same c.inputs ∙ inputs-given;
      conjunctions =
          λ k d below.
          values-same (get_or c.gates k d).var
          ∙ (value-gate k d below
          ∙ sym (conjunction-same (variable_in (valuation c latches inputs)) value (get_or c.gates k d) (values-same _) (values-same _)));
    };
    nowhere = λ v none. values-same v ∙ value-nowhere v none;
  }
