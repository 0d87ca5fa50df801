-- A circuit with inputs, latches and gates more, numbered behind its own variables: it is checked, and it values what the
-- circuit itself has as the circuit does.
use Rattle.std.proofs.Common.{◌≡◌, ◌≢◌, ℕ, ◌+◌, ◌*◌, ◌<◌, ◌≤◌, ◌⊎◌, Bool, false, not, cond, ◌&&◌, get_or, List, [], ◌∷◌, ◌++◌, map, length, take, refl, sym, ap, ◌∙◌, subst, inl, inr, arith, length-append, get_or-take, length-take-le}
use Rattle.std.specs.List.{All, AllPairs, Contains, range_with_len}
use Rattle.std.proofs.lemmas.Bool.{cases_lt}
use Rattle.std.proofs.lemmas.List.{map-append, length-map, get_or_default, get_or_past}
use Rattle.std.proofs.lemmas.List.Elements.{All-nil, All-append, All-weaker, All-contains, Contains-append_cases, Contains-append_left, Contains-append_right, All-contains_itself}
use Rattle.aig_semantics.specs.declared.parts.Latch.{Latch}
use Rattle.aig_semantics.specs.declared.parts.Gate.{Gate}
use Rattle.aig_semantics.specs.declared.traces.Position.{Position}
use Rattle.aig_semantics.specs.Literals.{variable_of, is_negated, literal_by, variable_in}
use Rattle.aig_semantics.specs.Circuits.{Circuit, IsChecked, IsWithinLimits, Reads, ReadsThrough, IsOnCycle, defined, used, fair_literals}
use Rattle.aig_semantics.specs.Valuations.{conjunction, valuation, IsValuation, HasOneValuation}
use Rattle.aig_semantics.specs.Runs.{IsPosition, position_of, valuation_at, literal_at, successor, MeetsConstraints}
use Rattle.aig_semantics.proofs.Lists.{All-left, All-right}
use Rattle.circuit.specs.declared.parts.Parts.{Parts}
use Rattle.circuit.specs.Fitting.{UsesAll}
use Rattle.circuit.specs.Orders.{HasRightSide}
use Rattle.circuit.proofs.Counting.{count, Contains-from_count, count-differ, AllDiffer-from_count, All-unmap}
use Rattle.circuit.proofs.Ranges.{UsesAll-from, All-used, DefinesAll-from}
use Rattle.live_to_safe.proofs.Lists.{map_agrees, split_same, range-apart, range-contains, range-all, count-append}
use Rattle.live_to_safe.proofs.Before.{IsRead, IsBefore, ReadsBefore}

-- ---- the circuit itself

-- its sections
abbrev pub own_parts : Circuit → Parts
own_parts c = record {
  max = c.max;
  inputs = c.inputs;
  latches = c.latches;
  gates = c.gates;
  outputs = [];
  bad = [];
  constraints = c.constraints;
  justice = c.justice;
  fairness = c.fairness;
}

pub own_uses : (P : ℕ → Type 0) (c : Circuit) → All P (used c) → UsesAll P (own_parts c)
own_uses P c all =
    UsesAll-from P (own_parts c) (All-append P (used c ++ []) [] (All-append P (used c) [] all (All-nil P)) (All-nil P))

-- what is so of each literal that is used is so of those of the property and of fairness
pub fair_all : (P : ℕ → Type 0) (c : Circuit) (j : ℕ) → j < length c.justice → All P (used c) → All P (fair_literals c j)
fair_all P c j inside all =
    let h = own_uses P c all in
    All-append P (get_or c.justice j []) c.fairness (h.justice j [] inside) h.fairness

pub same-literal : (f g : ℕ → Bool) (literal : ℕ) → f (variable_of literal) ≡ g (variable_of literal) → literal_by f literal ≡ literal_by g literal
same-literal f g literal e = ap (λ b. cond (is_negated literal) (not b) b) e

-- what a literal of the circuit is
abbrev pub IsOwn : Circuit → ℕ → Type 0
IsOwn c literal = (variable_of literal ≤ c.max) × IsRead c (variable_of literal)

pub own_read : (c : Circuit) → IsChecked c → IsWithinLimits c → All (IsOwn c) (used c)
own_read c checked limits = λ k d below.
    let a = limits.literals k d below in
    (omega (arith, a), checked.used_defined k d below)

pub own_latches_read : (c : Circuit) → IsChecked c → All (λ latch. (latch.var ≤ c.max) × IsRead c latch.var) c.latches
own_latches_read c checked = λ k d below.
    let P : ℕ → Type 0 = λ v. (v ≤ c.max) × IsRead c v in
    let all : All P (defined c) = λ i e at. ((checked.in_range i e at).1, inr (i, at, get_or_default (defined c) i _ e at)) in
    (DefinesAll-from P (own_parts c) all).latches k d below

-- ---- what it gets more

-- inputs, latches and gates, numbered in this order behind its own variables; each gate reads variables below its own
pub record Extension (c : Circuit) : Type 0 where
  pub top : ℕ
  pub n : ℕ
  pub inputs : List ℕ
  pub all_inputs : List ℕ
  pub latches : List Latch
  pub gates : List Gate
  pub inputs-are : all_inputs ≡ c.inputs ++ inputs
  pub top-is : top ≡ c.max + n
  pub vars : inputs ++ map (λ latch. latch.var) latches ++ map (λ gate. gate.var) gates ≡ range_with_len (c.max + 1) n
  pub gates-read : All (ReadsBefore c.max c) gates
  pub latches-read : All (λ latch. IsBefore c.max c (top + 1) latch.next) latches

-- the circuit with these, and without properties
abbrev pub extended : (c : Circuit) → Extension c → Circuit
extended c more = record {
  max = more.top;
  inputs = more.all_inputs;
  latches = c.latches ++ more.latches;
  gates = c.gates ++ more.gates;
  constraints = c.constraints;
  justice = [];
  fairness = [];
}

module _ (c : Circuit) (checked : IsChecked c) (limits : IsWithinLimits c) (more : Extension c) where
  abbrev t : Circuit
  t = extended c more

  abbrev top : ℕ
  top = more.top

  abbrev n : ℕ
  n = more.n

  abbrev latches : List Latch
  latches = more.latches

  abbrev gates : List Gate
  gates = more.gates

  abbrev latch_variables : List ℕ
  latch_variables = map (λ latch. latch.var) c.latches

  abbrev gate_variables : List ℕ
  gate_variables = map (λ gate. gate.var) c.gates

  abbrev all_inputs : List ℕ
  all_inputs = c.inputs ++ more.inputs

  abbrev added_latches : List ℕ
  added_latches = map (λ latch. latch.var) more.latches

  abbrev added_gates : List ℕ
  added_gates = map (λ gate. gate.var) more.gates

  abbrev added : List ℕ
  added = range_with_len (c.max + 1) more.n

  top-is : more.top ≡ c.max + more.n
  top-is = more.top-is

  vars : more.inputs ++ added_latches ++ added_gates ≡ added
  vars = more.vars

  all_latches_are : map (λ latch. latch.var) t.latches ≡ latch_variables ++ added_latches
  all_latches_are = map-append (λ latch. latch.var) c.latches more.latches

  all_gates_are : map (λ gate. gate.var) t.gates ≡ gate_variables ++ added_gates
  all_gates_are = map-append (λ gate. gate.var) c.gates more.gates

  defined-is : defined t ≡ all_inputs ++ (latch_variables ++ added_latches) ++ (gate_variables ++ added_gates)
  defined-is =
      ap (λ xs. xs ++ map (λ latch. latch.var) t.latches ++ map (λ gate. gate.var) t.gates) more.inputs-are
      ∙ ap (λ xs. all_inputs ++ xs ++ map (λ gate. gate.var) t.gates) all_latches_are
      ∙ ap (λ xs. all_inputs ++ (latch_variables ++ added_latches) ++ xs) all_gates_are

  own_used : UsesAll (IsOwn c) (own_parts c)
  own_used = own_uses (IsOwn c) c (own_read c checked limits)

  -- ---- what is defined

  still_defined : (v : ℕ) → Contains (defined c) v → Contains (defined t) v
  still_defined v there = subst (λ xs. Contains xs v) (sym defined-is)
      (elim (Contains-append_cases (c.inputs ++ latch_variables) gate_variables v there) [
        | inl given ↦ Contains-append_left (all_inputs ++ (latch_variables ++ added_latches)) (gate_variables ++ added_gates) v
            (elim (Contains-append_cases c.inputs latch_variables v given) [
              | inl a ↦ Contains-append_left all_inputs (latch_variables ++ added_latches) v (Contains-append_left c.inputs more.inputs v a)
              | inr b ↦ Contains-append_right all_inputs (latch_variables ++ added_latches) v (Contains-append_left latch_variables added_latches v b)
            ])
        | inr gate ↦ Contains-append_right (all_inputs ++ (latch_variables ++ added_latches)) (gate_variables ++ added_gates) v (Contains-append_left gate_variables added_gates v gate)
      ])

  new_defined : (v : ℕ) → c.max < v → v ≤ top → Contains (defined t) v
  new_defined v new low =
      let there : Contains (more.inputs ++ added_latches ++ added_gates) v =
      subst (λ xs. Contains xs v) (sym vars) (range-contains (c.max + 1) n v (omega (arith, new)) (omega (arith, low, top-is)))
      in
      subst (λ xs. Contains xs v) (sym defined-is)
      (elim (Contains-append_cases (more.inputs ++ added_latches) added_gates v there) [
        | inl given ↦ Contains-append_left (all_inputs ++ (latch_variables ++ added_latches)) (gate_variables ++ added_gates) v
            (elim (Contains-append_cases more.inputs added_latches v given) [
              | inl input ↦ Contains-append_left all_inputs (latch_variables ++ added_latches) v (Contains-append_right c.inputs more.inputs v input)
              | inr latch ↦ Contains-append_right all_inputs (latch_variables ++ added_latches) v (Contains-append_right latch_variables added_latches v latch)
            ])
        | inr gate ↦ Contains-append_right (all_inputs ++ (latch_variables ++ added_latches)) (gate_variables ++ added_gates) v (Contains-append_right gate_variables added_gates v gate)
      ])

  -- what is so of all new variables is so of each that is added
  each_new : (P : ℕ → Type 0) → ((v : ℕ) → c.max < v → v ≤ top → P v) → All P (more.inputs ++ added_latches ++ added_gates)
  each_new P new =
      subst (All P) (sym vars)
      (range-all P (c.max + 1) n (λ v low high. new v (omega (arith, low)) (omega (arith, high, top-is))))

  each_defined : (P : ℕ → Type 0) → All P (defined c) → ((v : ℕ) → c.max < v → v ≤ top → P v) → All P (defined t)
  each_defined P old new =
      let given = All-left P (c.inputs ++ latch_variables) gate_variables old in
      let both = each_new P new in
      let front = All-left P (more.inputs ++ added_latches) added_gates both in
      subst (All P) (sym defined-is)
      (All-append P (all_inputs ++ (latch_variables ++ added_latches)) (gate_variables ++ added_gates)
      (All-append P all_inputs (latch_variables ++ added_latches)
      (All-append P c.inputs more.inputs (All-left P c.inputs latch_variables given) (All-left P more.inputs added_latches front))
      (All-append P latch_variables added_latches (All-right P c.inputs latch_variables given) (All-right P more.inputs added_latches front)))
      (All-append P gate_variables added_gates (All-right P (c.inputs ++ latch_variables) gate_variables old)
      (All-right P (more.inputs ++ added_latches) added_gates both)))

  -- a variable that is defined is new, or one of the circuit
  new_or_old : (v : ℕ) → Contains (defined t) v → (c.max < v) ⊎ Contains (defined c) v
  new_or_old v there =
      All-contains (λ u. (c.max < u) ⊎ Contains (defined c) u) (defined t) v
      (each_defined (λ u. (c.max < u) ⊎ Contains (defined c) u)
      (All-weaker (Contains (defined c)) (λ u. (c.max < u) ⊎ Contains (defined c) u) (λ u h. inr h) (defined c) (All-contains_itself (defined c)))
      (λ u new low. inl new))
      there

  in-range : All (λ v. (1 ≤ v) × (v ≤ t.max)) (defined t)
  in-range =
      each_defined (λ v. (1 ≤ v) × (v ≤ top))
      (All-weaker (λ v. (1 ≤ v) × (v ≤ c.max)) (λ v. (1 ≤ v) × (v ≤ top)) (λ v h. (h.0, (let a = h.1 in omega (arith, a, top-is)))) (defined c) checked.in_range)
      (λ v new low. (omega (arith, new), low))

  -- ---- each variable once

  old_none : (u : ℕ) → c.max < u → count u (defined c) ≡ 0
  old_none u new = elim (cases_lt 0 (count u (defined c))) [
    | inl some ↦
        let there = Contains-from_count u (defined c) (omega (arith, some)) in
        let h = All-contains (λ v. (1 ≤ v) × (v ≤ c.max)) (defined c) u checked.in_range there in
        absurd (let a = h.1 in omega (arith, a, new))
    | inr none ↦ omega (arith, none)
  ]

  new_none : (u : ℕ) → u ≤ c.max → count u added ≡ 0
  new_none u old = elim (cases_lt 0 (count u added)) [
    | inl some ↦
        let there = Contains-from_count u added (omega (arith, some)) in
        let h = All-contains (λ v. c.max < v) added u (range-all (λ v. c.max < v) (c.max + 1) n (λ v low high. omega (arith, low))) there in
        absurd (omega (arith, h, old))
    | inr none ↦ omega (arith, none)
  ]

  count-is : (u : ℕ) → count u (defined t) ≡ count u (defined c) + count u added
  count-is u =
      let whole = ap (count u) defined-is in
      let a = count-append u (all_inputs ++ (latch_variables ++ added_latches)) (gate_variables ++ added_gates) in
      let b = count-append u all_inputs (latch_variables ++ added_latches) in
      let d = count-append u c.inputs more.inputs in
      let e = count-append u latch_variables added_latches in
      let f = count-append u gate_variables added_gates in
      let g = count-append u (c.inputs ++ latch_variables) gate_variables in
      let h = count-append u c.inputs latch_variables in
      let i = count-append u (more.inputs ++ added_latches) added_gates in
      let k = count-append u more.inputs added_latches in
      let l = ap (count u) vars in
      omega (arith, whole, a, b, d, e, f, g, h, i, k, l)

  once : AllPairs (λ v w. v ≢ w) (defined t)
  once =
      AllDiffer-from_count (defined t)
      (λ u. elim (cases_lt c.max u) [
        | inl new ↦ omega (arith, count-is u, old_none u new, count-differ u added (range-apart (c.max + 1) n))
        | inr old ↦ omega (arith, count-is u, new_none u old, count-differ u (defined c) checked.once)
      ])

  -- ---- literals that are used

  abbrev pub Known : ℕ → Type 0
  Known literal = (literal ≤ 2 * top + 1) × ((variable_of literal ≡ 0) ⊎ Contains (defined t) (variable_of literal))

  read-known : (v : ℕ) → IsRead c v → (v ≡ 0) ⊎ Contains (defined t) v
  read-known v (inl e) = inl e
  read-known v (inr there) = inr (still_defined v there)

  pub before-known : (literal : ℕ) → IsBefore c.max c (top + 1) literal → Known literal
  before-known literal h =
      let low = h.low in
      let inside : variable_of literal ≤ top = omega (arith, low) in (
        omega (arith, inside),
        elim h.known [
          | inl new ↦ inr (new_defined (variable_of literal) new inside)
          | inr read ↦ read-known (variable_of literal) read
        ],
      )

  old-known : All Known (used c)
  old-known =
      All-weaker (IsOwn c) Known (λ literal h. (let a = h.0 in omega (arith, a, top-is), read-known (variable_of literal) h.1)) (used c) (own_read c checked limits)

  gates-new : All (λ gate. (c.max < gate.var) × (gate.var ≤ top)) gates
  gates-new =
      All-unmap (λ v. (c.max < v) × (v ≤ top)) (λ gate. gate.var) gates
      (All-right (λ v. (c.max < v) × (v ≤ top)) (more.inputs ++ added_latches) added_gates (each_new (λ v. (c.max < v) × (v ≤ top)) (λ v new low. (new, low))))

  side-known : (v literal : ℕ) → v ≤ top → IsBefore c.max c v literal → Known literal
  side-known v literal low h = before-known literal (record { low = (let a = h.low in omega (arith, a, low)); known = h.known })

  uses-known : UsesAll Known (own_parts t)
  uses-known =
      let old = own_uses Known c old-known in
      record {
        latches =
            All-append (λ latch. Known latch.next) c.latches latches old.latches
            (All-weaker (λ latch. IsBefore c.max c (top + 1) latch.next) (λ latch. Known latch.next) (λ latch h. before-known latch.next h) latches more.latches-read);
        gates =
            All-append (λ gate. Known gate.rhs0 × Known gate.rhs1) c.gates gates old.gates
            (λ k d below.
            let gate : Gate = get_or gates k d in
            let low = (gates-new k d below).1 in
            let h = more.gates-read k d below in
            (side-known gate.var gate.rhs0 low h.first, side-known gate.var gate.rhs1 low h.second));
        constraints = old.constraints;
        justice = All-nil (λ property. All Known property);
        fairness = All-nil _;
        outputs = All-nil _;
        bad = All-nil _;
      }

  pub all-known : All Known (used t)
  all-known = All-used Known (own_parts t) uses-known

  -- ---- no cycle

  -- what a gate reads: as in the circuit, or a variable below its own new one
  abbrev Falls : Gate → Type 0
  Falls gate = (u : ℕ) → HasRightSide gate u → (Reads c gate.var u × (u ≤ c.max)) ⊎ ((c.max < gate.var) × (u < gate.var))

  old_falls : All Falls c.gates
  old_falls = λ k d below u side.
      let sides = own_used.gates k d below in
      let gate : Gate = get_or c.gates k d in
      let low : u ≤ c.max = elim side [
        | inl e ↦ let a = sides.0.0 in omega (arith, a, e)
        | inr e ↦ let a = sides.1.0 in omega (arith, a, e)
      ] in
      inl ((k, gate, below, get_or_default c.gates k gate d below, (refl, side)), low)

  new_falls : All Falls gates
  new_falls = λ k d below u side.
      let h = more.gates-read k d below in
      inr (
        (gates-new k d below).0,
        elim side [
          | inl e ↦ let a = h.first.low in omega (arith, a, e)
          | inr e ↦ let a = h.second.low in omega (arith, a, e)
        ],
      )

  falls : (v w : ℕ) → Reads t v w → (Reads c v w × (w ≤ c.max)) ⊎ ((c.max < v) × (w < v))
  falls v w (k, gate, inside, at, h) =
      let all = All-append Falls c.gates gates old_falls new_falls in
      let here : (Reads c gate.var w × (w ≤ c.max)) ⊎ ((c.max < gate.var) × (w < gate.var)) = subst Falls at (all k gate inside) w h.1 in
      subst (λ u. (Reads c u w × (w ≤ c.max)) ⊎ ((c.max < u) × (w < u))) h.0 here

  -- from a variable of the circuit on nothing new is read
  through_old : (v : ℕ) (between : List ℕ) (w : ℕ) → v ≤ c.max → ReadsThrough t v between w → ReadsThrough c v between w
  through_old v [] w old reads = elim (falls v w reads) [
    | inl same ↦ same.0
    | inr new ↦ absurd (let a = new.0 in omega (arith, a, old))
  ]
  through_old v (u ∷ between) w old reads = elim (falls v u reads.0) [
    | inl same ↦ (same.0, through_old u between w same.1 reads.1)
    | inr new ↦ absurd (let a = new.0 in omega (arith, a, old))
  ]

  -- and what is read is not above what reads it, or is the circuit's
  through_low : (bound v : ℕ) (between : List ℕ) (w : ℕ) → c.max < bound → v < bound → ReadsThrough t v between w → w < bound
  through_low bound v [] w new low reads = elim (falls v w reads) [
    | inl same ↦ let a = same.1 in omega (arith, a, new)
    | inr less ↦ let a = less.1 in omega (arith, a, low)
  ]
  through_low bound v (u ∷ between) w new low reads = elim (falls v u reads.0) [
    | inl same ↦ through_low bound u between w new (let a = same.1 in omega (arith, a, new)) reads.1
    | inr less ↦ through_low bound u between w new (let a = less.1 in omega (arith, a, low)) reads.1
  ]

  from_new : (v : ℕ) (between : List ℕ) → c.max < v → ReadsThrough t v between v → ⊥
  from_new v [] new reads = elim (falls v v reads) [
    | inl same ↦ let a = same.1 in omega (arith, a, new)
    | inr less ↦ let a = less.1 in omega (arith, a)
  ]
  from_new v (u ∷ between) new reads =
      let low : u < v = elim (falls v u reads.0) [
        | inl same ↦ let a = same.1 in omega (arith, a, new)
        | inr less ↦ less.1
      ] in
      let back : v < v = through_low v u between v new low reads.1 in
      omega (arith, back)

  acyclic : (v : ℕ) → IsOnCycle t v → ⊥
  acyclic v (between, reads) = elim (cases_lt c.max v) [
    | inl new ↦ from_new v between new reads
    | inr old ↦ checked.acyclic v (between, through_old v between v old reads)
  ]

  pub is-checked : IsChecked t
  is-checked = record {
    in_range = in-range;
    once = once;
    used_defined = All-weaker Known (λ literal. (variable_of literal ≡ 0) ⊎ Contains (defined t) (variable_of literal)) (λ literal h. h.1) (used t) all-known;
    acyclic = acyclic;
  }

  -- ---- values

  module _ (one : HasOneValuation c) (other : HasOneValuation t) (p : Position) (watch given values : List Bool) (is : IsPosition c p) (fit : length watch ≡ length more.latches) (given-fit : length given ≡ length more.inputs) (values-are : values ≡ p.inputs ++ given) where
    abbrev whole : Position
    whole = position_of (p.latches ++ watch) values

    abbrev V : List Bool
    V = valuation_at t whole

    abbrev value : ℕ → Bool
    value v = variable_in V v

    inputs-fit : length values ≡ length more.all_inputs
    inputs-fit =
        let a = length-append p.inputs given in
        let b = length-append c.inputs more.inputs in
        let e = ap length values-are in
        let f = ap length more.inputs-are in
        let g = is.inputs in
        omega (arith, a, b, e, f, g, given-fit)

    pub is-position : IsPosition t whole
    is-position = record {
      latches = (let a = length-append p.latches watch in let d = length-append c.latches latches in let e = is.latches in omega (arith, a, d, e, fit));
      inputs = inputs-fit;
    }

    valued : IsValuation t whole.latches whole.inputs V
    valued = (other whole.latches whole.inputs V is-position.latches is-position.inputs).1 refl

    abbrev Meets : Gate → Type 0
    Meets gate = value gate.var ≡ conjunction value gate

    split-latches : (map (λ latch. value latch.var) c.latches ≡ p.latches) × (map (λ latch. value latch.var) latches ≡ watch)
    split-latches =
        split_same (map (λ latch. value latch.var) c.latches) p.latches (map (λ latch. value latch.var) latches) watch
        (length-map c.latches (λ latch. value latch.var) ∙ sym is.latches)
        (sym (map-append (λ latch. value latch.var) c.latches latches) ∙ valued.equations.given_latches)

    split-inputs : (map value c.inputs ≡ p.inputs) × (map value more.inputs ≡ given)
    split-inputs =
        split_same (map value c.inputs) p.inputs (map value more.inputs) given
        (length-map c.inputs value ∙ sym is.inputs)
        (sym (map-append value c.inputs more.inputs) ∙ ap (map value) (sym more.inputs-are) ∙ valued.equations.given_inputs ∙ values-are)

    -- what latches and new inputs are given
    pub own-given : map (λ latch. value latch.var) c.latches ≡ p.latches
    own-given = split-latches.0

    pub watch-given : map (λ latch. value latch.var) latches ≡ watch
    watch-given = split-latches.1

    pub inputs-given : map value more.inputs ≡ given
    inputs-given = split-inputs.1

    pub zero-is : value 0 ≡ false
    zero-is = valued.equations.constant

    pub new-meet : All Meets gates
    new-meet = All-right Meets c.gates gates valued.equations.conjunctions

    abbrev front : List Bool
    front = take (c.max + 1) V

    front-length : length front ≡ c.max + 1
    front-length = length-take-le (c.max + 1) V (omega (arith, valued.size, top-is))

    front-at : (v : ℕ) → v ≤ c.max → variable_in front v ≡ value v
    front-at v low = get_or-take (c.max + 1) V v false (omega (arith, low))

    abbrev InRange : ℕ → Type 0
    InRange v = (1 ≤ v) × (v ≤ c.max)

    own_values : IsValuation c p.latches p.inputs front
    own_values = record {
      size = front-length;
      equations = record {
        constant = front-at 0 (omega arith) ∙ valued.equations.constant;
        given_latches =
            map_agrees (λ latch. variable_in front latch.var) (λ latch. value latch.var) c.latches
            (λ k d below. front-at (get_or c.latches k d).var (latch_low k d below)) ∙ split-latches.0;
        given_inputs =
            map_agrees (variable_in front) value c.inputs
            (λ k d below. front-at (get_or c.inputs k d)
            (All-left InRange c.inputs latch_variables (All-left InRange (c.inputs ++ latch_variables) gate_variables checked.in_range) k d below).1)
            ∙ split-inputs.0;
        conjunctions = λ k d below.
            let sides = own_used.gates k d below in
            let gate : Gate = get_or c.gates k d in
            let here : value gate.var ≡ conjunction value gate = All-left Meets c.gates gates valued.equations.conjunctions k d below in
            front-at gate.var (gate_low k d below) ∙ here
            ∙ ap (λ x. x && literal_by value gate.rhs1) (sym (same-literal (variable_in front) value gate.rhs0 (front-at (variable_of gate.rhs0) sides.0.0)))
            ∙ ap (λ x. literal_by (variable_in front) gate.rhs0 && x) (sym (same-literal (variable_in front) value gate.rhs1 (front-at (variable_of gate.rhs1) sides.1.0)));
      };
      nowhere = λ v none. elim (cases_lt v (c.max + 1)) [
        | inl low ↦
            front-at v (omega (arith, low))
            ∙ valued.nowhere v (λ there. elim (new_or_old v there) [
              | inl new ↦ omega (arith, new, low)
              | inr old ↦ none old
            ])
        | inr past ↦ get_or_past front v false (omega (arith, past, front-length))
      ];
    }
      where
        latch_low : (k : ℕ) (d : Latch) → k < length c.latches → (get_or c.latches k d).var ≤ c.max
        latch_low k d below =
            (All-unmap InRange (λ latch. latch.var) c.latches
            (All-right InRange c.inputs latch_variables (All-left InRange (c.inputs ++ latch_variables) gate_variables checked.in_range)) k d below).1

        gate_low : (k : ℕ) (d : Gate) → k < length c.gates → (get_or c.gates k d).var ≤ c.max
        gate_low k d below =
            (All-unmap InRange (λ gate. gate.var) c.gates (All-right InRange (c.inputs ++ latch_variables) gate_variables checked.in_range) k d below).1

    front-is : front ≡ valuation c p.latches p.inputs
    front-is = (one p.latches p.inputs front is.latches is.inputs).0 own_values

    -- a literal of the circuit is true at both positions or at neither
    pub literal-is : (literal : ℕ) → variable_of literal ≤ c.max → literal_at t whole literal ≡ literal_at c p literal
    literal-is literal low =
        same-literal value (variable_in (valuation_at c p)) literal
        (sym (front-at (variable_of literal) low) ∙ ap (λ xs. variable_in xs (variable_of literal)) front-is)

    pub step-on : successor t whole ≡ successor c p ++ map (λ latch. literal_at t whole latch.next) latches
    step-on =
        let next : Latch → Bool = λ latch. literal_at t whole latch.next in
        map-append next c.latches latches
        ∙ ap (λ xs. xs ++ map next latches)
        (map_agrees next (λ latch. literal_at c p latch.next) c.latches
        (λ k d below. literal-is (get_or c.latches k d).next (own_used.latches k d below).0))

    constraint-is : (k d : ℕ) → k < length c.constraints → literal_at t whole (get_or c.constraints k d) ≡ literal_at c p (get_or c.constraints k d)
    constraint-is k d below = literal-is (get_or c.constraints k d) (own_used.constraints k d below).0

    pub constraints-kept : MeetsConstraints c p → MeetsConstraints t whole
    constraints-kept h = record { position = is-position; constraints = λ k d below. constraint-is k d below ∙ h.constraints k d below }

    pub constraints-back : MeetsConstraints t whole → MeetsConstraints c p
    constraints-back h = record { position = is; constraints = λ k d below. sym (constraint-is k d below) ∙ h.constraints k d below }
