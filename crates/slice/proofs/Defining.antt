-- The slice is a model: a checked circuit within the limits, with symbols of what is there.
use Rattle.std.proofs.Common.{◌≡◌, ◌≢◌, ℕ, ◌+◌, ◌*◌, ◌<◌, ◌≤◌, ◌⊎◌, Bool, not, List, [], ◌∷◌, length, refl, sym, subst, inl, inr, arith}
use Rattle.std.specs.Prelude.{IsTrue, slice_index_or}
use Rattle.std.specs.List.{All, AllPairs, Any, Contains, filter}
use Rattle.std.proofs.lemmas.Bool.{cases_Bool}
use Rattle.std.proofs.lemmas.List.Elements.{All-nil, All-cons, All-weaker, All-filter, filter_passes}
use Rattle.std.proofs.lemmas.List.Filters.{length-filter_both}
use Rattle.std.proofs.lemmas.List.Kept.{AllPairs-filter}
use Rattle.aig_semantics.specs.declared.limits.TheConstants.{MAX_PROPERTY_LITERALS}
use Rattle.aig_semantics.specs.declared.parts.Latch.{Latch}
use Rattle.aig_semantics.specs.declared.parts.Gate.{Gate}
use Rattle.aig_semantics.specs.Literals.{variable_of}
use Rattle.aig_semantics.specs.Circuits.{Circuit, IsChecked, ReadsThrough, IsOnCycle, defined, used}
use Rattle.aig_semantics.proofs.Lists.{All-left, All-right}
use Rattle.circuit.specs.Fitting.{UsesAll}
use Rattle.circuit.proofs.Ranges.{All-used}
use Rattle.circuit.proofs.RoundsAlong.{any_cases, any_tail}
use Rattle.aiger_grammar.specs.Models.{Model, IsModel}
use Rattle.cone.specs.Cones.{IsClosed}
use Rattle.live_to_safe.proofs.Extending.{own_parts, own_uses}
use Rattle.slice.specs.Slicing.{sliced_circuit, sliced_model}
use Rattle.slice.specs.Steps.{sliced_parts}
use Rattle.slice.proofs.Picking.{contains-filter}
use Rattle.slice.proofs.Valued.{defined-is, fair-in, constraints-in}
use Rattle.slice.proofs.Placing.{symbols-name}

filter-short : {X : Type 0} (test : X → Bool) (xs : List X) → length (filter test xs) ≤ length xs
filter-short test xs = omega (arith, length-filter_both test (λ x. not (test x)) (λ x. refl) xs)

any-kept : {X : Type 0} (P : X → Type 0) (test : X → Bool) (xs : List X) → Any P (filter test xs) → Any P xs
any-kept P test [] h = h
any-kept P test (x ∷ xs) h = elim (cases_Bool (test x)) [
  | inl t ↦ elim (any_cases P x (filter test xs) (rw t at h)) [
    | inl here ↦ (0, x, omega arith, refl, here)
    | inr later ↦ any_tail P x xs (any-kept P test xs later)
  ]
  | inr f ↦ any_tail P x xs (any-kept P test xs (rw f at h))
]

module _ (m : Model) (j : ℕ) (set : ℕ → Bool) (closed : IsClosed m.circuit j set) (is : IsModel m) (property : j < length m.circuit.justice) where
  abbrev c : Circuit
  c = m.circuit

  abbrev t : Circuit
  t = sliced_circuit c j set

  abbrev latch_stays : Latch → Bool
  latch_stays latch = set latch.var

  abbrev gate_stays : Gate → Bool
  gate_stays gate = set gate.var

  slice_in_range : All (λ v. (1 ≤ v) × (v ≤ c.max)) (defined t)
  slice_in_range =
      subst (All (λ v. (1 ≤ v) × (v ≤ c.max))) (sym (defined-is c j set))
      (All-filter set (λ v. (1 ≤ v) × (v ≤ c.max)) (defined c) is.checked.in_range)

  slice_once : AllPairs (λ v w. v ≢ w) (defined t)
  slice_once = subst (AllPairs (λ v w. v ≢ w)) (sym (defined-is c j set)) (AllPairs-filter (λ v w. v ≢ w) set (defined c) is.checked.once)

  -- ---- literals that are used

  abbrev Old : ℕ → Type 0
  Old literal = (literal ≤ 2 * c.max + 1) × ((variable_of literal ≡ 0) ⊎ Contains (defined c) (variable_of literal))

  abbrev Known : ℕ → Type 0
  Known literal = (literal ≤ 2 * c.max + 1) × ((variable_of literal ≡ 0) ⊎ Contains (defined t) (variable_of literal))

  old : UsesAll Old (own_parts c)
  old = own_uses Old c (λ k d below. (is.limits.literals k d below, is.checked.used_defined k d below))

  known : (literal : ℕ) → IsTrue (set (variable_of literal)) → Old literal → Known literal
  known literal there h = (
    h.0,
    elim h.1 [
      | inl e ↦ inl e
      | inr in_circuit ↦ inr (subst (λ vs. Contains vs (variable_of literal)) (sym (defined-is c j set)) (contains-filter set (defined c) (variable_of literal) there in_circuit))
    ],
  )

  property-in : All (λ literal. IsTrue (set (variable_of literal))) (slice_index_or c.justice j [])
  property-in = All-left (λ literal. IsTrue (set (variable_of literal))) (slice_index_or c.justice j []) c.fairness (fair-in c j set closed)

  fairness-in : All (λ literal. IsTrue (set (variable_of literal))) c.fairness
  fairness-in = All-right (λ literal. IsTrue (set (variable_of literal))) (slice_index_or c.justice j []) c.fairness (fair-in c j set closed)

  uses-known : UsesAll Known (sliced_parts c j set)
  uses-known = record {
    latches = λ k d below.
        known _ (All-filter latch_stays (λ l. IsTrue (set l.var) → IsTrue (set (variable_of l.next))) c.latches closed.latches k d below (filter_passes latch_stays c.latches k d below))
        (All-filter latch_stays (λ l. Old l.next) c.latches old.latches k d below);
    gates = λ k d below.
        let sides =
        All-filter gate_stays (λ g. IsTrue (set g.var) → IsTrue (set (variable_of g.rhs0)) × IsTrue (set (variable_of g.rhs1))) c.gates closed.gates k d below
        (filter_passes gate_stays c.gates k d below)
        in
        let both = All-filter gate_stays (λ g. Old g.rhs0 × Old g.rhs1) c.gates old.gates k d below in
        (known _ sides.0 both.0, known _ sides.1 both.1);
    constraints = λ k d below. known _ (constraints-in c j set closed k d below) (old.constraints k d below);
    justice =
        All-cons (λ list. All Known list) (slice_index_or c.justice j []) []
        (λ k d below. known _ (property-in k d below) (old.justice j [] property k d below)) (All-nil _);
    fairness = λ k d below. known _ (fairness-in k d below) (old.fairness k d below);
    outputs = All-nil _;
    bad = All-nil _;
  }

  all-known : All Known (used t)
  all-known = All-used Known (sliced_parts c j set) uses-known

  -- ---- no cycle

  through : (v : ℕ) (between : List ℕ) (w : ℕ) → ReadsThrough t v between w → ReadsThrough c v between w
  through v [] w reads = any-kept _ gate_stays c.gates reads
  through v (u ∷ between) w reads = (any-kept _ gate_stays c.gates reads.0, through u between w reads.1)

  slice_acyclic : (v : ℕ) → IsOnCycle t v → ⊥
  slice_acyclic v (between, reads) = is.checked.acyclic v (between, through v between v reads)

  -- ---- the model

  slice_checked : IsChecked t
  slice_checked = record {
    in_range = slice_in_range;
    once = slice_once;
    used_defined = All-weaker Known (λ literal. (variable_of literal ≡ 0) ⊎ Contains (defined t) (variable_of literal)) (λ literal h. h.1) (used t) all-known;
    acyclic = slice_acyclic;
  }

  pub slice_is_model : IsModel (sliced_model m j set)
  slice_is_model =
      let limits = is.limits in
      record {
        checked = slice_checked;
        limits = record {
          max = limits.max;
          literals = All-weaker Known (λ literal. literal ≤ 2 * c.max + 1) (λ literal h. h.0) (used t) all-known;
          properties =
              All-cons (λ list. length list + length c.fairness ≤ MAX_PROPERTY_LITERALS) (slice_index_or c.justice j []) []
              (limits.properties j [] property) (All-nil _);
          inputs = (let a = limits.inputs in omega (arith, a, filter-short set c.inputs));
          latches = (let a = limits.latches in omega (arith, a, filter-short latch_stays c.latches));
          gates = (let a = limits.gates in omega (arith, a, filter-short gate_stays c.gates));
          constraints = limits.constraints;
          justice = omega arith;
          fairness = limits.fairness;
        };
        literals = All-nil _;
        defined = All-nil _;
        outputs = omega arith;
        bad = omega arith;
        symbols = symbols-name m j set m.names.symbols is.symbols;
        comment = tt;
      }
