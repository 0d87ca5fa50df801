-- A variable of the cone has the same value in the slice: one position, with its values beside what is left.
use Rattle.std.proofs.Common.{◌≡◌, ℕ, zero, suc, ◌+◌, Bool, true, false, ◌&&◌, List, [], ◌∷◌, ◌++◌, map, length, get_or, refl, sym, ap, ◌∙◌, subst, inl, inr, arith}
use Rattle.std.specs.Prelude.{IsTrue, slice_index_or}
use Rattle.std.specs.List.{All, Contains, filter}
use Rattle.std.proofs.lemmas.Bool.{cases_Bool}
use Rattle.std.proofs.lemmas.List.Elements.{All-filter, filter_passes, filter-append}
use Rattle.aig_semantics.specs.declared.parts.Latch.{Latch}
use Rattle.aig_semantics.specs.declared.parts.Gate.{Gate}
use Rattle.aig_semantics.specs.declared.traces.Position.{Position}
use Rattle.aig_semantics.specs.Literals.{variable_of, literal_by, variable_in, literal_in}
use Rattle.aig_semantics.specs.Circuits.{Circuit, defined, fair_literals}
use Rattle.aig_semantics.specs.Valuations.{conjunction, IsValuation, HasOneValuation}
use Rattle.aig_semantics.specs.Runs.{IsPosition, position_of, valuation_at, literal_at, successor, MeetsConstraints}
use Rattle.aig_semantics.proofs.Lists.{All-left, All-right}
use Rattle.cone.specs.Cones.{IsClosed}
use Rattle.live_to_safe.proofs.Lists.{map_agrees}
use Rattle.live_to_safe.proofs.Extending.{same-literal}
use Rattle.live_to_safe.proofs.Valued.{both_same}
use Rattle.slice.specs.Slicing.{sliced_circuit}
use Rattle.slice.proofs.Picking.{pick, pick-map, length-pick, map-filter, contains-filter}

-- ---- values

-- the values of variables from v on, false for those that are not in the set
abbrev masked : (ℕ → Bool) → ℕ → List Bool → List Bool
masked set v [] = []
masked set v (b ∷ values) = (set v && b) ∷ masked set (v + 1) values

length-masked : (set : ℕ → Bool) (v : ℕ) (values : List Bool) → length (masked set v values) ≡ length values
length-masked set v [] = refl
length-masked set v (b ∷ values) = ap suc (length-masked set (v + 1) values)

and_off : (a : Bool) → (a && false) ≡ false
and_off true = refl
and_off false = refl

masked-at : (set : ℕ → Bool) (v k n : ℕ) (values : List Bool) → n ≡ v + k → slice_index_or (masked set v values) k false ≡ (set n && slice_index_or values k false)
masked-at set v k n [] e = sym (and_off (set n))
masked-at set v zero n (b ∷ values) e =
    let here : v ≡ n = omega (arith, e) in
    ap (λ i. set i && b) here
masked-at set v (suc k) n (b ∷ values) e = masked-at set (v + 1) k n values (omega (arith, e))

-- ---- what is defined

pub defined-is : (c : Circuit) (j : ℕ) (set : ℕ → Bool) → defined (sliced_circuit c j set) ≡ filter set (defined c)
defined-is c j set =
    let latches : List ℕ = map (λ latch. latch.var) c.latches in
    let gates : List ℕ = map (λ gate. gate.var) c.gates in
    ap (λ vs. filter set c.inputs ++ vs ++ map (λ gate. gate.var) (filter (λ gate. set gate.var) c.gates)) (map-filter (λ latch. latch.var) set c.latches)
    ∙ ap (λ vs. filter set c.inputs ++ filter set latches ++ vs) (map-filter (λ gate. gate.var) set c.gates)
    ∙ ap (λ vs. vs ++ filter set gates) (sym (filter-append set c.inputs latches))
    ∙ sym (filter-append set (c.inputs ++ latches) gates)

-- ---- what is left of values

-- of the values of latches those of the slice's
abbrev pub state_left : Circuit → (ℕ → Bool) → List Bool → List Bool
state_left c set state = pick (λ latch. set latch.var) c.latches state

-- of the values of a position those of the slice
abbrev pub left_of : Circuit → (ℕ → Bool) → Position → Position
left_of c set p = position_of (state_left c set p.latches) (pick set c.inputs p.inputs)

pub left-fits : (c : Circuit) (j : ℕ) (set : ℕ → Bool) (p : Position) → IsPosition (sliced_circuit c j set) (left_of c set p)
left-fits c j set p = record { latches = length-pick (λ latch. set latch.var) c.latches p.latches; inputs = length-pick set c.inputs p.inputs }

pub fair-in : (c : Circuit) (j : ℕ) (set : ℕ → Bool) → IsClosed c j set → All (λ literal. IsTrue (set (variable_of literal))) (fair_literals c j)
fair-in c j set closed = All-left (λ literal. IsTrue (set (variable_of literal))) (fair_literals c j) c.constraints closed.judged

pub constraints-in : (c : Circuit) (j : ℕ) (set : ℕ → Bool) → IsClosed c j set → All (λ literal. IsTrue (set (variable_of literal))) c.constraints
constraints-in c j set closed = All-right (λ literal. IsTrue (set (variable_of literal))) (fair_literals c j) c.constraints closed.judged

module _ (c : Circuit) (j : ℕ) (set : ℕ → Bool) (closed : IsClosed c j set) (one : HasOneValuation c) (other : HasOneValuation (sliced_circuit c j set)) where
  abbrev t : Circuit
  t = sliced_circuit c j set

  abbrev latch_stays : Latch → Bool
  latch_stays latch = set latch.var

  abbrev gate_stays : Gate → Bool
  gate_stays gate = set gate.var

  module _ (p : Position) (is : IsPosition c p) where
    abbrev V : List Bool
    V = valuation_at c p

    abbrev W : List Bool
    W = masked set 0 V

    abbrev value : ℕ → Bool
    value v = variable_in V v

    abbrev inside : ℕ → Bool
    inside v = variable_in W v

    of_circuit : IsValuation c p.latches p.inputs V
    of_circuit = (one p.latches p.inputs V is.latches is.inputs).1 refl

    inside-is : (v : ℕ) → inside v ≡ (set v && value v)
    inside-is v = masked-at set 0 v v V (omega arith)

    inside-in : (v : ℕ) → set v ≡ true → inside v ≡ value v
    inside-in v e = inside-is v ∙ ap (λ b. b && value v) e

    gates-in : All (λ gate. inside gate.var ≡ conjunction inside gate) t.gates
    gates-in = λ k d below.
        let gate : Gate = get_or t.gates k d in
        let there : set gate.var ≡ true = filter_passes gate_stays c.gates k d below in
        let sides = All-filter gate_stays (λ g. IsTrue (set g.var) → IsTrue (set (variable_of g.rhs0)) × IsTrue (set (variable_of g.rhs1))) c.gates closed.gates k d below there in
        let equal : value gate.var ≡ conjunction value gate =
        All-filter gate_stays (λ g. value g.var ≡ conjunction value g) c.gates of_circuit.equations.conjunctions k d below
        in
        inside-in gate.var there ∙ equal
        ∙ sym (both_same (literal_by inside gate.rhs0) (literal_by inside gate.rhs1) (literal_by value gate.rhs0) (literal_by value gate.rhs1)
        (same-literal inside value gate.rhs0 (inside-in (variable_of gate.rhs0) sides.0)) (same-literal inside value gate.rhs1 (inside-in (variable_of gate.rhs1) sides.1)))

    of_slice : IsValuation t (left_of c set p).latches (left_of c set p).inputs W
    of_slice = record {
      size = length-masked set 0 V ∙ of_circuit.size;
      equations = record {
        constant = inside-is 0 ∙ ap (λ b. set 0 && b) of_circuit.equations.constant ∙ and_off (set 0);
        given_latches =
            map_agrees (λ latch. inside latch.var) (λ latch. value latch.var) t.latches (λ k d below. inside-in _ (filter_passes latch_stays c.latches k d below))
            ∙ sym (pick-map latch_stays (λ latch. value latch.var) c.latches)
            ∙ ap (pick latch_stays c.latches) of_circuit.equations.given_latches;
        given_inputs =
            map_agrees inside value t.inputs (λ k d below. inside-in _ (filter_passes set c.inputs k d below))
            ∙ sym (pick-map set value c.inputs)
            ∙ ap (pick set c.inputs) of_circuit.equations.given_inputs;
        conjunctions = gates-in;
      };
      nowhere = λ v none. elim (cases_Bool (set v)) [
        | inl e ↦
            inside-in v e
            ∙ of_circuit.nowhere v (λ there. none (subst (λ vs. Contains vs v) (sym (defined-is c j set)) (contains-filter set (defined c) v e there)))
        | inr e ↦ inside-is v ∙ ap (λ b. b && value v) e
      ];
    }

    same-values : W ≡ valuation_at t (left_of c set p)
    same-values = (other (left_of c set p).latches (left_of c set p).inputs W (left-fits c j set p).latches (left-fits c j set p).inputs).0 of_slice

    pub literal-is : (literal : ℕ) → IsTrue (set (variable_of literal)) → literal_at t (left_of c set p) literal ≡ literal_at c p literal
    literal-is literal e =
        ap (λ vs. literal_in vs literal) (sym same-values) ∙ same-literal inside value literal (inside-in (variable_of literal) e)

    pub successor-is : successor t (left_of c set p) ≡ state_left c set (successor c p)
    successor-is =
        map_agrees (λ latch. literal_at t (left_of c set p) latch.next) (λ latch. literal_at c p latch.next) t.latches
        (λ k d below.
        literal-is _ (All-filter latch_stays (λ l. IsTrue (set l.var) → IsTrue (set (variable_of l.next))) c.latches closed.latches k d below (filter_passes latch_stays c.latches k d below)))
        ∙ sym (pick-map latch_stays (λ latch. literal_at c p latch.next) c.latches)

    pub constraints-left : MeetsConstraints c p → MeetsConstraints t (left_of c set p)
    constraints-left h = record {
      position = left-fits c j set p;
      constraints = λ k d below. literal-is _ (constraints-in c j set closed k d below) ∙ h.constraints k d below;
    }

    pub constraints-back : MeetsConstraints t (left_of c set p) → MeetsConstraints c p
    constraints-back h = record {
      position = is;
      constraints = λ k d below. sym (literal-is _ (constraints-in c j set closed k d below)) ∙ h.constraints k d below;
    }
