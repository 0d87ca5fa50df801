-- The table with which the search for an order begins.
use Rattle.std.proofs.Common.{◌≡◌, ◌≢◌, ℕ, ◌+◌, ◌<◌, ◌≤◌, false, cond, List, [], ◌++◌, map, length, get_or, set, take, refl, sym, ap, ◌∙◌, subst, inl, inr, arith}
use Rattle.std.specs.List.{All, Contains, count_by}
use Rattle.std.proofs.lemmas.Bool.{cases_eq}
use Rattle.std.proofs.lemmas.List.{length-set, length-map, get_or-set_same, get_or-set_other, get_or-map, take_more, take_all}
use Rattle.std.proofs.lemmas.List.Elements.{All-more, Contains-push_cases}
use Rattle.aig_semantics.specs.declared.parts.Gate.{Gate}
use Rattle.aig_semantics.specs.Circuits.{Circuit}
use Rattle.aig_semantics.proofs.Lists.{AllDiffer, AllDiffer-right}
use Rattle.circuit.specs.declared.ordering.Progress.{Progress}
use Rattle.circuit.specs.declared.ordering.Progress.TheVariants.{NoGate, Waiting, Open, Done}
use Rattle.circuit.specs.declared.parts.Parts.{Parts}
use Rattle.circuit.specs.Sections.{circuit_of, AreInRange}
use Rattle.circuit.specs.Faults.{IsOnce}
use Rattle.circuit.specs.Orders.{variables_of, IsEvaluationOrder}
use Rattle.circuit.specs.Ordering.{progress_at, Tells, is_pending, IsSearch, KeepsBegun, is_waiting}
use Rattle.circuit.proofs.Searching.{sum-changed, is-order}
use Rattle.circuit.proofs.Marking.{DefinesAll-below}

-- what the table tells of a variable, with the first k gates in it
abbrev pub TellsNumber : List Gate → ℕ → ℕ → Progress → Type 0
TellsNumber gates k v NoGate = Contains (take k (variables_of gates)) v → ⊥
TellsNumber gates k v (Waiting i) = (i < k) × (get_or (variables_of gates) i 0 ≡ v)
TellsNumber gates k v Open = ⊥
TellsNumber gates k v Done = ⊥

pub record IsFilled (gates : List Gate) (n : ℕ) (table : List Progress) (k : ℕ) : Type 0 where
  pub size : length table ≡ n
  pub known : (v : ℕ) → TellsNumber gates k v (progress_at table v)
  pub counted : count_by is_pending table ≡ k

module _ (gates : List Gate) (n : ℕ) (table : List Progress) (k : ℕ) (d : Gate) (f : IsFilled gates n table k) (apart : AllDiffer (variables_of gates)) (below : k < length gates) (inside : (get_or gates k d).var < n) where
  abbrev gate : Gate
  gate = get_or gates k d

  in_gates : k < length (variables_of gates)
  in_gates = omega (arith, length-map gates (λ g. g.var))

  here : get_or (variables_of gates) k 0 ≡ gate.var
  here = get_or-map (λ g. g.var) gates k d 0 below

  no_gate_yet : (p : Progress) → TellsNumber gates k gate.var p → p ≡ NoGate
  no_gate_yet NoGate t = refl
  no_gate_yet (Waiting i) t = absurd (apart i k 0 t.0 in_gates (t.1 ∙ sym here))
  no_gate_yet Open t = absurd t
  no_gate_yet Done t = absurd t

  was-no_gate : progress_at table gate.var ≡ NoGate
  was-no_gate = no_gate_yet (progress_at table gate.var) (f.known gate.var)

  in_table : gate.var < length table
  in_table = omega (arith, f.size)

  tells-one_more : (v : ℕ) (p : Progress) → v ≢ gate.var → TellsNumber gates k v p → TellsNumber gates (k + 1) v p
  tells-one_more v NoGate ne t = λ there.
      elim (Contains-push_cases (take k (variables_of gates)) (get_or (variables_of gates) k 0) v (subst (λ vs. Contains vs v) (take_more (variables_of gates) k 0 in_gates) there)) [
        | inl a ↦ t a
        | inr b ↦ ne (sym b ∙ here)
      ]
  tells-one_more v (Waiting i) ne t = (let l : i < k = t.0 in omega arith, t.1)
  tells-one_more v Open ne t = t
  tells-one_more v Done ne t = t

  pub filled-more : IsFilled gates n (set table gate.var (Waiting k)) (k + 1)
  filled-more = record {
    size = length-set table gate.var (Waiting k) ∙ f.size;
    known =
        λ v. elim (cases_eq v gate.var) [
          | inl e ↦
              subst (λ p. TellsNumber gates (k + 1) v p)
              (sym (ap (λ u. progress_at (set table gate.var (Waiting k)) u) e ∙ get_or-set_same table gate.var (Waiting k) NoGate in_table))
              (omega arith, here ∙ sym e)
          | inr ne ↦
              subst (λ p. TellsNumber gates (k + 1) v p) (sym (get_or-set_other table gate.var v (Waiting k) NoGate ne))
              (tells-one_more v (progress_at table v) ne (f.known v))
        ];
    counted =
        let more : count_by is_pending (set table gate.var (Waiting k)) + 0 ≡ count_by is_pending table + 1 =
        sum-changed (λ p. cond (is_pending p) 1 0) table gate.var NoGate (Waiting k) in_table was-no_gate
        in
        omega (arith, f.counted);
  }

tells-all : (gates : List Gate) (k v : ℕ) (p : Progress) → length gates ≤ k → k ≤ length gates → TellsNumber gates k v p → Tells gates [] [] v p
tells-all gates k v NoGate most least t = λ there.
    t (subst (λ vs. Contains vs v) (sym (take_all k (variables_of gates) (omega (arith, length-map gates (λ g. g.var))))) there)
tells-all gates k v (Waiting i) most least t = (let l : i < k = t.0 in omega arith, t.1)
tells-all gates k v Open most least t = absurd t
tells-all gates k v Done most least t = absurd t

pub search-first : (parts : Parts) (table : List Progress) (k : ℕ) → length parts.gates ≤ k → k ≤ length parts.gates → IsFilled parts.gates (parts.max + 1) table k → IsSearch (circuit_of parts) table [] []
search-first parts table k most least f = record {
  size = f.size;
  tells = λ v. tells-all parts.gates k v (progress_at table v) most least (f.known v);
  path_members = λ i d below. absurd (omega arith);
  path_open = λ i d below. absurd (omega arith);
  path_apart = λ i j d lt below. absurd (omega arith);
  path_reads = λ i d below. absurd (omega arith);
  order_members = λ i d below. absurd (omega arith);
  order_settled = λ i d below. absurd (omega arith);
  order_after = λ i d below. absurd (omega arith);
  counted = let all = f.counted in omega arith;
}

-- the gates' variables are in the table, and differ
pub gate-inside : (parts : Parts) → AreInRange parts → (k : ℕ) (d : Gate) → k < length parts.gates → (get_or parts.gates k d).var < parts.max + 1
gate-inside parts h k d below = let gates = (DefinesAll-below parts h).gates in gates k d below

pub gates-apart : (parts : Parts) → IsOnce parts → AllDiffer (variables_of parts.gates)
gates-apart parts once = AllDiffer-right (parts.inputs ++ map (λ latch. latch.var) parts.latches) (variables_of parts.gates) once

-- ---- the steps, as the code takes them

module _ (parts : Parts) (h : AreInRange parts) (once : IsOnce parts) (gates : List Gate) (same : gates ≡ parts.gates) (table : List Progress) (k : ℕ) (f : IsFilled parts.gates (parts.max + 1) table k) where
  pub place-inside : (d : Gate) → k < length gates → (get_or gates k d).var < length table
  place-inside d below =
      subst (λ gs. (get_or gs k d).var < length table) (sym same)
      (let range = gate-inside parts h k d (subst (λ gs. k < length gs) same below) in omega (arith, f.size))

  pub fills-more : (d : Gate) → k < length gates → IsFilled parts.gates (parts.max + 1) (set table (get_or gates k d).var (Waiting k)) (k + 1)
  fills-more d below =
      let below' = subst (λ gs. k < length gs) same below in
      subst (λ gs. IsFilled parts.gates (parts.max + 1) (set table (get_or gs k d).var (Waiting k)) (k + 1)) (sym same)
      (filled-more parts.gates (parts.max + 1) table k d f (gates-apart parts once) below' (gate-inside parts h k d below'))

  pub fills-all : length gates ≤ k → k ≤ length gates → IsSearch (circuit_of parts) table [] []
  fills-all most least =
      search-first parts table k (subst (λ gs. length gs ≤ k) same most) (subst (λ gs. k ≤ length gs) same least) f

-- after one visit more
pub visits-more : (gates gs : List Gate) → gs ≡ gates → (old new : List Progress) (i : ℕ) (d : Gate) → KeepsBegun old new → is_waiting (progress_at new (get_or gs i d).var) ≡ false → i < length gs → All (λ gate. is_waiting (progress_at old gate.var) ≡ false) (take i gates) → All (λ gate. is_waiting (progress_at new gate.var) ≡ false) (take (i + 1) gates)
visits-more gates gs same old new i d keeps visited below before =
    All-more (λ gate. is_waiting (progress_at new gate.var) ≡ false) gates i d (subst (λ xs. i < length xs) same below)
    (λ k e at. keeps _ (before k e at))
    (subst (λ xs. is_waiting (progress_at new (get_or xs i d).var) ≡ false) same visited)

-- after all visits
pub visits-all : (c : Circuit) (gs : List Gate) → gs ≡ c.gates → (progress : List Progress) (order : List Gate) (i : ℕ) → length gs ≤ i → IsSearch c progress [] order → All (λ gate. is_waiting (progress_at progress gate.var) ≡ false) (take i c.gates) → IsEvaluationOrder c.gates order
visits-all c gs same progress order i most s all =
    is-order c progress order s
    (subst (λ xs. All (λ gate. is_waiting (progress_at progress gate.var) ≡ false) xs) (take_all i c.gates (subst (λ xs. length xs ≤ i) same most)) all)
