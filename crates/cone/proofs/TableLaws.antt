-- The table of what the variables of a circuit read.
use Rattle.std.proofs.Common.{◌≡◌, ℕ, zero, suc, ◌+◌, ◌<◌, Bool, IsTrue, List, [], ◌∷◌, ◌++◌, map, length, get_or, set, take, drop, fold, replicate, Option, Some, None, refl, sym, ap, ◌∙◌, subst, inl, inr, arith}
use Rattle.std.specs.List.{All, Contains}
use Rattle.std.proofs.lemmas.Bool.{cases_eq, cases_lt}
use Rattle.std.proofs.lemmas.List.{length-set, length-map, length-replicate, get_or-set_same, get_or-set_other, get_or_past, get_or-map, get_or-replicate, append-nil, drop_all, take_all}
use Rattle.std.proofs.lemmas.List.Elements.{All-head, All-tail, Contains-append_right}
use Rattle.std.proofs.lemmas.Option.{same_Some, none-some}
use Rattle.aig_semantics.specs.declared.parts.Gate.{Gate}
use Rattle.aig_semantics.specs.declared.parts.Latch.{Latch}
use Rattle.aig_semantics.specs.Circuits.{Circuit, IsChecked, defined}
use Rattle.aig_semantics.proofs.Lists.{AllDiffer, AllDiffer-tail, AllDiffer-left, AllDiffer-right, AllDiffer-across, All-left, All-right}
use Rattle.circuit.proofs.Counting.{All-unmap}
use Rattle.cone.specs.declared.tables.Reads.{Reads}
use Rattle.cone.specs.Cones.{IsClosed}
use Rattle.cone.specs.Finding.{reads_at, reads_of_gate, reads_of_latch, with_gates, with_latches, AreIn, IsTable}

-- each entry of the table has this of its place
abbrev Each : (ℕ → Reads → Type 0) → List (Option Reads) → Type 0
Each P table = (v : ℕ) (reads : Reads) → reads_at table v ≡ Some reads → P v reads

each-set : (P : ℕ → Reads → Type 0) (table : List (Option Reads)) (place : ℕ) (r : Reads) → Each P table → P place r → Each P (set table place (Some r))
each-set P table place r before here v reads e =
    elim (cases_eq v place) [
      | inl same ↦
          elim (cases_lt place (length table)) [
            | inl lt ↦
                let at : reads_at (set table place (Some r)) v ≡ Some r =
                ap (λ u. reads_at (set table place (Some r)) u) same ∙ get_or-set_same table place (Some r) None lt
                in
                subst (λ x. P v x) (same_Some r reads (sym at ∙ e)) (subst (λ u. P u r) (sym same) here)
            | inr ge ↦
                let past : reads_at (set table place (Some r)) v ≡ None =
                ap (λ u. reads_at (set table place (Some r)) u) same
                ∙ get_or_past (set table place (Some r)) place None (omega (arith, length-set table place (Some r)))
                in
                absurd (none-some reads (sym past ∙ e))
          ]
      | inr other ↦ before v reads (sym (get_or-set_other table place v (Some r) None other) ∙ e)
    ]

-- ---- entries that are written at places which differ

module _ {X : Type 0} (key : X → ℕ) (value : X → Reads) where
  abbrev written : List (Option Reads) → List X → List (Option Reads)
  written table xs = fold (λ t x. set t (key x) (Some (value x))) table xs

  pub length-written : (xs : List X) (table : List (Option Reads)) → length (written table xs) ≡ length table
  length-written [] table = refl
  length-written (x ∷ xs) table =
      length-written xs (set table (key x) (Some (value x))) ∙ length-set table (key x) (Some (value x))

  pub written-other : (xs : List X) (table : List (Option Reads)) (v : ℕ) → (Contains (map key xs) v → ⊥) → reads_at (written table xs) v ≡ reads_at table v
  written-other [] table v h = refl
  written-other (x ∷ xs) table v h =
      written-other xs (set table (key x) (Some (value x))) v (λ c. h (suc c.0, (let l : c.0 < length (map key xs) = c.1 in omega arith), c.2))
      ∙ get_or-set_other table (key x) v (Some (value x)) None (λ e. h (0, omega arith, sym e))

  pub written-here : (xs : List X) (table : List (Option Reads)) → AllDiffer (map key xs) → All (λ x. key x < length table) xs → (k : ℕ) (d : X) → k < length xs → reads_at (written table xs) (key (get_or xs k d)) ≡ Some (value (get_or xs k d))
  written-here [] table differ inside k d below = absurd (omega arith)
  written-here (x ∷ xs) table differ inside zero d below =
      written-other xs (set table (key x) (Some (value x))) (key x)
      (λ c. differ 0 (suc c.0) (key x) (omega arith) (let l : c.0 < length (map key xs) = c.1 in omega arith) (sym c.2))
      ∙ get_or-set_same table (key x) (Some (value x)) None (All-head (λ y. key y < length table) x xs inside)
  written-here (x ∷ xs) table differ inside (suc k) d below =
      let rest : All (λ y. key y < length (set table (key x) (Some (value x)))) xs =
      λ i e at. rw length-set (All-tail (λ y. key y < length table) x xs inside i e at)
      in
      written-here xs (set table (key x) (Some (value x))) (AllDiffer-tail (key x) (map key xs) differ) rest k d (omega arith)

  pub written-each : (P : ℕ → Reads → Type 0) (xs : List X) (table : List (Option Reads)) → Each P table → All (λ x. P (key x) (value x)) xs → Each P (written table xs)
  written-each P [] table before h = before
  written-each P (x ∷ xs) table before h =
      written-each P xs (set table (key x) (Some (value x)))
      (each-set P table (key x) (value x) before (All-head (λ y. P (key y) (value y)) x xs h))
      (All-tail (λ y. P (key y) (value y)) x xs h)

-- ---- the table of a circuit

pub length-with_latches : (table : List (Option Reads)) (latches : List Latch) → length (with_latches table latches) ≡ length table
unfolding with_latches
length-with_latches table latches = length-written (λ latch. latch.var) reads_of_latch latches table

pub length-with_gates : (table : List (Option Reads)) (gates : List Gate) → length (with_gates table gates) ≡ length table
unfolding with_gates
length-with_gates table gates = length-written (λ gate. gate.var) reads_of_gate gates table

-- a list that is written whole
pub written-back : (n : ℕ) (new old : List (Option Reads)) → length old ≡ n → length new ≡ n → take n (new ++ drop (length new) old) ≡ new
written-back n new old was is =
    ap (λ t. take n (new ++ t)) (drop_all (length new) old (omega (arith, was, is)))
    ∙ (ap (λ t. take n t) (append-nil new) ∙ take_all n new (omega (arith, is)))

module _ (c : Circuit) (checked : IsChecked c) where
  abbrev latch_variables : List ℕ
  latch_variables = map (λ latch. latch.var) c.latches

  abbrev gate_variables : List ℕ
  gate_variables = map (λ gate. gate.var) c.gates

  all-inside : All (λ v. v < c.max + 1) (defined c)
  all-inside = λ k d below. let range = checked.in_range k d below in omega arith

  latches-inside : All (λ latch. latch.var < c.max + 1) c.latches
  latches-inside =
      All-unmap (λ v. v < c.max + 1) (λ latch. latch.var) c.latches
      (All-right (λ v. v < c.max + 1) c.inputs latch_variables (All-left (λ v. v < c.max + 1) (c.inputs ++ latch_variables) gate_variables all-inside))

  gates-inside : All (λ gate. gate.var < c.max + 1) c.gates
  gates-inside =
      All-unmap (λ v. v < c.max + 1) (λ gate. gate.var) c.gates
      (All-right (λ v. v < c.max + 1) (c.inputs ++ latch_variables) gate_variables all-inside)

  pub latches-within : (latches : List Latch) (n : ℕ) → latches ≡ c.latches → n ≡ c.max + 1 → All (λ latch. latch.var < n) latches
  latches-within latches n same size =
      subst (λ m. All (λ latch. latch.var < m) latches) (sym size)
      (subst (λ ls. All (λ latch. latch.var < c.max + 1) ls) (sym same) latches-inside)

  pub gates-within : (gates : List Gate) (n : ℕ) → gates ≡ c.gates → n ≡ c.max + 1 → All (λ gate. gate.var < n) gates
  gates-within gates n same size =
      subst (λ m. All (λ gate. gate.var < m) gates) (sym size)
      (subst (λ gs. All (λ gate. gate.var < c.max + 1) gs) (sym same) gates-inside)

  abbrev blank : List (Option Reads)
  blank = replicate (c.max + 1) None

  abbrev half : List (Option Reads)
  half = written (λ latch. latch.var) reads_of_latch blank c.latches

  length-half : length half ≡ c.max + 1
  length-half = length-written (λ latch. latch.var) reads_of_latch c.latches blank ∙ length-replicate (c.max + 1) None

  -- a latch is no gate
  latch-apart : (k : ℕ) (d : Latch) → k < length c.latches → Contains gate_variables (get_or c.latches k d).var → ⊥
  latch-apart k d below there =
      AllDiffer-across (c.inputs ++ latch_variables) gate_variables checked.once (get_or c.latches k d).var
      (Contains-append_right c.inputs latch_variables (get_or c.latches k d).var
      (k, omega (arith, length-map c.latches (λ latch. latch.var)), get_or-map (λ latch. latch.var) c.latches k d (get_or c.latches k d).var below))
      there

  latches-differ : AllDiffer latch_variables
  latches-differ = AllDiffer-right c.inputs latch_variables (AllDiffer-left (c.inputs ++ latch_variables) gate_variables checked.once)

  gates-differ : AllDiffer gate_variables
  gates-differ = AllDiffer-right (c.inputs ++ latch_variables) gate_variables checked.once

  -- what each closed set keeps
  abbrev Keeps : ℕ → ℕ → Reads → Type 0
  Keeps j v reads = (set : ℕ → Bool) → IsClosed c j set → IsTrue (set v) → AreIn set reads

  blank-keeps : (j : ℕ) → Each (Keeps j) blank
  blank-keeps j v reads e =
      elim (cases_lt v (c.max + 1)) [
        | inl lt ↦ absurd (none-some reads (sym (get_or-replicate (c.max + 1) v None None lt) ∙ e))
        | inr ge ↦ absurd (none-some reads (sym (get_or_past blank v None (omega (arith, length-replicate {A = Option Reads} (c.max + 1) None))) ∙ e))
      ]

  table-keeps : (j : ℕ) → Each (Keeps j) (written (λ gate. gate.var) reads_of_gate half c.gates)
  table-keeps j =
      written-each (λ gate. gate.var) reads_of_gate (Keeps j) c.gates half
      (written-each (λ latch. latch.var) reads_of_latch (Keeps j) c.latches blank (blank-keeps j)
      (λ k d below set closed h. (closed.latches k d below h, closed.latches k d below h)))
      (λ k d below set closed h. closed.gates k d below h)

  pub is-table : (table : List (Option Reads)) → table ≡ with_gates (with_latches blank c.latches) c.gates → (j : ℕ) → IsTable c j table
  unfolding with_gates with_latches
  is-table table same j =
      subst (λ t. IsTable c j t) (sym same)
      (record {
        kept = table-keeps j;
        gates =
            written-here (λ gate. gate.var) reads_of_gate c.gates half gates-differ
            (λ k d below. rw length-half (gates-inside k d below));
        latches =
            λ k d below.
            written-other (λ gate. gate.var) reads_of_gate c.gates half (get_or c.latches k d).var (latch-apart k d below)
            ∙ written-here (λ latch. latch.var) reads_of_latch c.latches blank latches-differ
            (λ i e at. rw length-replicate (latches-inside i e at)) k d below;
      })

  pub is-table-by : (t0 t1 table : List (Option Reads)) (latches : List Latch) (gates : List Gate) → t0 ≡ blank → latches ≡ c.latches → gates ≡ c.gates → t1 ≡ with_latches t0 latches → table ≡ with_gates t1 gates → (j : ℕ) → IsTable c j table
  is-table-by t0 t1 table latches gates first el eg one two =
      is-table table
      (two
      ∙ (ap (λ t. with_gates t gates) one
      ∙ (ap (λ gs. with_gates (with_latches t0 latches) gs) eg
      ∙ (ap (λ ls. with_gates (with_latches t0 ls) c.gates) el ∙ ap (λ t. with_gates (with_latches t c.latches) c.gates) first))))

  pub length-first : (t0 : List (Option Reads)) → t0 ≡ blank → length t0 ≡ c.max + 1
  length-first t0 first = ap (λ t. length t) first ∙ length-replicate (c.max + 1) None
