-- What the new gates and latches read: each gate variables below its own, which the monitor defines.
use Rattle.std.proofs.Common.{◌≡◌, ℕ, zero, suc, ◌+◌, ◌-◌, ◌*◌, ◌<◌, ◌≤◌, List, [], ◌∷◌, ◌++◌, length, refl, sym, ap, ◌∙◌, subst, inl, inr, arith}
use Rattle.std.specs.List.{All}
use Rattle.std.proofs.lemmas.List.Elements.{All-nil, All-cons, All-head, All-tail, All-append, All-from_recursion}
use Rattle.aig_semantics.specs.declared.parts.Latch.{Latch}
use Rattle.aig_semantics.specs.declared.parts.Gate.{Gate}
use Rattle.aig_semantics.specs.declared.limits.TheConstants.{MAX_VARIABLE}
use Rattle.aig_semantics.specs.Literals.{variable_of}
use Rattle.aig_semantics.specs.Circuits.{Circuit}
use Rattle.live_to_safe.specs.Watching.{numbered, for_each, chain_end}
use Rattle.live_to_safe.proofs.Lists.{all_numbered}
use Rattle.live_to_safe.proofs.Before.{IsRead, IsBefore, ReadsBefore, before-positive, before-negative, before-later, before-source, before-negation, chain_read, chain_end_before}
use Rattle.round_monitor.specs.declared.sizes.Sizes.{Sizes}
use Rattle.round_monitor.specs.Numbers.{seen, counter, missing, ending, seen_gate, counter_gate, greatest}
use Rattle.round_monitor.specs.Watching.{each_of, seen_latch, counter_latch, new_latches, missing_gate, all_gates, all_literal, none_missing, round_ends, next_seen_gate, first_counter_gate, later_counter_gates, counter_gates, new_gates}
use Rattle.round_monitor.proofs.Numbering.{none_missing-length}

module _ (max : ℕ) (c : Circuit) where
  all_read : (v : ℕ) (literals : List ℕ) → max < v → All (IsBefore max c v) literals → All (ReadsBefore max c) (all_gates v literals)
  all_read v [] new all = All-nil (ReadsBefore max c)
  all_read v (literal ∷ literals) new all =
      chain_read max c v literal literals new (All-head (IsBefore max c v) literal literals all) (All-tail (IsBefore max c v) literal literals all)

  all_before : (v w : ℕ) (literals : List ℕ) → max < v → v ≤ w → v + length literals ≤ w + 1 → All (IsBefore max c v) literals → IsBefore max c w (all_literal v literals)
  all_before v w [] new le fits all =
      let e : variable_of 1 ≡ 0 = refl in
      record { low = omega (arith, new, le, e); known = inr (inl refl) }
  all_before v w (literal ∷ literals) new le fits all =
      before-later max c (v + length literals) w (chain_end v literal literals) (omega (arith, fits))
      (chain_end_before max c v literal literals new (All-head (IsBefore max c v) literal literals all))

module _ (z : Sizes) (c : Circuit) where
  abbrev Before : ℕ → ℕ → Type 0
  Before = IsBefore z.variables c

  abbrev Reads : Gate → Type 0
  Reads = ReadsBefore z.variables c

  -- ---- what is missing

  missing_read : (k : ℕ) (literals : List ℕ) → k + length literals ≤ z.literals
      → All (λ literal. (variable_of literal ≤ z.variables) × IsRead c (variable_of literal)) literals → All Reads (for_each (missing_gate z) k literals)
  missing_read k [] fits all = All-nil Reads
  missing_read k (literal ∷ literals) fits all =
      let P : ℕ → Type 0 = λ literal. (variable_of literal ≤ z.variables) × IsRead c (variable_of literal) in
      let here = All-head P literal literals all in
      All-cons Reads _ (for_each (missing_gate z) (k + 1) literals)
      (record {
        first = before-negative z.variables c (missing z k) (seen z k) (omega (arith, fits)) (omega arith);
        second = before-negation z.variables c (missing z k) literal (before-source z.variables c (missing z k) literal (omega arith) here.0 here.1);
      })
      (missing_read (k + 1) literals (omega (arith, fits)) (All-tail P literal literals all))

  none_before : All (Before (ending z)) (none_missing z)
  none_before =
      all_numbered (Before (ending z)) (λ m. 2 * missing z m + 1) 0 z.literals
      (λ m lt. before-negative z.variables c (ending z) (missing z m) (omega (arith, lt)) (omega arith))

  -- the end of a round comes before what follows the chain
  pub ends_before : (v : ℕ) → ending z + (z.literals - 1) ≤ v → Before v (round_ends z)
  ends_before v le =
      all_before z.variables c (ending z) v (none_missing z) (omega arith) (omega (arith, le)) (omega (arith, le, none_missing-length z)) none_before

  -- ---- what is seen next

  next_read : All Reads (numbered (next_seen_gate z) 0 z.literals)
  next_read =
      all_numbered Reads (next_seen_gate z) 0 z.literals
      (λ m lt. record {
        first = before-negation z.variables c (seen_gate z m) (round_ends z) (ends_before (seen_gate z m) (omega arith));
        second = before-negative z.variables c (seen_gate z m) (missing z m) (omega (arith, lt)) (omega arith);
      })

  -- ---- counters

  later_read : (i n : ℕ) → i + n < z.counters → All Reads (each_of (later_counter_gates z) i n)
  later_read i zero fits = All-nil Reads
  later_read i (suc n) fits =
      All-append Reads (later_counter_gates z i) (each_of (later_counter_gates z) (i + 1) n)
      (All-from_recursion Reads (later_counter_gates z i) (
        record {
          first = before-positive z.variables c (counter_gate z i + 1) (counter z i) (omega (arith, fits)) (omega arith);
          second = ends_before (counter_gate z i + 1) (omega arith);
        },
        (
          record {
            first = before-negative z.variables c (counter_gate z i + 2) (counter z (i + 1)) (omega (arith, fits)) (omega arith);
            second = before-negative z.variables c (counter_gate z i + 2) (counter_gate z i + 1) (omega arith) (omega arith);
          },
          tt,
        ),
      ))
      (later_read (i + 1) n (omega (arith, fits)))

  counters_read : 1 ≤ z.counters → All Reads (counter_gates z)
  counters_read some =
      All-cons Reads (first_counter_gate z) (each_of (later_counter_gates z) 0 (z.counters - 1))
      (record {
        first = before-negative z.variables c (counter_gate z 0) (counter z 0) (omega (arith, some)) (omega arith);
        second = before-negation z.variables c (counter_gate z 0) (round_ends z) (ends_before (counter_gate z 0) (omega arith));
      })
      (later_read 0 (z.counters - 1) (omega (arith, some)))

  -- ---- all of them

  pub new_gates_read : (literals : List ℕ) → 1 ≤ z.counters → length literals ≡ z.literals
      → All (λ literal. (variable_of literal ≤ z.variables) × IsRead c (variable_of literal)) literals
      → All Reads (new_gates z literals)
  new_gates_read literals some q of_literals =
      let one = for_each (missing_gate z) 0 literals in
      let two = all_gates (ending z) (none_missing z) in
      let three = numbered (next_seen_gate z) 0 z.literals in
      All-append Reads (one ++ two ++ three) (counter_gates z)
      (All-append Reads (one ++ two) three
      (All-append Reads one two (missing_read 0 literals (omega (arith, q)) of_literals)
      (all_read z.variables c (ending z) (none_missing z) (omega arith) none_before))
      next_read)
      (counters_read some)

  pub new_latches_read : All (λ latch. Before (greatest z + 1) latch.next) (new_latches z)
  new_latches_read =
      let P : Latch → Type 0 = λ latch. Before (greatest z + 1) latch.next in
      All-append P (numbered (seen_latch z) 0 z.literals) (numbered (counter_latch z) 0 z.counters)
      (all_numbered P (seen_latch z) 0 z.literals
      (λ m lt. before-positive z.variables c (greatest z + 1) (seen_gate z m) (omega (arith, lt)) (omega arith)))
      (all_numbered P (counter_latch z) 0 z.counters
      (λ i lt. before-negative z.variables c (greatest z + 1) (counter_gate z i) (omega (arith, lt)) (omega arith)))

  -- the literal of a round's end is within the limit
  ends_low : greatest z ≤ MAX_VARIABLE → round_ends z ≤ 2 * MAX_VARIABLE + 1
  ends_low fits =
      let a = (ends_before (greatest z + 1) (omega arith)).low in
      omega (arith, a, fits)

abbrev no_circuit : Circuit
no_circuit = record { max = 0; inputs = []; latches = []; gates = []; constraints = []; justice = []; fairness = [] }

pub ends_fit : (z : Sizes) (v ends : ℕ) (literals : List ℕ) → ends ≡ all_literal v literals → v ≡ ending z → literals ≡ none_missing z → greatest z ≤ MAX_VARIABLE
    → ends ≤ 2 * MAX_VARIABLE + 1
ends_fit z v ends literals e is are fits =
    let same : ends ≡ round_ends z = e ∙ ap (λ x. all_literal x literals) is ∙ ap (all_literal (ending z)) are in
    subst (λ x. x ≤ 2 * MAX_VARIABLE + 1) (sym same) (ends_low z no_circuit fits)
