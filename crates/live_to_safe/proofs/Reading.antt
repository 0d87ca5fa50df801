-- What the new gates and latches read: each gate variables below its own, which the translation defines.
use Rattle.std.proofs.Common.{◌≡◌, ℕ, ◌+◌, ◌*◌, ◌<◌, ◌≤◌, List, [], ◌∷◌, ◌++◌, length, sym, subst, arith}
use Rattle.std.specs.List.{All}
use Rattle.std.proofs.lemmas.List.Elements.{All-nil, All-cons, All-head, All-tail, All-append, All-from_recursion}
use Rattle.aig_semantics.specs.declared.parts.Latch.{Latch}
use Rattle.aig_semantics.specs.declared.parts.Gate.{Gate}
use Rattle.aig_semantics.specs.Literals.{variable_of}
use Rattle.aig_semantics.specs.Circuits.{Circuit}
use Rattle.live_to_safe.specs.declared.sizes.Sizes.{Sizes}
use Rattle.live_to_safe.specs.Numbers.{negation, save, saved, copy, seen, saving, idle, latch_gate, literal_gate, bad_gate, greatest}
use Rattle.live_to_safe.specs.Watching.{numbered, for_each, copy_latch, seen_latch, new_latches, saving_gates, latch_gates, literal_gates, chain, back_and_seen, new_gates, bad_literal}
use Rattle.live_to_safe.proofs.Lists.{all_numbered}
use Rattle.live_to_safe.proofs.Before.{IsRead, IsBefore, ReadsBefore, negation-variable, before-positive, before-negative, before-later, before-source, chain_read, chain_end_before}
use Rattle.live_to_safe.proofs.Numbering.{back_length}

module _ (z : Sizes) (c : Circuit) where
  saving_read : All (ReadsBefore z.variables c) (saving_gates z)
  saving_read =
      All-from_recursion (ReadsBefore z.variables c) (saving_gates z) (
        record { first = before-positive z.variables c (saving z) (save z) (omega arith) (omega arith); second = before-negative z.variables c (saving z) (saved z) (omega arith) (omega arith) },
        (record { first = before-negative z.variables c (idle z) (save z) (omega arith) (omega arith); second = before-negative z.variables c (idle z) (saved z) (omega arith) (omega arith) }, tt),
      )

  -- ---- latches

  latch_read : (i : ℕ) (latch : Latch) → i < z.latches → latch.var ≤ z.variables → IsRead c latch.var → All (ReadsBefore z.variables c) (latch_gates z i latch)
  latch_read i latch inside low read =
      let v = latch_gate z i in
      let even : variable_of (2 * latch.var) ≡ latch.var = omega arith in
      let odd : variable_of (2 * latch.var + 1) ≡ latch.var = omega arith in
      let now : (w : ℕ) → z.variables < w → IsBefore z.variables c w (2 * latch.var) =
      λ w new. before-source z.variables c w (2 * latch.var) new (omega (arith, even, low)) (subst (IsRead c) (sym even) read)
      in
      let not_now : (w : ℕ) → z.variables < w → IsBefore z.variables c w (2 * latch.var + 1) =
      λ w new. before-source z.variables c w (2 * latch.var + 1) new (omega (arith, odd, low)) (subst (IsRead c) (sym odd) read)
      in
      All-from_recursion (ReadsBefore z.variables c) (latch_gates z i latch) (
        record { first = before-positive z.variables c (latch_gate z i) (saving z) (omega arith) (omega arith); second = now (latch_gate z i) (omega arith) },
        (
          record { first = before-negative z.variables c (latch_gate z i + 1) (saving z) (omega arith) (omega arith); second = before-positive z.variables c (latch_gate z i + 1) (copy z i) (omega (arith, inside)) (omega arith) },
          (
            record { first = before-negative z.variables c (latch_gate z i + 2) (latch_gate z i) (omega arith) (omega arith); second = before-negative z.variables c (latch_gate z i + 2) (latch_gate z i + 1) (omega arith) (omega arith) },
            (
              record { first = now (latch_gate z i + 3) (omega arith); second = before-negative z.variables c (latch_gate z i + 3) (copy z i) (omega (arith, inside)) (omega arith) },
              (
                record { first = not_now (latch_gate z i + 4) (omega arith); second = before-positive z.variables c (latch_gate z i + 4) (copy z i) (omega (arith, inside)) (omega arith) },
                (record { first = before-negative z.variables c (latch_gate z i + 5) (latch_gate z i + 3) (omega arith) (omega arith); second = before-negative z.variables c (latch_gate z i + 5) (latch_gate z i + 4) (omega arith) (omega arith) }, tt),
              ),
            ),
          ),
        ),
      )

  latches_read : (k : ℕ) (latches : List Latch) → k + length latches ≤ z.latches
      → All (λ latch. (latch.var ≤ z.variables) × IsRead c latch.var) latches → All (ReadsBefore z.variables c) (for_each (latch_gates z) k latches)
  latches_read k [] fits all = All-nil (ReadsBefore z.variables c)
  latches_read k (latch ∷ latches) fits all =
      let P : Latch → Type 0 = λ latch. (latch.var ≤ z.variables) × IsRead c latch.var in
      let here = All-head P latch latches all in
      All-append (ReadsBefore z.variables c) (latch_gates z k latch) (for_each (latch_gates z) (k + 1) latches)
      (latch_read k latch (omega (arith, fits)) here.0 here.1)
      (latches_read (k + 1) latches (omega (arith, fits)) (All-tail P latch latches all))

  -- ---- literals

  literal_read : (m literal : ℕ) → m < z.literals → variable_of literal ≤ z.variables → IsRead c (variable_of literal) → All (ReadsBefore z.variables c) (literal_gates z m literal)
  literal_read m literal inside low read =
      let e = negation-variable literal in
      All-from_recursion (ReadsBefore z.variables c) (literal_gates z m literal) (
        record {
          first = before-negative z.variables c (literal_gate z m) (seen z m) (omega (arith, inside)) (omega arith);
          second = before-source z.variables c (literal_gate z m) (negation literal) (omega arith) (omega (arith, e, low)) (subst (IsRead c) (sym e) read);
        },
        (
          record {
            first = before-negative z.variables c (literal_gate z m + 1) (idle z) (omega arith) (omega arith);
            second = before-negative z.variables c (literal_gate z m + 1) (literal_gate z m) (omega arith) (omega arith);
          },
          tt,
        ),
      )

  literals_read : (k : ℕ) (literals : List ℕ) → k + length literals ≤ z.literals
      → All (λ literal. (variable_of literal ≤ z.variables) × IsRead c (variable_of literal)) literals → All (ReadsBefore z.variables c) (for_each (literal_gates z) k literals)
  literals_read k [] fits all = All-nil (ReadsBefore z.variables c)
  literals_read k (literal ∷ literals) fits all =
      let P : ℕ → Type 0 = λ literal. (variable_of literal ≤ z.variables) × IsRead c (variable_of literal) in
      let here = All-head P literal literals all in
      All-append (ReadsBefore z.variables c) (literal_gates z k literal) (for_each (literal_gates z) (k + 1) literals)
      (literal_read k literal (omega (arith, fits)) here.0 here.1)
      (literals_read (k + 1) literals (omega (arith, fits)) (All-tail P literal literals all))

  -- ---- the chain

  back_before : All (IsBefore z.variables c (bad_gate z)) (back_and_seen z)
  back_before =
      All-append (IsBefore z.variables c (bad_gate z)) (numbered (λ i. 2 * (latch_gate z i + 5)) 0 z.latches) (numbered (λ m. 2 * seen z m) 0 z.literals)
      (all_numbered (IsBefore z.variables c (bad_gate z)) (λ i. 2 * (latch_gate z i + 5)) 0 z.latches (λ i lt. before-positive z.variables c (bad_gate z) (latch_gate z i + 5) (omega (arith, lt)) (omega arith)))
      (all_numbered (IsBefore z.variables c (bad_gate z)) (λ m. 2 * seen z m) 0 z.literals (λ m lt. before-positive z.variables c (bad_gate z) (seen z m) (omega (arith, lt)) (omega arith)))

  saved_before : IsBefore z.variables c (bad_gate z) (2 * saved z)
  saved_before = before-positive z.variables c (bad_gate z) (saved z) (omega arith) (omega arith)

  pub bad_before : IsBefore z.variables c (greatest z + 1) (bad_literal z)
  bad_before =
      before-later z.variables c (bad_gate z + length (back_and_seen z)) (greatest z + 1) (bad_literal z) (omega (arith, back_length z))
      (chain_end_before z.variables c (bad_gate z) (2 * saved z) (back_and_seen z) (omega arith) saved_before)

  -- ---- all of them

  pub new_gates_read : (latches : List Latch) (literals : List ℕ) → length latches ≡ z.latches → length literals ≡ z.literals
      → All (λ latch. (latch.var ≤ z.variables) × IsRead c latch.var) latches
      → All (λ literal. (variable_of literal ≤ z.variables) × IsRead c (variable_of literal)) literals
      → All (ReadsBefore z.variables c) (new_gates z latches literals)
  new_gates_read latches literals l q of_latches of_literals =
      let P : Gate → Type 0 = ReadsBefore z.variables c in
      let one = for_each (latch_gates z) 0 latches in
      let two = for_each (literal_gates z) 0 literals in
      All-append P (saving_gates z ++ one ++ two) (chain (bad_gate z) (2 * saved z) (back_and_seen z))
      (All-append P (saving_gates z ++ one) two
      (All-append P (saving_gates z) one saving_read (latches_read 0 latches (omega (arith, l)) of_latches))
      (literals_read 0 literals (omega (arith, q)) of_literals))
      (chain_read z.variables c (bad_gate z) (2 * saved z) (back_and_seen z) (omega arith) saved_before back_before)

  pub new_latches_read : All (λ latch. IsBefore z.variables c (greatest z + 1) latch.next) (new_latches z)
  new_latches_read =
      let P : Latch → Type 0 = λ latch. IsBefore z.variables c (greatest z + 1) latch.next in
      All-cons P _ (numbered (copy_latch z) 0 z.latches ++ numbered (seen_latch z) 0 z.literals)
      (before-negative z.variables c (greatest z + 1) (idle z) (omega arith) (omega arith))
      (All-append P (numbered (copy_latch z) 0 z.latches) (numbered (seen_latch z) 0 z.literals)
      (all_numbered P (copy_latch z) 0 z.latches (λ i lt. before-negative z.variables c (greatest z + 1) (latch_gate z i + 2) (omega (arith, lt)) (omega arith)))
      (all_numbered P (seen_latch z) 0 z.literals (λ m lt. before-positive z.variables c (greatest z + 1) (literal_gate z m + 1) (omega (arith, lt)) (omega arith))))
