-- The latches and gates that the monitor adds.
use Rattle.std.specs.Prelude.{ℕ, zero, suc, ◌+◌, ◌-◌, List, [], ◌∷◌, ◌++◌}
use Rattle.aig_semantics.specs.declared.parts.Latch.{Latch}
use Rattle.aig_semantics.specs.declared.parts.Gate.{Gate}
use Rattle.live_to_safe.specs.Numbers.{positive, negative, negation}
use Rattle.live_to_safe.specs.Watching.{numbered, for_each, zero_latch, and_gate, chain, chain_end}
use Rattle.round_monitor.specs.declared.sizes.Sizes.{Sizes}
use Rattle.round_monitor.specs.Numbers.{seen, counter, missing, ending, seen_gate, counter_gate}

-- what f makes of each of count numbers from the first on, one behind the other
abbrev pub each_of : {A : Type 0} → (ℕ → List A) → ℕ → ℕ → List A
each_of f first zero = []
each_of f first (suc count) = f first ++ each_of f (first + 1) count

-- ---- latches, which all begin with 0

abbrev pub seen_latch : Sizes → ℕ → Latch
seen_latch z m = zero_latch (seen z m) (positive (seen_gate z m))

abbrev pub counter_latch : Sizes → ℕ → Latch
counter_latch z i = zero_latch (counter z i) (negative (counter_gate z i))

abbrev pub new_latches : Sizes → List Latch
new_latches z = numbered (seen_latch z) 0 z.literals ++ numbered (counter_latch z) 0 z.counters

-- ---- gates

abbrev pub missing_gate : Sizes → ℕ → ℕ → List Gate
missing_gate z m literal = and_gate (missing z m) (negative (seen z m)) (negation literal) ∷ []

-- gates from the variable v on for the conjunction of these literals, one less than there are literals
abbrev pub all_gates : ℕ → List ℕ → List Gate
all_gates v [] = []
all_gates v (literal ∷ literals) = chain v literal literals

-- the literal that is true where all these are: that of the last gate, the only one, or the constant 1
abbrev pub all_literal : ℕ → List ℕ → ℕ
all_literal v [] = 1
all_literal v (literal ∷ literals) = chain_end v literal literals

-- each literal is true now or was seen since the last round ended
abbrev pub none_missing : Sizes → List ℕ
none_missing z = numbered (λ m. negative (missing z m)) 0 z.literals

-- the literal that is true where a round ends
abbrev pub round_ends : Sizes → ℕ
round_ends z = all_literal (ending z) (none_missing z)

-- a literal is seen next where it is not missing and no round ends
abbrev pub next_seen_gate : Sizes → ℕ → Gate
next_seen_gate z m = and_gate (seen_gate z m) (negation (round_ends z)) (negative (missing z m))

-- the first counter stays, or a round ends; the gate is the negation
abbrev pub first_counter_gate : Sizes → Gate
first_counter_gate z = and_gate (counter_gate z 0) (negative (counter z 0)) (negation (round_ends z))

-- counter i + 1 stays, or counter i is true and a round ends; the second gate is the negation
abbrev pub later_counter_gates : Sizes → ℕ → List Gate
later_counter_gates z i =
    and_gate (counter_gate z i + 1) (positive (counter z i)) (round_ends z)
    ∷ and_gate (counter_gate z i + 2) (negative (counter z (i + 1))) (negative (counter_gate z i + 1)) ∷ []

abbrev pub counter_gates : Sizes → List Gate
counter_gates z = first_counter_gate z ∷ each_of (later_counter_gates z) 0 (z.counters - 1)

-- the gates for these literals
abbrev pub new_gates : Sizes → List ℕ → List Gate
new_gates z literals =
    for_each (missing_gate z) 0 literals ++ all_gates (ending z) (none_missing z) ++ numbered (next_seen_gate z) 0 z.literals
    ++ counter_gates z
