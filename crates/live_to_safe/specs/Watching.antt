-- The latches and gates that the translation adds.
use Rattle.std.specs.Prelude.{ℕ, ◌+◌, ◌*◌, List, [], ◌∷◌, ◌++◌, map}
use Rattle.std.specs.List.{range_with_len}
use Rattle.aig_semantics.specs.declared.parts.Latch.{Latch}
use Rattle.aig_semantics.specs.declared.parts.Gate.{Gate}
use Rattle.aig_semantics.specs.declared.parts.Reset.TheVariants.{Zero}
use Rattle.live_to_safe.specs.declared.sizes.Sizes.{Sizes}
use Rattle.live_to_safe.specs.Numbers.{positive, negative, negation, save, saved, copy, seen, saving, idle, latch_gate, literal_gate, bad_gate}

-- one value for each of count numbers from the first on
abbrev pub numbered : {A : Type 0} → (ℕ → A) → ℕ → ℕ → List A
numbered f first count = map f (range_with_len first count)

-- what f makes of each element and its number, one behind the other; the first element has this number
abbrev pub for_each : {A B : Type 0} → (ℕ → A → List B) → ℕ → List A → List B
for_each f number [] = []
for_each f number (x ∷ xs) = f number x ++ for_each f (number + 1) xs

-- ---- latches, which all begin with 0

abbrev pub zero_latch : ℕ → ℕ → Latch
zero_latch v next = record { var = v; next = next; reset = Zero }

abbrev pub saved_latch : Sizes → Latch
saved_latch z = zero_latch (saved z) (negative (idle z))

abbrev pub copy_latch : Sizes → ℕ → Latch
copy_latch z i = zero_latch (copy z i) (negative (latch_gate z i + 2))

abbrev pub seen_latch : Sizes → ℕ → Latch
seen_latch z m = zero_latch (seen z m) (positive (literal_gate z m + 1))

abbrev pub new_latches : Sizes → List Latch
new_latches z = saved_latch z ∷ numbered (copy_latch z) 0 z.latches ++ numbered (seen_latch z) 0 z.literals

-- ---- gates

abbrev pub and_gate : ℕ → ℕ → ℕ → Gate
and_gate v a b = record { var = v; rhs0 = a; rhs1 = b }

abbrev pub saving_gates : Sizes → List Gate
saving_gates z =
    and_gate (saving z) (positive (save z)) (negative (saved z))
    ∷ and_gate (idle z) (negative (save z)) (negative (saved z)) ∷ []

-- The copy's next value is the latch where the state is saved now, else the copy: the negation of the third. Latch and copy
-- are equal where neither has a 1 that the other has not: the last.
abbrev pub latch_gates : Sizes → ℕ → Latch → List Gate
latch_gates z i latch =
    let v = latch_gate z i in
    and_gate v (positive (saving z)) (positive latch.var)
    ∷ and_gate (v + 1) (negative (saving z)) (positive (copy z i))
    ∷ and_gate (v + 2) (negative v) (negative (v + 1))
    ∷ and_gate (v + 3) (positive latch.var) (negative (copy z i))
    ∷ and_gate (v + 4) (negative latch.var) (positive (copy z i))
    ∷ and_gate (v + 5) (negative (v + 3)) (negative (v + 4)) ∷ []

-- The literal is seen next where a state is saved now or was before, and it was seen or is true now.
abbrev pub literal_gates : Sizes → ℕ → ℕ → List Gate
literal_gates z m literal =
    let v = literal_gate z m in
    and_gate v (negative (seen z m)) (negation literal) ∷ and_gate (v + 1) (negative (idle z)) (negative v) ∷ []

-- a chain of gates from the variable v on: the first is so_far and the first literal, each other the one before and the
-- next literal
abbrev pub chain : ℕ → ℕ → List ℕ → List Gate
chain v so_far [] = []
chain v so_far (literal ∷ literals) = and_gate v so_far literal ∷ chain (v + 1) (positive v) literals

-- the literal that is true where so_far and all these literals are: that of the chain's last gate
abbrev pub chain_end : ℕ → ℕ → List ℕ → ℕ
chain_end v so_far [] = so_far
chain_end v so_far (literal ∷ literals) = chain_end (v + 1) (positive v) literals

-- each latch equals its copy, and each literal was seen
abbrev pub back_and_seen : Sizes → List ℕ
back_and_seen z =
    numbered (λ i. positive (latch_gate z i + 5)) 0 z.latches ++ numbered (λ m. positive (seen z m)) 0 z.literals

-- the gates for these latches and these literals
abbrev pub new_gates : Sizes → List Latch → List ℕ → List Gate
new_gates z latches literals =
    saving_gates z ++ for_each (latch_gates z) 0 latches ++ for_each (literal_gates z) 0 literals
    ++ chain (bad_gate z) (positive (saved z)) (back_and_seen z)

-- a state was saved, it has come again, and each literal was seen
abbrev pub bad_literal : Sizes → ℕ
bad_literal z = chain_end (bad_gate z) (positive (saved z)) (back_and_seen z)
