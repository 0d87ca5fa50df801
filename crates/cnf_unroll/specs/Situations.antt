-- What an assignment makes of the numbers of a block: a position and its successor.
use Rattle.std.specs.Prelude.{ℕ, zero, suc, ◌+◌, ◌*◌, Bool, List, [], ◌∷◌, map}
use Rattle.aig_semantics.specs.Circuits.{Circuit}
use Rattle.fair_semantics.specs.declared.skeletons.Situation.{Situation}
use Rattle.cnf_unroll.specs.Numbers.{block_size, number, state_place, successor_place}

-- the values of the latches, of the inputs, and of the latches' next values
abbrev pub situation_in : Circuit → ℕ → (ℕ → Bool) → Situation
situation_in c base v = record {
  position = record { latches = map v (state_place c base); inputs = map (λ i. v (number base i)) c.inputs };
  successor = map v (successor_place c base);
}

-- the same of the block with this number, counted from 0
abbrev pub situation_of_block : Circuit → ℕ → (ℕ → Bool) → Situation
situation_of_block c block v = situation_in c (block * block_size c) v

-- n blocks from a base on (scaffolding)
abbrev pub situations_in : Circuit → ℕ → ℕ → (ℕ → Bool) → List Situation
situations_in c base zero v = []
situations_in c base (suc n) v = situation_in c base v ∷ situations_in c (base + block_size c) n v
