-- A situation from its parts, and one more situation.
use Rattle.std.proofs.Common.{◌≡◌, ℕ, suc, ◌+◌, Bool, List, ◌∷◌, map, ap}
use Rattle.aig_semantics.specs.Circuits.{Circuit}
use Rattle.fair_semantics.specs.declared.skeletons.Situation.{Situation}
use Rattle.cnf_unroll.specs.Numbers.{block_size, number, state_place, successor_place}
use Rattle.cnf_unroll.specs.Situations.{situation_in, situations_in}

abbrev pub situation_of : List Bool → List Bool → List Bool → Situation
situation_of latches inputs successor = record { position = record { latches = latches; inputs = inputs }; successor = successor }

pub situation_made : (c : Circuit) (v : ℕ → Bool) (base : ℕ) (latches inputs successor : List Bool)
    → latches ≡ map v (state_place c base) → inputs ≡ map (λ i. v (number base i)) c.inputs
    → successor ≡ map v (successor_place c base) → situation_of latches inputs successor ≡ situation_in c base v
situation_made c v base latches inputs successor e f g = λ i. situation_of (e i) (f i) (g i)

pub situations_more : (c : Circuit) (base n m : ℕ) (v : ℕ → Bool) → n ≡ suc m
    → situations_in c base n v ≡ situation_in c base v ∷ situations_in c (base + block_size c) m v
situations_more c base n m v e = ap (λ k. situations_in c base k v) e
