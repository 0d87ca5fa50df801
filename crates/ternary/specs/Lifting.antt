-- How a cube is lifted, latch by latch (scaffolding).
use Rattle.std.specs.Prelude.{◌≡◌, ◌≢◌, ℕ, zero, suc, ◌+◌, ◌<◌, ◌==◌, Bool, true, false, List, [], ◌∷◌, map, slice_index_or, slice_set, if◌then◌else◌}
use Rattle.std.specs.Int.{bit_at}
use Rattle.std.specs.List.{All, Any}
use Rattle.aig_semantics.specs.Circuits.{Circuit}
use Rattle.proof_semantics.specs.declared.literals.Lit.{Lit}
use Rattle.ternary.specs.declared.values.Value3.{Value3}
use Rattle.ternary.specs.declared.values.Value3.TheVariants.{Zero, One, X}
use Rattle.ternary.specs.Values.{known, literal3_in, IsCompletion}
use Rattle.ternary.specs.Simulation.{simulation}

-- every literal of these is 1
abbrev pub AreOne : List Value3 → List ℕ → Type 0
AreOne values keep = All (λ literal. literal3_in values literal ≡ One) keep

-- some literal of these is X
abbrev pub SomeIsX : List Value3 → List ℕ → Type 0
SomeIsX values keep = Any (λ literal. literal3_in values literal ≡ X) keep

-- A ternary state from which each latch below i would have been forgotten if it could: it tells nothing wrong of the
-- latches, the literals are 1, and where one more value below i is forgotten, one of them is X.
pub record IsLiftedTo (c : Circuit) (latches inputs : List Bool) (keep : List ℕ) (i : ℕ) (state : List Value3) :
    Type 0 where
  pub tells : IsCompletion state latches
  pub keeps : AreOne (simulation c state (map known inputs)) keep
  pub tight : (j : ℕ) → j < i → slice_index_or state j X ≢ X
      → SomeIsX (simulation c (slice_set state j X) (map known inputs)) keep

-- X where the bit is 1 and the latch is the one that is meant
abbrev pub hidden_one : ℕ → Bool → Value3 → Value3
hidden_one zero meant value = value
hidden_one (suc b) meant value = if meant then X else value

-- the state without the value of latch v, where the bit is 1
abbrev pub hide : ℕ → ℕ → List Value3 → List Value3
hide zero v state = state
hide (suc b) v state = slice_set state v X

-- the state without the values of those of n latches from i on whose bit in the word is 1
abbrev pub forgotten : ℕ → ℕ → ℕ → List Value3 → List Value3
forgotten word zero i state = state
forgotten word (suc n) i state = hide (bit_at word n) (i + n) (forgotten word n i state)

-- the value that latch v has then
abbrev pub hidden_at : ℕ → ℕ → ℕ → ℕ → Value3 → Value3
hidden_at word zero i v value = value
hidden_at word (suc n) i v value = hidden_one (bit_at word n) ((i + n) == v) (hidden_at word n i v value)

-- the literals of the values that are known, the first of which is that of latch n
abbrev pub literals_from : ℕ → List Value3 → List Lit
literals_from n [] = []
literals_from n (Zero ∷ values) = record { var = n; positive = false } ∷ literals_from (suc n) values
literals_from n (One ∷ values) = record { var = n; positive = true } ∷ literals_from (suc n) values
literals_from n (X ∷ values) = literals_from (suc n) values
