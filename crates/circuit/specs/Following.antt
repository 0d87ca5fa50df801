-- How a lasso is gone along, in computed forms of what it must meet (scaffolding).
use Rattle.std.specs.Prelude.{◌≡◌, ℕ, ◌==◌, Bool, true, false, ◌&&◌, ◌||◌, List, [], ◌∷◌, length, take, drop, replicate, IsTrue}
use Rattle.std.specs.List.{list_all}
use Rattle.aig_semantics.specs.declared.parts.Latch.{Latch}
use Rattle.aig_semantics.specs.Literals.{literal_in}
use Rattle.aig_semantics.specs.Circuits.{Circuit}
use Rattle.aig_semantics.specs.Valuations.{valuation}
use Rattle.aig_semantics.specs.Runs.{agrees_with, position_of, successor}
use Rattle.aig_semantics.specs.Stimuli.{state_after}

-- each value agrees with the reset of its latch, and there is one for each
abbrev pub all_agree : List Latch → List Bool → Bool
all_agree [] [] = true
all_agree [] (b ∷ values) = false
all_agree (latch ∷ latches) [] = false
all_agree (latch ∷ latches) (b ∷ values) = agrees_with latch.reset b && all_agree latches values

-- which literals have been seen true, after these values too
abbrev pub seen_with : List Bool → List ℕ → List Bool → List Bool
seen_with values [] seen = []
seen_with values (literal ∷ literals) [] = []
seen_with values (literal ∷ literals) (b ∷ seen) = (b || literal_in values literal) ∷ seen_with values literals seen

-- each list of inputs has a value for each input, and the constraints are true at each position
unfoldable pub follows : Circuit → List Bool → List (List Bool) → Bool
follows c latches [] = true
follows c latches (now ∷ later) =
    (length now == length c.inputs) && list_all (λ literal. literal_in (valuation c latches now) literal) c.constraints
    && follows c (successor c (position_of latches now)) later

-- which literals have been seen true, after these inputs
unfoldable pub seen_after : Circuit → List Bool → List (List Bool) → List ℕ → List Bool → List Bool
seen_after c latches [] literals seen = seen
seen_after c latches (now ∷ later) literals seen =
    seen_after c (successor c (position_of latches now)) later literals (seen_with (valuation c latches now) literals seen)

-- the latches at a place
abbrev pub state_at : Circuit → List Bool → List (List Bool) → ℕ → List Bool
state_at c start inputs from = state_after c start (take from inputs)

-- a lasso that is followed to its end: it steps back to the state at its place, and all literals are seen from there on
pub record IsFollowed (c : Circuit) (start : List Bool) (inputs : List (List Bool)) (from : ℕ) (literals : List ℕ) : Type 0 where
  pub stem : IsTrue (follows c start (take from inputs))
  pub loop : IsTrue (follows c (state_at c start inputs from) (drop from inputs))
  pub closes : state_after c (state_at c start inputs from) (drop from inputs) ≡ state_at c start inputs from
  pub seen : IsTrue (list_all (λ b. b) (seen_after c (state_at c start inputs from) (drop from inputs) literals (replicate (length literals) false)))
