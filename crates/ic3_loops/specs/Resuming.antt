-- What a search goes on from (scaffolding): frames that are sound for its question, or none; and their lemmas as a solver
-- has them.
use Rattle.std.specs.Prelude.{ℕ, ◌+◌, ◌<◌, ◌≤◌, List, [], ◌∷◌, ◌++◌, map, length}
use Rattle.proof_semantics.specs.declared.literals.Lit.{Lit}
use Rattle.ic3_semantics.specs.declared.lemmas.Lemma.{Lemma}
use Rattle.ic3_semantics.specs.Searching.{Question}
use Rattle.ic3_loops.specs.Sound.{IsSound}

-- at least two frames, which are sound
pub record AreOpen (q : Question) (cube : List Lit) (levels : List (List (List Lit))) : Type 0 where
  pub two : 2 ≤ length levels
  pub sound : IsSound q cube levels

-- such frames, or none
abbrev pub MayGoOn : Question → List Lit → List (List (List Lit)) → Type 0
MayGoOn q cube levels = 0 < length levels → AreOpen q cube levels

-- lemmas as a solver has them: those of one level, and of all from level n on
abbrev pub placed : ℕ → List (List Lit) → List Lemma
placed level own = map (λ c. record { level = level; clause = c }) own

abbrev pub all_placed : ℕ → List (List (List Lit)) → List Lemma
all_placed n [] = []
all_placed n (own ∷ levels) = placed n own ++ all_placed (n + 1) levels
