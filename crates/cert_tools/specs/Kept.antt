-- What is kept of a list, and what is reached from a number by steps to further ones.
use Rattle.std.specs.Prelude.{◌≡◌, ◌⊎◌, ℕ, List, [], ◌∷◌}

-- of the elements of a list exactly those are kept, in their order, of which P is so
abbrev pub Keeps : {X : Type 0} → (X → Type 0) → List X → List X → Type 0
Keeps P [] kept = kept ≡ []
Keeps {X} P (x ∷ xs) kept =
    (P x × ((rest : List X) × (kept ≡ x ∷ rest) × Keeps P xs rest)) ⊎ ((P x → ⊥) × Keeps P xs kept)

-- v is w, or a step leads from v to the first of these numbers, from each of them to the next, and the last of them is w
abbrev pub LeadsThrough : (ℕ → ℕ → Type 0) → ℕ → List ℕ → ℕ → Type 0
LeadsThrough Step v [] w = v ≡ w
LeadsThrough Step v (u ∷ through) w = Step v u × LeadsThrough Step u through w

-- steps, possibly none, lead from v to w
abbrev pub Reaches : (ℕ → ℕ → Type 0) → ℕ → ℕ → Type 0
Reaches Step v w = (through : List ℕ) × LeadsThrough Step v through w
