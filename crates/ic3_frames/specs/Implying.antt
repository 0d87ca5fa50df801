-- A lemma that others imply (IC3: Bradley, 2011).
use Rattle.std.specs.Prelude.{◌≡◌, ℕ, ◌+◌, Bool, true, List, [], ◌∷◌, drop}
use Rattle.ic3_semantics.specs.Stepping.{meets_from}
use Rattle.ic3_semantics.specs.declared.lemmas.Lemma.{Lemma}

-- A state that meets the lemmas behind a place from a level on meets this one.
abbrev pub IsImpliedBehind : List Lemma → ℕ → Lemma → Type 0
IsImpliedBehind lemmas place lemma =
    (level : ℕ) (state : List Bool) → meets_from (drop (place + 1) lemmas) level state ≡ true
    → meets_from (lemma ∷ []) level state ≡ true
