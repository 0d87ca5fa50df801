-- Frames of IC3 (Bradley, 2011), kept as lists of lemmas: for each level those that the next one has not.
use Rattle.std.specs.Prelude.{◌≡◌, ℕ, zero, suc, ◌+◌, ◌<◌, Bool, true, false, not, List, [], ◌∷◌, ◌++◌, length, drop, filter, slice_index_or, if◌then◌else◌}
use Rattle.std.specs.List.{list_any, flat_map}
use Rattle.std.specs.Cmp.Lexicographic.{pointwise}
use Rattle.proof_semantics.specs.declared.literals.Lit.{Lit}
use Rattle.proof_semantics.specs.Clauses.{lit_eq, is_part}

-- the same literals in the same order
abbrev pub same_clause : List Lit → List Lit → Bool
same_clause = pointwise lit_eq

-- the clause is one of these
abbrev pub has_clause : List (List Lit) → List Lit → Bool
has_clause clauses c = list_any (same_clause c) clauses

-- the lemmas of level k that the next level has not
abbrev pub own_lemmas : List (List (List Lit)) → ℕ → List (List Lit)
own_lemmas levels k = slice_index_or levels k []

-- a frame: the lemmas of its level and of all above it
abbrev pub frame_at : List (List (List Lit)) → ℕ → List (List Lit)
frame_at levels k = flat_map (λ own. own) (drop k levels)

-- Which lemmas of level n stay where c comes to this level or to one above it: at level 0 all but c itself, at a higher one
-- those of which c is no part; the others c implies.
abbrev pub stays : ℕ → List Lit → List Lit → Bool
stays zero c lemma = not (same_clause c lemma)
stays (suc n) c lemma = not (is_part c lemma)

-- The lemma goes to the end of level k, and from this level and those below goes what does not stay. The first level here
-- is level n.
abbrev pub put_from : ℕ → List (List (List Lit)) → ℕ → List Lit → List (List (List Lit))
put_from n [] k lemma = []
put_from n (own ∷ levels) zero lemma = (filter (stays n lemma) own ++ lemma ∷ []) ∷ levels
put_from n (own ∷ levels) (suc k) lemma = filter (stays n lemma) own ∷ put_from (suc n) levels k lemma

abbrev pub put_at : List (List (List Lit)) → ℕ → List Lit → List (List (List Lit))
put_at levels k lemma = put_from 0 levels k lemma

-- the same, unless the frame of that level has it
abbrev pub with_lemma : List (List (List Lit)) → ℕ → List Lit → List (List (List Lit))
with_lemma levels k lemma = if has_clause (frame_at levels k) lemma then levels else put_at levels k lemma

-- frame k has a lemma that the next has not
abbrev pub HasOwn : List (List (List Lit)) → ℕ → Type 0
HasOwn levels k =
    (lemma : List Lit) × ((has_clause (frame_at levels k) lemma ≡ true) × (has_clause (frame_at levels (k + 1)) lemma ≡ false))

-- each frame that has a next has a lemma that the next has not
abbrev pub AllDiffer : List (List (List Lit)) → Type 0
AllDiffer levels = (k : ℕ) → k + 1 < length levels → HasOwn levels k
