-- How frames are kept (scaffolding).
use Rattle.std.specs.Prelude.{ℕ, zero, suc, ◌+◌, ◌≤◌, List, [], ◌∷◌, map, filter, if◌then◌else◌}
use Rattle.std.specs.HashSet.{HashSet}
use Rattle.proof_semantics.specs.declared.literals.Lit.{Lit}
use Rattle.ic3_frames.specs.Frames.{same_clause, frame_at, stays}

-- the keys of each set
abbrev pub keys_of : {S : Type 0} → List (HashSet (List Lit) S) → List (List (List Lit))
keys_of sets = map (λ set. set.keys) sets

-- how often the clause stands in the list
abbrev pub times : List Lit → List (List Lit) → ℕ
times c [] = 0
times c (d ∷ clauses) = (if same_clause c d then 1 else 0) + times c clauses

-- no lemma stands twice, in one level or in two
abbrev pub StandOnce : List (List (List Lit)) → Type 0
StandOnce levels = (c : List Lit) → times c (frame_at levels 0) ≤ 1

-- what does not stay beside the clause is taken out of the first k levels, of which the first is level n
abbrev pub taken_out : ℕ → List (List (List Lit)) → ℕ → List Lit → List (List (List Lit))
taken_out n levels zero c = levels
taken_out n [] (suc k) c = []
taken_out n (own ∷ levels) (suc k) c = filter (stays n c) own ∷ taken_out (suc n) levels k c
