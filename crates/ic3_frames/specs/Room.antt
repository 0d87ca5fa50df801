-- The room that is left for lemmas and frames: a bound on the steps of a search by frames (IC3: Bradley, 2011), by the
-- states that the frames allow.
use Rattle.std.specs.Prelude.{◌≡◌, ℕ, zero, suc, ◌+◌, ◌-◌, ◌*◌, ◌^◌, ◌<◌, ◌≤◌, Bool, true, false, List, [], ◌∷◌, ◌++◌, length, if◌then◌else◌}
use Rattle.proof_semantics.specs.declared.literals.Lit.{Lit}
use Rattle.proof_semantics.specs.Clauses.{clause_value, clauses_value, values_of}
use Rattle.ic3_frames.specs.Frames.{frame_at, with_lemma}

-- how many states of n latches pass the test
abbrev pub count_states : ℕ → (List Bool → Bool) → ℕ
count_states zero test = if test [] then 1 else 0
count_states (suc n) test = count_states n (λ s. test (true ∷ s)) + count_states n (λ s. test (false ∷ s))

-- the states that a list of clauses allows
abbrev pub allowed_by : List (List Lit) → List Bool → Bool
allowed_by clauses s = clauses_value (values_of s) clauses

-- how many states the frames allow, all frames together
abbrev pub total : ℕ → List (List (List Lit)) → ℕ
total n [] = 0
total n (own ∷ levels) = count_states n (allowed_by (frame_at (own ∷ levels) 0)) + total n levels

-- the states that are left in the frames, and more than a frame can have for each frame that may still be opened
unfoldable pub room : ℕ → List (List (List Lit)) → ℕ
room n levels = total n levels + (2 ^ n + 2 - length levels) * (2 ^ n + 1)

-- A lemma that excludes a state which its frame allows takes room.
abbrev pub LemmasTakeRoom : Type 0
LemmasTakeRoom =
    (n : ℕ) (levels : List (List (List Lit))) (k : ℕ) (lemma : List Lit) (s : List Bool)
    → k < length levels → length s ≡ n → allowed_by (frame_at levels k) s ≡ true → clause_value (values_of s) lemma ≡ false
    → room n (with_lemma levels k lemma) + 1 ≤ room n levels

-- A lemma that is put into a frame makes no room.
abbrev pub LemmasMakeNoRoom : Type 0
LemmasMakeNoRoom =
    (n : ℕ) (levels : List (List (List Lit))) (k : ℕ) (lemma : List Lit)
    → k < length levels → room n (with_lemma levels k lemma) ≤ room n levels

-- A frame that is opened takes room, while there are at most 2^n + 1 frames.
abbrev pub FramesTakeRoom : Type 0
FramesTakeRoom =
    (n : ℕ) (levels : List (List (List Lit)))
    → length levels < 2 ^ n + 2 → room n (levels ++ [] ∷ []) + 1 ≤ room n levels

-- two lists of clauses allow the same states of n latches
abbrev pub AllowTheSame : ℕ → List (List Lit) → List (List Lit) → Type 0
AllowTheSame n these those = (s : List Bool) → length s ≡ n → allowed_by these s ≡ allowed_by those s

-- no two neighbouring frames allow the same states
abbrev pub NeighboursDiffer : ℕ → List (List (List Lit)) → Type 0
NeighboursDiffer n levels =
    (k : ℕ) → k + 1 < length levels → AllowTheSame n (frame_at levels k) (frame_at levels (k + 1)) → ⊥

-- Where no two neighbouring frames allow the same states, there are at most 2^n + 1 frames.
abbrev pub DifferingAreFew : Type 0
DifferingAreFew = (n : ℕ) (levels : List (List (List Lit))) → NeighboursDiffer n levels → length levels ≤ 2 ^ n + 1

-- The room before any frame.
abbrev pub FirstRoom : Type 0
FirstRoom = (n : ℕ) → room n [] ≡ (2 ^ n + 2) * (2 ^ n + 1)
