-- What frames mean, and what becomes of it where a lemma is put into one (IC3: Bradley, 2011).
use Rattle.std.specs.Prelude.{◌≡◌, ℕ, ◌+◌, ◌<◌, ◌≤◌, ◌&&◌, Bool, true, List, [], ◌∷◌, ◌++◌, length}
use Rattle.proof_semantics.specs.declared.literals.Lit.{Lit}
use Rattle.proof_semantics.specs.Clauses.{clause_value, clauses_value}
use Rattle.ic3_frames.specs.Frames.{frame_at, with_lemma}

-- What a frame allows, the next one allows.
abbrev pub FramesGrow : Type 0
FramesGrow =
    (levels : List (List (List Lit))) (k : ℕ) (v : ℕ → Bool)
    → clauses_value v (frame_at levels k) ≡ true → clauses_value v (frame_at levels (k + 1)) ≡ true

-- A lemma that is put into frame n restricts this frame and those below.
abbrev pub LemmasRestrict : Type 0
LemmasRestrict =
    (levels : List (List (List Lit))) (n : ℕ) (lemma : List Lit) (k : ℕ) (v : ℕ → Bool)
    → n < length levels → k ≤ n
    → clauses_value v (frame_at (with_lemma levels n lemma) k) ≡ (clauses_value v (frame_at levels k) && clause_value v lemma)

-- The frames above stay, and so does the number of frames.
abbrev pub AboveStay : Type 0
AboveStay =
    (levels : List (List (List Lit))) (n : ℕ) (lemma : List Lit) (k : ℕ)
    → n < k → frame_at (with_lemma levels n lemma) k ≡ frame_at levels k

abbrev pub NumberStays : Type 0
NumberStays =
    (levels : List (List (List Lit))) (n : ℕ) (lemma : List Lit) → length (with_lemma levels n lemma) ≡ length levels

-- A frame that is opened has no lemmas, and the others stay.
abbrev pub OpenedStay : Type 0
OpenedStay = (levels : List (List (List Lit))) (k : ℕ) → frame_at (levels ++ [] ∷ []) k ≡ frame_at levels k
