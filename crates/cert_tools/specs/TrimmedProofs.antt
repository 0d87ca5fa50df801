-- What trimming keeps of a proof in LRAT (Cruz-Filipe, Heule, Hunt, Kaufmann, Schneider-Kamp, 2017): the additions that its
-- first empty addition reaches through hints, itself among them, with their ids; no deletion, and no line where an empty
-- clause was given.
use Rattle.std.specs.Prelude.{◌≡◌, ◌⊎◌, ℕ, suc, true, false, List, [], ◌∷◌, Some}
use Rattle.std.specs.List.{Any, Contains, list_any}
use Rattle.proof_semantics.specs.declared.literals.Lit.{Lit}
use Rattle.proof_semantics.specs.Lines.{addition, line_of}
use Rattle.proof_semantics.specs.Proofs.{ids_of, is_empty}
use Rattle.cert_tools.specs.Kept.{Keeps, Reaches}

-- the line adds this clause under this id, by these hints
abbrev pub AddsClause : List ℕ → ℕ → List Lit → List Lit → Type 0
AddsClause line id clause hints = line_of line ≡ Some (addition id clause hints)

-- one of the lines is the addition v, and the id w stands among its hints
abbrev pub Hints : List (List ℕ) → ℕ → ℕ → Type 0
Hints lines v w =
    Any (λ line. (clause : List Lit) × (hints : List Lit) × AddsClause line v clause hints × Contains (ids_of hints) w) lines

-- the first of the lines that adds an empty clause adds it under this id
abbrev pub IsFirstEmpty : List (List ℕ) → ℕ → Type 0
IsFirstEmpty [] last = ⊥
IsFirstEmpty (line ∷ lines) last =
    ((hints : List Lit) × AddsClause line last [] hints)
    ⊎ (((id : ℕ) (hints : List Lit) → AddsClause line id [] hints → ⊥) × IsFirstEmpty lines last)

-- the line is an addition that the addition `last` reaches through hints
abbrev pub IsReachedLine : List (List ℕ) → ℕ → List ℕ → Type 0
IsReachedLine lines last line =
    (id : ℕ) × (clause : List Lit) × (hints : List Lit) × AddsClause line id clause hints × Reaches (Hints lines) last id

-- this is kept of a proof of these clauses
abbrev pub IsTrimmedProof : List (List Lit) → List (List ℕ) → List (List ℕ) → Type 0
IsTrimmedProof given lines kept =
    ((list_any is_empty given ≡ true) × (kept ≡ []))
    ⊎ ((list_any is_empty given ≡ false) × (last : ℕ) × IsFirstEmpty lines last × Keeps (IsReachedLine lines last) lines kept)

-- this is kept of the proofs of clause i and of those behind it
abbrev pub AreTrimmedProofs : (ℕ → List (List Lit)) → ℕ → List (List (List ℕ)) → List (List (List ℕ)) → Type 0
AreTrimmedProofs obligation i [] kept = kept ≡ []
AreTrimmedProofs obligation i (proof ∷ proofs) [] = ⊥
AreTrimmedProofs obligation i (proof ∷ proofs) (kept ∷ more) =
    IsTrimmedProof (obligation i) proof kept × AreTrimmedProofs obligation (suc i) proofs more
