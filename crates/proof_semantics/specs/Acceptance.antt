-- Which lines are accepted, as a relation between the clauses that are held, the bytes of a line, and what is held
-- after it: LRAT (Cruz-Filipe, Heule, Hunt, Kaufmann, Schneider-Kamp, 2017) without its RAT steps.
use Rattle.std.specs.Prelude.{◌≡◌, ◌≢◌, ℕ, ◌<◌, ◌↔◌, true, All, Contains, List, [], ◌∷◌, ◌++◌, map, Some, Ok, IsSome}
use Rattle.proof_semantics.specs.Clauses.{negation}
use Rattle.proof_semantics.specs.Lines.{Line, addition, deletion, HasSizes, text_of}
use Rattle.proof_semantics.specs.Proofs.{ProofState, clause_at, with_addition, with_deletion, ids_of, judge}
use Rattle.proof_semantics.specs.declared.literals.Lit.{Lit}

-- a literal is false where its negation is assumed
abbrev pub IsFalse : List Lit → Lit → Type 0
IsFalse assumed a = Contains assumed (negation a)

-- The literal is the only one of the clause that is not false.
pub record IsUnit (assumed clause : List Lit) (a : Lit) : Type 0 where
  pub inside : Contains clause a
  pub unfalsified : ¬ (IsFalse assumed a)
  pub others : (b : Lit) → Contains clause b → b ≢ a → IsFalse assumed b

-- Each hint but the last names a held clause with one literal that is not false, and that literal is assumed from
-- then on. All literals of the last hint's clause are false.
abbrev pub EndsInConflict : List (ℕ × List Lit) → List Lit → List ℕ → Type 0
EndsInConflict held assumed [] = ⊥
EndsInConflict held assumed (id ∷ []) =
    (clause : List Lit) × (clause_at held id ≡ Some clause) × All (IsFalse assumed) clause
EndsInConflict held assumed (id ∷ next ∷ ids) =
    (clause : List Lit) × (clause_at held id ≡ Some clause)
    × ((a : Lit) × IsUnit assumed clause a × EndsInConflict held (assumed ++ a ∷ []) (next ∷ ids))

-- An addition has an id above all earlier ones, no negative hint, and hints that end in a conflict where the negations
-- of its literals are assumed; its clause is held from then on. A deletion names clauses that are held, and these are
-- held no more.
abbrev pub Accepts : ProofState → Line → ProofState → Type 0
Accepts s (addition id clause hints) t =
    (s.last < id) × All (λ hint. hint.positive ≡ true) hints × EndsInConflict s.held (map negation clause) (ids_of hints)
    × (t ≡ with_addition s id clause)
Accepts s (deletion id ids) t = All (λ held_id. IsSome (clause_at s.held held_id)) ids × (t ≡ with_deletion s ids)

-- The judgement accepts exactly the lines that are accepted by this relation.
abbrev pub JudgesAccepted : Type 0
JudgesAccepted =
    (s t : ProofState) (bytes : List ℕ)
    → (judge s bytes ≡ Ok t) ↔ ((line : Line) × (HasSizes line × (bytes ≡ text_of line)) × Accepts s line t)
