-- The clauses that the solver of a search begins with (scaffolding).
use Rattle.std.specs.Prelude.{◌≡◌, ℕ, List, [], ◌++◌, length, drop}
use Rattle.std.specs.List.{AllByRecursion}
use Rattle.aig_semantics.specs.Circuits.{Circuit}
use Rattle.fair_semantics.specs.Entries.{Entry}
use Rattle.proof_semantics.specs.declared.literals.Lit.{Lit}
use Rattle.ic3_semantics.specs.Stepping.{Stepping, IsOver}
use Rattle.ic3_semantics.specs.declared.lemmas.Lemma.{Lemma}
use Rattle.ic3_semantics.specs.declared.questions.Start.{Start}
use Rattle.ic3.specs.SteppingInside.{Grows, MeetAlike, IsHeldBy}
use Rattle.ic3.specs.declared.stepping_questions.Questions.{Questions}

-- Clauses of the base, and behind them these.
pub record HasBegun (base denials added : List (List Lit)) : Type 0 where
  pub front : List (List Lit)
  pub grows : Grows base [] front
  pub all : added ≡ front ++ denials

-- the solver of a search, by its parts
abbrev pub stepping_of : Circuit → List Entry → Start → List (List Lit) → List Lemma → Stepping
stepping_of c view start avoid lemmas =
    record { question = record { circuit = c; view = view; start = start }; avoid = avoid; lemmas = lemmas }

-- What was held is held still, with these lemmas behind the others.
abbrev pub HoldsAll : List Lemma → Questions → Questions → Type 0
HoldsAll lemmas old new =
    (st : Stepping) → IsHeldBy st old
    → AllByRecursion (λ lemma. IsOver (length st.question.circuit.latches) lemma.clause) lemmas
    → IsHeldBy (record { question = st.question; avoid = st.avoid; lemmas = st.lemmas ++ lemmas }) new

-- Of the lemmas before a place some came; together with those from the place on they say what all say.
pub record IsHeldUpTo (lemmas : List Lemma) (place : ℕ) (old new : Questions) : Type 0 where
  pub kept : List Lemma
  pub same : MeetAlike (kept ++ drop place lemmas) lemmas
  pub among : (n : ℕ) → AllByRecursion (λ lemma. IsOver n lemma.clause) lemmas
      → AllByRecursion (λ lemma. IsOver n lemma.clause) kept
  pub holds : HoldsAll kept old new
