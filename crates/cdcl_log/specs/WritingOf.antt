-- Scaffolding of inner functions. What a proof is, as far as it is written, and the steps that write it.
use Rattle.std.specs.Prelude.{◌≡◌, ℕ, ◌+◌, ◌<◌, ◌≤◌, ◌^◌, true, List, [], ◌∷◌, ◌++◌, Option, None, Some, nat_lt, nat_eq, if◌then◌else◌, ◌⊎◌}
use Rattle.std.specs.List.{list_all}
use Rattle.proof_semantics.specs.Lines.{text_of}
use Rattle.proof_semantics.specs.declared.literals.Lit.{Lit}
use Rattle.cdcl_log.specs.LoggedClauses.{LoggedClauses}
use Rattle.cdcl_log.specs.IdsOf.{id_in}
use Rattle.cdcl_log.specs.Writing.{line_by, IsPartialProof}
use Rattle.cdcl_log.specs.declared.writing.Writing.{Writing}

abbrev pub IsPartialProofIn : LoggedClauses → Writing → Type 0
IsPartialProofIn logged w = IsPartialProof logged (id_in w.ids) w.lines.items w.last

-- the clauses with these numbers have ids
abbrev pub HaveIds : Writing → List ℕ → Type 0
HaveIds w hints = list_all (λ n. nat_lt 0 (id_in w.ids n)) hints ≡ true

-- the first clauses, so many of them, have ids
abbrev pub HasAllIds : ℕ → Writing → Type 0
HasAllIds count w = (n : ℕ) → 0 < n → n ≤ count → nat_lt 0 (id_in w.ids n) ≡ true

-- a line more
pub record HasLine (old new : Writing) (clause : List Lit) (hints : List ℕ) : Type 0 where
  pub small : old.last < 2 ^ 62
  pub ids : (n : ℕ) → id_in new.ids n ≡ id_in old.ids n
  pub lines : new.lines.items ≡ old.lines.items ++ text_of (line_by (id_in old.ids) (old.last + 1) clause hints) ∷ []
  pub last : new.last ≡ old.last + 1

-- a line more, whose id a clause has from now on
pub record HasPut (old new : Writing) (number : ℕ) (clause : List Lit) (hints : List ℕ) : Type 0 where
  pub small : old.last < 2 ^ 62
  pub ids : (n : ℕ) → id_in new.ids n ≡ (if nat_eq number n then old.last + 1 else id_in old.ids n)
  pub lines : new.lines.items ≡ old.lines.items ++ text_of (line_by (id_in old.ids) (old.last + 1) clause hints) ∷ []
  pub last : new.last ≡ old.last + 1

-- Nothing changed, or a line came that follows along hints with ids; the clause has an id where its hints have.
pub record HasVisitedLearned (old new : Writing) (number : ℕ) (clause : List Lit) (hints : List ℕ) : Type 0 where
  pub step : (new ≡ old) ⊎ (HaveIds old hints × HasPut old new number clause hints)
  pub done : HaveIds old hints → nat_lt 0 (id_in new.ids number) ≡ true

-- the same of a clause that may be added
abbrev pub HasVisited : Writing → Writing → ℕ → Option (List ℕ) → List Lit → Type 0
HasVisited old new number None clause = new ≡ old
HasVisited old new number (Some hints) clause = HasVisitedLearned old new number clause hints
