-- Scaffolding: what an arena keeps, for the clauses of inner functions.
use Rattle.std.specs.Prelude.{◌≡◌, ℕ, suc, ◌+◌, ◌<◌, ◌≤◌, Bool, not, List, [], ◌∷◌, length, map, slice_index, slice_index_or, slice_range, if◌then◌else◌, ◌==◌}
use Rattle.proof_semantics.specs.Proofs.{is_empty}
use Rattle.proof_semantics.specs.declared.literals.Lit.{Lit}
use Rattle.lrat.specs.declared.arena.Arena.{Arena}
use Rattle.lrat.specs.declared.arena.Place.{Place}

-- the literals of the clause at a place
abbrev pub clause_in : List Lit → Place → List Lit
clause_in literals place = slice_range literals place.start place.end

abbrev pub clauses_at : List Lit → List Place → List (List Lit)
clauses_at literals places = map (clause_in literals) places

abbrev pub clauses_in : Arena → List (List Lit)
clauses_in arena = clauses_at arena.literals.items arena.places.items

abbrev pub ids_at : List Place → List ℕ
ids_at places = map (λ p. p.id) places

-- which clauses are held in a round
abbrev pub flags_at : ℕ → List Place → List Bool
flags_at round places = map (λ p. not (p.deleted == round)) places

-- how many clauses stand in front of the first empty one
abbrev pub filled_front : List (List Lit) → ℕ
filled_front [] = 0
filled_front (clause ∷ clauses) = if is_empty clause then 0 else suc (filled_front clauses)

-- how many literals the clauses have
abbrev pub literal_count : List (List Lit) → ℕ
literal_count [] = 0
literal_count (clause ∷ clauses) = length clause + literal_count clauses

-- the clauses stand one behind the other
pub record IsPacked (literals : List Lit) (places : List Place) : Type 0 where
  pub forward : (i : ℕ) (d : Place) → i < length places → (slice_index_or places i d).start ≤ (slice_index_or places i d).end
  pub inside : (i : ℕ) (d : Place) → i < length places → (slice_index_or places i d).end ≤ length literals
  pub apart : (i j : ℕ) (d : Place) → i < j → j < length places → (slice_index_or places i d).end ≤ (slice_index_or places j d).start

-- so many of the ids are the numbers of their places, from 1 on
abbrev pub AreNumbered : ℕ → List Place → Type 0
AreNumbered count places = (k : ℕ) → k < count → slice_index (ids_at places) k ≡ k + 1

-- no place was deleted in the round, or later
abbrev pub AreDeletedBelow : ℕ → List Place → Type 0
AreDeletedBelow round places = (i : ℕ) (d : Place) → i < length places → (slice_index_or places i d).deleted < round

-- All ids are the numbers of their places, and so many clauses stand in front of the first empty one.
pub record IsGiven (arena : Arena) (filled : ℕ) : Type 0 where
  pub packed : IsPacked arena.literals.items arena.places.items
  pub numbered : AreNumbered (length arena.places.items) arena.places.items
  pub front : filled ≡ filled_front (clauses_in arena)
