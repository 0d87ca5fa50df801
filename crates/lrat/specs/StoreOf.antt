-- Scaffolding: where a proof stands, by what a store keeps.
use Rattle.std.specs.Prelude.{◌≡◌, ℕ, ◌+◌, ◌-◌, ◌<◌, ◌≤◌, Bool, List, [], ◌∷◌, length, take, slice_index, if◌then◌else◌}
use Rattle.proof_semantics.specs.Proofs.{ProofState}
use Rattle.proof_semantics.specs.declared.literals.Lit.{Lit}
use Rattle.lrat.specs.Ascending.{Ascend}
use Rattle.lrat.specs.ArenaOf.{clauses_in, ids_at, flags_at, filled_front, IsPacked, AreNumbered, AreDeletedBelow}
use Rattle.lrat.specs.declared.store.Store.TheInside.{Inside}

-- the clauses that are held, each with its id
abbrev pub held_of : List ℕ → List Bool → List (List Lit) → List (ℕ × List Lit)
held_of [] flags clauses = []
held_of (id ∷ ids) [] clauses = []
held_of (id ∷ ids) (flag ∷ flags) [] = []
held_of (id ∷ ids) (flag ∷ flags) (clause ∷ clauses) =
    if flag then (id, clause) ∷ held_of ids flags clauses else held_of ids flags clauses

-- the last id, or 0
abbrev pub last_of : List ℕ → ℕ
last_of ids = slice_index ids (length ids - 1)

abbrev pub state_of : Inside → ProofState
state_of s = record {
  given = take s.given (clauses_in s.arena);
  held = held_of (ids_at s.arena.places.items) (flags_at s.round s.arena.places.items) (clauses_in s.arena);
  last = last_of (ids_at s.arena.places.items);
  finished = s.finished;
}

-- The ids ascend, those of given clauses are their places' numbers, and nothing was deleted in a later round.
pub record IsOrderly (s : Inside) : Type 0 where
  pub packed : IsPacked s.arena.literals.items s.arena.places.items
  pub given : s.given ≤ length s.arena.places.items
  pub ascending : Ascend (ids_at s.arena.places.items)
  pub numbered : AreNumbered s.given s.arena.places.items
  pub filled : s.filled ≡ filled_front (take s.given (clauses_in s.arena))
  pub rounds : AreDeletedBelow (s.round + 1) s.arena.places.items
  pub begun : 0 < s.round
