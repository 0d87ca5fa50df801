-- What propagating does to frames (scaffolding but for `Narrows`): a lemma that holds after each step from its frame goes into the next one
-- (IC3: Bradley, 2011).
use Rattle.std.specs.Prelude.{◌≡◌, ℕ, ◌+◌, ◌<◌, ◌≤◌, Bool, true, List, [], length, drop, slice_index_or}
use Rattle.std.specs.List.{All}
use Rattle.proof_semantics.specs.declared.literals.Lit.{Lit}
use Rattle.ic3_frames.specs.Frames.{frame_at, own_lemmas, put_at}
use Rattle.ic3_frames.specs.Room.{room, allowed_by}
use Rattle.ic3_semantics.specs.Searching.{Question}
use Rattle.ic3_semantics.specs.Stepping.{Stepping}
use Rattle.ic3_loops.specs.Sound.{IsSearch, KeepsQuestion, AreStuck}
use Rattle.ic3_frames.specs.Witnessing.{IsStuck}

-- the frames up to level k allow the states that they allowed
abbrev pub AllowBelow : List (List (List Lit)) → List (List (List Lit)) → ℕ → Type 0
AllowBelow old new k = (i : ℕ) (s : List Bool) → i ≤ k → allowed_by (frame_at new i) s ≡ allowed_by (frame_at old i) s

-- The lemma at a place of a level went to the next level.
pub record IsPushed (old new : List (List (List Lit))) (level place : ℕ) : Type 0 where
  pub lists : new ≡ put_at old (level + 1) (slice_index_or (own_lemmas old level) place [])
  pub below : AllowBelow old new level

-- the lemmas of a level from a place on are stuck
abbrev pub StuckFrom : Question → List (List (List Lit)) → ℕ → ℕ → Type 0
StuckFrom q levels level place = All (IsStuck q levels level) (drop place (own_lemmas levels level))

-- The lemma at a place was tried: it is stuck, or gone, and those behind it are stuck still.
abbrev pub IsTried : Question → List (List (List Lit)) → List (List (List Lit)) → ℕ → ℕ → Type 0
IsTried q old new level place = StuckFrom q old level (place + 1) → StuckFrom q new level place

-- what the new frames allow, the old ones allowed
abbrev pub Narrows : List (List (List Lit)) → List (List (List Lit)) → Type 0
Narrows old new = (k : ℕ) (s : List Bool) → allowed_by (frame_at new k) s ≡ true → allowed_by (frame_at old k) s ≡ true

-- what was stuck below a level is stuck
abbrev pub StayStuck : Question → List (List (List Lit)) → List (List (List Lit)) → ℕ → Type 0
StayStuck q old new level = (k : ℕ) → k < level → AreStuck q old k → AreStuck q new k

-- the lemmas of each level above level 0 and below the last are stuck
abbrev pub AllStuck : Question → List (List (List Lit)) → Type 0
AllStuck q levels = (k : ℕ) → 1 ≤ k → k + 1 < length levels → AreStuck q levels k

-- The search goes on over as many frames, which allow no more and have no more room.
pub record IsNarrower (starts : List Lit) (old new : Stepping) (before after : List (List (List Lit))) : Type 0 where
  pub search : IsSearch starts new after
  pub question : KeepsQuestion old new
  pub number : length after ≡ length before
  pub narrows : Narrows before after
  pub room : room (length old.question.circuit.latches) after ≤ room (length old.question.circuit.latches) before
