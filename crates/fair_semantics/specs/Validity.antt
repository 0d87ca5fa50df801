-- When an entry is valid over the entries before it, in terms of states; after the inductive sets of IC3 (Bradley,
-- 2011) and the walls of FAIR (Bradley, Somenzi, Hassan, Zhang, 2011).
use Rattle.std.specs.Prelude.{◌≡◌, Bool, true, List, [], ◌∷◌, ◌++◌}
use Rattle.std.specs.List.{All}
use Rattle.aig_semantics.specs.Circuits.{Circuit}
use Rattle.aig_semantics.specs.Runs.{IsInitial}
use Rattle.fair_semantics.specs.declared.entries.Kind.TheVariants.{Reach}
use Rattle.fair_semantics.specs.States.{IsStep}
use Rattle.fair_semantics.specs.Entries.{Entry, used_entries, entry_at, set_at, set_over, AreClosed}
use Rattle.fair_semantics.specs.Allowing.{all_allow}

-- the set of an entry that stands behind these
abbrev pub set_behind : List Entry → Entry → List Bool → Bool
set_behind before e = set_over (set_at before) e

-- no step that the used entries allow leaves the set
abbrev pub NoStepLeaves : Circuit → (List (List Bool) → Bool) → (List Bool → Bool) → Type 0
NoStepLeaves c allowed set =
    (s t : List Bool) → IsStep c s t → allowed (s ∷ t ∷ []) ≡ true → set s ≡ true → set t ≡ true

-- The set of a reach entry holds every initial state, and the entry uses reach entries alone.
pub record IsReachBase (c : Circuit) (before : List Entry) (e : Entry) : Type 0 where
  pub initial : (s : List Bool) → IsInitial c s → set_behind before e s ≡ true
  pub uses : All (λ u. (entry_at before u.entry).kind ≡ Reach) e.uses

-- Behind these entries the entry is valid: its uses are closed, no step that they allow leaves its set, and what is
-- asked of a reach entry is so.
pub record IsValid (c : Circuit) (before : List Entry) (e : Entry) : Type 0 where
  pub uses : AreClosed before e.uses
  pub closed : NoStepLeaves c (all_allow (set_at before) (used_entries before e.uses)) (set_behind before e)
  pub reach : e.kind ≡ Reach → IsReachBase c before e

-- each entry is valid behind those before it
abbrev pub AreValidBehind : Circuit → List Entry → List Entry → Type 0
AreValidBehind c before [] = Unit {0}
AreValidBehind c before (e ∷ entries) = IsValid c before e × AreValidBehind c (before ++ e ∷ []) entries

abbrev pub AreValid : Circuit → List Entry → Type 0
AreValid c entries = AreValidBehind c [] entries
