-- The laws of proved entries and good refutations. What they come to: a certificate leaves no fair lasso.
use Rattle.std.specs.Prelude.{◌≡◌, ◌↔◌, ℕ, ◌<◌, ◌++◌, false, List, [], ◌∷◌, length, None}
use Rattle.std.specs.List.{All}
use Rattle.aig_semantics.specs.declared.traces.Position.{Position}
use Rattle.aig_semantics.specs.Circuits.{Circuit}
use Rattle.aig_semantics.specs.Runs.{IsFairLasso}
use Rattle.fair_semantics.specs.declared.entries.Use.{Use}
use Rattle.fair_semantics.specs.declared.skeletons.Skeleton.{Skeleton}
use Rattle.fair_semantics.specs.Entries.{Entry, used_entries}
use Rattle.fair_semantics.specs.Allowing.{allow}
use Rattle.fair_semantics.specs.Skeletons.{IsSkeleton, places}
use Rattle.fair_semantics.specs.Validity.{IsValid, AreValid}
use Rattle.cnf_unroll.specs.Obligations.{skeleton_clauses}
use Rattle.cnf_unroll.specs.Laws.{AreOver}
use Rattle.entry.specs.Proved.{IsProved, IsGoodRefutation}
use Rattle.entry.specs.declared.uses.User.TheVariants.{Refutation}
use Rattle.entry.specs.Faults.{first_bad_use, proof_fault, first_fault}

-- Entries that are valid, each behind those before it, with clauses over the latches.
pub record IsGoodList (c : Circuit) (entries : List Entry) : Type 0 where
  pub valid : AreValid c entries
  pub over : All (λ e. AreOver (length c.latches) e.clauses) entries

-- An entry that is proved behind a good list is valid there.
abbrev pub ProvedIsValid : Circuit → Type 0
ProvedIsValid c =
    (before : List Entry) (e : Entry) (proofs : List (List (List ℕ))) → IsGoodList c before → IsProved c before e proofs → IsValid c before e

-- So lists that begin with none and take one proved entry after the other are good.
pub record GoodListsGrow (c : Circuit) : Type 0 where
  pub none : IsGoodList c []
  pub more : (before : List Entry) (e : Entry) (proofs : List (List (List ℕ))) → IsGoodList c before → IsProved c before e proofs
      → IsGoodList c (before ++ e ∷ [])

-- Over a good list a good refutation of a property means that the entries that it uses allow no skeleton of it,
abbrev pub RefutedAllowsNone : Circuit → Type 0
RefutedAllowsNone c =
    (entries : List Entry) (j : ℕ) (uses : List Use) (proof : List (List ℕ))
    → IsGoodList c entries → j < length c.justice → IsGoodRefutation c entries j uses proof
    → (skeleton : Skeleton) → IsSkeleton c j skeleton → allow (used_entries entries uses) (places skeleton) ≡ false

-- and so no initial run and place form a fair lasso of it.
abbrev pub RefutedHasNoLasso : Circuit → Type 0
RefutedHasNoLasso c =
    (entries : List Entry) (j : ℕ) (uses : List Use) (proof : List (List ℕ))
    → IsGoodList c entries → j < length c.justice → IsGoodRefutation c entries j uses proof
    → (run : List Position) (from : ℕ) → IsFairLasso c j run from → ⊥

-- An entry whose clauses are over the latches, with a proof for each clause, has no fault exactly where it is proved.
abbrev pub FaultlessIsProved : Circuit → Type 0
FaultlessIsProved c =
    (before : List Entry) (e : Entry) (proofs : List (List (List ℕ)))
    → AreOver (length c.latches) e.clauses → length proofs ≡ length e.clauses
    → ((first_fault c before e proofs ≡ None) ↔ IsProved c before e proofs)

-- A refutation has no bad use and no fault in its proof exactly where it is good.
abbrev pub FaultlessIsGood : Circuit → Type 0
FaultlessIsGood c =
    (entries : List Entry) (j : ℕ) (uses : List Use) (proof : List (List ℕ))
    → ((first_bad_use Refutation entries uses ≡ None) × (proof_fault (skeleton_clauses c j (used_entries entries uses)) proof ≡ None))
    ↔ IsGoodRefutation c entries j uses proof
