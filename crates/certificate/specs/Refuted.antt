-- What the refutation of a certificate refutes: skeletons of its property; or, behind reach entries alone, states that have a
-- literal. Where the entries hold every state of every run, no run comes to a state that has it.
use Rattle.std.specs.Prelude.{ℕ, Bool, true, false, List, [], ◌∷◌, ◌++◌}
use Rattle.std.specs.List.{All, flat_map}
use Rattle.aig_semantics.specs.Circuits.{Circuit}
use Rattle.proof_semantics.specs.declared.literals.Lit.{Lit}
use Rattle.proof_semantics.specs.Proofs.{Refutes}
use Rattle.fair_semantics.specs.declared.entries.Kind.{Kind}
use Rattle.fair_semantics.specs.declared.entries.Kind.TheVariants.{Reach, Wall}
use Rattle.fair_semantics.specs.declared.entries.Use.{Use}
use Rattle.fair_semantics.specs.Entries.{Entry, Numbered, used_entries, IsSigned, AreClosed}
use Rattle.cnf_unroll.specs.Numbers.{state_place, clause_at_place, set_at_place}
use Rattle.cnf_unroll.specs.Obligations.{skeleton_clauses}
use Rattle.entry.specs.Proved.{IsGoodRefutation}
pub use Rattle.certificate.specs.declared.state.Refuted.{Refuted}
use Rattle.certificate.specs.declared.state.Refuted.TheVariants.{Skeletons, States}

-- the clauses of the used reach entries at the state of the first block, and then that this state has the literal
abbrev pub state_clauses : Circuit → Lit → List Numbered → List (List Lit)
state_clauses c literal uses =
    flat_map (λ u. set_at_place (state_place c 0) u.entry.clauses) uses ++ clause_at_place (state_place c 0) (literal ∷ []) ∷ []

-- A good refutation of the states that have the literal, over a list of reach entries: its uses are closed and name no side, and its
-- proof refutes these clauses.
pub record IsStateRefutation (c : Circuit) (literal : Lit) (entries : List Entry) (uses : List Use) (proof : List (List ℕ)) : Type 0 where
  pub closed : AreClosed entries uses
  pub unsigned : All (λ u. IsSigned u → ⊥) uses
  pub refutes : Refutes (state_clauses c literal (used_entries entries uses)) proof

-- the clauses that the proof of a refutation for property n refutes
abbrev pub refuted_clauses : Circuit → Refuted → ℕ → List Numbered → List (List Lit)
refuted_clauses c Skeletons n uses = skeleton_clauses c n uses
refuted_clauses c (States literal) n uses = state_clauses c literal uses

-- a good refutation for property n
abbrev pub IsRefutation : Circuit → Refuted → List Entry → ℕ → List Use → List (List ℕ) → Type 0
IsRefutation c Skeletons entries n uses proof = IsGoodRefutation c entries n uses proof
IsRefutation c (States literal) entries n uses proof = IsStateRefutation c literal entries uses proof

-- an entry of this kind may stand before such a refutation
abbrev pub may_open : Refuted → Kind → Bool
may_open Skeletons kind = true
may_open (States literal) Reach = true
may_open (States literal) Wall = false
