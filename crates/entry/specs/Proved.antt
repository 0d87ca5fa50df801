-- Entries with their proofs, after the inductive sets of IC3 (Bradley, 2011) and the walls of FAIR (Bradley, Somenzi,
-- Hassan, Zhang, 2011), and refutations.
use Rattle.std.specs.Prelude.{◌≡◌, ℕ, ◌<◌, true, List, [], length, slice_index_or}
use Rattle.std.specs.List.{All, list_any}
use Rattle.aig_semantics.specs.Circuits.{Circuit}
use Rattle.proof_semantics.specs.declared.literals.Lit.{Lit}
use Rattle.proof_semantics.specs.Clauses.{has_literal}
use Rattle.proof_semantics.specs.Proofs.{Refutes}
use Rattle.fair_semantics.specs.declared.entries.Kind.TheVariants.{Reach}
use Rattle.fair_semantics.specs.declared.entries.Use.{Use}
use Rattle.fair_semantics.specs.States.{initial_cube}
use Rattle.fair_semantics.specs.Entries.{Entry, entry_at, used_entries, IsSigned, AreClosed}
use Rattle.cnf_unroll.specs.Obligations.{obligation_clauses, skeleton_clauses}
use Rattle.cnf_unroll.specs.Laws.{AreOver}

-- the clause holds a literal of the initial cube
abbrev pub holds_initial : Circuit → List Lit → Type 0
holds_initial c clause = list_any (has_literal (initial_cube c)) clause ≡ true

-- the obligation of clause i of an entry that stands behind these
abbrev pub obligation_of : Circuit → List Entry → Entry → ℕ → List (List Lit)
obligation_of c before e i = obligation_clauses c (used_entries before e.uses) e.uses e.clauses i

-- A proof for each clause, in the order of the clauses: it refutes the clause's obligation.
pub record AreProofs (c : Circuit) (before : List Entry) (e : Entry) (proofs : List (List (List ℕ))) : Type 0 where
  pub count : length proofs ≡ length e.clauses
  pub refute : (i : ℕ) → i < length e.clauses → Refutes (obligation_of c before e i) (slice_index_or proofs i [])

-- A reach entry uses reach entries alone, and each of its clauses holds a literal of the initial cube.
pub record HasBase (c : Circuit) (before : List Entry) (e : Entry) : Type 0 where
  pub uses : All (λ u. (entry_at before u.entry).kind ≡ Reach) e.uses
  pub clauses : All (holds_initial c) e.clauses

-- Behind these entries the entry is proved: its uses are closed, its clauses are over the latches, a reach entry has a
-- base, and each clause has its proof.
pub record IsProved (c : Circuit) (before : List Entry) (e : Entry) (proofs : List (List (List ℕ))) : Type 0 where
  pub closed : AreClosed before e.uses
  pub over : AreOver (length c.latches) e.clauses
  pub reach : e.kind ≡ Reach → HasBase c before e
  pub each : AreProofs c before e proofs

-- A good refutation of property j over a list of entries: its uses are closed and name no side, and its proof refutes the
-- skeleton clauses over them.
pub record IsGoodRefutation (c : Circuit) (entries : List Entry) (j : ℕ) (uses : List Use) (proof : List (List ℕ)) : Type 0 where
  pub closed : AreClosed entries uses
  pub unsigned : All (λ u. IsSigned u → ⊥) uses
  pub refutes : Refutes (skeleton_clauses c j (used_entries entries uses)) proof
