-- Proofs for the clauses of a set (scaffolding).
use Rattle.std.specs.Prelude.{◌≡◌, ℕ, ◌<◌, List, [], ◌++◌, length, slice_index_or}
use Rattle.aig_semantics.specs.Circuits.{Circuit}
use Rattle.proof_semantics.specs.declared.literals.Lit.{Lit}
use Rattle.proof_semantics.specs.Proofs.{Refutes}
use Rattle.cnf_unroll.specs.Obligations.{units, broken_literals}

-- for each clause one that refutes the added clauses with those that break it
pub record AreRefuted (c : Circuit) (added clauses : List (List Lit)) (proofs : List (List (List ℕ))) : Type 0 where
  pub count : length proofs ≡ length clauses
  pub each : (i : ℕ) → i < length clauses → Refutes (added ++ units (broken_literals c (slice_index_or clauses i []))) (slice_index_or proofs i [])
