-- What a judge of proofs knows: the clauses that stand in front of those of any entry, the clauses that the obligations of
-- an entry share, and where the proof of one of them stands.
use Rattle.std.specs.Prelude.{◌≤◌, List, length, take}
use Rattle.proof_semantics.specs.declared.literals.Lit.{Lit}
use Rattle.proof_semantics.specs.Proofs.{ProofState}
use Rattle.entry.specs.declared.judge.Judge.TheInside.{Inside}

pub record Judging : Type 0 where
  pub block : List (List Lit)
  pub shared : List (List Lit)
  pub proof : ProofState

-- both are the first of the clauses that are given
abbrev pub seen : Inside → Judging
seen j = record { block = take j.block j.checker.given; shared = take j.shared j.checker.given; proof = j.checker }

pub record IsWithin (j : Inside) : Type 0 where
  pub block : j.block ≤ j.shared
  pub shared : j.shared ≤ length j.checker.given
