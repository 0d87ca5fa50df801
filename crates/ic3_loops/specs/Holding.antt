-- Whether a lemma holds after each step from a frame (scaffolding).
use Rattle.std.specs.Prelude.{ℕ, List, map, Option, Some, None}
use Rattle.proof_semantics.specs.declared.literals.Lit.{Lit}
use Rattle.proof_semantics.specs.Clauses.{negation}
use Rattle.ic3_semantics.specs.Stepping.{Stepping, IsMissing}
use Rattle.ic3_frames.specs.Witnessing.{IsStuck}

-- it does, and a part of its cube is told that no such step leads into; or it is stuck
abbrev pub TellsOn : Stepping → List (List (List Lit)) → ℕ → List Lit → Option (List Lit) → Type 0
TellsOn st levels level lemma (Some part) = IsMissing st level (map negation lemma) part
TellsOn st levels level lemma None = IsStuck st.question levels level lemma
