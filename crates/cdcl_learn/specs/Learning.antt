-- What a conflict is traced back to. After MiniSat (Eén, Sörensson, 2003).
use Rattle.std.specs.Prelude.{Bool, ◌&&◌, List, is_none}
use Rattle.std.specs.List.{list_any}
use Rattle.proof_semantics.specs.Clauses.{lit_eq}
use Rattle.proof_semantics.specs.declared.literals.Lit.{Lit}
use Rattle.cdcl_trail.specs.Trails.{Step}

-- the literal was assumed
abbrev pub is_assumed : List Step → Lit → Bool
is_assumed steps a = list_any (λ step. lit_eq step.literal a && is_none step.reason) steps
