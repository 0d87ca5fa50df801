-- The law of what is never a first state (after FAIR: Bradley, Somenzi, Hassan, Zhang, 2011).
use Rattle.std.specs.Prelude.{ℕ, List, ◌++◌}
use Rattle.aig_semantics.specs.Circuits.{Circuit}
use Rattle.proof_semantics.specs.declared.literals.Lit.{Lit}
use Rattle.fair_semantics.specs.Entries.{Entry}
use Rattle.skeleton.specs.Finding.{BeginsNone}

-- A cube in which no allowed skeleton begins is one under more entries too, since these allow no more.
abbrev pub NeverStays : Type 0
NeverStays =
    (c : Circuit) (j : ℕ) (entries more : List Entry) (cube : List Lit)
    → BeginsNone c j entries cube → BeginsNone c j (entries ++ more) cube
