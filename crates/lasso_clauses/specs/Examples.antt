-- Scaffolding of the worked rows: the clauses of the toggling latch, whose property is that it is true.
use Rattle.std.specs.Prelude.{ℕ, List, [], ◌∷◌}
use Rattle.proof_semantics.specs.declared.literals.Lit.{Lit}
use Rattle.cnf_unroll.specs.Numbers.{plus, minus}

-- those of its first position: the block, the reset, the begin, the loop, the end, the property's literal
abbrev pub first_toggle : List (List Lit)
first_toggle =
    (minus 3 ∷ []) ∷ (minus 6 ∷ minus 4 ∷ []) ∷ (plus 6 ∷ plus 4 ∷ [])
    ∷ (minus 4 ∷ [])
    ∷ (minus 4 ∷ plus 2 ∷ minus 7 ∷ []) ∷ (plus 4 ∷ minus 2 ∷ minus 7 ∷ [])
    ∷ (minus 8 ∷ plus 7 ∷ []) ∷ (minus 9 ∷ plus 8 ∷ [])
    ∷ (minus 6 ∷ plus 2 ∷ minus 9 ∷ []) ∷ (plus 6 ∷ minus 2 ∷ minus 9 ∷ [])
    ∷ (minus 10 ∷ plus 8 ∷ []) ∷ (minus 10 ∷ plus 4 ∷ []) ∷ (minus 9 ∷ plus 10 ∷ [])
    ∷ []
