-- Scaffolding of inner functions. Literals of which one pass tells that none is the negation of another.
use Rattle.std.specs.Prelude.{ℕ, Bool, true, ◌&&◌, nat_lt, if◌then◌else◌, List, [], ◌∷◌}
use Rattle.proof_semantics.specs.declared.literals.Lit.{Lit}

-- below the bound each variable is greater than the one before it, and from the bound on each literal is positive
abbrev pub ascends_below : ℕ → ℕ → List Lit → Bool
ascends_below bound last [] = true
ascends_below bound last (l ∷ literals) =
    if nat_lt l.var bound then nat_lt last l.var && ascends_below bound l.var literals
    else l.positive && ascends_below bound last literals
