-- Scaffolding of inner functions. Which variables are marked.
use Rattle.std.specs.Prelude.{ℕ, Bool, Option, None, Some, slice_get, if◌then◌else◌}
use Rattle.std.specs.Ordering.{nat_cmp}
use Rattle.std.specs.BTreeSet.{contains}
use Rattle.lrat.specs.declared.marks.Variables.{Variables}
use Rattle.lrat.specs.declared.marks.Literals.{Literals}
use Rattle.proof_semantics.specs.declared.literals.Lit.{Lit}

-- a small variable by the table, another one by the set
abbrev pub mark_or : Option Bool → Bool → Bool
mark_or None b = b
mark_or (Some mark) b = mark

abbrev pub is_marked : Variables → ℕ → Bool
is_marked variables var = mark_or (slice_get variables.table.items var) (contains nat_cmp variables.beyond var)

abbrev pub is_set : Literals → Lit → Bool
is_set literals a = if a.positive then is_marked literals.positive a.var else is_marked literals.negative a.var
